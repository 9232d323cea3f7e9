use Rattle.std.proofs.Common.{◌≡◌, ◌++◌, drop}
use Rattle.grun.specs.Settings.{control_values}
use Rattle.grun.specs.Views.{values_in}
use Rattle.grun.proofs.settings.values.Given as goal

abbrev pub invariant-loop-item : goal.invariant-loop-item
invariant-loop-item l =
    l.values.items ++ control_values (drop l.item-index l.panel) (values_in l.given.entries) ≡ control_values l.panel (values_in l.given.entries)
