use Rattle.std.proofs.Common.{◌≡◌, ◌++◌, drop}
use Rattle.grun.specs.Settings.{controls}
use Rattle.grun.specs.Views.{seen_controls}
use Rattle.grun.proofs.settings.controls.Given as goal

abbrev pub invariant-loop-item : goal.invariant-loop-item
invariant-loop-item l = seen_controls l.all.items ++ controls (drop l.item-index l.panel) ≡ controls l.panel
