use Rattle.std.proofs.Common.{◌≡◌, ◌++◌, ℕ, List, drop}
use Rattle.grun.specs.Settings.{find}
use Rattle.grun.specs.Views.{seen_controls, types_in}
use Rattle.grun.proofs.settings.types_of.Given as goal

abbrev pub invariant-loop-control : goal.invariant-loop-control
invariant-loop-control l = (name : List ℕ) → find name (types_in l.types.entries ++ seen_controls (drop l.control-index l.controls)) ≡ find name (seen_controls l.controls)
