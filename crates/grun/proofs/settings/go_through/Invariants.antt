use Rattle.std.proofs.Common.{[], take}
use Rattle.grun.specs.Settings.{Give}
use Rattle.grun.specs.Views.{seen_controls, values_in}
use Rattle.grun.proofs.settings.go_through.Given as goal

abbrev pub invariant-loop-place : goal.invariant-loop-place
invariant-loop-place l = Give (seen_controls l.controls) [] (take l.place l.settings) (values_in l.values.entries)
