use Rattle.std.proofs.Common.{◌≡◌, drop}
use Rattle.std.specs.List.{list_all}
use Rattle.g_frames.specs.State.{is_done}
use Rattle.g_here.proofs.complete.is_complete.Given as goal

abbrev pub invariant-loop-progress : goal.invariant-loop-progress
invariant-loop-progress l = list_all is_done (drop l.progress-index l.progress-items) ≡ list_all is_done l.frame.nodes
