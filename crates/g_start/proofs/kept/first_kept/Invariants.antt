use Rattle.std.proofs.Common.{◌≡◌, take}
use Rattle.g_frames.specs.State.{first_kept}
use Rattle.g_start.proofs.kept.first_kept.Given as goal

abbrev pub invariant-loop-place : goal.invariant-loop-place
invariant-loop-place l = l.kept.items ≡ first_kept (take l.place-index l.places)
