-- What a node has done after a step.
use Rattle.std.specs.Prelude.{ℕ, true, false, List, [], ◌∷◌, ◌++◌}
use Rattle.g_frames.specs.declared.state.Progress.{Progress}
use Rattle.g_frames.specs.declared.state.Progress.TheVariants as progress
use Rattle.g_frames.specs.declared.state.Stage.{Stage}
use Rattle.g_frames.specs.declared.state.Stage.TheVariants.{Entered, Opened, Returned, Left}
use Rattle.g_effects.specs.declared.advance.Advance.{Advance}
use Rattle.g_effects.specs.declared.advance.Advance.TheVariants as step

abbrev pub with_frame : List ℕ → ℕ → List ℕ
with_frame ks next = ks ++ next ∷ []

abbrev pub loop_opens : Progress → (next : ℕ) → Progress
loop_opens (progress.Loop kept ks ended) next = progress.Loop kept (with_frame ks next) false
loop_opens p next = p

abbrev pub loop_ends : Progress → Progress
loop_ends (progress.Loop kept ks ended) = progress.Loop kept ks true
loop_ends p = p

abbrev pub case_ends : Progress → Progress
case_ends (progress.Case k ended) = progress.Case k true
case_ends p = p

-- the first part opens where the sequence has done nothing
abbrev pub part_opens : Progress → (next : ℕ) → Progress
part_opens (progress.Sequence ks ended) next = progress.Sequence (with_frame ks next) false
part_opens p next = progress.Sequence (with_frame [] next) false

abbrev pub sequence_ends : Progress → Progress
sequence_ends (progress.Sequence ks ended) = progress.Sequence ks true
sequence_ends p = p

abbrev pub stage_returns : Stage → Stage
stage_returns (Opened k) = Returned k
stage_returns s = s

abbrev pub call_returns : Progress → Progress
call_returns (progress.Call clone s) = progress.Call clone (stage_returns s)
call_returns p = p

-- where no clone is to be freed the call leaves at once
abbrev pub stage_leaves : Stage → Stage
stage_leaves (Opened k) = Left k
stage_leaves (Returned k) = Left k
stage_leaves s = s

abbrev pub call_leaves : Progress → Progress
call_leaves (progress.Call clone s) = progress.Call clone (stage_leaves s)
call_leaves p = p

-- what a node has done after a step, where the next frame gets this number
abbrev pub advanced : Progress → Advance → (next : ℕ) → Progress
advanced p step.Done next = progress.Done
advanced p (step.LoopStarts kept) next = progress.Loop kept [] false
advanced p step.LoopOpens next = loop_opens p next
advanced p step.LoopEnds next = loop_ends p
advanced p step.CaseOpens next = progress.Case next false
advanced p step.CaseEnds next = case_ends p
advanced p step.PartOpens next = part_opens p next
advanced p step.SequenceEnds next = sequence_ends p
advanced p (step.CallEnters clone) next = progress.Call clone Entered
advanced p (step.CallOpens clone) next = progress.Call clone (Opened next)
advanced p step.CallReturns next = call_returns p
advanced p step.CallLeaves next = call_leaves p
