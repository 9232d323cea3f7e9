use Rattle.std.proofs.Common.{◌≡◌, ◌≤◌, ◌-◌}
use Rattle.g_prims_edits.specs.Words.{result_word}
use Rattle.g_arrays.specs.Lanes.{done}
use Rattle.g_arrays.proofs.words.zip_words.Given as goal

abbrev pub invariant-loop-at : goal.invariant-loop-at
invariant-loop-at l = (l.at ≤ l.len) × (l.into ≡ done (result_word l.operator l.rep) l.fn.into l.other l.at)

abbrev pub decreases-loop-at : goal.decreases-loop-at
decreases-loop-at l = l.len - l.at

abbrev pub invariant-loop-at-2 : goal.invariant-loop-at-2
invariant-loop-at-2 l = (l.at ≤ l.len) × (l.into ≡ done (result_word l.operator l.rep) l.fn.into l.other l.at)

abbrev pub decreases-loop-at-2 : goal.decreases-loop-at-2
decreases-loop-at-2 l = l.len - l.at
