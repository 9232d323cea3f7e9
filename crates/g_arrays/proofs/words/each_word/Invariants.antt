use Rattle.std.proofs.Common.{◌≡◌, ◌≤◌, ◌-◌}
use Rattle.g_arrays.specs.Lanes.{done, with_word}
use Rattle.g_arrays.proofs.Loops.{alone}
use Rattle.g_arrays.proofs.words.each_word.Given as goal

abbrev pub invariant-loop-at : goal.invariant-loop-at
invariant-loop-at l = (l.at ≤ l.len) × (l.into ≡ done (alone (with_word l.operator l.rep l.before l.by)) l.fn.into l.fn.into l.at)

abbrev pub decreases-loop-at : goal.decreases-loop-at
decreases-loop-at l = l.len - l.at

abbrev pub invariant-loop-at-2 : goal.invariant-loop-at-2
invariant-loop-at-2 l = (l.at ≤ l.len) × (l.into ≡ done (alone (with_word l.operator l.rep l.before l.by)) l.fn.into l.fn.into l.at)

abbrev pub decreases-loop-at-2 : goal.decreases-loop-at-2
decreases-loop-at-2 l = l.len - l.at
