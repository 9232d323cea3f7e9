use Rattle.std.proofs.Common.{◌≡◌, ◌-◌, length, drop}
use Rattle.std.specs.BTreeMap.{get}
use Rattle.g_program.specs.Numbers.{number_by}
use Rattle.g_program.proofs.numbers.Numbers.of.Given as goal

abbrev pub invariant-loop-done : goal.invariant-loop-done
invariant-loop-done g l = (q : g.row.K.Denot) → get g.K.Ord.cmp l.numbers q ≡ number_by g.K.Ord.cmp (length l.keys - l.done) q (drop (length l.keys - l.done) l.keys)
