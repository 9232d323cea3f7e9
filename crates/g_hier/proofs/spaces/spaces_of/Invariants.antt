use Rattle.std.proofs.Common.{◌≡◌, reverse, length}
use Rattle.std.specs.BTreeSet.{contains}
use Rattle.g_hier.specs.declared.linked.Space.{Space}
use Rattle.g_hier.specs.LinkOrder.{has_met}
use Rattle.g_hier.specs.Walking.{space_cmp, Continues}
use Rattle.g_hier.proofs.spaces.spaces_of.Given as goal

abbrev pub invariant-loop-turn : goal.invariant-loop-turn
invariant-loop-turn l = record {
  walked : Continues l.outlines l.main l.met.items (reverse l.pending.items);
  seen : (s : Space) → contains space_cmp l.seen s ≡ has_met l.met.items s;
  long : length l.met.items ≡ l._turn;
}
