use Rattle.std.proofs.Common.{◌≡◌, ℕ, [], take}
use Rattle.std.specs.BTreeSet.{contains}
use Rattle.std.specs.Ordering.{nat_cmp}
use Rattle.g_hier.specs.LinkOrder.{has_vi, vis_after}
use Rattle.g_hier.proofs.spaces.vis_of.Given as goal

abbrev pub invariant-loop-item : goal.invariant-loop-item
invariant-loop-item l = record {
  order : l.order.items ≡ vis_after [] (take l.item-index l.placed);
  seen : (v : ℕ) → contains nat_cmp l.seen v ≡ has_vi l.order.items v;
}
