use Rattle.std.proofs.Common.{◌<◌, ℕ, [], length, get_or, ap, sym, ◌∙◌, arith}
use Rattle.std.specs.Prelude.{None}
use Rattle.g_diagram.specs.declared.hierarchy.System.TheVariants.{Ui}
use Rattle.g_hier.specs.declared.linked.Placed.{Placed}
use Rattle.g_hier.specs.LinkOrder.{with_vi}
use Rattle.g_hier.proofs.Walks.{vis_more}
use Rattle.g_hier.proofs.spaces.vis_of.Goals as goal

pub loop-item-preserved : goal.loop-item-preserved
loop-item-preserved c =
    let i : ℕ = c.loop-item.item-index in
    let d : Placed = record { space = record { vi = 0; clone = 0; caller = None }; system = Ui } in
    let lt : i < length c.args.placed.now = omega arith in
    record {
      order = c.in_ok-push_vi.ensures.order
          ∙ ap (λ o. with_vi o (get_or c.args.placed.now i d).space.vi) c.loop-item.invariant.order
          ∙ sym (vis_more [] c.args.placed.now i d lt);
      seen = c.in_ok-push_vi.ensures.seen;
    }
