use Rattle.std.proofs.Common.{◌+◌, ◌*◌, ℕ, [], take, get_or, sym, ap, ◌∙◌, arith}
use Rattle.g_diagram.specs.declared.hierarchy.Clones.TheVariants.{NonReentrant}
use Rattle.g_diagram.specs.declared.hierarchy.System.TheVariants.{Same}
use Rattle.g_hier.specs.declared.linked.Outline.{Outline}
use Rattle.g_hier.specs.Counts.{told, nodes_in}
use Rattle.g_hier.proofs.Numbers.{told_sum, told_product, told_le}
use Rattle.g_hier.proofs.Calls.{nodes_more}
use Rattle.g_hier.proofs.counts.node_count.Goals as goal

pub loop-vi-preserved : goal.loop-vi-preserved
loop-vi-preserved c =
    let os = c.args.outlines.now in
    let i : ℕ = c.loop-vi.vi in
    let s : ℕ = c.loop-vi.sum in
    let d : Outline = record { clones = NonReentrant; system = Same; nodes = 0; calls = [] } in
    record {
      kept = let e = c.add-sum.ensures in let b = told_le (s + c.nodes_of.result) in omega (arith, e, b);
      sum = λ exact t len.
          c.add-sum.ensures
          ∙ ap (λ n. told (s + n)) (c.nodes_of.ensures d)
          ∙ ap (λ n. told (s + told (n * (get_or os i d).nodes))) (t i)
          ∙ told_sum s (told (get_or exact i 0) * (get_or os i d).nodes)
          ∙ ap (λ n. told (n + told (get_or exact i 0) * (get_or os i d).nodes)) (c.loop-vi.invariant.sum exact t len)
          ∙ told_product (nodes_in (take i os) (take i exact)) (get_or exact i 0) (get_or os i d).nodes
          ∙ ap told (sym (nodes_more os exact i d (omega arith) len));
    }
