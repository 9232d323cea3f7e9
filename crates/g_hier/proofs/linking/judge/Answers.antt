use Rattle.std.proofs.Common.{◌≡◌, ◌<◌, ◌≤◌, ℕ, List, true, refl, sym, subst, arith}
use Rattle.g_hier.specs.Counts.{told, nodes_in}
use Rattle.g_hier.specs.Settling.{AreTold}
use Rattle.g_hier.proofs.CallsBack.{acyclic, none_there}
use Rattle.g_hier.proofs.Unique.{counts_only}
use Rattle.g_hier.specs.Recursion.{Reaches}
use Rattle.g_hier.specs.LinkOrder.{EntersFrom, has_vi}
use Rattle.g_hier.proofs.Reached.{entered_vis, reached}
use Rattle.std.specs.Prelude.{◌↔◌}
use Rattle.g_hier.proofs.linking.judge.Goals as goal

pub count_spaces-requires-clause-ends : goal.count_spaces-requires-clause-ends
count_spaces-requires-clause-ends c = none_there c.args.outlines.now c.in_ok-breaks.breaks.items c.in_ok-breaks.ensures (omega arith)

pub returns-then-nodes-gt65536 : goal.returns-then-nodes-gt65536
returns-then-nodes-gt65536 c =
    let t = c.in_ok-counts.ensures in
    let P : List ℕ → Type 0 = λ ns. AreTold ns t.counts in
    let e : c.node_count-nodes.result ≡ told (nodes_in c.args.outlines.now t.counts) = c.node_count-nodes.ensures t.counts (subst P (sym c.as_slice.ensures.value) t.told_is) t.long_counts in
    let none = none_there c.args.outlines.now c.in_ok-breaks.breaks.items c.in_ok-breaks.ensures (omega arith) in
    record {
      ends = none;
      count = nodes_in c.args.outlines.now t.counts;
      counted = record {
        counts = t.counts;
        are = t.are;
        only = λ others h. counts_only c.args.outlines.now c.args.main others t.counts (acyclic c.args.outlines.now none) h t.are;
        count_is = refl;
      };
      many = let up : 65536 < c.node_count-nodes.result = omega arith in omega (arith, e, up);
      told_is = e;
    }

pub returns : goal.returns
returns c =
    let t = c.in_ok-counts.ensures in
    let P : List ℕ → Type 0 = λ ns. AreTold ns t.counts in
    let e : c.node_count-nodes.result ≡ told (nodes_in c.args.outlines.now t.counts) = c.node_count-nodes.ensures t.counts (subst P (sym c.as_slice.ensures.value) t.told_is) t.long_counts in
    let none = none_there c.args.outlines.now c.in_ok-breaks.breaks.items c.in_ok-breaks.ensures (omega arith) in
    record {
      ends = none;
      count = nodes_in c.args.outlines.now t.counts;
      counted = record {
        counts = t.counts;
        are = t.are;
        only = λ others h. counts_only c.args.outlines.now c.args.main others t.counts (acyclic c.args.outlines.now none) h t.are;
        count_is = refl;
      };
      few = let low : c.node_count-nodes.result ≤ 65536 = omega arith in omega (arith, e, low);
      linked = c.in_ok-linked.ensures;
      entered = λ v.
          let l = c.in_ok-linked.ensures in
          let Q : List ℕ → Type 0 = λ order. (has_vi order v ≡ true) ↔ EntersFrom c.args.outlines.now c.args.main v in
          subst Q (sym l.order_is) (entered_vis c.args.outlines.now c.args.main c.requires.main l.met l.in_order v);
      reached = λ some v.
          let l = c.in_ok-linked.ensures in
          let Q : List ℕ → Type 0 = λ order. (has_vi order v ≡ true) ↔ Reaches c.args.outlines.now c.args.main v in
          subst Q (sym l.order_is) (reached c.args.outlines.now c.args.main c.requires.known c.requires.main some l.met l.in_order v);
    }
