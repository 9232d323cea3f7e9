use Rattle.std.proofs.Common.{◌+◌, ◌∙◌, List, length, All, sym, ap, subst}
use Rattle.g_graph.specs.Graph.{Graph, is_marked, TellsCycles}
use Rattle.g_hier.specs.declared.graph.HeldCall.{HeldCall}
use Rattle.g_rules_breaks.specs.Breaks.{has_break}
use Rattle.g_hier.specs.CallGraph.{EndsBelow, edges, breaks_from}
use Rattle.g_hier.proofs.HeldCalls.{ends_known, lists_recursions}
use Rattle.g_hier.proofs.recursions.recursions_of.Goals as goal

pub graph_of-requires-clause-ends : goal.graph_of-requires-clause-ends
graph_of-requires-clause-ends c =
    let P : List HeldCall → Type 0 = All (EndsBelow (length c.args.outlines.now)) in
    subst P (sym (c.as_slice.ensures.value ∙ c.in_ok-calls.ensures)) (ends_known c.args.outlines.now c.requires)

pub returns : goal.returns
returns c =
    let os = c.args.outlines.now in
    let n = length c.args.outlines.now in
    let P : Graph → Type 0 = λ g. TellsCycles g (length g) c.in_ok-marks.marks.items in
    lists_recursions os c.requires c.in_ok-graph.graph.items c.in_ok-marks.marks.items
    (c.in_ok-graph.ensures.len ∙ ap (λ hs. n + length hs) (c.as_slice.ensures.value ∙ c.in_ok-calls.ensures))
    (λ a b. c.in_ok-graph.ensures.edges a b ∙ ap (λ hs. edges n hs a b) (c.as_slice.ensures.value ∙ c.in_ok-calls.ensures))
    (subst P c.as_slice-2.ensures.value c.in_ok-marks.ensures)
    c.in_ok-found.found.items c.in_ok-found.ensures.order
    (λ b. c.in_ok-found.ensures.same b
    ∙ ap (λ bs. has_break bs b) (c.as_slice-5.ensures.value ∙ c.in_ok-breaks.ensures)
    ∙ ap (λ ms. has_break (breaks_from (is_marked ms) n c.as_slice-4.result.now) b) c.as_slice-3.ensures.value
    ∙ ap (λ hs. has_break (breaks_from (is_marked c.in_ok-marks.marks.items) n hs) b) (c.as_slice-4.ensures.value ∙ c.in_ok-calls.ensures))
