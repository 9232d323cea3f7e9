use Rattle.std.proofs.Common.{◌≡◌, ◌++◌, List, [], map, sym, ap, ◌∙◌}
use Rattle.std.proofs.lemmas.List.{append-nil}
use Rattle.std.proofs.lemmas.Map.Iter.{rest_all}
use Rattle.g_infer.specs.declared.typed.BranchCases.{BranchCases}
use Rattle.g_infer.specs.Inferred.{told_branch}
use Rattle.g_infer.proofs.InferLemmas.{BranchEntry}
use Rattle.g_infer.proofs.infer.listed_branches.Goals as goal

pub returns : goal.returns
returns c =
    let listed : List BranchCases = c.loop-diagram.listed.items in
    let end : c.loop-diagram.diagram-iterator ≡ [] = rest_all (λ (e : BranchEntry). e) c.loop-diagram.diagram-iterator c.next.new.self c.next.result c.in-None.is c.next.ensures.steps in
    c.from_vec.ensures ∙ sym (append-nil listed) ∙ ap (λ (es : List BranchEntry). listed ++ map told_branch es) (sym end) ∙ c.loop-diagram.invariant
