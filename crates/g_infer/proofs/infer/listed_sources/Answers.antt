use Rattle.std.proofs.Common.{◌≡◌, ◌++◌, List, [], map, sym, ap, ◌∙◌}
use Rattle.std.proofs.lemmas.List.{append-nil}
use Rattle.std.proofs.lemmas.Map.Iter.{rest_all}
use Rattle.g_infer.specs.declared.typed.SourceType.{SourceType}
use Rattle.g_infer.specs.Inferred.{told_source}
use Rattle.g_infer.proofs.InferLemmas.{TableEntry}
use Rattle.g_infer.proofs.infer.listed_sources.Goals as goal

pub returns : goal.returns
returns c =
    let sources : List SourceType = c.loop-diagram.sources.items in
    let end : c.loop-diagram.diagram-iterator ≡ [] = rest_all (λ (e : TableEntry). e) c.loop-diagram.diagram-iterator c.next.new.self c.next.result c.in-None.is c.next.ensures.steps in
    c.from_vec.ensures ∙ sym (append-nil sources) ∙ ap (λ (es : List TableEntry). sources ++ map told_source es) (sym end) ∙ c.loop-diagram.invariant
