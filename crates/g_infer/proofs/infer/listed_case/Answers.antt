use Rattle.std.proofs.Common.{◌≡◌, ◌++◌, List, [], map, sym, ap, ◌∙◌}
use Rattle.std.proofs.lemmas.List.{append-nil}
use Rattle.std.proofs.lemmas.Map.Iter.{rest_all}
use Rattle.g_infer.specs.declared.typed.CaseTypes.{CaseTypes}
use Rattle.g_infer.specs.declared.typed.NamedType.{NamedType}
use Rattle.g_infer.specs.Inferred.{told_name}
use Rattle.g_infer.proofs.InferLemmas.{NameEntry}
use Rattle.g_infer.proofs.infer.listed_case.Goals as goal

pub returns : goal.returns
returns c =
    let names : List NamedType = c.loop-name.names.items in
    let end : c.loop-name.name-iterator ≡ [] = rest_all (λ (e : NameEntry). e) c.loop-name.name-iterator c.next.new.self c.next.result c.in-None.is c.next.ensures.steps in
    let told : List NamedType → CaseTypes = λ ts. record { names = ts } in
    ap told (c.from_vec.ensures ∙ sym (append-nil names) ∙ ap (λ (es : List NameEntry). names ++ map told_name es) (sym end) ∙ c.loop-name.invariant)
