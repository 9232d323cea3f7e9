use Rattle.std.proofs.Common.{◌≡◌, ◌≤◌, ℕ, zero, suc, List, [], ◌∷◌, ◌++◌, map, drop, length, min, refl, ap, sym, ◌∙◌, arith}
use Rattle.std.proofs.lemmas.List.{append-nil}
use Rattle.g_types.specs.declared.ty.Ty.{Ty}
use Rattle.g_values.specs.declared.value.Value.{Value}
use Rattle.g_diagram.specs.declared.panel.Lit.{Lit}
use Rattle.g_literals.specs.Values.{literal_value, values_each, cluster_of}
use Rattle.g_literals.proofs.values.+literal.Goals as goal

no_types : (fs : List (Ty → Value)) → values_each fs [] ≡ []
no_types [] = refl
no_types (f ∷ fs) = refl

drop_none : {A : Type 0} (n : ℕ) → drop {A = A} n [] ≡ []
drop_none zero = refl
drop_none (suc n) = refl

ended : (n : ℕ) (ls : List Lit) (ts : List Ty) → min (length ls) (length ts) ≤ n → values_each (map literal_value (drop n ls)) (drop n ts) ≡ []
ended n [] ts h = ap (λ xs. values_each (map literal_value xs) (drop n ts)) (drop_none n)
ended n (l ∷ ls) [] h = ap (values_each (map literal_value (drop n (l ∷ ls)))) (drop_none n) ∙ no_types (map literal_value (drop n (l ∷ ls)))
ended zero (l ∷ ls) (t ∷ ts) h = absurd (omega (arith, h))
ended (suc n) (l ∷ ls) (t ∷ ts) h = ended n ls ts (omega (arith, h))

pub cluster_of-returns : goal.cluster_of-returns
cluster_of-returns t c =
    let ls = c.args.items.now in
    let ts = c.args.types.now in
    let far : min (length ls) (length ts) ≤ c.loop-i.i = omega (arith, c.loop-i-test.false, c.min-i-end.ensures) in
    ap cluster_of
    (c.from_vec.ensures
    ∙ sym (append-nil c.loop-i.values.items)
    ∙ ap (λ vs. c.loop-i.values.items ++ vs) (sym (ended c.loop-i.i ls ts far))
    ∙ c.loop-i.invariant)
