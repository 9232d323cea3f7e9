-- Equality of values, by their variants.
use Rattle.std.proofs.Common.{◌≡◌, Bool, false, true, ◌&&◌, List, [], ◌∷◌, length, suc, map, refl, ap, sym, ◌∙◌, int_lt}
use Rattle.std.specs.Cmp.Lexicographic.{pointwise}
use Rattle.std.specs.Ordering.{int_eq}
use Rattle.g_types.specs.Rep.{wrap, wider}
use Rattle.g_values.specs.declared.num.Num.{Num}
use Rattle.g_values.specs.declared.value.ArrOf.{ArrOf}
use Rattle.g_values.specs.declared.value.Value.{Value, out-Value}
use Rattle.g_values.specs.declared.value.Value.TheVariants as value
use Rattle.g_values.specs.declared.value.Value.TheOpen.{Value-F}
use Rattle.g_values.specs.declared.value.Value.TheFolds.{fold-roll-Value}
use Rattle.g_prims_definitions.specs.Comparisons.{all_same, same, same_level, same_step, equal, equal_at, less, less_at}

pub same-Arr : (xs ys : ArrOf Value) → same (value.Arr xs) (value.Arr ys) ≡ all_same (map same xs.items) ys.items
same-Arr xs ys =
    ap (λ v. same v (value.Arr ys)) (sym (value.rolls-Arr xs))
    ∙ ap (λ (f : Value → Bool). f (value.Arr ys)) (fold-roll-Value (Value → Bool) same_step (Value-F.Arr xs))
    ∙ ap (same_level (Value-F.Arr (record { elem = xs.elem; items = map same xs.items }))) (value.outs-Arr ys)

pub same-Cluster : (xs ys : List Value) → same (value.Cluster xs) (value.Cluster ys) ≡ all_same (map same xs) ys
same-Cluster xs ys =
    ap (λ v. same v (value.Cluster ys)) (sym (value.rolls-Cluster xs))
    ∙ ap (λ (f : Value → Bool). f (value.Cluster ys)) (fold-roll-Value (Value → Bool) same_step (Value-F.Cluster xs))
    ∙ ap (same_level (Value-F.Cluster (map same xs))) (value.outs-Cluster ys)

pub equal-Num : (x y : Num) → equal (value.Num x) (value.Num y) ≡ int_eq (wrap (wider x.rep y.rep) x.n) (wrap (wider x.rep y.rep) y.n)
equal-Num x y =
    ap (λ l. equal_at l (out-Value (value.Num y)) (value.Num x) (value.Num y)) (value.outs-Num x)
    ∙ ap (λ l. equal_at (Value-F.Num x) l (value.Num x) (value.Num y)) (value.outs-Num y)

pub less-Num : (x y : Num) → less (value.Num x) (value.Num y) ≡ int_lt (wrap (wider x.rep y.rep) x.n) (wrap (wider x.rep y.rep) y.n)
less-Num x y = ap (λ l. less_at l (out-Value (value.Num y))) (value.outs-Num x) ∙ ap (less_at (Value-F.Num x)) (value.outs-Num y)

and_false : (a b : Bool) → false ≡ b → false ≡ (a && b)
and_false true b e = e
and_false false b e = refl

pub all_same-lengths : (fs : List (Value → Bool)) (vs : List Value) → (length fs ≡ length vs → ⊥) → false ≡ all_same fs vs
all_same-lengths [] [] h = absurd (h refl)
all_same-lengths [] (v ∷ vs) h = refl
all_same-lengths (f ∷ fs) [] h = refl
all_same-lengths (f ∷ fs) (v ∷ vs) h = and_false (f v) (all_same fs vs) (all_same-lengths fs vs (λ e. h (ap suc e)))

pub pointwise-lengths : {X : Type 0} (E : X → X → Bool) (xs ys : List X) → (length xs ≡ length ys → ⊥) → false ≡ pointwise E xs ys
pointwise-lengths E [] [] h = absurd (h refl)
pointwise-lengths E [] (y ∷ ys) h = refl
pointwise-lengths E (x ∷ xs) [] h = refl
pointwise-lengths E (x ∷ xs) (y ∷ ys) h = and_false (E x y) (pointwise E xs ys) (pointwise-lengths E xs ys (λ e. h (ap suc e)))

pub ruleset equalities = (same-Arr, same-Cluster)
