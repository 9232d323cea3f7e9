-- The test of equality of types tells whether they are equal.
use Rattle.std.proofs.Common.{◌≡◌, ◌==◌, ◌&&◌, Bool, true, false, ◌↔◌, IsTrue, List, [], ◌∷◌, map, refl, ap, sym, ◌∙◌, subst}
use Rattle.g_types.specs.declared.rep.Rep.{Rep}
use Rattle.g_types.specs.declared.rep.Rep.TheVariants.{I8, I16, I32, I64, U8, U16, U32, U64}
use Rattle.g_types.specs.declared.ty.Ty.{Ty, out-Ty}
use Rattle.g_types.specs.declared.ty.Ty.TheOpen.{Ty-F}
use Rattle.g_types.specs.declared.ty.Ty.TheViews.{roll-Ty, out-roll-Ty}
use Rattle.g_types.specs.declared.ty.Ty.TheFolds.{fold-roll-Ty, ind-Ty, map-Ty}
use Rattle.g_types.specs.Same.{code, all_same, same_level, same_step, same_type}
use Rattle.g_types.proofs.SameLemmas.{same_type-true}

abbrev IsSelf : Ty → Type 0
IsSelf a = same_type a a ≡ true

abbrev Self : Type 0
Self = (a : Ty) × IsSelf a

code_itself : (r : Rep) → (code r == code r) ≡ true
code_itself I8 = refl
code_itself I16 = refl
code_itself I32 = refl
code_itself I64 = refl
code_itself U8 = refl
code_itself U16 = refl
code_itself U32 = refl
code_itself U64 = refl

both : (a b : Bool) → a ≡ true → b ≡ true → (a && b) ≡ true
both true b e f = f
both false b e f = e

every : (ps : List Self) → all_same (map same_type (map (λ p. p.0) ps)) (map (λ p. p.0) ps) ≡ true
every [] = refl
every (p ∷ ps) = both (same_type p.0 p.0) (all_same (map same_type (map (λ q. q.0) ps)) (map (λ q. q.0) ps)) p.1 (every ps)

level : (y : Ty-F Self) → same_level (map-Ty Ty (Ty → Bool) same_type (map-Ty Self Ty (λ p. p.0) y)) (map-Ty Self Ty (λ p. p.0) y) ≡ true
level (Ty-F.Num r) = code_itself r
level Ty-F.Bool = refl
level Ty-F.Str = refl
level (Ty-F.Arr p) = p.1
level (Ty-F.Cluster ps) = every ps
level (Ty-F.QueueRef p) = p.1
level (Ty-F.ValueRef p) = p.1

pub same_itself : (a : Ty) → same_type a a ≡ true
same_itself = ind-Ty IsSelf (λ x y is.
    let e : same_type (roll-Ty x) (roll-Ty x) ≡ same_level (map-Ty Ty (Ty → Bool) same_type x) (out-Ty (roll-Ty x)) = ap (λ (f : Ty → Bool). f (roll-Ty x)) (fold-roll-Ty (Ty → Bool) same_step x) in
    e ∙ ap (same_level (map-Ty Ty (Ty → Bool) same_type x)) (out-roll-Ty x) ∙ subst (λ (z : Ty-F Ty). same_level (map-Ty Ty (Ty → Bool) same_type z) z ≡ true) is (level y))

decided_by : (b c : Bool) (x y : Ty) → IsTrue b ↔ (x ≡ y) → (c ≡ true → x ≡ y) → (x ≡ y → c ≡ true) → b ≡ c
decided_by true true x y h f g = refl
decided_by true false x y h f g = sym (g (h.0 refl))
decided_by false true x y h f g = h.1 (f refl)
decided_by false false x y h f g = refl

pub decided : (b : Bool) (x y : Ty) → IsTrue b ↔ (x ≡ y) → b ≡ same_type x y
decided b x y h = decided_by b (same_type x y) x y h (same_type-true x y) (λ e. subst (λ z. same_type x z ≡ true) e (same_itself x))
