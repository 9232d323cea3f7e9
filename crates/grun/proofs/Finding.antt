-- Types and values by names, as a map keeps them and as a list tells them.
use Rattle.std.proofs.Common.{◌≡◌, ℕ, Bool, true, false, cond, List, [], ◌∷◌, ◌++◌, Option, Some, None, refl, ap, sym, ◌∙◌}
use Rattle.std.specs.Prelude.{bytes_eq, is_some}
use Rattle.std.specs.Borrow.{Bor}
use Rattle.std.specs.Map.{lookup}
use Rattle.std.specs.Option.{option_map}
use Rattle.std.proofs.lemmas.List.{map-append}
use Rattle.std.proofs.lemmas.Slice.Eq.{bytes_eq-Decides}
use Rattle.g_types.specs.declared.ty.Ty.{Ty}
use Rattle.g_values.specs.declared.value.Value.{Value}
use Rattle.grun.specs.Settings.{Named, find}
use Rattle.grun.specs.Views.{types_in, values_in}

abbrev pub TypeEntry : Type 0
TypeEntry = Bor (List ℕ) × Bor Ty

abbrev pub ValueEntry : Type 0
ValueEntry = Bor (List ℕ) × Value

abbrev pub type_held : Option (Bor Ty) → Option Ty
type_held = option_map (λ (t : Bor Ty). t.now)

type_cond : (b : Bool) (x : Bor Ty) (y : Option (Bor Ty)) → type_held (cond b (Some x) y) ≡ cond b (Some x.now) (type_held y)
type_cond true x y = refl
type_cond false x y = refl

pub find-type : (name : List ℕ) (es : List TypeEntry) → type_held (lookup (λ (k : Bor (List ℕ)). bytes_eq name k.now) es) ≡ find name (types_in es)
find-type name [] = refl
find-type name (e ∷ es) = type_cond (bytes_eq name e.0.now) e.1 (lookup (λ (k : Bor (List ℕ)). bytes_eq name k.now) es) ∙ ap (cond (bytes_eq name e.0.now) (Some e.1.now)) (find-type name es)

pub find-value : (name : List ℕ) (es : List ValueEntry) → lookup (λ (k : Bor (List ℕ)). bytes_eq name k.now) es ≡ find name (values_in es)
find-value name [] = refl
find-value name (e ∷ es) = ap (cond (bytes_eq name e.0.now) (Some e.1)) (find-value name es)

-- ---- one name more

abbrev pub or_else : {A : Type 0} → Option A → Option A → Option A
or_else None other = other
or_else (Some x) other = Some x

or_cond : {A : Type 0} (b : Bool) (x : A) (y z : Option A) → cond b (Some x) (or_else y z) ≡ or_else (cond b (Some x) y) z
or_cond true x y z = refl
or_cond false x y z = refl

pub find-append : {A : Type 0} (name : List ℕ) (es fs : Named A) → find name (es ++ fs) ≡ or_else (find name es) (find name fs)
find-append name [] fs = refl
find-append name (e ∷ es) fs = ap (cond (bytes_eq name e.0) (Some e.1)) (find-append name es fs) ∙ or_cond (bytes_eq name e.0) e.1 (find name es) (find name fs)

or_none : {A : Type 0} (x : Option A) → or_else x None ≡ x
or_none None = refl
or_none (Some x) = refl

-- of one name what stands first is found
pub find-known : {A : Type 0} (name : List ℕ) (es : Named A) (e : List ℕ × A) (x : A) → find e.0 es ≡ Some x → find name (es ++ e ∷ []) ≡ find name es
find-known name es e x there = by (bytes_eq name e.0) refl
  where
    by : (b : Bool) → bytes_eq name e.0 ≡ b → find name (es ++ e ∷ []) ≡ find name es
    by true same =
        let is : find name es ≡ Some x = ap (λ n. find n es) ((bytes_eq-Decides name e.0).0 same) ∙ there in
        find-append name es (e ∷ []) ∙ ap (λ o. or_else o (find name (e ∷ []))) is ∙ sym is
    by false other = find-append name es (e ∷ []) ∙ ap (λ b. or_else (find name es) (cond b (Some e.1) None)) other ∙ or_none (find name es)

-- lists that tell the same of each name still do with more behind them
pub find-front : {A : Type 0} (es fs rest : Named A) → ((name : List ℕ) → find name es ≡ find name fs) → (name : List ℕ) → find name (es ++ rest) ≡ find name (fs ++ rest)
find-front es fs rest same name = find-append name es rest ∙ ap (λ o. or_else o (find name rest)) (same name) ∙ sym (find-append name fs rest)

pub types_in-more : (es : List TypeEntry) (e : TypeEntry) → types_in (es ++ e ∷ []) ≡ types_in es ++ (e.0.now, e.1.now) ∷ []
types_in-more es e = map-append (λ (e : TypeEntry). (e.0.now, e.1.now)) es (e ∷ [])

pub values_in-more : (es : List ValueEntry) (e : ValueEntry) → values_in (es ++ e ∷ []) ≡ values_in es ++ (e.0.now, e.1) ∷ []
values_in-more es e = map-append (λ (e : ValueEntry). (e.0.now, e.1)) es (e ∷ [])

pub some_of : {A : Type 0} (r : Option A) → is_some r ≡ true → (x : A) × (r ≡ Some x)
some_of None e = absurd cc
some_of (Some x) e = (x, refl)

pub none_of : {A : Type 0} (r : Option A) → is_some r ≡ false → r ≡ None
none_of None e = refl
none_of (Some x) e = absurd cc
