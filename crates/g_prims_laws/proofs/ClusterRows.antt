-- The types of what operations on clusters give, by the levels of their inputs.
use Rattle.std.proofs.Common.{◌≡◌, inl, inr, ℕ, zero, suc, Bool, true, false, ◌&&◌, ◌||◌, List, [], ◌∷◌, map, set, Some, refl, ap, sym, ◌∙◌}
use Rattle.std.specs.Prelude.{slice_get}
use Rattle.g_types.specs.declared.ty.Ty.{Ty}
use Rattle.g_types.specs.declared.ty.Ty.TheVariants as ty
use Rattle.g_types.specs.Same.{same_type}
use Rattle.g_types.specs.Ty.{is_num, is_nums, IsAssignable}
use Rattle.g_types.proofs.SameLemmas.{same_type-true}
use Rattle.g_values.specs.Coerce.{coerced}
use Rattle.g_values.specs.Proper.{IsProper}
use Rattle.g_values.specs.Value.{type_of}
use Rattle.g_values.specs.declared.value.Value.{Value}
use Rattle.g_values.specs.declared.value.Value.TheVariants as value
use Rattle.g_values.specs.declared.value.Value.TheOpen.{Value-F}
use Rattle.g_values.proofs.CoercedValues.{coerced-of_type}
use Rattle.g_values.proofs.TypesOf.{type-Cluster}
use Rattle.g_prims_definitions.specs.Clusters.{parts_at, part_at, with_part}
use Rattle.g_prims_definitions.specs.Kinds.{is_assignable, is_assignable_to, part_of, parts_at as types_at}
use Rattle.g_prims_laws.proofs.Levels.{type_at, level_at, known}

pub typed-parts : (a : Value-F Value) (ts : List Ty) → types_at (level_at a) ≡ Some ts → map type_of (parts_at a) ≡ ts
typed-parts (Value-F.Cluster vs) ts e = known (map type_of vs) ts e
typed-parts _ ts e = absurd cc

part_in : (vs : List Value) (k : ℕ) (t : Ty) → slice_get (map type_of vs) k ≡ Some t → type_of (part_at vs k) ≡ t
part_in [] k t e = absurd cc
part_in (v ∷ vs) zero t e = known (type_of v) t e
part_in (v ∷ vs) (suc k) t e = part_in vs k t e

pub typed-part : (a : Value-F Value) (k : ℕ) (t : Ty) → part_of k (types_at (level_at a)) ≡ Some t → type_of (part_at (parts_at a) k) ≡ t
typed-part (Value-F.Cluster vs) k t e = part_in vs k t e
typed-part _ k t e = absurd cc

-- a value may go where one of an assignable type does
pub assignable : (a b : Ty) → is_assignable a b ≡ true → IsAssignable a b
assignable a b h = by_same (same_type a b) refl h
  where
    by_same : (s : Bool) → s ≡ same_type a b → (s || ((is_num a && is_num b) || (is_nums a && is_nums b))) ≡ true → IsAssignable a b
    by_same true e k = inl (same_type-true a b (sym e))
    by_same false e k = inr k

may_go : (vs : List Value) (k : ℕ) (u : Ty) → is_assignable_to u (slice_get (map type_of vs) k) ≡ true → is_assignable u (type_of (part_at vs k)) ≡ true
may_go [] k u h = absurd cc
may_go (v ∷ vs) zero u h = h
may_go (v ∷ vs) (suc k) u h = may_go vs k u h

set_types : (vs : List Value) (k : ℕ) (w : Value) → type_of w ≡ type_of (part_at vs k) → map type_of (set vs k w) ≡ map type_of vs
set_types [] k w e = refl
set_types (v ∷ vs) zero w e = ap (λ t. t ∷ map type_of vs) e
set_types (v ∷ vs) (suc k) w e = ap (λ l. type_of v ∷ l) (set_types vs k w e)

pub typed-put : (a : Value-F Value) (k : ℕ) (e : Value) → IsProper e → is_assignable_to (type_of e) (part_of k (types_at (level_at a))) ≡ true
    → type_of (value.Cluster (with_part (parts_at a) k e)) ≡ type_at a
typed-put (Value-F.Cluster vs) k e p h =
    let t = type_of (part_at vs k) in
    let is = coerced-of_type e t p (assignable (type_of e) t (may_go vs k (type_of e) h)) in
    type-Cluster (set vs k (coerced e t)) ∙ ap ty.Cluster (set_types vs k (coerced e t) is.of_type)
typed-put _ k e p h = absurd cc
