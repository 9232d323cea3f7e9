-- The types of what operations on arrays give, by the levels of their inputs.
use Rattle.std.proofs.Common.{◌≡◌, ℕ, ℤ, pos, zero, suc, true, false, ◌||◌, List, [], ◌∷◌, Option, None, Some, refl, ap, sym, ◌∙◌}
use Rattle.std.specs.Prelude.{slice_get}
use Rattle.std.specs.List.{All}
use Rattle.std.proofs.lemmas.List.Elements.{All-head, All-tail}
use Rattle.g_types.specs.declared.rep.Rep.{Rep}
use Rattle.g_types.specs.declared.ty.Ty.{Ty, out-Ty}
use Rattle.g_types.specs.declared.ty.Ty.TheOpen.{Ty-F}
use Rattle.g_types.specs.declared.ty.Ty.TheVariants as ty
use Rattle.g_types.specs.Ty.{is_num, is_num_at, is_nums_at}
use Rattle.g_values.specs.Number.{num_of}
use Rattle.g_values.specs.Proper.{IsLayer}
use Rattle.g_values.specs.Spelled.{is_array_at}
use Rattle.g_values.specs.Value.{type_of}
use Rattle.g_values.specs.declared.value.Value.{Value, out-Value}
use Rattle.g_values.specs.declared.value.Value.TheOpen.{Value-F}
use Rattle.g_values.proofs.DefaultValues.{type-default}
use Rattle.g_values.proofs.TypesOf.{type-Num, type-Nums, type-Arr}
use Rattle.g_prims_definitions.specs.Arrays.{index, element, element_at, or_default, or_default_number, indexed_at, replace_at, build_at, concat_at, initialized_at, subset_at, deleted_at, reversed_at, sorted_at}
use Rattle.g_prims_definitions.specs.Kinds.{is_strs_at, item, item_at}
use Rattle.g_prims_laws.proofs.Levels.{type_at, level_at, level_of, type_is, known}

-- arrays of the same type

pub typed-subset : (a : Value-F Value) (i n : ℤ) → is_array_at (level_at a) ≡ true → type_of (subset_at a i n) ≡ type_at a
typed-subset (Value-F.Nums xs) i n h = type-Nums _
typed-subset (Value-F.Arr xs) i n h = type-Arr _
typed-subset _ i n h = absurd cc

pub typed-deleted : (a : Value-F Value) (i n : ℤ) → is_array_at (level_at a) ≡ true → type_of (deleted_at a i n) ≡ type_at a
typed-deleted (Value-F.Nums xs) i n h = type-Nums _
typed-deleted (Value-F.Arr xs) i n h = type-Arr _
typed-deleted _ i n h = absurd cc

pub typed-reversed : (a : Value-F Value) → is_array_at (level_at a) ≡ true → type_of (reversed_at a) ≡ type_at a
typed-reversed (Value-F.Nums xs) h = type-Nums _
typed-reversed (Value-F.Arr xs) h = type-Arr _
typed-reversed _ h = absurd cc

pub typed-sorted : (a : Value-F Value) → is_array_at (level_at a) ≡ true → type_of (sorted_at a) ≡ type_at a
typed-sorted (Value-F.Nums xs) h = type-Nums _
typed-sorted (Value-F.Arr xs) h = type-Arr _
typed-sorted _ h = absurd cc

pub typed-replaced : (a : Value-F Value) (i : ℤ) (e : Value) → is_array_at (level_at a) ≡ true → type_of (replace_at a i e) ≡ type_at a
typed-replaced (Value-F.Nums xs) i e h = type-Nums _
typed-replaced (Value-F.Arr xs) i e h = type-Arr _
typed-replaced _ i e h = absurd cc

pub typed-built : (a : Value-F Value) (e : Value) → is_array_at (level_at a) ≡ true → type_of (build_at a e) ≡ type_at a
typed-built (Value-F.Nums xs) e h = type-Nums _
typed-built (Value-F.Arr xs) e h = type-Arr _
typed-built _ e h = absurd cc

-- two arrays of one type are both of numbers, or both of others

not_other : (r : Rep) (t : Ty) → is_num t ≡ false → ty.Num r ≡ t → ⊥
not_other r t n e = let o = sym (ap is_num_at (ty.outs-Num r)) ∙ ap is_num e ∙ n in cc

same_items : (t u : Ty) → ty.Arr t ≡ ty.Arr u → t ≡ u
same_items t u e = known t u (sym (ap item_at (ty.outs-Arr t)) ∙ ap item e ∙ ap item_at (ty.outs-Arr u))

pub typed-concat : (a b : Value-F Value) → IsLayer a → IsLayer b → is_array_at (level_at a) ≡ true → type_at a ≡ type_at b → type_of (concat_at a b) ≡ type_at a
typed-concat (Value-F.Nums xs) (Value-F.Nums ys) p q h e = type-Nums _
typed-concat (Value-F.Arr xs) (Value-F.Arr ys) p q h e = type-Arr _
typed-concat (Value-F.Nums xs) (Value-F.Arr ys) p q h e = absurd (not_other xs.rep ys.elem q.no_number (same_items (ty.Num xs.rep) ys.elem e))
typed-concat (Value-F.Arr xs) (Value-F.Nums ys) p q h e = absurd (not_other ys.rep xs.elem p.no_number (sym (same_items xs.elem (ty.Num ys.rep) e)))
typed-concat (Value-F.Nums xs) b p q h e = absurd (let o = ap is_array_at (sym (ty.outs-Arr (ty.Num xs.rep)) ∙ ap out-Ty e ∙ level_of b) in cc)
typed-concat (Value-F.Arr xs) b p q h e = absurd (let o = ap is_array_at (sym (ty.outs-Arr xs.elem) ∙ ap out-Ty e ∙ level_of b) in cc)
typed-concat _ b p q h e = absurd cc

-- elements

typed_got : (t : Ty) (xs : List Value) (n : ℕ) → All (λ v. type_of v ≡ t) xs → type_of (or_default t (slice_get xs n)) ≡ t
typed_got t [] n all = type-default t
typed_got t (x ∷ xs) zero all = All-head (λ v. type_of v ≡ t) x xs all
typed_got t (x ∷ xs) (suc n) all = typed_got t xs n (All-tail (λ v. type_of v ≡ t) x xs all)

typed_element : (t : Ty) (xs : List Value) (at : Option ℕ) → All (λ v. type_of v ≡ t) xs → type_of (or_default t (element_at xs at)) ≡ t
typed_element t xs None all = type-default t
typed_element t xs (Some n) all = typed_got t xs n all

or_number : (r : Rep) (o : Option ℤ) → type_of (or_default_number r o) ≡ ty.Num r
or_number r None = type-Num (num_of r (pos 0))
or_number r (Some n) = type-Num (num_of r n)

pub typed-indexed : (a : Value-F Value) (i : ℤ) (t : Ty) → IsLayer a → item_at (level_at a) ≡ Some t → type_of (indexed_at a i) ≡ t
typed-indexed (Value-F.Nums xs) i t p e = or_number xs.rep (element xs.all i) ∙ known (ty.Num xs.rep) t e
typed-indexed (Value-F.Arr xs) i t p e = typed_element xs.elem xs.items (index i) p.one_type ∙ known xs.elem t e
typed-indexed _ i t p e = absurd cc

pub typed-initialized : (e : Value) (n : ℤ) → type_of (initialized_at (out-Value e) n e) ≡ ty.Arr (type_of e)
typed-initialized e n = by (out-Value e) (type_is e)
  where
    by : (l : Value-F Value) → type_of e ≡ type_at l → type_of (initialized_at l n e) ≡ ty.Arr (type_of e)
    by (Value-F.Num x) is = type-Nums _ ∙ ap ty.Arr (sym is)
    by _ is = type-Arr _

-- an array that can be sorted is an array
pub sortable : (k : Ty-F Ty) → (is_nums_at k || is_strs_at k) ≡ true → is_array_at k ≡ true
sortable (Ty-F.Arr t) h = refl
sortable _ h = absurd cc
