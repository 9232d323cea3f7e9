-- As many inputs and outputs as the row of an operation in the table of operations says.
use Rattle.std.proofs.Common.{◌≡◌, Bool, true, false, cond, ◌&&◌, ℕ, suc, ◌+◌, ◌==◌, List, [], ◌∷◌, length, Option, Some, None, refl, ap, sym, ◌∙◌, arith, eq-eqb}
use Rattle.std.specs.Prelude.{nat_le}
use Rattle.std.specs.List.{list_all}
use Rattle.std.proofs.lemmas.Bool.Decides.{nat_tests}
use Rattle.g_types.specs.declared.rep.Rep.{Rep}
use Rattle.g_types.specs.declared.ty.Ty.{Ty}
use Rattle.g_types.specs.declared.ty.Ty.TheVariants as ty
use Rattle.g_types.specs.Same.{same_type}
use Rattle.g_types.specs.Ty.{is_num, is_nums}
use Rattle.g_values.specs.declared.primitive.Primitive.{Primitive}
use Rattle.g_values.specs.declared.primitive.Primitive.TheVariants as op
use Rattle.g_operations.specs.Rows.{fits, primitive_row}
use Rattle.g_prims_definitions.specs.Kinds.{wide, parts}
use Rattle.g_prims_definitions.specs.Row.{Row, read, repeated, another, ends, given, one, two, three}
use Rattle.g_prims_definitions.specs.Rows.{row_of, when, single, twice, converted, selected, is_shallow}

list_or : List Ty → Option (List Ty) → List Ty
list_or d None = d
list_or d (Some us) = us

some_is : (outs us : List Ty) → Some outs ≡ Some us → outs ≡ us
unfolding list_or
some_is outs us e = ap (list_or outs) e

-- so many types are given, if any
abbrev Long : Option (List Ty) → ℕ → Type 0
Long o n = (us : List Ty) → o ≡ Some us → length us ≡ n

none_long : (n : ℕ) → Long None n
none_long n us e = absurd (let no : None ≡ Some us = e in cc)

some_outs_long : (outs : List Ty) → Long (Some outs) (length outs)
some_outs_long outs us e = ap length (sym (some_is outs us e))

when_long : (b : Bool) (outs : List Ty) → Long (when b outs) (length outs)
when_long true outs = some_outs_long outs
when_long false outs = none_long (length outs)

single_long : (o : Option Ty) → Long (single o) 1
single_long None = none_long 1
single_long (Some t) = some_outs_long (t ∷ [])

twice_long : (o : Option Ty) → Long (twice o) 2
twice_long None = none_long 2
twice_long (Some t) = some_outs_long (t ∷ t ∷ [])

cond_long : (b : Bool) (o p : Option (List Ty)) (n : ℕ) → Long o n → Long p n → Long (cond b o p) n
cond_long true o p n h g = h
cond_long false o p n h g = g

converted_long : (r : Rep) (x : Ty) → Long (converted r x) 1
converted_long r x = cond_long (is_num x) (Some (ty.Num r ∷ [])) (when (is_nums x) (ty.Arr (ty.Num r) ∷ [])) 1 (some_outs_long (ty.Num r ∷ [])) (when_long (is_nums x) (ty.Arr (ty.Num r) ∷ []))

selected_long : (t f : Ty) → Long (selected t f) 1
selected_long t f = cond_long (is_num t && is_num f) (single (wide t f)) (when (same_type t f) (t ∷ [])) 1 (single_long (wide t f)) (when_long (same_type t f) (t ∷ []))

-- rows: so many inputs, and so many outputs

abbrev Sized : Row → ℕ → ℕ → Type 0
Sized r i n = (ts us : List Ty) → read r ts ≡ Some us → (length ts ≡ i) × (length us ≡ n)

ends_sized : (o : Option (List Ty)) (n : ℕ) → Long o n → Sized (ends o) 0 n
ends_sized None n h ts us e = absurd (let no : None ≡ Some us = e in cc)
ends_sized (Some outs) n h [] us e = (refl, h us e)
ends_sized (Some outs) n h (t ∷ ts) us e = absurd (let no : None ≡ Some us = e in cc)

given_sized : (b : Bool) (r : Row) (i n : ℕ) → Sized r i n → Sized (given b r) i n
given_sized true r i n h ts us e = h ts us e
given_sized false r i n h ts us e = absurd (let no : None ≡ Some us = e in cc)

another_sized : (next : Ty → Row) (i n : ℕ) → ((t : Ty) → Sized (next t) i n) → Sized (another next) (suc i) n
another_sized next i n h [] us e = absurd (let no : None ≡ Some us = e in cc)
another_sized next i n h (t ∷ ts) us e = let s = h t ts us e in (ap suc s.0, s.1)

one_sized : (outs : Ty → Option (List Ty)) (n : ℕ) → ((x : Ty) → Long (outs x) n) → Sized (one outs) 1 n
one_sized outs n h = another_sized (λ x. ends (outs x)) 0 n (λ x. ends_sized (outs x) n (h x))

two_sized : (first : Ty → Bool) (outs : Ty → Ty → Option (List Ty)) (n : ℕ) → ((x y : Ty) → Long (outs x y) n) → Sized (two first outs) 2 n
two_sized first outs n h = another_sized (λ x. given (first x) (one (outs x))) 1 n (λ x. given_sized (first x) (one (outs x)) 1 n (one_sized (outs x) n (h x)))

three_sized : (first : Ty → Bool) (second : Ty → Ty → Bool) (outs : Ty → Ty → Ty → Option (List Ty)) (n : ℕ) → ((x y z : Ty) → Long (outs x y z) n) → Sized (three first second outs) 3 n
three_sized first second outs n h =
    another_sized (λ x. given (first x) (two (second x) (outs x))) 2 n (λ x. given_sized (first x) (two (second x) (outs x)) 2 n (two_sized (second x) (outs x) n (h x)))

counted : (i n : ℕ) (ts us : List Ty) → (length ts ≡ i) × (length us ≡ n) → ((length ts == i) && (length us == n)) ≡ true
counted i n ts us s = ap (λ b. b && (length us == n)) (eq-eqb (length ts) i s.0) ∙ eq-eqb (length us) n s.1

some_few : (few allowed : Bool) (us : List Ty) (vs : List Ty) → cond (few && allowed) (Some us) None ≡ Some vs → (few ≡ true) × (us ≡ vs)
some_few true true us vs e = (refl, some_is us vs e)
some_few true false us vs e = absurd cc
some_few false allowed us vs e = absurd cc

bundled : (ts us : List Ty) → row_of op.Bundle ts ≡ Some us → fits (primitive_row op.Bundle) (length ts) (length us) ≡ true
bundled [] us e = absurd cc
bundled (t ∷ ts) us e =
    let s = some_few (nat_le (length (t ∷ ts)) 64) (list_all is_shallow (t ∷ ts)) (ty.Cluster (t ∷ ts) ∷ []) us e in
    ap (λ b. (nat_le 1 (length (t ∷ ts)) && b) && (length us == 1)) s.0 ∙ ap (λ b. (b && true) && (length us == 1)) (some_long (length ts)) ∙ eq-eqb (length us) 1 (ap length (sym s.1))
  where
    some_long : (n : ℕ) → nat_le 1 (suc n) ≡ true
    some_long n = grind (arith, nat_tests)

unbundled : (ts us : List Ty) → row_of op.Unbundle ts ≡ Some us → fits (primitive_row op.Unbundle) (length ts) (length us) ≡ true
unbundled [] us e = absurd cc
unbundled (t ∷ []) us e = refl
unbundled (t ∷ u ∷ ts) us e = absurd (two_given (parts t) e)
  where
    two_given : (o : Option (List Ty)) → read (ends o) (u ∷ ts) ≡ Some us → ⊥
    two_given None f = absurd cc
    two_given (Some vs) f = absurd cc

-- each operation

pub fits_row : (p : Primitive) (ts us : List Ty) → row_of p ts ≡ Some us → fits (primitive_row p) (length ts) (length us) ≡ true
fits_row op.Add ts us e = counted 2 1 ts us (two_sized _ _ 1 (λ x y. single_long _) ts us e)
fits_row op.Sub ts us e = counted 2 1 ts us (two_sized _ _ 1 (λ x y. single_long _) ts us e)
fits_row op.Mul ts us e = counted 2 1 ts us (two_sized _ _ 1 (λ x y. single_long _) ts us e)
fits_row op.Inc ts us e = counted 1 1 ts us (one_sized _ 1 (λ x. when_long _ (x ∷ [])) ts us e)
fits_row op.Dec ts us e = counted 1 1 ts us (one_sized _ 1 (λ x. when_long _ (x ∷ [])) ts us e)
fits_row op.Neg ts us e = counted 1 1 ts us (one_sized _ 1 (λ x. when_long _ (x ∷ [])) ts us e)
fits_row op.Abs ts us e = counted 1 1 ts us (one_sized _ 1 (λ x. when_long _ (x ∷ [])) ts us e)
fits_row op.QuotRem ts us e = counted 2 2 ts us (two_sized _ _ 2 (λ x y. twice_long _) ts us e)
fits_row op.MaxMin ts us e = counted 2 2 ts us (two_sized _ _ 2 (λ x y. twice_long _) ts us e)
fits_row op.And ts us e = counted 2 1 ts us (two_sized _ _ 1 (λ x y. single_long _) ts us e)
fits_row op.Or ts us e = counted 2 1 ts us (two_sized _ _ 1 (λ x y. single_long _) ts us e)
fits_row op.Xor ts us e = counted 2 1 ts us (two_sized _ _ 1 (λ x y. single_long _) ts us e)
fits_row op.Not ts us e = counted 1 1 ts us (one_sized _ 1 (λ x. when_long _ (x ∷ [])) ts us e)
fits_row op.Shift ts us e = counted 2 1 ts us (two_sized _ _ 1 (λ x n. when_long _ (x ∷ [])) ts us e)
fits_row op.ToI8 ts us e = counted 1 1 ts us (one_sized _ 1 (λ x. converted_long _ x) ts us e)
fits_row op.ToI16 ts us e = counted 1 1 ts us (one_sized _ 1 (λ x. converted_long _ x) ts us e)
fits_row op.ToI32 ts us e = counted 1 1 ts us (one_sized _ 1 (λ x. converted_long _ x) ts us e)
fits_row op.ToI64 ts us e = counted 1 1 ts us (one_sized _ 1 (λ x. converted_long _ x) ts us e)
fits_row op.ToU8 ts us e = counted 1 1 ts us (one_sized _ 1 (λ x. converted_long _ x) ts us e)
fits_row op.ToU16 ts us e = counted 1 1 ts us (one_sized _ 1 (λ x. converted_long _ x) ts us e)
fits_row op.ToU32 ts us e = counted 1 1 ts us (one_sized _ 1 (λ x. converted_long _ x) ts us e)
fits_row op.ToU64 ts us e = counted 1 1 ts us (one_sized _ 1 (λ x. converted_long _ x) ts us e)
fits_row op.BoolInt ts us e = counted 1 1 ts us (one_sized _ 1 (λ b. when_long _ _) ts us e)
fits_row op.Eq ts us e = counted 2 1 ts us (two_sized _ _ 1 (λ x y. when_long _ (ty.Bool ∷ [])) ts us e)
fits_row op.Ne ts us e = counted 2 1 ts us (two_sized _ _ 1 (λ x y. when_long _ (ty.Bool ∷ [])) ts us e)
fits_row op.Lt ts us e = counted 2 1 ts us (two_sized _ _ 1 (λ x y. when_long _ (ty.Bool ∷ [])) ts us e)
fits_row op.Le ts us e = counted 2 1 ts us (two_sized _ _ 1 (λ x y. when_long _ (ty.Bool ∷ [])) ts us e)
fits_row op.Gt ts us e = counted 2 1 ts us (two_sized _ _ 1 (λ x y. when_long _ (ty.Bool ∷ [])) ts us e)
fits_row op.Ge ts us e = counted 2 1 ts us (two_sized _ _ 1 (λ x y. when_long _ (ty.Bool ∷ [])) ts us e)
fits_row op.Select ts us e = counted 3 1 ts us (three_sized _ (λ s t. true) _ 1 (λ s t u. selected_long t u) ts us e)
fits_row op.All ts us e = counted 1 1 ts us (one_sized _ 1 (λ a. when_long _ (ty.Bool ∷ [])) ts us e)
fits_row op.Any ts us e = counted 1 1 ts us (one_sized _ 1 (λ a. when_long _ (ty.Bool ∷ [])) ts us e)
fits_row op.ArraySize ts us e = counted 1 1 ts us (one_sized _ 1 (λ a. when_long _ _) ts us e)
fits_row op.IndexArray ts us e = counted 2 1 ts us (two_sized _ _ 1 (λ a n. cond_long _ _ _ 1 (single_long _) (none_long 1)) ts us e)
fits_row op.Replace ts us e = counted 3 1 ts us (three_sized _ _ _ 1 (λ a n x. when_long _ (a ∷ [])) ts us e)
fits_row op.Build ts us e = counted 2 1 ts us (two_sized _ _ 1 (λ a x. when_long _ (a ∷ [])) ts us e)
fits_row op.Concat ts us e = counted 2 1 ts us (two_sized _ _ 1 (λ a b. when_long _ (a ∷ [])) ts us e)
fits_row op.Initialize ts us e = counted 2 1 ts us (two_sized _ _ 1 (λ x n. when_long _ (ty.Arr x ∷ [])) ts us e)
fits_row op.Subset ts us e = counted 3 1 ts us (three_sized _ _ _ 1 (λ a x n. when_long _ (a ∷ [])) ts us e)
fits_row op.Delete ts us e = counted 3 2 ts us (three_sized _ _ _ 2 (λ a x n. when_long _ (a ∷ a ∷ [])) ts us e)
fits_row op.Reverse ts us e = counted 1 1 ts us (one_sized _ 1 (λ a. when_long _ (a ∷ [])) ts us e)
fits_row op.Sort ts us e = counted 1 1 ts us (one_sized _ 1 (λ a. when_long _ (a ∷ [])) ts us e)
fits_row op.Sum ts us e = counted 1 1 ts us (one_sized _ 1 (λ a. cond_long _ _ _ 1 (single_long _) (none_long 1)) ts us e)
fits_row op.Product ts us e = counted 1 1 ts us (one_sized _ 1 (λ a. cond_long _ _ _ 1 (single_long _) (none_long 1)) ts us e)
fits_row op.Search ts us e = counted 2 1 ts us (two_sized _ _ 1 (λ a x. when_long _ _) ts us e)
fits_row op.StrLen ts us e = counted 1 1 ts us (one_sized _ 1 (λ s. when_long _ _) ts us e)
fits_row op.StrConcat ts us e = counted 2 1 ts us (two_sized _ _ 1 (λ s t. when_long _ (ty.Str ∷ [])) ts us e)
fits_row op.StrSubset ts us e = counted 3 1 ts us (three_sized _ _ _ 1 (λ s x n. when_long _ (ty.Str ∷ [])) ts us e)
fits_row op.StrBytes ts us e = counted 1 1 ts us (one_sized _ 1 (λ s. when_long _ _) ts us e)
fits_row op.BytesStr ts us e = counted 1 1 ts us (one_sized _ 1 (λ a. when_long _ (ty.Str ∷ [])) ts us e)
fits_row op.NumStr ts us e = counted 1 1 ts us (one_sized _ 1 (λ x. when_long _ (ty.Str ∷ [])) ts us e)
fits_row op.StrNum ts us e = counted 1 2 ts us (one_sized _ 2 (λ s. when_long _ _) ts us e)
fits_row (op.Get k) ts us e = counted 1 1 ts us (one_sized _ 1 (λ c. single_long _) ts us e)
fits_row (op.Set k) ts us e = counted 2 1 ts us (two_sized _ _ 1 (λ c x. when_long _ (c ∷ [])) ts us e)
fits_row op.Bundle ts us e = bundled ts us e
fits_row op.Unbundle ts us e = unbundled ts us e
