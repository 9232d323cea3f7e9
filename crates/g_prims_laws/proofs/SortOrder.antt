-- `sort` gives the elements of its input, each no less than the one before it.
use Rattle.std.proofs.Common.{◌≡◌, ◌<◌, ◌≤◌, ℕ, zero, suc, ◌+◌, ℤ, Bool, true, false, cond, List, [], ◌∷◌, length, refl, ap, sym, ◌∙◌, subst, arith}
use Rattle.std.specs.Prelude.{int_lt, slice_index_or}
use Rattle.std.proofs.Common.{Ordering, Less, Equal, Greater}
use Rattle.std.proofs.lemmas.Int.{ints}
use Rattle.std.specs.Cmp.Lexicographic.{slice_cmp}
use Rattle.std.specs.List.Sorted.{IsPermutation, IsSortedBy}
use Rattle.std.specs.Ordering.{is_lt, nat_cmp, ordering_reverse}
use Rattle.std.proofs.lemmas.Cmp.{nat_list_cmp_total}
use Rattle.std.proofs.lemmas.List.Sorted.{IsPermutation-refl, IsPermutation-cons, IsPermutation-trans, IsPermutation-swap}
use Rattle.g_values.specs.Numbers.{Numbers}
use Rattle.g_values.specs.declared.value.ArrOf.{ArrOf}
use Rattle.g_values.specs.declared.value.Value.{Value, out-Value}
use Rattle.g_values.specs.declared.value.Value.TheVariants as value
use Rattle.g_values.specs.declared.value.Value.TheOpen.{Value-F}
use Rattle.g_types.specs.declared.rep.Rep.{Rep}
use Rattle.g_types.specs.declared.rep.Rep.TheVariants.{I8, I16, I32, I64, U8, U16, U32, U64}
use Rattle.g_types.specs.Rep.{wider, wrap}
use Rattle.g_prims_definitions.specs.Arrays.{insert, sorted, sorted_at}
use Rattle.g_prims_definitions.specs.Comparisons.{less, less_at}
use Rattle.g_prims_laws.specs.Laws.{IsAscending, SortsNumbers, SortsTexts}

passed : {A : Type 0} (b : Bool) (x y : A) (ys zs : List A) → IsPermutation (x ∷ ys) zs → IsPermutation (x ∷ y ∷ ys) (cond b (y ∷ zs) (x ∷ y ∷ ys))
passed false x y ys zs p = IsPermutation-refl (x ∷ y ∷ ys)
passed true x y ys zs p =
    IsPermutation-trans (x ∷ y ∷ ys) (y ∷ x ∷ ys) (y ∷ zs) (IsPermutation-swap (x ∷ y ∷ ys) (y ∷ x ∷ ys) 0 1 (omega arith) (omega arith) refl) (IsPermutation-cons y (x ∷ ys) zs p)

inserted : {A : Type 0} (lt : A → A → Bool) (x : A) (ys : List A) → IsPermutation (x ∷ ys) (insert lt x ys)
inserted lt x [] = IsPermutation-refl (x ∷ [])
inserted lt x (y ∷ ys) = passed (lt y x) x y ys (insert lt x ys) (inserted lt x ys)

permuted : {A : Type 0} (lt : A → A → Bool) (xs : List A) → IsPermutation xs (sorted lt xs)
permuted lt [] = IsPermutation-refl []
permuted lt (x ∷ xs) = IsPermutation-trans (x ∷ xs) (x ∷ sorted lt xs) (insert lt x (sorted lt xs)) (IsPermutation-cons x xs (sorted lt xs) (permuted lt xs)) (inserted lt x (sorted lt xs))

-- no element is less than the one before it, one after another

abbrev Ascends : {A : Type 0} → (A → A → Bool) → List A → Type 0
Ascends lt [] = Unit {0}
Ascends lt (x ∷ []) = Unit {0}
Ascends lt (x ∷ y ∷ ys) = (lt y x ≡ false) × Ascends lt (y ∷ ys)

abbrev Apart : {A : Type 0} → (A → A → Bool) → Type 0
Apart {A} lt = (a b : A) → lt a b ≡ true → lt b a ≡ false

first_in : {A : Type 0} (lt : A → A → Bool) → Apart lt → (x y : A) (b : Bool) → lt y x ≡ b → Ascends lt (cond b (y ∷ x ∷ []) (x ∷ y ∷ []))
first_in lt o x y true e = (o y x e, tt)
first_in lt o x y false e = (e, tt)

under : {A : Type 0} (lt : A → A → Bool) → Apart lt → (x y z : A) (zs ins : List A) (b : Bool) → lt y x ≡ true → lt z y ≡ false → Ascends lt (cond b (z ∷ ins) (x ∷ z ∷ zs)) → Ascends lt (y ∷ cond b (z ∷ ins) (x ∷ z ∷ zs))
under lt o x y z zs ins true h e v = (e, v)
under lt o x y z zs ins false h e v = (o y x h, v)

placed_in : {A : Type 0} (lt : A → A → Bool) (x y : A) (zs ins : List A) (b : Bool) → lt y x ≡ b → Ascends lt (y ∷ zs) → (lt y x ≡ true → Ascends lt (y ∷ ins)) → Ascends lt (cond b (y ∷ ins) (x ∷ y ∷ zs))
placed_in lt x y zs ins true h u v = v h
placed_in lt x y zs ins false h u v = (h, u)

put_in : {A : Type 0} (lt : A → A → Bool) → Apart lt → (x : A) (ys : List A) → Ascends lt ys → Ascends lt (insert lt x ys)
put_in lt o x [] u = tt
put_in lt o x (y ∷ []) u = first_in lt o x y (lt y x) refl
put_in lt o x (y ∷ z ∷ zs) u =
    let v = put_in lt o x (z ∷ zs) u.1 in
    placed_in lt x y (z ∷ zs) (insert lt x (z ∷ zs)) (lt y x) refl u (λ h. under lt o x y z zs (insert lt x zs) (lt z x) h u.0 v)

in_order : {A : Type 0} (lt : A → A → Bool) → Apart lt → (xs : List A) → Ascends lt (sorted lt xs)
in_order lt o [] = tt
in_order lt o (x ∷ xs) = put_in lt o x (sorted lt xs) (in_order lt o xs)

one_by_one : {A : Type 0} (lt : A → A → Bool) (xs : List A) → Ascends lt xs → (k : ℕ) (d : A) → k + 1 < length xs → lt (slice_index_or xs (k + 1) d) (slice_index_or xs k d) ≡ false
one_by_one lt [] u k d h = absurd (omega arith)
one_by_one lt (x ∷ []) u k d h = absurd (omega arith)
one_by_one lt (x ∷ y ∷ ys) u zero d h = u.0
one_by_one lt (x ∷ y ∷ ys) u (suc k) d h =
    let same : suc k + 1 ≡ suc (k + 1) = omega arith in
    subst (λ n. lt (slice_index_or (x ∷ y ∷ ys) n d) (slice_index_or (y ∷ ys) k d) ≡ false) (sym same) (one_by_one lt (y ∷ ys) u.1 k d (omega arith))

ascending : {A : Type 0} (lt : A → A → Bool) → Apart lt → (xs : List A) → IsAscending lt xs (sorted lt xs)
ascending lt o xs = record { permutation = permuted lt xs; in_order = λ k d low h. one_by_one lt (sorted lt xs) (in_order lt o xs) k d h }

numbers_apart : (a b : ℤ) → int_lt a b ≡ true → int_lt b a ≡ false
numbers_apart a b e = grind (arith, ints)

pub sorts_numbers : SortsNumbers
sorts_numbers xs = (sorted int_lt xs.all, ap sorted_at (value.outs-Nums xs), ascending int_lt numbers_apart xs.all)

wider_either : (r s : Rep) → wider r s ≡ wider s r
wider_either I8 I8 = refl
wider_either I8 I16 = refl
wider_either I8 I32 = refl
wider_either I8 I64 = refl
wider_either I8 U8 = refl
wider_either I8 U16 = refl
wider_either I8 U32 = refl
wider_either I8 U64 = refl
wider_either I16 I8 = refl
wider_either I16 I16 = refl
wider_either I16 I32 = refl
wider_either I16 I64 = refl
wider_either I16 U8 = refl
wider_either I16 U16 = refl
wider_either I16 U32 = refl
wider_either I16 U64 = refl
wider_either I32 I8 = refl
wider_either I32 I16 = refl
wider_either I32 I32 = refl
wider_either I32 I64 = refl
wider_either I32 U8 = refl
wider_either I32 U16 = refl
wider_either I32 U32 = refl
wider_either I32 U64 = refl
wider_either I64 I8 = refl
wider_either I64 I16 = refl
wider_either I64 I32 = refl
wider_either I64 I64 = refl
wider_either I64 U8 = refl
wider_either I64 U16 = refl
wider_either I64 U32 = refl
wider_either I64 U64 = refl
wider_either U8 I8 = refl
wider_either U8 I16 = refl
wider_either U8 I32 = refl
wider_either U8 I64 = refl
wider_either U8 U8 = refl
wider_either U8 U16 = refl
wider_either U8 U32 = refl
wider_either U8 U64 = refl
wider_either U16 I8 = refl
wider_either U16 I16 = refl
wider_either U16 I32 = refl
wider_either U16 I64 = refl
wider_either U16 U8 = refl
wider_either U16 U16 = refl
wider_either U16 U32 = refl
wider_either U16 U64 = refl
wider_either U32 I8 = refl
wider_either U32 I16 = refl
wider_either U32 I32 = refl
wider_either U32 I64 = refl
wider_either U32 U8 = refl
wider_either U32 U16 = refl
wider_either U32 U32 = refl
wider_either U32 U64 = refl
wider_either U64 I8 = refl
wider_either U64 I16 = refl
wider_either U64 I32 = refl
wider_either U64 I64 = refl
wider_either U64 U8 = refl
wider_either U64 U16 = refl
wider_either U64 U32 = refl
wider_either U64 U64 = refl

one_way : (p q : Ordering) → p ≡ ordering_reverse q → is_lt q ≡ true → is_lt p ≡ false
one_way p Less e h = ap is_lt e
one_way p Equal e h = absurd cc
one_way p Greater e h = absurd cc

levels_apart : (l m : Value-F Value) → less_at l m ≡ true → less_at m l ≡ false
levels_apart (Value-F.Num x) (Value-F.Num y) e =
    ap (λ r. int_lt (wrap r y.n) (wrap r x.n)) (wider_either y.rep x.rep) ∙ numbers_apart (wrap (wider x.rep y.rep) x.n) (wrap (wider x.rep y.rep) y.n) e
levels_apart (Value-F.Str s) (Value-F.Str t) e = one_way (slice_cmp nat_cmp t s) (slice_cmp nat_cmp s t) (nat_list_cmp_total.antisymm t s) e
levels_apart _ _ e = absurd cc

pub sorts_texts : SortsTexts
sorts_texts xs = (sorted less xs.items, ap sorted_at (value.outs-Arr xs), ascending less (λ v w e. levels_apart (out-Value v) (out-Value w) e) xs.items)
