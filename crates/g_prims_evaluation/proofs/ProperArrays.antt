-- What operations on arrays and strings give is proper.
use Rattle.std.proofs.Common.{◌≡◌, ◌+◌, ◌≤◌, ℕ, ℤ, pos, zero, suc, Bool, true, false, cond, List, [], ◌∷◌, ◌++◌, length, take, drop, reverse, min, Option, None, Some, refl, ap, sym, ◌∙◌, subst, arith}
use Rattle.std.specs.Prelude.{slice_get}
use Rattle.std.specs.List.{All}
use Rattle.std.proofs.lemmas.List.{length-take, length-drop, length-set, length-reverse, length-replicate, length-append}
use Rattle.std.proofs.lemmas.List.Elements.{All-nil, All-cons, All-head, All-tail, All-take, All-drop, All-append, All-set}
use Rattle.std.proofs.lemmas.List.Sorted.{IsPermutation-reverse, All-permutation}
use Rattle.g_types.specs.declared.rep.Rep.{Rep}
use Rattle.g_types.specs.declared.ty.Ty.{Ty}
use Rattle.g_types.specs.Ty.{depth}
use Rattle.g_types.proofs.Depths.{depth-Arr}
use Rattle.g_values.specs.Proper.{IsProper, IsLayer, IsArr, most}
use Rattle.g_values.specs.Spelled.{IsSpelled}
use Rattle.g_values.specs.Value.{type_of}
use Rattle.g_values.specs.declared.value.ArrOf.{ArrOf}
use Rattle.g_values.specs.declared.value.Value.{Value, out-Value}
use Rattle.g_values.specs.declared.value.Value.TheVariants as value
use Rattle.g_values.specs.declared.value.Value.TheOpen.{Value-F}
use Rattle.g_values.specs.declared.value.Value.TheViews.{roll-Value, roll-out-Value}
use Rattle.g_values.proofs.DefaultValues.{proper-default}
use Rattle.g_values.proofs.ProperLemmas.{proper_bool, proper_nums}
use Rattle.g_values.proofs.ProperParts.{proper_array, proper_items, layer-of_array, spelled_elem}
use Rattle.g_values.proofs.TypesOf.{type-Arr}
use Rattle.g_prims_definitions.specs.Arithmetic.{numbers_of}
use Rattle.g_prims_definitions.specs.Arrays.{element_at, element, replaced_at, replaced, index, subset, without, within, count, insert, sorted, copies, or_default, or_default_number, indexed_at, replace_at, build_at, concat_at, subset_at, deleted_at, reversed_at, sorted_at}
use Rattle.g_prims_definitions.specs.Bits.{items}
use Rattle.g_prims_definitions.specs.Comparisons.{less}
use Rattle.g_prims_evaluation.proofs.ProperNumbers.{proper_number, layer}

-- sizes

few_take : {A : Type 0} (n : ℕ) (xs : List A) → length xs ≤ most → length (take n xs) ≤ most
few_take n xs h = let e = length-take n xs in omega arith

few_drop : {A : Type 0} (n : ℕ) (xs : List A) → length xs ≤ most → length (drop n xs) ≤ most
few_drop n xs h = let e = length-drop n xs in omega arith

pub few_subset : {A : Type 0} (i n : ℤ) (xs : List A) → length xs ≤ most → length (subset i n xs) ≤ most
few_subset i n xs h = few_take (count n) (drop (count i) xs) (few_drop (count i) xs h)

few_without : {A : Type 0} (i n : ℤ) (xs : List A) → length xs ≤ most → length (without i n xs) ≤ most
few_without i n xs h =
    let a = length-append (take (count i) xs) (drop (count i + count n) xs) in
    let b = length-take (count i) xs in
    let c = length-drop (count i + count n) xs in
    omega arith

pub few_within : {A : Type 0} (xs : List A) → length (within xs) ≤ most
few_within xs = let e = length-take most xs in omega arith

few_replaced : {A : Type 0} (at : Option ℕ) (xs : List A) (x : A) → length xs ≤ most → length (replaced_at xs at x) ≤ most
few_replaced None xs x h = h
few_replaced (Some n) xs x h = let e = length-set xs n x in omega arith

long_insert : {A : Type 0} (b : A → A → Bool) (x : A) (ys : List A) → length (insert b x ys) ≡ suc (length ys)
long_insert b x [] = refl
long_insert b x (y ∷ ys) = by_test (b y x) (long_insert b x ys)
  where
    by_test : (c : Bool) → length (insert b x ys) ≡ suc (length ys) → length (cond c (y ∷ insert b x ys) (x ∷ y ∷ ys)) ≡ suc (suc (length ys))
    by_test true e = ap suc e
    by_test false e = refl

long_sorted : {A : Type 0} (b : A → A → Bool) (xs : List A) → length (sorted b xs) ≡ length xs
long_sorted b [] = refl
long_sorted b (x ∷ xs) = long_insert b x (sorted b xs) ∙ ap suc (long_sorted b xs)

few_sorted : {A : Type 0} (b : A → A → Bool) (xs : List A) → length xs ≤ most → length (sorted b xs) ≤ most
few_sorted b xs h = let e = long_sorted b xs in omega arith

pub few_copies : {A : Type 0} (n : ℤ) (x : A) → length (copies n x) ≤ most
few_copies n x = let e = length-replicate (min (count n) most) x in omega arith

-- what holds of all elements

all_insert : {A : Type 0} (P : A → Type 0) (b : A → A → Bool) (x : A) (ys : List A) → P x → All P ys → All P (insert b x ys)
all_insert P b x [] p h = All-cons P x [] p (All-nil P)
all_insert P b x (y ∷ ys) p h =
    choose (b y x) (All-cons P y (insert b x ys) (All-head P y ys h) (all_insert P b x ys p (All-tail P y ys h))) (All-cons P x (y ∷ ys) p h)
  where
    choose : (c : Bool) → All P (y ∷ insert b x ys) → All P (x ∷ y ∷ ys) → All P (cond c (y ∷ insert b x ys) (x ∷ y ∷ ys))
    choose true q r = q
    choose false q r = r

all_sorted : {A : Type 0} (P : A → Type 0) (b : A → A → Bool) (xs : List A) → All P xs → All P (sorted b xs)
all_sorted P b [] h = All-nil P
all_sorted P b (x ∷ xs) h = all_insert P b x (sorted b xs) (All-head P x xs h) (all_sorted P b xs (All-tail P x xs h))

all_replaced : {A : Type 0} (P : A → Type 0) (at : Option ℕ) (xs : List A) (x : A) → P x → All P xs → All P (replaced_at xs at x)
all_replaced P None xs x p h = h
all_replaced P (Some n) xs x p h = All-set P xs n x p h

-- arrays of the same type

pub like : (xs : ArrOf Value) → IsProper (value.Arr xs) → (l : List Value) → length l ≤ most → All (λ v. type_of v ≡ xs.elem) l → All IsProper l → IsProper (items xs l)
like xs p l few types all =
    let a = layer-of_array xs p in
    let right : IsArr (record { elem = xs.elem; items = l }) = record { few = few; one_type = types; no_number = a.no_number; no_array = a.no_array } in
    let d = ap depth (type-Arr xs) ∙ depth-Arr xs.elem in
    let s = p.spelled.shallow in
    proper_array (record { elem = xs.elem; items = l }) right (omega arith) (spelled_elem xs p) all

edited : (xs : ArrOf Value) → IsProper (value.Arr xs) → (l : List Value) → length l ≤ most → ((P : Value → Type 0) → All P xs.items → All P l) → IsProper (items xs l)
edited xs p l few keeps = like xs p l few (keeps (λ v. type_of v ≡ xs.elem) (layer-of_array xs p).one_type) (keeps IsProper (proper_items xs p))

-- what a level keeps of a proper value
abbrev pub Kept : Value-F Value → Type 0
Kept (Value-F.Nums xs) = length xs.all ≤ most
Kept (Value-F.Arr xs) = IsProper (value.Arr xs)
Kept (Value-F.Cluster vs) = IsProper (value.Cluster vs)
Kept (Value-F.Str s) = length s ≤ most
Kept _ = Unit {0}

kept_at : (v : Value) (l : Value-F Value) → out-Value v ≡ l → IsProper v → IsLayer l → Kept l
kept_at v (Value-F.Nums xs) e p h = h
kept_at v (Value-F.Arr xs) e p h = subst IsProper (sym (roll-out-Value v) ∙ ap roll-Value e ∙ value.rolls-Arr xs) p
kept_at v (Value-F.Cluster vs) e p h = subst IsProper (sym (roll-out-Value v) ∙ ap roll-Value e ∙ value.rolls-Cluster vs) p
kept_at v (Value-F.Str s) e p h = h
kept_at v _ e p h = tt

pub kept : (v : Value) → IsProper v → Kept (out-Value v)
kept v p = kept_at v (out-Value v) refl p (layer v p)

few_items : (xs : ArrOf Value) → IsProper (value.Arr xs) → length xs.items ≤ most
few_items xs p = (layer-of_array xs p).few

pub proper-subset : (a : Value-F Value) (i n : ℤ) → Kept a → IsProper (subset_at a i n)
proper-subset (Value-F.Nums xs) i n p = proper_nums (numbers_of xs.rep (subset i n xs.all)) (few_subset i n xs.all p)
proper-subset (Value-F.Arr xs) i n p = edited xs p (subset i n xs.items) (few_subset i n xs.items (few_items xs p)) (λ P h. All-take P (count n) (drop (count i) xs.items) (All-drop P (count i) xs.items h))
proper-subset _ i n p = proper_bool false

pub proper-deleted : (a : Value-F Value) (i n : ℤ) → Kept a → IsProper (deleted_at a i n)
proper-deleted (Value-F.Nums xs) i n p = proper_nums (numbers_of xs.rep (without i n xs.all)) (few_without i n xs.all p)
proper-deleted (Value-F.Arr xs) i n p =
    edited xs p (without i n xs.items) (few_without i n xs.items (few_items xs p))
    (λ P h. All-append P (take (count i) xs.items) (drop (count i + count n) xs.items) (All-take P (count i) xs.items h) (All-drop P (count i + count n) xs.items h))
proper-deleted _ i n p = proper_bool false

pub proper-reversed : (a : Value-F Value) → Kept a → IsProper (reversed_at a)
proper-reversed (Value-F.Nums xs) p = let e = length-reverse xs.all in proper_nums (numbers_of xs.rep (reverse xs.all)) (omega arith)
proper-reversed (Value-F.Arr xs) p =
    let e = length-reverse xs.items in
    let few = few_items xs p in
    edited xs p (reverse xs.items) (omega arith) (λ P h. All-permutation P xs.items (reverse xs.items) (IsPermutation-reverse xs.items) h)
proper-reversed _ p = proper_bool false

pub proper-sorted : (a : Value-F Value) → Kept a → IsProper (sorted_at a)
proper-sorted (Value-F.Nums xs) p = proper_nums _ (few_sorted _ xs.all p)
proper-sorted (Value-F.Arr xs) p = edited xs p (sorted less xs.items) (few_sorted less xs.items (few_items xs p)) (λ P h. all_sorted P less xs.items h)
proper-sorted _ p = proper_bool false

-- an element

proper_got : (t : Ty) (xs : List Value) (n : ℕ) → IsSpelled t → All IsProper xs → IsProper (or_default t (slice_get xs n))
proper_got t [] n s h = proper-default t s
proper_got t (x ∷ xs) zero s h = All-head IsProper x xs h
proper_got t (x ∷ xs) (suc n) s h = proper_got t xs n s (All-tail IsProper x xs h)

proper_element : (t : Ty) (xs : List Value) (at : Option ℕ) → IsSpelled t → All IsProper xs → IsProper (or_default t (element_at xs at))
proper_element t xs None s h = proper-default t s
proper_element t xs (Some n) s h = proper_got t xs n s h

or_number : (r : Rep) (o : Option ℤ) → IsProper (or_default_number r o)
or_number r None = proper_number r (pos 0)
or_number r (Some n) = proper_number r n

pub proper-indexed : (a : Value-F Value) (i : ℤ) → Kept a → IsProper (indexed_at a i)
proper-indexed (Value-F.Nums xs) i p = or_number xs.rep (element xs.all i)
proper-indexed (Value-F.Arr xs) i p = proper_element xs.elem xs.items (index i) (spelled_elem xs p) (proper_items xs p)
proper-indexed _ i p = proper_bool false

-- an element that goes into an array is of the type of its elements, if that isn't one of numbers

abbrev pub Fits : Value-F Value → Value → Type 0
Fits (Value-F.Arr xs) e = type_of e ≡ xs.elem
Fits _ e = Unit {0}

pub proper-replaced : (a : Value-F Value) (i : ℤ) (e : Value) → Kept a → Fits a e → IsProper e → IsProper (replace_at a i e)
proper-replaced (Value-F.Nums xs) i e p f q = proper_nums _ (few_replaced (index i) xs.all _ p)
proper-replaced (Value-F.Arr xs) i e p f q =
    like xs p (replaced xs.items i e) (few_replaced (index i) xs.items e (few_items xs p))
    (all_replaced (λ v. type_of v ≡ xs.elem) (index i) xs.items e f (layer-of_array xs p).one_type)
    (all_replaced IsProper (index i) xs.items e q (proper_items xs p))
proper-replaced _ i e p f q = proper_bool false

with_end : (P : Value → Type 0) (xs : List Value) (e : Value) → All P xs → P e → All P (within (xs ++ e ∷ []))
with_end P xs e h p = All-take P most (xs ++ e ∷ []) (All-append P xs (e ∷ []) h (All-cons P e [] p (All-nil P)))

pub proper-built : (a : Value-F Value) (e : Value) → Kept a → Fits a e → IsProper e → IsProper (build_at a e)
proper-built (Value-F.Nums xs) e p f q = proper_nums _ (few_within _)
proper-built (Value-F.Arr xs) e p f q =
    like xs p (within (xs.items ++ e ∷ [])) (few_within (xs.items ++ e ∷ []))
    (with_end (λ v. type_of v ≡ xs.elem) xs.items e (layer-of_array xs p).one_type f)
    (with_end IsProper xs.items e (proper_items xs p) q)
proper-built _ e p f q = proper_bool false

abbrev pub SameElements : Value-F Value → Value-F Value → Type 0
SameElements (Value-F.Arr xs) (Value-F.Arr ys) = ys.elem ≡ xs.elem
SameElements _ _ = Unit {0}

both_parts : (P : Value → Type 0) (xs ys : List Value) → All P xs → All P ys → All P (within (xs ++ ys))
both_parts P xs ys h k = All-take P most (xs ++ ys) (All-append P xs ys h k)

pub proper-concat : (a b : Value-F Value) → Kept a → Kept b → SameElements a b → IsProper (concat_at a b)
proper-concat (Value-F.Nums xs) (Value-F.Nums ys) p q s = proper_nums _ (few_within _)
proper-concat (Value-F.Arr xs) (Value-F.Arr ys) p q s =
    let others = subst (λ t. All (λ v. type_of v ≡ t) ys.items) s (layer-of_array ys q).one_type in
    like xs p (within (xs.items ++ ys.items)) (few_within (xs.items ++ ys.items))
    (both_parts (λ v. type_of v ≡ xs.elem) xs.items ys.items (layer-of_array xs p).one_type others)
    (both_parts IsProper xs.items ys.items (proper_items xs p) (proper_items ys q))
proper-concat _ _ p q s = proper_bool false
