-- What operations on numbers and Booleans give is proper.
use Rattle.std.proofs.Common.{◌≡◌, ◌≤◌, ℤ, Bool, true, false, ◌||◌, List, [], ◌∷◌, map, length, refl, ap, sym, ◌∙◌, subst, arith}
use Rattle.std.specs.List.{All}
use Rattle.std.specs.Simd.Lanes.{zip2}
use Rattle.std.proofs.lemmas.List.{length-map}
use Rattle.std.proofs.lemmas.List.Elements.{All-nil, All-cons, All-map}
use Rattle.g_types.specs.declared.rep.Rep.{Rep}
use Rattle.g_types.specs.declared.ty.Ty.{Ty, out-Ty}
use Rattle.g_types.specs.declared.ty.Ty.TheOpen.{Ty-F}
use Rattle.g_types.specs.declared.ty.Ty.TheVariants as ty
use Rattle.g_types.specs.declared.ty.Ty.TheViews.{roll-Ty, roll-out-Ty}
use Rattle.g_types.specs.Rep.{wrap, wider}
use Rattle.g_types.specs.Ty.{depth, is_num, is_num_at, is_nums_at}
use Rattle.g_types.proofs.Depths.{depth-Bool}
use Rattle.g_values.specs.Number.{num_of}
use Rattle.g_values.specs.Coerce.{coerced_numbers}
use Rattle.g_values.specs.Proper.{IsProper, IsLayer, IsArr, most}
use Rattle.g_values.specs.Spelled.{IsSpelled}
use Rattle.g_values.specs.Value.{type_of}
use Rattle.g_values.specs.declared.value.ArrOf.{ArrOf}
use Rattle.g_values.specs.declared.value.Value.{Value, out-Value}
use Rattle.g_values.specs.declared.value.Value.TheVariants as value
use Rattle.g_values.specs.declared.value.Value.TheOpen.{Value-F}
use Rattle.g_values.specs.declared.value.Value.TheFolds.{every_here-Value}
use Rattle.g_values.specs.declared.value.Value.TheViews.{roll-Value, roll-out-Value}
use Rattle.g_values.proofs.ProperLemmas.{proper_num, proper_bool, proper_nums}
use Rattle.g_values.proofs.ProperParts.{proper_array}
use Rattle.g_values.proofs.SpelledTypes.{spelled_bool}
use Rattle.g_values.proofs.TypesOf.{type-Bool, type-Arr}
use Rattle.g_prims_definitions.specs.Arithmetic.{arithmetic_at, combined, zipped, left, right, each_at, mapped, converted_at, pair_at, folded_at, number}
use Rattle.g_prims_definitions.specs.Bits.{bitwise_at, inverted_at, turned, items, truth, shift_at, shifted}
use Rattle.g_prims_definitions.specs.Kinds.{is_bool, is_bool_at, is_bools_at, has_bits}

-- lists of one and of two

pub proper_one : (v : Value) → IsProper v → All IsProper (v ∷ [])
proper_one v p = All-cons IsProper v [] p (All-nil IsProper)

pub proper_two : (v w : Value) → IsProper v → IsProper w → All IsProper (v ∷ w ∷ [])
proper_two v w p q = All-cons IsProper v (w ∷ []) p (proper_one w q)

-- sizes

pub few_map : {A B : Type 0} (f : A → B) (xs : List A) → length xs ≤ most → length (map f xs) ≤ most
few_map f xs h = let e = length-map xs f in omega arith

zip_few : {A B C : Type 0} (f : A → B → C) (xs : List A) (ys : List B) → length (zip2 f xs ys) ≤ length xs
zip_few f [] ys = omega arith
zip_few f (x ∷ xs) [] = omega arith
zip_few f (x ∷ xs) (y ∷ ys) = let h = zip_few f xs ys in omega arith

few_zip : {A B C : Type 0} (f : A → B → C) (xs : List A) (ys : List B) → length xs ≤ most → length (zip2 f xs ys) ≤ most
few_zip f xs ys h = let e = zip_few f xs ys in omega arith

all_zip : {A B C : Type 0} (P : C → Type 0) (f : A → B → C) (xs : List A) (ys : List B) → ((x : A) (y : B) → P (f x y)) → All P (zip2 f xs ys)
all_zip P f [] ys h = All-nil P
all_zip P f (x ∷ xs) [] h = All-nil P
all_zip P f (x ∷ xs) (y ∷ ys) h = All-cons P (f x y) (zip2 f xs ys) (h x y) (all_zip P f xs ys h)

-- numbers

pub layer : (v : Value) → IsProper v → IsLayer (out-Value v)
layer v p = every_here-Value IsLayer v p.whole

pub proper_number : (r : Rep) (n : ℤ) → IsProper (number r n)
proper_number r n = proper_num (num_of r n)

pub proper-arithmetic : (f : ℤ → ℤ → ℤ) (a b : Value-F Value) → IsLayer a → IsLayer b → IsProper (arithmetic_at f a b)
proper-arithmetic f (Value-F.Num x) (Value-F.Num y) p q = proper_number (wider x.rep y.rep) (f x.n y.n)
proper-arithmetic f (Value-F.Num x) (Value-F.Nums ys) p q = proper_nums (right f (wider x.rep ys.rep) x.n ys) (few_map (combined f (wider x.rep ys.rep) x.n) ys.all q)
proper-arithmetic f (Value-F.Nums xs) (Value-F.Num y) p q = proper_nums (left f (wider xs.rep y.rep) xs y.n) (few_map (λ x. combined f (wider xs.rep y.rep) x y.n) xs.all p)
proper-arithmetic f (Value-F.Nums xs) (Value-F.Nums ys) p q = proper_nums (zipped f xs ys) (few_zip (combined f (wider xs.rep ys.rep)) xs.all ys.all p)
proper-arithmetic f _ _ p q = proper_bool false

pub proper-each : (f : ℤ → ℤ) (a : Value-F Value) → IsLayer a → IsProper (each_at f a)
proper-each f (Value-F.Num x) p = proper_number x.rep (f x.n)
proper-each f (Value-F.Nums xs) p = proper_nums (mapped f xs) (few_map (λ x. wrap xs.rep (f x)) xs.all p)
proper-each f _ p = proper_bool false

pub proper-converted : (r : Rep) (a : Value-F Value) → IsLayer a → IsProper (converted_at r a)
proper-converted r (Value-F.Num x) p = proper_number r x.n
proper-converted r (Value-F.Nums xs) p = proper_nums (coerced_numbers r xs) (few_map (wrap r) xs.all p)
proper-converted r _ p = proper_bool false

pub proper-pair : (f g : ℤ → ℤ → ℤ) (a b : Value-F Value) → All IsProper (pair_at f g a b)
proper-pair f g (Value-F.Num x) (Value-F.Num y) = let r = wider x.rep y.rep in proper_two _ _ (proper_number r (f (wrap r x.n) (wrap r y.n))) (proper_number r (g (wrap r x.n) (wrap r y.n)))
proper-pair f g _ _ = All-nil IsProper

pub proper-folded : (f : ℤ → ℤ → ℤ) (n : ℤ) (a : Value-F Value) → IsProper (folded_at f n a)
proper-folded f n (Value-F.Nums xs) = proper_number xs.rep _
proper-folded f n _ = proper_bool false

pub proper-shift : (a b : Value-F Value) → IsProper (shift_at a b)
proper-shift (Value-F.Num x) (Value-F.Num n) = proper_number x.rep (shifted x.rep x.n n.n)
proper-shift _ _ = proper_bool false

-- arrays of Booleans

bool_type_at : (t : Ty) (k : Ty-F Ty) → out-Ty t ≡ k → is_bool_at k ≡ true → t ≡ ty.Bool
bool_type_at t Ty-F.Bool e is = sym (roll-out-Ty t) ∙ ap roll-Ty e ∙ ty.rolls-Bool
bool_type_at t (Ty-F.Num x) e is = absurd cc
bool_type_at t Ty-F.Str e is = absurd cc
bool_type_at t (Ty-F.Arr x) e is = absurd cc
bool_type_at t (Ty-F.Cluster x) e is = absurd cc
bool_type_at t (Ty-F.QueueRef x) e is = absurd cc
bool_type_at t (Ty-F.ValueRef x) e is = absurd cc

abbrev IsTruth : Value → Type 0
IsTruth v = (b : Bool) × (v ≡ value.Bool b)

truths : (xs : ArrOf Value) → IsArr xs → is_bool xs.elem ≡ true → (l : List Value) → length l ≤ most → All IsTruth l → IsProper (items xs l)
truths xs a is l few all =
    let e : xs.elem ≡ ty.Bool = bool_type_at xs.elem (out-Ty xs.elem) refl is in
    let d = ap depth e ∙ depth-Bool in
    let right : IsArr (record { elem = xs.elem; items = l }) = record {
      few = few;
      one_type = λ k c lt. let t = all k c lt in ap type_of t.1 ∙ type-Bool t.0 ∙ sym e;
      no_number = a.no_number;
      no_array = a.no_array;
    } in
    proper_array (record { elem = xs.elem; items = l }) right (omega arith) (subst IsSpelled (sym e) spelled_bool) (λ k c lt. let t = all k c lt in subst IsProper (sym t.1) (proper_bool t.0))

abbrev pub HasTruths : Value-F Value → Type 0
HasTruths (Value-F.Arr xs) = is_bool xs.elem ≡ true
HasTruths _ = Unit {0}

pub proper-bitwise : (f : ℤ → ℤ → ℤ) (g : Bool → Bool → Bool) (a b : Value-F Value) → IsLayer a → IsLayer b → HasTruths a → HasTruths b → IsProper (bitwise_at f g a b)
proper-bitwise f g (Value-F.Bool a) (Value-F.Bool b) p q s t = proper_bool (g a b)
proper-bitwise f g (Value-F.Bool a) (Value-F.Arr ys) p q s t = truths ys q t _ (few_map (λ y. value.Bool (g a (truth y))) ys.items q.few) (All-map IsTruth (λ y. value.Bool (g a (truth y))) ys.items (λ k d lt. (_, refl)))
proper-bitwise f g (Value-F.Arr xs) (Value-F.Bool b) p q s t = truths xs p s _ (few_map (λ x. value.Bool (g (truth x) b)) xs.items p.few) (All-map IsTruth (λ x. value.Bool (g (truth x) b)) xs.items (λ k d lt. (_, refl)))
proper-bitwise f g (Value-F.Arr xs) (Value-F.Arr ys) p q s t =
    let h : Value → Value → Value = λ x y. value.Bool (g (truth x) (truth y)) in
    truths xs p s _ (few_zip h xs.items ys.items p.few) (all_zip IsTruth h xs.items ys.items (λ x y. (_, refl)))
proper-bitwise f g a b p q s t = proper-arithmetic f a b p q

pub proper-inverted : (a : Value-F Value) → IsLayer a → HasTruths a → IsProper (inverted_at a)
proper-inverted (Value-F.Bool b) p s = proper_bool _
proper-inverted (Value-F.Arr xs) p s = truths xs p s _ (few_map _ xs.items p.few) (All-map IsTruth _ xs.items (λ k d lt. (_, refl)))
proper-inverted a p s = proper-each turned a p

-- what a row tells of arrays of Booleans

second : (a b : Bool) → a ≡ false → (a || b) ≡ true → b ≡ true
second true b e h = absurd cc
second false b e h = h

pub arr_type : (a : Value) (xs : ArrOf Value) → out-Value a ≡ Value-F.Arr xs → type_of a ≡ ty.Arr xs.elem
arr_type a xs e = ap type_of (sym (roll-out-Value a) ∙ ap roll-Value e ∙ value.rolls-Arr xs) ∙ type-Arr xs

truths_first : (a : Value) (l : Value-F Value) → out-Value a ≡ l → IsLayer l → has_bits (type_of a) ≡ true → HasTruths l
truths_first a (Value-F.Arr xs) e p h =
    let both : (is_num xs.elem || is_bool xs.elem) ≡ true = sym (ap (λ k. (is_num_at k || is_nums_at k) || (is_bool_at k || is_bools_at k)) (ty.outs-Arr xs.elem)) ∙ sym (ap has_bits (arr_type a xs e)) ∙ h in
    second (is_num xs.elem) (is_bool xs.elem) p.no_number both
truths_first a _ e p h = tt

pub has_truths : (a : Value) → IsProper a → has_bits (type_of a) ≡ true → HasTruths (out-Value a)
has_truths a p h = truths_first a (out-Value a) refl (layer a p) h
