-- Numbers are in the order of their words, once what is negative is moved below.
use Rattle.std.proofs.Common.{◌≡◌, ◌<◌, ◌+◌, ◌^◌, ℕ, ℤ, pos, ◌+ℤ◌, false, List, [], ◌∷◌, map, length, get_or, refl, ap, sym, ◌∙◌, subst, arith, zero, suc, nat_lt}
use Rattle.std.specs.Prelude.{int_lt}
use Rattle.std.specs.List.{All}
use Rattle.std.specs.List.Sorted.{IsPermutation}
use Rattle.std.specs.Ordering.{is_lt, nat_cmp}
use Rattle.std.proofs.lemmas.Int.{ints}
use Rattle.std.proofs.lemmas.Bool.Decides.{nat_tests}
use Rattle.std.proofs.lemmas.List.{length-map}
use Rattle.std.proofs.lemmas.List.Elements.{All-nil, All-cons, All-head, All-tail, All-get_or}
use Rattle.std.proofs.lemmas.List.Sorted.{IsPermutation-map, All-permutation}
use Rattle.g_types.specs.declared.rep.Rep.{Rep}
use Rattle.g_types.specs.declared.rep.Rep.TheVariants.{I8, I16, I32, I64, U8, U16, U32, U64}
use Rattle.g_values.specs.Canonical.{canonical}
use Rattle.g_values.specs.Numbers.{AreWords, number, word}
use Rattle.g_values.proofs.Words.{wrap_is, word-number, word-below}
use Rattle.g_prims_definitions.specs.Arrays.{sorted}
use Rattle.g_prims_edits.specs.Words.{sign, key}
use Rattle.g_prims_edits.proofs.SortLemmas.{IsOrder, IsAscending, is_sorted}
use Rattle.g_prims_edits.proofs.WordLemmas.{IsWord}

int_order : IsOrder int_lt
int_order = record {
  apart = λ a b e. grind (arith, ints);
  equal = λ a b e f. grind (arith, ints);
  through = λ a b y e f. grind (arith, ints);
}

moved_order : (x y : ℤ) (s p q : ℕ) → x +ℤ pos s ≡ pos p → y +ℤ pos s ≡ pos q → int_lt x y ≡ nat_lt p q
moved_order x y s p q e f = grind (arith, ints, nat_tests)

key_is : (r : Rep) (w : ℕ) → word (number r w) ≡ w → number r w +ℤ pos (sign r) ≡ pos (key r w)
key_is I8 w h = let e : canonical I8 w ≡ w = sym (word-number I8 w) ∙ h in ap (λ z. z +ℤ pos (sign I8)) (wrap_is I8 (pos w) 0 w (record { lift = omega (arith, ints) })) ∙ omega (arith, ints)
key_is I16 w h = let e : canonical I16 w ≡ w = sym (word-number I16 w) ∙ h in ap (λ z. z +ℤ pos (sign I16)) (wrap_is I16 (pos w) 0 w (record { lift = omega (arith, ints) })) ∙ omega (arith, ints)
key_is I32 w h = let e : canonical I32 w ≡ w = sym (word-number I32 w) ∙ h in ap (λ z. z +ℤ pos (sign I32)) (wrap_is I32 (pos w) 0 w (record { lift = omega (arith, ints) })) ∙ omega (arith, ints)
key_is I64 w h = let e : canonical I64 w ≡ w = sym (word-number I64 w) ∙ h in ap (λ z. z +ℤ pos (sign I64)) (wrap_is I64 (pos w) 0 w (record { lift = omega (arith, ints) })) ∙ omega (arith, ints)
key_is U8 w h = let e : canonical U8 w ≡ w = sym (word-number U8 w) ∙ h in ap (λ z. z +ℤ pos (sign U8)) (wrap_is U8 (pos w) 0 w (record { lift = omega (arith, ints) })) ∙ omega (arith, ints)
key_is U16 w h = let e : canonical U16 w ≡ w = sym (word-number U16 w) ∙ h in ap (λ z. z +ℤ pos (sign U16)) (wrap_is U16 (pos w) 0 w (record { lift = omega (arith, ints) })) ∙ omega (arith, ints)
key_is U32 w h = let e : canonical U32 w ≡ w = sym (word-number U32 w) ∙ h in ap (λ z. z +ℤ pos (sign U32)) (wrap_is U32 (pos w) 0 w (record { lift = omega (arith, ints) })) ∙ omega (arith, ints)
key_is U64 w h = let e : canonical U64 w ≡ w = sym (word-number U64 w) ∙ h in ap (λ z. z +ℤ pos (sign U64)) (wrap_is U64 (pos w) 0 w (record { lift = omega (arith, ints) })) ∙ omega (arith, ints)

key_key : (r : Rep) (w : ℕ) → w < 2 ^ 64 → key r (key r w) ≡ w
key_key I8 w h = omega arith
key_key I16 w h = omega arith
key_key I32 w h = omega arith
key_key I64 w h = omega arith
key_key U8 w h = omega arith
key_key U16 w h = omega arith
key_key U32 w h = omega arith
key_key U64 w h = omega arith

below : (r : Rep) (w : ℕ) → word (number r w) ≡ w → w < 2 ^ 64
below r w h = subst (λ n. n < 2 ^ 64) h (word-below (number r w))

abbrev pub AreBelow : List ℕ → Type 0
AreBelow = All (λ w. w < 2 ^ 64)

keys_keys : (r : Rep) (ws : List ℕ) → AreWords r ws → map (key r) (map (key r) ws) ≡ ws
keys_keys r [] p = refl
keys_keys r (w ∷ ws) p =
    ap (λ k. k ∷ map (key r) (map (key r) ws)) (key_key r w (below r w (All-head (IsWord r) w ws p)))
    ∙ ap (λ l. w ∷ l) (keys_keys r ws (All-tail (IsWord r) w ws p))

pub get_mapped : {A B : Type 0} (f : A → B) (xs : List A) (k : ℕ) (d : B) (e : A) → k < length xs → get_or (map f xs) k d ≡ f (get_or xs k e)
get_mapped f [] k d e h = absurd (omega arith)
get_mapped f (x ∷ xs) zero d e h = refl
get_mapped f (x ∷ xs) (suc k) d e h = get_mapped f xs k d e (omega arith)

by_cmp : (a b : ℕ) → is_lt (nat_cmp a b) ≡ false → nat_lt a b ≡ false
by_cmp a b e = grind (arith, nat_tests)

pub record AreAscendingKeys (ks : List ℕ) : Type 0 where
  pub step : (k d : ℕ) → k + 1 < length ks → is_lt (nat_cmp (get_or ks (k + 1) d) (get_or ks k d)) ≡ false

ascending : (r : Rep) (ks : List ℕ) → AreBelow ks → AreWords r (map (key r) ks) → AreAscendingKeys ks → IsAscending int_lt (map (number r) (map (key r) ks))
ascending r ks small words up k d lt =
    let ws = map (key r) ks in
    let n : length (map (number r) ws) ≡ length ks = length-map ws (number r) ∙ length-map ks (key r) in
    let m : length ws ≡ length ks = length-map ks (key r) in
    let a = get_or ks (suc k) 0 in
    let b = get_or ks k 0 in
    let ea : get_or (map (number r) ws) (suc k) d ≡ number r (key r a) = get_mapped (number r) ws (suc k) d 0 (omega arith) ∙ ap (number r) (get_mapped (key r) ks (suc k) 0 0 (omega arith)) in
    let eb : get_or (map (number r) ws) k d ≡ number r (key r b) = get_mapped (number r) ws k d 0 (omega arith) ∙ ap (number r) (get_mapped (key r) ks k 0 0 (omega arith)) in
    let wa : word (number r (key r a)) ≡ key r a = subst (IsWord r) (get_mapped (key r) ks (suc k) 0 0 (omega arith)) (All-get_or (IsWord r) ws (suc k) 0 (omega arith) words) in
    let wb : word (number r (key r b)) ≡ key r b = subst (IsWord r) (get_mapped (key r) ks k 0 0 (omega arith)) (All-get_or (IsWord r) ws k 0 (omega arith) words) in
    let ka = key_key r a (All-get_or (λ w. w < 2 ^ 64) ks (suc k) 0 (omega arith) small) in
    let kb = key_key r b (All-get_or (λ w. w < 2 ^ 64) ks k 0 (omega arith) small) in
    let one : suc k ≡ k + 1 = omega arith in
    let less : nat_lt a b ≡ false = by_cmp a b (subst (λ j. is_lt (nat_cmp (get_or ks j 0) b) ≡ false) (sym one) (up.step k 0 (omega arith))) in
    ap (λ z. int_lt z (get_or (map (number r) ws) k d)) ea
    ∙ ap (int_lt (number r (key r a))) eb
    ∙ moved_order (number r (key r a)) (number r (key r b)) (sign r) (key r (key r a)) (key r (key r b)) (key_is r (key r a) wa) (key_is r (key r b) wb)
    ∙ ap (λ z. nat_lt z (key r (key r b))) ka
    ∙ ap (nat_lt a) kb
    ∙ less

keys_below : (r : Rep) (ws : List ℕ) → AreBelow (map (key r) ws)
keys_below r [] = All-nil (λ w. w < 2 ^ 64)
keys_below r (w ∷ ws) = All-cons (λ w. w < 2 ^ 64) (key r w) (map (key r) ws) (omega arith) (keys_below r ws)

pub sorted_words : (r : Rep) (ws ks : List ℕ) → AreWords r ws → IsPermutation (map (key r) ws) ks → AreAscendingKeys ks
    → AreWords r (map (key r) ks) × (map (number r) (map (key r) ks) ≡ sorted int_lt (map (number r) ws))
sorted_words r ws ks words p up =
    let small : AreBelow ks = All-permutation (λ w. w < 2 ^ 64) (map (key r) ws) ks p (keys_below r ws) in
    let vs = map (key r) ks in
    let moved : IsPermutation ws vs = subst (λ l. IsPermutation l vs) (keys_keys r ws words) (IsPermutation-map (key r) (map (key r) ws) ks p) in
    let good : AreWords r vs = All-permutation (IsWord r) ws vs moved words in
    (good, is_sorted int_lt int_order (map (number r) ws) (map (number r) vs) (IsPermutation-map (number r) ws vs moved) (ascending r ks small good up))
