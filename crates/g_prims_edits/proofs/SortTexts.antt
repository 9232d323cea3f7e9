-- Strings are in ascending order where their bytes are.
use Rattle.std.proofs.Common.{◌≡◌, ◌+◌, ℕ, Bool, true, false, cond, List, [], ◌∷◌, map, length, get_or, refl, ap, sym, ◌∙◌, subst, arith, suc, Ordering, Less, Equal, Greater}
use Rattle.std.specs.Cmp.Lexicographic.{slice_cmp}
use Rattle.std.specs.FinMap.{nat_cmp-IsAntisymmetric, slice_cmp-IsAntisymmetric}
use Rattle.std.specs.List.Sorted.{IsPermutation, IsSortedBy}
use Rattle.std.specs.Ordering.{is_lt, nat_cmp, ordering_reverse}
use Rattle.std.proofs.lemmas.Cmp.{nat_list_cmp_total}
use Rattle.std.proofs.lemmas.List.{length-map}
use Rattle.std.proofs.lemmas.List.Elements.{All-head, All-tail}
use Rattle.std.proofs.lemmas.List.Sorted.{IsPermutation-map, All-permutation}
use Rattle.g_values.specs.declared.value.Value.{Value, out-Value}
use Rattle.g_values.specs.declared.value.Value.TheVariants as value
use Rattle.g_values.specs.declared.value.Value.TheOpen.{Value-F}
use Rattle.g_prims_definitions.specs.Arrays.{insert, sorted}
use Rattle.g_prims_definitions.specs.Comparisons.{less, less_at}
use Rattle.g_prims_definitions.specs.Strings.{text}
use Rattle.g_prims_edits.specs.Texts.{IsText, AreTexts}
use Rattle.g_prims_edits.proofs.SortLemmas.{IsOrder, IsAscending, is_sorted}
use Rattle.g_prims_edits.proofs.SortNumbers.{get_mapped}

abbrev order : List ℕ → List ℕ → Ordering
order = slice_cmp nat_cmp

abbrev pub below : List ℕ → List ℕ → Bool
below s t = is_lt (order s t)

one_way : (p q : Ordering) → p ≡ ordering_reverse q → is_lt q ≡ true → is_lt p ≡ false
one_way p Less e h = ap is_lt e
one_way p Equal e h = absurd cc
one_way p Greater e h = absurd cc

tie : (p q : Ordering) → p ≡ ordering_reverse q → is_lt p ≡ false → is_lt q ≡ false → p ≡ Equal
tie p Less e h k = absurd cc
tie p Equal e h k = e
tie p Greater e h k = absurd (let g : is_lt p ≡ true = ap is_lt e in let i : true ≡ false = sym g ∙ h in cc)

is_less : (p : Ordering) → is_lt p ≡ true → p ≡ Less
is_less Less h = refl
is_less Equal h = absurd cc
is_less Greater h = absurd cc

past_both : (a b y : List ℕ) (q : Ordering) → order a y ≡ ordering_reverse q → is_lt q ≡ false → is_lt (order y b) ≡ true → is_lt (order a b) ≡ true
past_both a b y Less e h k = absurd cc
past_both a b y Equal e h k = ap is_lt (nat_list_cmp_total.congr a y b e) ∙ k
past_both a b y Greater e h k = ap is_lt (nat_list_cmp_total.trans a y b e (is_less (order y b) k))

text_order : IsOrder below
text_order = record {
  apart = λ a b e. one_way (order b a) (order a b) (nat_list_cmp_total.antisymm b a) e;
  equal = λ a b e f. slice_cmp-IsAntisymmetric nat_cmp-IsAntisymmetric a b (tie (order a b) (order b a) (nat_list_cmp_total.antisymm a b) e f);
  through = λ a b y e f. past_both a b y (order y a) (nat_list_cmp_total.antisymm a y) e f;
}

less-strings : (s t : List ℕ) → less (value.Str s) (value.Str t) ≡ below s t
less-strings s t = ap (λ l. less_at l (out-Value (value.Str t))) (value.outs-Str s) ∙ ap (less_at (Value-F.Str s)) (value.outs-Str t)

put : (c : Bool) (s t : List ℕ) (l : List Value) (m ts : List (List ℕ)) → l ≡ map value.Str m
    → cond c (value.Str t ∷ l) (value.Str s ∷ value.Str t ∷ map value.Str ts) ≡ map value.Str (cond c (t ∷ m) (s ∷ t ∷ ts))
put true s t l m ts e = ap (λ k. value.Str t ∷ k) e
put false s t l m ts e = refl

insert-strings : (s : List ℕ) (ts : List (List ℕ)) → insert less (value.Str s) (map value.Str ts) ≡ map value.Str (insert below s ts)
insert-strings s [] = refl
insert-strings s (t ∷ ts) =
    ap (λ c. cond c (value.Str t ∷ insert less (value.Str s) (map value.Str ts)) (value.Str s ∷ value.Str t ∷ map value.Str ts)) (less-strings t s)
    ∙ put (below t s) s t (insert less (value.Str s) (map value.Str ts)) (insert below s ts) ts (insert-strings s ts)

sorted-strings : (ts : List (List ℕ)) → sorted less (map value.Str ts) ≡ map value.Str (sorted below ts)
sorted-strings [] = refl
sorted-strings (t ∷ ts) = ap (insert less (value.Str t)) (sorted-strings ts) ∙ insert-strings t (sorted below ts)

strings : (vs : List Value) → AreTexts vs → map value.Str (map text vs) ≡ vs
strings [] p = refl
strings (v ∷ vs) p = ap (λ w. w ∷ map value.Str (map text vs)) (sym (All-head IsText v vs p)) ∙ ap (λ l. v ∷ l) (strings vs (All-tail IsText v vs p))

ascending : (ws : List Value) → IsSortedBy (λ v w. below (text v) (text w)) ws → IsAscending below (map text ws)
ascending ws up k d lt =
    let n : length (map text ws) ≡ length ws = length-map ws text in
    let e = value.Bool false in
    let one : k + 1 ≡ suc k = omega arith in
    let high = get_mapped text ws (suc k) d e (omega arith) in
    let low = get_mapped text ws k d e (omega arith) in
    let next : below (text (get_or ws (suc k) e)) (text (get_or ws k e)) ≡ false = subst (λ j. below (text (get_or ws j e)) (text (get_or ws k e)) ≡ false) one (up k e (omega arith) (omega arith)) in
    ap (λ s. below s (get_or (map text ws) k d)) high ∙ ap (below (text (get_or ws (suc k) e))) low ∙ next

-- strings that are ascending by their bytes, and the same as before, are these in order
pub sorted_strings : (vs ws : List Value) → AreTexts vs → IsPermutation vs ws → IsSortedBy (λ v w. below (text v) (text w)) ws → ws ≡ sorted less vs
sorted_strings vs ws are p up =
    let e = is_sorted below text_order (map text vs) (map text ws) (IsPermutation-map text vs ws p) (ascending ws up) in
    sym (strings ws (All-permutation IsText vs ws p are)) ∙ ap (map value.Str) e ∙ sym (sorted-strings (map text vs)) ∙ ap (sorted less) (strings vs are)
