-- Ranges and references of values, by the variants.
use Rattle.std.proofs.Common.{◌≡◌, ℕ, ◌+◌, ◌-◌, ◌<◌, Bool, true, false, List, [], ◌∷◌, length, map, take, get_or, ℤ, pos, neg_ℤ, ◌≤ℤ◌, ◌<ℤ◌, ◌-ℤ◌, T, zero, suc, refl, sym, ap, ◌∙◌, arith}
use Rattle.std.specs.Prelude.{is_none}
use Rattle.std.specs.List.{list_all}
use Rattle.std.specs.Int.Signed.{le_z}
use Rattle.std.proofs.lemmas.Bool.Decides.{nat_tests}
use Rattle.std.proofs.lemmas.Int.{ints}
use Rattle.std.proofs.lemmas.List.Folds.{list_all-map, list_all_more}
use Rattle.g_types.specs.declared.rep.Rep.{Rep}
use Rattle.g_types.specs.Rep.{size, half, InRange}
use Rattle.g_values.specs.declared.value.ArrOf.{ArrOf}
use Rattle.g_values.specs.declared.value.RefValue.{RefValue}
use Rattle.g_values.specs.declared.num.Num.{Num}
use Rattle.g_values.specs.declared.value.Value.{Value}
use Rattle.g_values.specs.declared.value.Value.TheVariants as value
use Rattle.g_values.specs.declared.value.Value.TheOpen.{Value-F}
use Rattle.g_values.specs.declared.value.Value.TheFolds.{fold-roll-Value}
use Rattle.g_values.specs.Number.{wrap-in_range}
use Rattle.g_values.specs.Numbers.{Numbers, number}
use Rattle.g_valtext.specs.Plain.{is_byte, is_ranged, ranged_step, refers_to_none, null_step}
use Rattle.g_valtext.specs.Spellings.{is_within}
use Rattle.g_valtext.proofs.Ranges.{half_below}

pub ranged-Num : (x : Num) → is_ranged (value.Num x) ≡ true
ranged-Num x = ap is_ranged (sym (value.rolls-Num x)) ∙ fold-roll-Value Bool ranged_step (Value-F.Num x)

pub ranged-Bool : (b : Bool) → is_ranged (value.Bool b) ≡ true
ranged-Bool b = ap is_ranged (sym (value.rolls-Bool b)) ∙ fold-roll-Value Bool ranged_step (Value-F.Bool b)

pub ranged-Str : (s : List ℕ) → is_ranged (value.Str s) ≡ list_all is_byte s
ranged-Str s = ap is_ranged (sym (value.rolls-Str s)) ∙ fold-roll-Value Bool ranged_step (Value-F.Str s)

pub ranged-Nums : (xs : Numbers) → is_ranged (value.Nums xs) ≡ list_all (is_within xs.rep) xs.all
ranged-Nums xs = ap is_ranged (sym (value.rolls-Nums xs)) ∙ fold-roll-Value Bool ranged_step (Value-F.Nums xs)

pub ranged-Arr : (xs : ArrOf Value) → is_ranged (value.Arr xs) ≡ list_all is_ranged xs.items
ranged-Arr xs = ap is_ranged (sym (value.rolls-Arr xs)) ∙ fold-roll-Value Bool ranged_step (Value-F.Arr xs) ∙ list_all-map (λ b. b) is_ranged xs.items

pub ranged-Cluster : (vs : List Value) → is_ranged (value.Cluster vs) ≡ list_all is_ranged vs
ranged-Cluster vs = ap is_ranged (sym (value.rolls-Cluster vs)) ∙ fold-roll-Value Bool ranged_step (Value-F.Cluster vs) ∙ list_all-map (λ b. b) is_ranged vs

pub ranged-Queue : (r : RefValue) → is_ranged (value.Queue r) ≡ true
ranged-Queue r = ap is_ranged (sym (value.rolls-Queue r)) ∙ fold-roll-Value Bool ranged_step (Value-F.Queue r)

pub ranged-Cell : (r : RefValue) → is_ranged (value.Cell r) ≡ true
ranged-Cell r = ap is_ranged (sym (value.rolls-Cell r)) ∙ fold-roll-Value Bool ranged_step (Value-F.Cell r)

pub ruleset rangeds = (ranged-Num, ranged-Bool, ranged-Str, ranged-Nums, ranged-Arr, ranged-Cluster, ranged-Queue, ranged-Cell)

pub null-Arr : (xs : ArrOf Value) → refers_to_none (value.Arr xs) ≡ list_all refers_to_none xs.items
null-Arr xs = ap refers_to_none (sym (value.rolls-Arr xs)) ∙ fold-roll-Value Bool null_step (Value-F.Arr xs) ∙ list_all-map (λ b. b) refers_to_none xs.items

pub null-Cluster : (vs : List Value) → refers_to_none (value.Cluster vs) ≡ list_all refers_to_none vs
null-Cluster vs = ap refers_to_none (sym (value.rolls-Cluster vs)) ∙ fold-roll-Value Bool null_step (Value-F.Cluster vs) ∙ list_all-map (λ b. b) refers_to_none vs

pub null-Queue : (r : RefValue) → refers_to_none (value.Queue r) ≡ is_none r.at
null-Queue r = ap refers_to_none (sym (value.rolls-Queue r)) ∙ fold-roll-Value Bool null_step (Value-F.Queue r)

pub null-Cell : (r : RefValue) → refers_to_none (value.Cell r) ≡ is_none r.at
null-Cell r = ap refers_to_none (sym (value.rolls-Cell r)) ∙ fold-roll-Value Bool null_step (Value-F.Cell r)

-- ---- bytes and numbers

fits_byte : (b : ℕ) → b < 256 → is_byte b ≡ true
fits_byte b h = grind (arith, nat_tests)

pub bytes_fit : (bytes : List ℕ) → ((i : ℕ) → i < length bytes → get_or bytes i 0 < 256) → list_all is_byte bytes ≡ true
bytes_fit [] h = refl
bytes_fit (b ∷ bytes) h = rw (fits_byte b (h zero (omega arith)), bytes_fit bytes (λ i below. h (suc i) (omega arith))) refl

t_true : (b : Bool) → T b → b ≡ true
t_true true h = refl
t_true false h = absurd h

upper : (n : ℤ) (s h : ℕ) → h < s → n <ℤ (pos s -ℤ pos h) → n ≤ℤ pos (s - h - 1)
upper n s h lt high = omega (arith, ints)

pub within : (r : Rep) (n : ℤ) → InRange r n → is_within r n ≡ true
within r n i =
    let low : le_z (neg_ℤ (pos (half r))) n ≡ true = t_true _ (i.low).le in
    let high : le_z n (pos (size r - half r - 1)) ≡ true = t_true _ (upper n (size r) (half r) (half_below r) i.high).le in
    rw (low, high) refl

pub words_fit : (r : Rep) (words : List ℕ) → list_all (is_within r) (map (number r) words) ≡ true
words_fit r [] = refl
words_fit r (w ∷ words) = rw (within r (number r w) (wrap-in_range r (pos w)), words_fit r words) refl

-- one more value
pub ranged_more : (items : List Value) (i : ℕ) (d : Value) → i < length items → list_all is_ranged (take i items) ≡ true → is_ranged (get_or items i d) ≡ true → list_all is_ranged (take (i + 1) items) ≡ true
ranged_more items i d below all one = list_all_more is_ranged items i d below ∙ rw (all, one) refl
