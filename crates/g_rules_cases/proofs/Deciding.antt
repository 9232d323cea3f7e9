-- Either some value of a type is held by no selector, or none is: the search tells which.
use Rattle.std.proofs.Common.{◌≡◌, ◌⊎◌, inl, inr, ℕ, suc, ℤ, pos, neg_ℤ, ◌+◌, ◌<◌, ◌-ℤ◌, ◌≤ℤ◌, ◌<ℤ◌, ◌&&◌, ◌||◌, not, Bool, true, false, List, [], ◌∷◌, map, length, replicate, refl, ap, sym, ◌∙◌, subst, arith}
use Rattle.std.specs.Prelude.{int_le, int_lt}
use Rattle.std.specs.List.{list_any}
use Rattle.std.specs.Str.{bytes_eq}
use Rattle.std.proofs.lemmas.Int.{ints}
use Rattle.std.proofs.lemmas.List.{length-replicate}
use Rattle.std.proofs.lemmas.Slice.Eq.{bytes_eq-Decides}
use Rattle.g_types.specs.declared.rep.Rep.{Rep}
use Rattle.g_types.specs.Rep.{half, size, InRange}
use Rattle.g_types.specs.declared.ty.Ty.{Ty, out-Ty}
use Rattle.g_types.specs.declared.ty.Ty.TheOpen.{Ty-F}
use Rattle.g_types.specs.declared.ty.Ty.TheVariants as ty
use Rattle.g_types.specs.declared.ty.Ty.TheViews.{roll-Ty, roll-out-Ty}
use Rattle.g_values.specs.Value.{type_of}
use Rattle.g_values.specs.Default.{default}
use Rattle.g_values.specs.declared.num.Num.{Num}
use Rattle.g_values.specs.declared.value.Value.{Value, out-Value}
use Rattle.g_values.specs.declared.value.Value.TheOpen.{Value-F}
use Rattle.g_values.specs.declared.value.Value.TheVariants as value
use Rattle.g_values.specs.declared.value.Value.TheViews.{roll-Value, roll-out-Value}
use Rattle.g_values.proofs.DefaultValues.{type-default}
use Rattle.g_values.proofs.TypesOf.{type-Num, type-Bool, type-Str, type-Nums, type-Arr, type-Cluster, type-Queue, type-Cell}
use Rattle.g_diagram.specs.declared.node.Selector.{Selector}
use Rattle.g_diagram.specs.declared.node.Selector.TheVariants as selector
use Rattle.g_rules_cases.specs.Held.{is_in_range, is_default, tells, has_text, names_at, holds, Unheld}
use Rattle.g_rules_cases.specs.Searched.{misses_number, covers_at, covers, leaves_none}
use Rattle.g_rules_cases.proofs.Covering.{Left, missed, only_missed}

-- the outermost level of a value's type

abbrev level_at : Value-F Value → Ty-F Ty
level_at (Value-F.Num x) = Ty-F.Num x.rep
level_at (Value-F.Bool b) = Ty-F.Bool
level_at (Value-F.Str s) = Ty-F.Str
level_at (Value-F.Nums xs) = Ty-F.Arr (ty.Num xs.rep)
level_at (Value-F.Arr xs) = Ty-F.Arr xs.elem
level_at (Value-F.Cluster vs) = Ty-F.Cluster (map type_of vs)
level_at (Value-F.Queue r) = Ty-F.QueueRef r.elem
level_at (Value-F.Cell r) = Ty-F.ValueRef r.elem

level_rolled : (l : Value-F Value) → out-Ty (type_of (roll-Value l)) ≡ level_at l
level_rolled (Value-F.Num x) = ap out-Ty (ap type_of (value.rolls-Num x) ∙ type-Num x) ∙ ty.outs-Num x.rep
level_rolled (Value-F.Bool x) = ap out-Ty (ap type_of (value.rolls-Bool x) ∙ type-Bool x) ∙ ty.outs-Bool
level_rolled (Value-F.Str x) = ap out-Ty (ap type_of (value.rolls-Str x) ∙ type-Str x) ∙ ty.outs-Str
level_rolled (Value-F.Nums x) = ap out-Ty (ap type_of (value.rolls-Nums x) ∙ type-Nums x) ∙ ty.outs-Arr (ty.Num x.rep)
level_rolled (Value-F.Arr x) = ap out-Ty (ap type_of (value.rolls-Arr x) ∙ type-Arr x) ∙ ty.outs-Arr x.elem
level_rolled (Value-F.Cluster x) = ap out-Ty (ap type_of (value.rolls-Cluster x) ∙ type-Cluster x) ∙ ty.outs-Cluster (map type_of x)
level_rolled (Value-F.Queue x) = ap out-Ty (ap type_of (value.rolls-Queue x) ∙ type-Queue x) ∙ ty.outs-QueueRef x.elem
level_rolled (Value-F.Cell x) = ap out-Ty (ap type_of (value.rolls-Cell x) ∙ type-Cell x) ∙ ty.outs-ValueRef x.elem

level_is : (v : Value) (t : Ty) → type_of v ≡ t → out-Ty t ≡ level_at (out-Value v)
level_is v t e = ap out-Ty (sym e ∙ ap type_of (sym (roll-out-Value v))) ∙ level_rolled (out-Value v)

-- Boolean facts

none_first : (a b : Bool) → (a || b) ≡ false → a ≡ false
none_first true b e = e
none_first false b e = refl

none_second : (a b : Bool) → (a || b) ≡ false → b ≡ false
none_second true b e = cc
none_second false b e = e

second : (a b : Bool) → (a || b) ≡ true → a ≡ false → b ≡ true
second true b e f = cc
second false b e f = e

exchange : (a b c d : Bool) → ((a || b) || (c || d)) ≡ ((a || c) || (b || d))
exchange true b c d = refl
exchange false true true d = refl
exchange false true false d = refl
exchange false false c d = refl

any_or : (p q : Selector → Bool) (ss : List Selector) → list_any (λ s. p s || q s) ss ≡ (list_any p ss || list_any q ss)
any_or p q [] = refl
any_or p q (s ∷ ss) = ap (λ b. (p s || q s) || b) (any_or p q ss) ∙ exchange (p s) (q s) (list_any p ss) (list_any q ss)

held : (v : Value) (ss : List Selector) → list_any (holds v) ss ≡ (list_any is_default ss || list_any (names_at (out-Value v)) ss)
held v ss = any_or is_default (names_at (out-Value v)) ss

-- all are held

was_not : (a : Bool) → not a ≡ true → a ≡ false
was_not true e = sym e
was_not false e = refl

both_first : (a b : Bool) → (a && b) ≡ true → a ≡ true
both_first true b e = refl
both_first false b e = e

both_second : (a b : Bool) → (a && b) ≡ true → b ≡ true
both_second true b e = e
both_second false b e = cc

in_range : (r : Rep) (n : ℤ) → InRange r n → is_in_range r n ≡ true
in_range r n h = by_ends (neg_ℤ (pos (half r))) n (pos (size r) -ℤ pos (half r)) h.low h.high
  where
    by_ends : (low n past : ℤ) → low ≤ℤ n → n <ℤ past → (int_le low n && int_lt n past) ≡ true
    by_ends low n past h g = grind (arith, ints)

clash : (b : Bool) → b ≡ true → b ≡ false → ⊥
clash b e f = absurd (let x : true ≡ false = sym e ∙ f in cc x)

truth_told : (b : Bool) (ss : List Selector) → (list_any (tells true) ss && list_any (tells false) ss) ≡ true → list_any (tells b) ss ≡ true
truth_told true ss e = both_first (list_any (tells true) ss) (list_any (tells false) ss) e
truth_told false ss e = both_second (list_any (tells true) ss) (list_any (tells false) ss) e

named : (l : Value-F Value) (ss : List Selector) → covers_at (level_at l) ss ≡ true → list_any (names_at l) ss ≡ false → ⊥
named (Value-F.Num x) ss e f = clash (misses_number x.rep ss) (missed x.rep ss x.n (in_range x.rep x.n x.in_range) f) (was_not (misses_number x.rep ss) e)
named (Value-F.Bool b) ss e f = clash (list_any (tells b) ss) (truth_told b ss e) f
named (Value-F.Str s) ss e f = absurd (cc e)
named (Value-F.Nums xs) ss e f = absurd (cc e)
named (Value-F.Arr xs) ss e f = absurd (cc e)
named (Value-F.Cluster vs) ss e f = absurd (cc e)
named (Value-F.Queue r) ss e f = absurd (cc e)
named (Value-F.Cell r) ss e f = absurd (cc e)

pub all_held : (t : Ty) (ss : List Selector) → leaves_none ss t ≡ true → Unheld t ss → ⊥
all_held t ss e u =
    let l : Value-F Value = out-Value u.value in
    let none : (list_any is_default ss || list_any (names_at l) ss) ≡ false = sym (held u.value ss) ∙ u.held_by_none in
    let covered : covers ss t ≡ true = second (list_any is_default ss) (covers ss t) e (none_first (list_any is_default ss) (list_any (names_at l) ss) none) in
    named l ss (subst (λ (k : Ty-F Ty). covers_at k ss ≡ true) (level_is u.value t u.of_type) covered)
    (none_second (list_any is_default ss) (list_any (names_at l) ss) none)

-- some is held by none

unheld : (t : Ty) (ss : List Selector) (v : Value) (l : Value-F Value) → list_any is_default ss ≡ false → type_of v ≡ t → out-Value v ≡ l → list_any (names_at l) ss ≡ false → Unheld t ss
unheld t ss v l e of_type level none = record {
  value = v;
  of_type = of_type;
  held_by_none = held v ss ∙ ap (λ b. b || list_any (names_at (out-Value v)) ss) e ∙ ap (λ (k : Value-F Value). list_any (names_at k) ss) level ∙ none;
}

rolled : (t : Ty) (k : Ty-F Ty) → out-Ty t ≡ k → roll-Ty k ≡ t
rolled t k e = ap roll-Ty (sym e) ∙ roll-out-Ty t

ranged : (r : Rep) (n : ℤ) → is_in_range r n ≡ true → InRange r n
ranged r n e = record { low = low (neg_ℤ (pos (half r))) n (int_lt n (pos (size r) -ℤ pos (half r))) e; high = high n (pos (size r) -ℤ pos (half r)) (int_le (neg_ℤ (pos (half r))) n) e }
  where
    low : (a n : ℤ) (b : Bool) → (int_le a n && b) ≡ true → a ≤ℤ n
    low a n b e = grind (arith, ints)

    high : (n b : ℤ) (a : Bool) → (a && int_lt n b) ≡ true → n <ℤ b
    high n b a e = grind (arith, ints)

was : (a : Bool) → not a ≡ false → a ≡ true
was true e = refl
was false e = sym e

number_left : (t : Ty) (r : Rep) (ss : List Selector) → out-Ty t ≡ Ty-F.Num r → list_any is_default ss ≡ false → Left r ss → Unheld t ss
number_left t r ss e d left =
    let x : Num = record { rep = r; n = left.number; in_range = ranged r left.number left.in_range } in
    unheld t ss (value.Num x) (Value-F.Num x) d (type-Num x ∙ sym (ty.rolls-Num r) ∙ rolled t (Ty-F.Num r) e) (value.outs-Num x) left.left

truth_left : (t : Ty) (ss : List Selector) (b : Bool) → out-Ty t ≡ Ty-F.Bool → list_any is_default ss ≡ false → list_any (tells b) ss ≡ false → Unheld t ss
truth_left t ss b e d none = unheld t ss (value.Bool b) (Value-F.Bool b) d (type-Bool b ∙ sym ty.rolls-Bool ∙ rolled t Ty-F.Bool e) (value.outs-Bool b) none

one_truth : (t : Ty) (ss : List Selector) (b : Bool) → out-Ty t ≡ Ty-F.Bool → list_any is_default ss ≡ false → list_any (tells true) ss ≡ b
    → (b && list_any (tells false) ss) ≡ false → Unheld t ss
one_truth t ss true e d told none = truth_left t ss false e d none
one_truth t ss false e d told none = truth_left t ss true e d told

-- a text longer than each that is named

abbrev length_at : Selector → ℕ
length_at (selector.Text t) = length t
length_at (selector.Number m) = 0
length_at (selector.Range low high) = 0
length_at (selector.Truth b) = 0
length_at selector.Default = 0

abbrev lengths : List Selector → ℕ
lengths [] = 0
lengths (s ∷ ss) = length_at s + lengths ss

unlike : (u t : List ℕ) (b : Bool) → length t < length u → bytes_eq u t ≡ b → b ≡ false
unlike u t false lt e = refl
unlike u t true lt e = absurd (let same : length u ≡ length t = ap length ((bytes_eq-Decides u t).0 e) in omega (arith, lt, same))

long : (u : List ℕ) (s : Selector) → length_at s < length u → has_text u s ≡ false
long u (selector.Text t) lt = unlike u t (bytes_eq u t) lt refl
long u (selector.Number m) lt = refl
long u (selector.Range low high) lt = refl
long u (selector.Truth b) lt = refl
long u selector.Default lt = refl

neither : (a b : Bool) → a ≡ false → b ≡ false → (a || b) ≡ false
neither true b e f = e
neither false b e f = f

no_text : (u : List ℕ) (ss : List Selector) → lengths ss < length u → list_any (has_text u) ss ≡ false
no_text u [] lt = refl
no_text u (s ∷ ss) lt = neither (has_text u s) (list_any (has_text u) ss) (long u s (omega (arith, lt))) (no_text u ss (omega (arith, lt)))

text_left : (t : Ty) (ss : List Selector) → out-Ty t ≡ Ty-F.Str → list_any is_default ss ≡ false → Unheld t ss
text_left t ss e d =
    let u : List ℕ = replicate (suc (lengths ss)) 0 in
    let long : length u ≡ suc (lengths ss) = length-replicate (suc (lengths ss)) 0 in
    unheld t ss (value.Str u) (Value-F.Str u) d (type-Str u ∙ sym ty.rolls-Str ∙ rolled t Ty-F.Str e) (value.outs-Str u) (no_text u ss (omega (arith, long)))

-- a value of another type

none_named : (ss : List Selector) → list_any (λ s. false) ss ≡ false
none_named [] = refl
none_named (s ∷ ss) = none_named ss

abbrev IsOther : Ty-F Ty → Type 0
IsOther (Ty-F.Num r) = ⊥
IsOther Ty-F.Bool = ⊥
IsOther Ty-F.Str = ⊥
IsOther _ = Unit {0}

unnamed : (l : Value-F Value) (ss : List Selector) → IsOther (level_at l) → list_any (names_at l) ss ≡ false
unnamed (Value-F.Num x) ss other = absurd other
unnamed (Value-F.Bool b) ss other = absurd other
unnamed (Value-F.Str s) ss other = absurd other
unnamed (Value-F.Nums xs) ss other = none_named ss
unnamed (Value-F.Arr xs) ss other = none_named ss
unnamed (Value-F.Cluster vs) ss other = none_named ss
unnamed (Value-F.Queue r) ss other = none_named ss
unnamed (Value-F.Cell r) ss other = none_named ss

other_left : (t : Ty) (k : Ty-F Ty) (ss : List Selector) → out-Ty t ≡ k → IsOther k → list_any is_default ss ≡ false → Unheld t ss
other_left t k ss e other d =
    unheld t ss (default t) (out-Value (default t)) d (type-default t) refl
    (unnamed (out-Value (default t)) ss (subst IsOther (sym e ∙ level_is (default t) t (type-default t)) other))

left_at : (t : Ty) (k : Ty-F Ty) (ss : List Selector) → out-Ty t ≡ k → list_any is_default ss ≡ false → covers_at k ss ≡ false → Unheld t ss
left_at t (Ty-F.Num r) ss e d f = number_left t r ss e d (only_missed r ss (was (misses_number r ss) f))
left_at t Ty-F.Bool ss e d f = one_truth t ss (list_any (tells true) ss) e d refl f
left_at t Ty-F.Str ss e d f = text_left t ss e d
left_at t (Ty-F.Arr u) ss e d f = other_left t (Ty-F.Arr u) ss e tt d
left_at t (Ty-F.Cluster us) ss e d f = other_left t (Ty-F.Cluster us) ss e tt d
left_at t (Ty-F.QueueRef u) ss e d f = other_left t (Ty-F.QueueRef u) ss e tt d
left_at t (Ty-F.ValueRef u) ss e d f = other_left t (Ty-F.ValueRef u) ss e tt d

pub some_left : (t : Ty) (ss : List Selector) → leaves_none ss t ≡ false → Unheld t ss
some_left t ss e = left_at t (out-Ty t) ss refl (none_first (list_any is_default ss) (covers ss t) e) (none_second (list_any is_default ss) (covers ss t) e)

-- the search decides

abbrev pub by_search : (t : Ty) (ss : List Selector) (b : Bool) → leaves_none ss t ≡ b → Unheld t ss ⊎ (Unheld t ss → ⊥)
by_search t ss true e = inr (all_held t ss e)
by_search t ss false e = inl (some_left t ss e)

abbrev pub unheld_or_none : (t : Ty) (ss : List Selector) → Unheld t ss ⊎ (Unheld t ss → ⊥)
unheld_or_none t ss = by_search t ss (leaves_none ss t) refl
