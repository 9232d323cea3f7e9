-- What it means that a case misses no number: each number of the type is in a branch.
use Rattle.std.proofs.Common.{◌≡◌, ℕ, ℤ, zero, suc, pos, ◌+ℤ◌, ◌-ℤ◌, ◌&&◌, ◌||◌, not, Bool, true, false, List, [], ◌∷◌, ◌++◌, refl, ap, sym, subst, ◌∙◌, arith}
use Rattle.std.specs.Prelude.{int_le, int_lt}
use Rattle.std.specs.Int.{int_gap}
use Rattle.std.specs.List.{list_any}
use Rattle.std.proofs.lemmas.Int.{ints}
use Rattle.std.proofs.lemmas.Bool.Decides.{Decides-int_eq}
use Rattle.g_diagram.specs.declared.node.Selector.{Selector}
use Rattle.g_diagram.specs.declared.node.Selector.TheVariants as selector
use Rattle.g_types.specs.declared.rep.Rep.{Rep}
use Rattle.g_types.specs.Rep.{half, size}
use Rattle.g_rules_cases.specs.Held.{is_in_range, has_number}
use Rattle.g_rules_cases.specs.Searched.{after, afters, least, is_left, misses_number}

last_of : (low high m : ℤ) → (int_le low m && int_le m high) ≡ true → (int_le low (m +ℤ pos 1) && int_le (m +ℤ pos 1) high) ≡ false → m +ℤ pos 1 ≡ high +ℤ pos 1
last_of low high m e f = grind (arith, ints)

or_left : (a : Bool) → a ≡ true → (a || false) ≡ true
or_left true e = refl
or_left false e = e

next_after : (p : ℤ → Bool) (m : ℤ) (s : Selector) → has_number m s ≡ true → has_number (m +ℤ pos 1) s ≡ false → p (m +ℤ pos 1) ≡ true → list_any p (after s) ≡ true
next_after p m (selector.Number x) e f h = or_left (p (x +ℤ pos 1)) (ap (λ y. p (y +ℤ pos 1)) (sym ((Decides-int_eq m x).0 e)) ∙ h)
next_after p m (selector.Range low high) e f h = or_left (p (high +ℤ pos 1)) (ap p (sym (last_of low high m e f)) ∙ h)
next_after p m (selector.Truth b) e f h = cc
next_after p m (selector.Text s) e f h = cc
next_after p m selector.Default e f h = cc

or_assoc : (a b c : Bool) → (a || (b || c)) ≡ ((a || b) || c)
or_assoc true b c = refl
or_assoc false b c = refl

any_append : {X : Type 0} (p : X → Bool) (xs ys : List X) → list_any p (xs ++ ys) ≡ (list_any p xs || list_any p ys)
any_append p [] ys = refl
any_append p (x ∷ xs) ys = ap (λ b. p x || b) (any_append p xs ys) ∙ or_assoc (p x) (list_any p xs) (list_any p ys)

or_first : (a b : Bool) → a ≡ true → (a || b) ≡ true
or_first true b e = refl
or_first false b e = cc

or_second : (a b : Bool) → b ≡ true → (a || b) ≡ true
or_second true b e = refl
or_second false b e = e

none_first : (a b : Bool) → (a || b) ≡ false → a ≡ false
none_first true b e = e
none_first false b e = refl

none_second : (a b : Bool) → (a || b) ≡ false → b ≡ false
none_second true b e = cc
none_second false b e = e

split : (p : ℤ → Bool) (m : ℤ) (s : Selector) (ss : List Selector) (b : Bool) → has_number m s ≡ b → (b || list_any (has_number m) ss) ≡ true
    → list_any (has_number (m +ℤ pos 1)) (s ∷ ss) ≡ false → p (m +ℤ pos 1) ≡ true
    → (list_any (has_number m) ss ≡ true → list_any (has_number (m +ℤ pos 1)) ss ≡ false → list_any p (afters ss) ≡ true) → list_any p (after s ++ afters ss) ≡ true
split p m s ss true is e f h more =
    any_append p (after s) (afters ss)
    ∙ or_first (list_any p (after s)) (list_any p (afters ss)) (next_after p m s is (none_first (has_number (m +ℤ pos 1) s) (list_any (has_number (m +ℤ pos 1)) ss) f) h)
split p m s ss false is e f h more =
    any_append p (after s) (afters ss)
    ∙ or_second (list_any p (after s)) (list_any p (afters ss)) (more e (none_second (has_number (m +ℤ pos 1) s) (list_any (has_number (m +ℤ pos 1)) ss) f))

-- a number in no branch whose predecessor is in one stands after a selector
next_left : (p : ℤ → Bool) (m : ℤ) (ss : List Selector) → list_any (has_number m) ss ≡ true → list_any (has_number (m +ℤ pos 1)) ss ≡ false → p (m +ℤ pos 1) ≡ true → list_any p (afters ss) ≡ true
next_left p m [] e f h = cc
next_left p m (s ∷ ss) e f h = split p m s ss (has_number m s) refl e f h (λ e' f'. next_left p m ss e' f' h)

-- numbers from lo on and below hi
abbrev within : (lo hi : ℤ) → ℤ → Bool
within lo hi n = int_le lo n && int_lt n hi

abbrev left_in : (lo hi : ℤ) → List Selector → ℤ → Bool
left_in lo hi ss n = within lo hi n && not (list_any (has_number n) ss)

both : (a b : Bool) → a ≡ true → b ≡ false → (a && not b) ≡ true
both true false e f = refl
both true true e f = cc
both false b e f = cc

below : (lo hi : ℤ) (k : ℕ) → within lo hi ((lo +ℤ pos k) +ℤ pos 1) ≡ true → within lo hi (lo +ℤ pos k) ≡ true
below lo hi k e = grind (arith, ints)

first : (lo : ℤ) → lo +ℤ pos 0 ≡ lo
first lo = omega (arith, ints)

next : (lo : ℤ) (k : ℕ) → lo +ℤ pos (suc k) ≡ (lo +ℤ pos k) +ℤ pos 1
next lo k = omega (arith, ints)

step : (lo hi : ℤ) (ss : List Selector) (k : ℕ) (b : Bool) → list_any (has_number (lo +ℤ pos k)) ss ≡ b → within lo hi ((lo +ℤ pos k) +ℤ pos 1) ≡ true → list_any (has_number ((lo +ℤ pos k) +ℤ pos 1)) ss ≡ false
    → (list_any (has_number (lo +ℤ pos k)) ss ≡ false → list_any (left_in lo hi ss) (lo ∷ afters ss) ≡ true) → list_any (left_in lo hi ss) (lo ∷ afters ss) ≡ true
step lo hi ss k true is e f more =
    or_second (left_in lo hi ss lo) (list_any (left_in lo hi ss) (afters ss))
    (next_left (left_in lo hi ss) (lo +ℤ pos k) ss is f (both (within lo hi ((lo +ℤ pos k) +ℤ pos 1)) (list_any (has_number ((lo +ℤ pos k) +ℤ pos 1)) ss) e f))
step lo hi ss k false is e f more = more is

climb : (lo hi : ℤ) (ss : List Selector) (k : ℕ) → within lo hi (lo +ℤ pos k) ≡ true → list_any (has_number (lo +ℤ pos k)) ss ≡ false → list_any (left_in lo hi ss) (lo ∷ afters ss) ≡ true
climb lo hi ss zero e f =
    or_first (left_in lo hi ss lo) (list_any (left_in lo hi ss) (afters ss))
    (subst (λ (n : ℤ). left_in lo hi ss n ≡ true) (first lo) (both (within lo hi (lo +ℤ pos 0)) (list_any (has_number (lo +ℤ pos 0)) ss) e f))
climb lo hi ss (suc k) e f =
    let e' : within lo hi ((lo +ℤ pos k) +ℤ pos 1) ≡ true = subst (λ (n : ℤ). within lo hi n ≡ true) (next lo k) e in
    let f' : list_any (has_number ((lo +ℤ pos k) +ℤ pos 1)) ss ≡ false = subst (λ (n : ℤ). list_any (has_number n) ss ≡ false) (next lo k) f in
    step lo hi ss k (list_any (has_number (lo +ℤ pos k)) ss) refl e' f' (λ g. climb lo hi ss k (below lo hi k e') g)

counted : (lo n : ℤ) → int_le lo n ≡ true → n ≡ lo +ℤ pos (int_gap lo n)
counted lo n e = grind (arith, ints)

both_left : (a b : Bool) → (a && b) ≡ true → a ≡ true
both_left true b e = refl
both_left false b e = e

both_right : (a b : Bool) → (a && b) ≡ true → b ≡ true
both_right true b e = e
both_right false b e = cc

was_false : (a : Bool) → not a ≡ true → a ≡ false
was_false true e = sym e
was_false false e = refl

-- a number of the type that is in no branch is missed
pub missed : (r : Rep) (ss : List Selector) (n : ℤ) → is_in_range r n ≡ true → list_any (has_number n) ss ≡ false → misses_number r ss ≡ true
missed r ss n e f =
    let lo : ℤ = least r in
    let hi : ℤ = pos (size r) -ℤ pos (half r) in
    let is : n ≡ lo +ℤ pos (int_gap lo n) = counted lo n (both_left (int_le lo n) (int_lt n hi) e) in
    climb lo hi ss (int_gap lo n) (subst (λ (m : ℤ). within lo hi m ≡ true) is e) (subst (λ (m : ℤ). list_any (has_number m) ss ≡ false) is f)

-- a number of the type that is in no branch
pub record Left (r : Rep) (ss : List Selector) : Type 0 where
  pub number : ℤ
  pub in_range : is_in_range r number ≡ true
  pub left : list_any (has_number number) ss ≡ false

left_from : (r : Rep) (ss : List Selector) (n : ℤ) → is_left r ss n ≡ true → Left r ss
left_from r ss n e = record {
  number = n;
  in_range = both_left (is_in_range r n) (not (list_any (has_number n) ss)) e;
  left = was_false (list_any (has_number n) ss) (both_right (is_in_range r n) (not (list_any (has_number n) ss)) e);
}

either : (r : Rep) (ss : List Selector) (n : ℤ) (b rest : Bool) → is_left r ss n ≡ b → (b || rest) ≡ true → (rest ≡ true → Left r ss) → Left r ss
either r ss n true rest is e more = left_from r ss n is
either r ss n false rest is e more = more e

some_left : (r : Rep) (ss : List Selector) (ns : List ℤ) → list_any (is_left r ss) ns ≡ true → Left r ss
some_left r ss [] e = absurd (cc e)
some_left r ss (n ∷ ns) e = either r ss n (is_left r ss n) (list_any (is_left r ss) ns) refl e (some_left r ss ns)

-- and only such a number is: a case covers its type exactly where each number of it is in a branch
pub only_missed : (r : Rep) (ss : List Selector) → misses_number r ss ≡ true → Left r ss
only_missed r ss e = some_left r ss (least r ∷ afters ss) e
