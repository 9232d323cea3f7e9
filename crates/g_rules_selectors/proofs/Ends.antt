-- Intervals by their low ends: what meets one of them, and what a change leaves.
use Rattle.std.proofs.Common.{◌≡◌, ◌⊎◌, inl, inr, ⊎_elim, ℕ, suc, ℤ, ◌≤ℤ◌, ◌<ℤ◌, Bool, true, false, cond, ◌||◌, List, true≢false, [], ◌∷◌, ◌++◌, refl, sym, ap, ◌∙◌, subst, arith}
use Rattle.std.specs.Prelude.{Option, Some, None, is_some, slice_get, unwrap_or}
use Rattle.std.specs.List.{list_any}
use Rattle.std.specs.Ordering.{int_cmp, is_eq, is_gt, is_lt}
use Rattle.std.specs.Cmp.{int_cmp_total}
use Rattle.std.specs.Int.Signed.{le_z}
use Rattle.std.specs.BTreeMap.{get, is_at, IsOrdered}
use Rattle.std.specs.BTreeMap.Range.{IsRangeOf}
use Rattle.std.specs.declared.ops.Bound.TheVariants.{Included, Unbounded}
use mir.Syntax.{w128}
use mir.Val.{SFits, to_z, of_z}
use Rattle.std.proofs.lemmas.Int.{ints, to_z-of_z}
use Rattle.std.proofs.lemmas.Map.Keys.{any_passes_from_place}
use Rattle.std.proofs.lemmas.Map.Entries.{place_from_lookup, btree_map_get_place}
use Rattle.g_rules_selectors.specs.declared.intervals.Interval.{Interval}
use Rattle.g_rules_selectors.specs.Clashes.{meet}
use Rattle.g_rules_selectors.specs.Taken.{Intervals, AreApart, IsLastFrom, Absorbs, Adds, meets_any, stands_at}
use Rattle.g_rules_selectors.proofs.Meeting.{same_bool, or_cases, or_left, or_right, or_assoc, Meet, meet_facts, meet_from, le_from, le_true, side}

-- an entry that passes a test
record Found {X : Type 0} (p : X → Bool) (xs : List X) : Type 0 where
  pub place : ℕ
  pub item : X
  pub at : slice_get xs place ≡ Some item
  pub passes : p item ≡ true

found : {X : Type 0} (p : X → Bool) (xs : List X) → list_any p xs ≡ true → Found p xs
found p [] h = cc
found p (x ∷ xs) h = ⊎_elim
    (λ e. record { place = 0; item = x; at = refl; passes = e })
    (λ e. let r : Found p xs = found p xs e in record { place = suc r.place; item = r.item; at = r.at; passes = r.passes })
    (or_cases (p x) (list_any p xs) h)

-- an interval of the map that meets another
pub record Met (m : Intervals) (a b : ℤ) : Type 0 where
  pub low : ℤ
  pub high : ℤ
  pub stands : stands_at m low high
  pub meets : meet a b low high ≡ true

pub met : (m : Intervals) (a b : ℤ) → IsOrdered int_cmp m → meets_any m a b ≡ true → Met m a b
met m a b ordered h =
    let r : Found (λ (e : ℤ × ℤ). meet a b e.0 e.1) m.entries = found (λ (e : ℤ × ℤ). meet a b e.0 e.1) m.entries h in
    record { low = r.item.0; high = r.item.1; stands = btree_map_get_place int_cmp_total m r.place r.item.0 r.item.1 ordered r.at; meets = r.passes }

same_key : (s k : ℤ) → is_eq (int_cmp s k) ≡ true → s ≡ k
same_key s k h = grind (arith, ints)

pub meets : (m : Intervals) (a b s e : ℤ) → stands_at m s e → meet a b s e ≡ true → meets_any m a b ≡ true
meets m a b s e is h =
    let r = place_from_lookup (is_at (int_cmp s)) m.entries e is in
    any_passes_from_place (λ (x : ℤ × ℤ). meet a b x.0 x.1) m.entries r.0 (r.1, e) r.2 (ap (λ x. meet a b x e) (sym (same_key s r.1 r.3)) ∙ h)

same_end : (m : Intervals) (s t e f : ℤ) → s ≡ t → stands_at m s e → stands_at m t f → e ≡ f
same_end m s t e f same h k = some (sym h ∙ ap (get int_cmp m) same ∙ k)
  where
    some : Some e ≡ Some f → e ≡ f
    some i = ap (λ o. unwrap_or o e) i

-- ---- where the last interval that begins at or below b ends
none_meets : (m : Intervals) (a b : ℤ) → AreApart m → IsLastFrom m b None → meets_any m a b ≡ true → true ≡ false
none_meets m a b apart none h =
    let r : Met m a b = met m a b apart.ordered h in
    let f : Meet a b r.low r.high = meet_facts a b r.low r.high r.meets in
    ap is_some (sym r.stands ∙ none r.low f.right)

pub none_from : (m : Intervals) (a b : ℤ) → AreApart m → IsLastFrom m b None → meets_any m a b ≡ false
none_from m a b apart none = same_bool (meets_any m a b) false (λ h. sym (none_meets m a b apart none h)) (λ h. absurd (true≢false (sym h)))

ends_past : (m : Intervals) (a b : ℤ) (i : Interval) → AreApart m → IsLastFrom m b (Some i) → meets_any m a b ≡ true → a ≤ℤ i.high
ends_past m a b i apart last h =
    let r : Met m a b = met m a b apart.ordered h in
    let f : Meet a b r.low r.high = meet_facts a b r.low r.high r.meets in
    let below : r.low ≤ℤ i.low = last.2 r.low f.right (ap is_some r.stands) in
    ⊎_elim
    (λ (up : i.low ≤ℤ r.low).
    let same : r.low ≡ i.low = antisym r.low i.low below up in
    subst (λ z. a ≤ℤ z) (same_end m r.low i.low r.high i.high same r.stands last.0) f.left)
    (λ (lt : r.low <ℤ i.low). chain a r.high i.low i.high f.left (apart.apart r.low r.high i.low i.high r.stands last.0 lt) (apart.rise i.low i.high last.0))
    (side i.low r.low)
  where
    antisym : (x y : ℤ) → x ≤ℤ y → y ≤ℤ x → x ≡ y
    antisym x y u v = omega (arith, ints)

    chain : (x y z w : ℤ) → x ≤ℤ y → y <ℤ z → z ≤ℤ w → x ≤ℤ w
    chain x y z w u v t = omega (arith, ints)

pub last_meets : (m : Intervals) (a b : ℤ) (i : Interval) → AreApart m → IsLastFrom m b (Some i) → a ≤ℤ b → le_z a i.high ≡ meets_any m a b
last_meets m a b i apart last rises = same_bool (le_z a i.high) (meets_any m a b)
    (λ h. meets m a b i.low i.high last.0 (meet_from a b i.low i.high rises (apart.rise i.low i.high last.0) (le_from a i.high h) last.1))
    (λ h. le_true a i.high (ends_past m a b i apart last h))

pub falling_meets : (m : Intervals) (a b : ℤ) → b <ℤ a → meets_any m a b ≡ false
falling_meets m a b lt = none m.entries
  where
    one : (c d : ℤ) → meet a b c d ≡ false
    one c d = grind (arith, ints)

    none : (es : List (ℤ × ℤ)) → list_any (λ e. meet a b e.0 e.1) es ≡ false
    none [] = refl
    none (e ∷ es) = ap (λ x. x || list_any (λ e. meet a b e.0 e.1) es) (one e.0 e.1) ∙ none es

-- ---- after the interval that begins at s is taken out
abbrev pub Without : (m n : Intervals) (s : ℤ) → Type 0
Without m n s = (q : ℤ) → get int_cmp n q ≡ cond (is_at (int_cmp s) q) None (get int_cmp m q)

kept : (b : Bool) (o : Option ℤ) (e : ℤ) → cond b None o ≡ Some e → (b ≡ false) × (o ≡ Some e)
kept true o e h = absurd (none_some h)
  where
    none_some : None ≡ Some e → ⊥
    none_some i = cc
kept false o e h = (refl, h)

stood : (m n : Intervals) (s a b : ℤ) → Without m n s → stands_at n a b → stands_at m a b
stood m n s a b without h = (kept (is_at (int_cmp s) a) (get int_cmp m a) b (sym (without a) ∙ h)).1

pub apart_without : (m n : Intervals) (s : ℤ) → AreApart m → IsOrdered int_cmp n → Without m n s → AreApart n
apart_without m n s apart ordered without = record {
  ordered = ordered;
  rise = λ a b h. apart.rise a b (stood m n s a b without h);
  apart = λ a b c d h k. apart.apart a b c d (stood m n s a b without h) (stood m n s c d without k);
}

same_at : (b : Bool) (s q : ℤ) → is_at (int_cmp s) q ≡ b → (s ≡ q) ⊎ (b ≡ false)
same_at true s q h = inl (same_key s q h)
same_at false s q h = inr refl

pub meets_without : (m n : Intervals) (s e a b : ℤ) → IsOrdered int_cmp m → IsOrdered int_cmp n → stands_at m s e → Without m n s → (meets_any n a b || meet a b s e) ≡ meets_any m a b
meets_without m n s e a b ordered fine is without = same_bool (meets_any n a b || meet a b s e) (meets_any m a b)
    (λ h. ⊎_elim
    (λ k. let r : Met n a b = met n a b fine k in meets m a b r.low r.high (stood m n s r.low r.high without r.stands) r.meets)
    (λ k. meets m a b s e is k)
    (or_cases (meets_any n a b) (meet a b s e) h))
    (λ h.
    let r : Met m a b = met m a b ordered h in
    ⊎_elim
    (λ (same : s ≡ r.low). or_right (meets_any n a b) (meet a b s e)
    (ap (λ x. meet a b x e) same ∙ ap (λ x. meet a b r.low x) (same_end m s r.low e r.high same is r.stands) ∙ r.meets))
    (λ other. or_left (meets_any n a b) (meet a b s e)
    (meets n a b r.low r.high (without r.low ∙ ap (λ x. cond x None (get int_cmp m r.low)) other ∙ r.stands) r.meets))
    (same_at (is_at (int_cmp s) r.low) s r.low refl))

-- ---- after an interval that meets none is put in
abbrev pub With : (m n : Intervals) (s e : ℤ) → Type 0
With m n s e = (q : ℤ) → get int_cmp n q ≡ cond (is_at (int_cmp s) q) (Some e) (get int_cmp m q)

new_or_old : (b : Bool) (s q e f : ℤ) (o : Option ℤ) → is_at (int_cmp s) q ≡ b → cond b (Some e) o ≡ Some f → ((s ≡ q) × (e ≡ f)) ⊎ (o ≡ Some f)
new_or_old true s q e f o at h = inl (same_key s q at, ap (λ x. unwrap_or x e) h)
new_or_old false s q e f o at h = inr h

which : (m n : Intervals) (s e q f : ℤ) → With m n s e → stands_at n q f → ((s ≡ q) × (e ≡ f)) ⊎ stands_at m q f
which m n s e q f with h = new_or_old (is_at (int_cmp s) q) s q e f (get int_cmp m q) refl (sym (with q) ∙ h)

-- two that don't meet
clear : (m : Intervals) (s e q f : ℤ) → AreApart m → s ≤ℤ e → meets_any m s e ≡ false → stands_at m q f → (q ≤ℤ e) → (s ≤ℤ f) → ⊥
clear m s e q f apart rises none h left right =
    true≢false (sym (meets m s e q f h (meet_from s e q f rises (apart.rise q f h) right left)) ∙ none)

before : (m : Intervals) (s e q f : ℤ) → AreApart m → s ≤ℤ e → meets_any m s e ≡ false → stands_at m q f → q <ℤ s → f <ℤ s
before m s e q f apart rises none h lt = ⊎_elim
    (λ (right : s ≤ℤ f). absurd (clear m s e q f apart rises none h (ahead q s e lt rises) right))
    (λ (k : f <ℤ s). k)
    (side s f)
  where
    ahead : (x y z : ℤ) → x <ℤ y → y ≤ℤ z → x ≤ℤ z
    ahead x y z u v = omega (arith, ints)

after : (m : Intervals) (s e q f : ℤ) → AreApart m → s ≤ℤ e → meets_any m s e ≡ false → stands_at m q f → s <ℤ q → e <ℤ q
after m s e q f apart rises none h lt = ⊎_elim
    (λ (left : q ≤ℤ e). absurd (clear m s e q f apart rises none h left (ahead s q f lt (apart.rise q f h))))
    (λ (k : e <ℤ q). k)
    (side q e)
  where
    ahead : (x y z : ℤ) → x <ℤ y → y ≤ℤ z → x ≤ℤ z
    ahead x y z u v = omega (arith, ints)

not_below : (x y z : ℤ) → x ≡ y → x ≡ z → y <ℤ z → ⊥
not_below x y z i j lt = omega (arith, ints)

pub apart_with : (m n : Intervals) (s e : ℤ) → AreApart m → IsOrdered int_cmp n → s ≤ℤ e → meets_any m s e ≡ false → With m n s e → AreApart n
apart_with m n s e apart ordered rises none with = record {
  ordered = ordered;
  rise = λ a b h. ⊎_elim
      (λ k. subst (λ x. x ≤ℤ b) k.0 (subst (λ x. s ≤ℤ x) k.1 rises))
      (λ k. apart.rise a b k)
      (which m n s e a b with h);
  apart = λ a b c d h k lt. ⊎_elim
      (λ new. ⊎_elim
      (λ other. absurd (not_below s a c new.0 other.0 lt))
      (λ old. subst (λ x. x <ℤ c) new.1 (after m s e c d apart rises none old (subst (λ x. x <ℤ c) (sym new.0) lt)))
      (which m n s e c d with k))
      (λ first. ⊎_elim
      (λ new. subst (λ x. b <ℤ x) new.0 (before m s e a b apart rises none first (subst (λ x. a <ℤ x) (sym new.0) lt)))
      (λ second. apart.apart a b c d first second lt)
      (which m n s e c d with k))
      (which m n s e a b with h);
}

pub meets_with : (m n : Intervals) (s e a b : ℤ) → AreApart m → IsOrdered int_cmp n → s ≤ℤ e → meets_any m s e ≡ false → With m n s e → meets_any n a b ≡ (meets_any m a b || meet a b s e)
meets_with m n s e a b apart fine rises none with = same_bool (meets_any n a b) (meets_any m a b || meet a b s e)
    (λ h.
    let r : Met n a b = met n a b fine h in
    ⊎_elim
    (λ new. or_right (meets_any m a b) (meet a b s e) (ap (λ x. meet a b x e) new.0 ∙ ap (λ x. meet a b r.low x) new.1 ∙ r.meets))
    (λ old. or_left (meets_any m a b) (meet a b s e) (meets m a b r.low r.high old r.meets))
    (which m n s e r.low r.high with r.stands))
    (λ h. ⊎_elim
    (λ k.
    let r : Met m a b = met m a b apart.ordered k in
    ⊎_elim
    (λ (same : s ≡ r.low). absurd (clear m s e r.low r.high apart rises none r.stands (subst (λ x. x ≤ℤ e) same rises) (subst (λ x. x ≤ℤ r.high) (sym same) (apart.rise r.low r.high r.stands))))
    (λ other. meets n a b r.low r.high (with r.low ∙ ap (λ x. cond x (Some e) (get int_cmp m r.low)) other ∙ r.stands) r.meets)
    (same_at (is_at (int_cmp s) r.low) s r.low refl))
    (λ k. meets n a b s e (with s ∙ ap (λ x. cond x (Some e) (get int_cmp m s)) (at_itself s)) k)
    (or_cases (meets_any m a b) (meet a b s e) h))
  where
    at_itself : (x : ℤ) → is_at (int_cmp x) x ≡ true
    at_itself x = grind (arith, ints)

-- ---- numbers that are passed
pub passed : (P : ℤ → Type 0) (x : ℤ) → SFits w128 x → P x → P (to_z w128 (of_z w128 x))
passed P x fits p = subst P (sym (to_z-of_z w128 x fits)) p

pub unpassed : (P : ℤ → Type 0) (x : ℤ) → SFits w128 x → P (to_z w128 (of_z w128 x)) → P x
unpassed P x fits p = subst P (to_z-of_z w128 x fits) p

pub last_apart : (m : Intervals) (a b : ℤ) (i : Interval) → AreApart m → IsLastFrom m b (Some i) → a ≤ℤ b → i.high <ℤ a → meets_any m a b ≡ false
last_apart m a b i apart last rises lt = sym (last_meets m a b i apart last rises) ∙ over a i.high lt
  where
    over : (x y : ℤ) → y <ℤ x → le_z x y ≡ false
    over x y h = grind (arith, ints)

-- the last one that meets an interval, taken out
pub absorbed : (m n : Intervals) (last i w : Interval) → AreApart m → i.low ≤ℤ i.high → IsLastFrom m i.high (Some last) → i.low ≤ℤ last.high → IsOrdered int_cmp n → Without m n last.low
    → (meet last.low last.high i.low i.high ≡ true → (c d : ℤ) → meet c d w.low w.high ≡ (meet c d last.low last.high || meet c d i.low i.high))
    → (meet last.low last.high i.low i.high ≡ true → w.low ≤ℤ w.high) → Absorbs m n i (Some w)
absorbed m n last i w apart rises is up ordered without joins goes =
    let both : meet last.low last.high i.low i.high ≡ true = meet_from last.low last.high i.low i.high (apart.rise last.low last.high is.0) rises is.1 up in (
      apart_without m n last.low apart ordered without,
      goes both,
      λ a b.
          ap (λ x. meets_any n a b || x) (joins both a b)
          ∙ sym (or_assoc (meets_any n a b) (meet a b last.low last.high) (meet a b i.low i.high))
          ∙ ap (λ x. x || meet a b i.low i.high) (meets_without m n last.low last.high a b apart.ordered ordered is.0 without),
    )

-- the interval over all, put in
pub whole_added : (old m n new : Intervals) (i w : Interval) → n ≡ m → Adds n new w → ((a b : ℤ) → (meets_any m a b || meet a b w.low w.high) ≡ (meets_any old a b || meet a b i.low i.high)) → Adds old new i
whole_added old m n new i w same added h = record { apart = added.apart; adds = λ a b. added.adds a b ∙ ap (λ (k : Intervals). meets_any k a b || meet a b w.low w.high) same ∙ h a b }

pub put_in : (m n : Intervals) (i : Interval) → AreApart m → IsOrdered int_cmp n → i.low ≤ℤ i.high → meets_any m i.low i.high ≡ false → With m n i.low i.high → Adds m n i
put_in m n i apart ordered rises none with = record { apart = apart_with m n i.low i.high apart ordered rises none with; adds = λ a b. meets_with m n i.low i.high a b apart ordered rises none with }

-- what `range` and `next_back` give
pub last_found : (m : Intervals) (at : ℤ) (r t : List (ℤ × ℤ)) (low high : ℤ) → IsRangeOf int_cmp Unbounded (Included at) m r → r ≡ t ++ (low, high) ∷ []
    → IsLastFrom m at (Some (record { low = low; high = high }))
last_found m at r t low high range is =
    let within = range.3 (low, high) t is in
    (within.1, up_to low at within.0.1, λ q le some. below low q (range.4 (low, high) t is q (tt, not_over q at le) some))
  where
    up_to : (x y : ℤ) → is_gt (int_cmp x y) ≡ false → x ≤ℤ y
    up_to x y h = grind (arith, ints)

    not_over : (x y : ℤ) → x ≤ℤ y → is_gt (int_cmp x y) ≡ false
    not_over x y h = grind (arith, ints)

    below : (x y : ℤ) → is_lt (int_cmp x y) ≡ false → y ≤ℤ x
    below x y h = grind (arith, ints)
