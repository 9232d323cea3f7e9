-- Two intervals that meet, and the interval over both.
use Rattle.std.proofs.Common.{◌≡◌, ◌⊎◌, inl, inr, ⊎_elim, ℤ, ◌≤ℤ◌, ◌<ℤ◌, Bool, true, false, ◌&&◌, ◌||◌, refl, sym, ap, arith}
use Rattle.std.proofs.lemmas.Int.{ints}
use Rattle.std.specs.Int.Signed.{le_z}
use Rattle.g_rules_selectors.specs.Clashes.{meet}
use Rattle.g_rules_selectors.specs.Taken.{IsLeast, IsGreatest}

pub same_bool : (a b : Bool) → (a ≡ true → b ≡ true) → (b ≡ true → a ≡ true) → a ≡ b
same_bool true b f g = sym (f refl)
same_bool false true f g = g refl
same_bool false false f g = refl

pub or_cases : (a b : Bool) → (a || b) ≡ true → (a ≡ true) ⊎ (b ≡ true)
or_cases true b h = inl refl
or_cases false b h = inr h

pub or_left : (a b : Bool) → a ≡ true → (a || b) ≡ true
or_left a b h = ap (λ x. x || b) h

pub or_right : (a b : Bool) → b ≡ true → (a || b) ≡ true
or_right true b h = refl
or_right false b h = h

pub or_assoc : (a b c : Bool) → ((a || b) || c) ≡ (a || (b || c))
or_assoc true b c = refl
or_assoc false b c = refl

and_left : (a b : Bool) → (a && b) ≡ true → a ≡ true
and_left true b h = refl
and_left false b h = h

and_right : (a b : Bool) → (a && b) ≡ true → b ≡ true
and_right true b h = h
and_right false b h = cc

and_both : (a b : Bool) → a ≡ true → b ≡ true → (a && b) ≡ true
and_both true b h k = k
and_both false b h k = h

pub le_from : (a b : ℤ) → le_z a b ≡ true → a ≤ℤ b
le_from a b h = grind (arith, ints)

pub le_true : (a b : ℤ) → a ≤ℤ b → le_z a b ≡ true
le_true a b h = grind (arith, ints)

-- the four facts of two intervals that meet
pub record Meet (a b c d : ℤ) : Type 0 where
  pub first : a ≤ℤ b
  pub second : c ≤ℤ d
  pub left : a ≤ℤ d
  pub right : c ≤ℤ b

pub meet_facts : (a b c d : ℤ) → meet a b c d ≡ true → Meet a b c d
meet_facts a b c d h =
    let t : (le_z c d && (le_z a d && le_z c b)) ≡ true = and_right (le_z a b) (le_z c d && (le_z a d && le_z c b)) h in
    let u : (le_z a d && le_z c b) ≡ true = and_right (le_z c d) (le_z a d && le_z c b) t in
    record {
      first = le_from a b (and_left (le_z a b) (le_z c d && (le_z a d && le_z c b)) h);
      second = le_from c d (and_left (le_z c d) (le_z a d && le_z c b) t);
      left = le_from a d (and_left (le_z a d) (le_z c b) u);
      right = le_from c b (and_right (le_z a d) (le_z c b) u);
    }

pub meet_from : (a b c d : ℤ) → a ≤ℤ b → c ≤ℤ d → a ≤ℤ d → c ≤ℤ b → meet a b c d ≡ true
meet_from a b c d e f g h =
    and_both (le_z a b) (le_z c d && (le_z a d && le_z c b)) (le_true a b e)
    (and_both (le_z c d) (le_z a d && le_z c b) (le_true c d f) (and_both (le_z a d) (le_z c b) (le_true a d g) (le_true c b h)))

side_of : (x y : ℤ) (b : Bool) → le_z x y ≡ b → (x ≤ℤ y) ⊎ (y <ℤ x)
side_of x y true h = inl (le_from x y h)
side_of x y false h = inr (grind (arith, ints))

pub side : (x y : ℤ) → (x ≤ℤ y) ⊎ (y <ℤ x)
side x y = side_of x y (le_z x y) refl

at_or_above : (d a s l : ℤ) → d <ℤ a → l ≤ℤ d → (l ≡ a) ⊎ (l ≡ s) → s ≤ℤ d
at_or_above d a s l lt le (inl is) = omega (arith, ints)
at_or_above d a s l lt le (inr is) = omega (arith, ints)

at_or_below : (c b e h : ℤ) → b <ℤ c → c ≤ℤ h → (h ≡ b) ⊎ (h ≡ e) → c ≤ℤ e
at_or_below c b e h lt le (inl is) = omega (arith, ints)
at_or_below c b e h lt le (inr is) = omega (arith, ints)

trans : (x y z : ℤ) → x ≤ℤ y → y ≤ℤ z → x ≤ℤ z
trans x y z h k = omega (arith, ints)

under : (x y z : ℤ) → x <ℤ y → y ≤ℤ z → x ≤ℤ z
under x y z h k = omega (arith, ints)

past : (x y z : ℤ) → x ≤ℤ y → y <ℤ z → x ≤ℤ z
past x y z h k = omega (arith, ints)

in_over : (a b s e l h c d : ℤ) → Meet a b s e → IsLeast l a s → IsGreatest h b e → Meet c d l h → (meet c d a b ≡ true) ⊎ (meet c d s e ≡ true)
in_over a b s e l h c d m least greatest k = ⊎_elim
    (λ (p : c ≤ℤ b). ⊎_elim
    (λ (q : a ≤ℤ d). inl (meet_from c d a b k.first m.first p q))
    (λ (q : d <ℤ a). inr (meet_from c d s e k.first m.second (past c d e k.first (under_end d a e q m.left)) (at_or_above d a s l q k.right least.one)))
    (side a d))
    (λ (p : b <ℤ c). inr (meet_from c d s e k.first m.second (at_or_below c b e h p k.left greatest.one) (trans s c d (under_start s b c m.right p) k.first)))
    (side c b)
  where
    under_end : (x y z : ℤ) → x <ℤ y → y ≤ℤ z → x <ℤ z
    under_end x y z u v = omega (arith, ints)

    under_start : (x y z : ℤ) → x ≤ℤ y → y <ℤ z → x ≤ℤ z
    under_start x y z u v = omega (arith, ints)

over_facts : (a b s e l h : ℤ) → Meet a b s e → IsLeast l a s → IsGreatest h b e → l ≤ℤ h
over_facts a b s e l h m least greatest = trans l a h least.below (trans a b h m.first greatest.above)

pub over_rises : (a b s e l h : ℤ) → meet a b s e ≡ true → IsLeast l a s → IsGreatest h b e → l ≤ℤ h
over_rises a b s e l h met least greatest = over_facts a b s e l h (meet_facts a b s e met) least greatest

pub over_both : (a b s e l h c d : ℤ) → meet a b s e ≡ true → IsLeast l a s → IsGreatest h b e → meet c d l h ≡ (meet c d a b || meet c d s e)
over_both a b s e l h c d met least greatest =
    let m : Meet a b s e = meet_facts a b s e met in
    let rises : l ≤ℤ h = over_facts a b s e l h m least greatest in
    same_bool (meet c d l h) (meet c d a b || meet c d s e)
    (λ k. ⊎_elim (or_left (meet c d a b) (meet c d s e)) (or_right (meet c d a b) (meet c d s e)) (in_over a b s e l h c d m least greatest (meet_facts c d l h k)))
    (λ k. ⊎_elim
    (λ one. let f : Meet c d a b = meet_facts c d a b one in meet_from c d l h f.first rises (trans c b h f.left greatest.above) (trans l a d least.below f.right))
    (λ one. let f : Meet c d s e = meet_facts c d s e one in meet_from c d l h f.first rises (trans c e h f.left greatest.over) (trans l s d least.under f.right))
    (or_cases (meet c d a b) (meet c d s e) k))
