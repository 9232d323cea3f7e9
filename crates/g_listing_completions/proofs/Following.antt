-- What may follow a token: a byte goes on with it, or the token ends before that byte whatever comes after.
use Rattle.std.proofs.Common.{◌≡◌, ℕ, zero, suc, ◌<◌, ◌≤◌, Bool, true, false, ◌&&◌, List, [], ◌∷◌, ◌++◌, length, take, cond, Option, Some, None, refl, sym, ap, ◌∙◌, arith, subst}
use Rattle.std.specs.Prelude.{◌==◌, nat_le}
use Rattle.std.specs.List.{list_all}
use Rattle.std.specs.Str.{bytes_eq}
use Rattle.std.proofs.lemmas.Bool.{and_parts, eqb-true}
use Rattle.std.proofs.lemmas.Bool.Decides.{nat_tests}
use Rattle.std.proofs.lemmas.List.{length-append}
use Rattle.std.proofs.lemmas.List.Folds.{list_all-append}
use Rattle.g_tokens.specs.declared.token.Token.{Token}
use Rattle.g_tokens.specs.declared.token.Token.TheVariants as token
use Rattle.g_tokens.specs.declared.token.Mark.{Mark}
use Rattle.g_tokens.specs.declared.texts.Escape.{Escape}
use Rattle.g_tokens.specs.declared.texts.Escape.TheVariants as escape
use Rattle.g_tokens.specs.declared.texts.Step.{Step}
use Rattle.g_tokens.specs.declared.texts.Step.TheVariants as step
use Rattle.g_tokens.specs.Tokens.{is_letter, is_digit, is_word_byte, begins, word_of, word, is_numeral, numeral, number, in_text, two_digits, hex, byte_before, closed, after_step, characters, as_text, text, mark_in, mark_texts, or_none, whole, longer_or, longest, front, IsFront}
use Rattle.g_tokens.proofs.Fronts.{front_is}
use Rattle.g_tokens.proofs.WordRuns.{mark_none}
use Rattle.g_print_laws.proofs.Lexing.{is_inner, both, not_at, take_front}
use Rattle.g_print_laws.proofs.Tables.{same_bytes}

abbrev pub is_token : Option Token → Bool
is_token None = false
is_token (Some t) = true

-- a byte goes on with a token
abbrev pub goes_on : List ℕ → ℕ → Bool
goes_on v x = is_token (whole (v ++ x ∷ []))

pub record Bounded (v : List ℕ) : Type 0 where
  -- a longer token goes on with the next byte alone, and that is a letter, a digit or `_`
  pub next : (x : ℕ) (y : List ℕ) → is_token (whole (v ++ x ∷ y)) ≡ true → (goes_on v x ≡ true) × (is_word_byte x ≡ true)
  pub inner : list_all is_inner v ≡ true

not_both : true ≡ false → ⊥
not_both e = cc

and_false : (x y : Bool) → y ≡ false → (x && y) ≡ false
and_false true y e = e
and_false false y e = refl

all_inner : (p : ℕ → Bool) (w : List ℕ) → p 10 ≡ false → p 13 ≡ false → list_all p w ≡ true → list_all is_inner w ≡ true
all_inner p [] e f h = refl
all_inner p (b ∷ w) e f h =
    let q = and_parts (p b) (list_all p w) h in
    both (is_inner b) (list_all is_inner w) (rw (not_at p b 10 q.0 e, not_at p b 13 q.0 f) refl) (all_inner p w e f q.1)

all_more : (p : ℕ → Bool) (w : List ℕ) (x : ℕ) (y : List ℕ) → p x ≡ false → list_all p (w ++ x ∷ y) ≡ false
all_more p w x y e = list_all-append p w (x ∷ y) ∙ and_false (list_all p w) (p x && list_all p y) (rw e refl)

all_one : (p : ℕ → Bool) (w : List ℕ) (x : ℕ) → list_all p w ≡ true → p x ≡ true → list_all p (w ++ x ∷ []) ≡ true
all_one p w x h e = list_all-append p w (x ∷ []) ∙ both (list_all p w) (p x && true) h (rw e refl)

-- ---- words

letter_no_digit : (b : ℕ) → is_letter b ≡ true → is_digit b ≡ true → ⊥
letter_no_digit b h e = grind (arith, nat_tests)

no_word : (w : List ℕ) → list_all is_word_byte w ≡ false → word w ≡ None
no_word w a = rw (and_false (begins is_letter w) (list_all is_word_byte w) a) refl

letter_numeral : (b : ℕ) (w : List ℕ) → is_letter b ≡ true → is_numeral (b ∷ w) ≡ false
letter_numeral b w h = rw (not_at is_letter b 45 h refl) (go (is_digit b) refl)
  where
    go : (v : Bool) → is_digit b ≡ v → (is_digit b && list_all is_digit (b ∷ w)) ≡ false
    go false e = rw e refl
    go true e = absurd (letter_no_digit b h e)

letter_number : (b : ℕ) (w : List ℕ) → is_letter b ≡ true → number (b ∷ w) ≡ None
letter_number b w h = rw (letter_numeral b w h) refl

letter_text : (b : ℕ) (w : List ℕ) → is_letter b ≡ true → text (b ∷ w) ≡ None
letter_text b w h = rw (not_at is_letter b 34 h refl) refl

letter_none : (b : ℕ) (w : List ℕ) → is_letter b ≡ true → list_all is_word_byte (b ∷ w) ≡ false → whole (b ∷ w) ≡ None
letter_none b w h a = rw (no_word (b ∷ w) a, letter_number b w h, letter_text b w h) (mark_none is_letter b w mark_texts h refl)

whole_run : (w : List ℕ) → begins is_letter w ≡ true → list_all is_word_byte w ≡ true → whole w ≡ Some (word_of w)
whole_run w h a = rw (h, a) refl

word_bounded : (b : ℕ) (w : List ℕ) → is_letter b ≡ true → list_all is_word_byte (b ∷ w) ≡ true → Bounded (b ∷ w)
word_bounded b w h a = record { next = λ x y e. go x y (is_word_byte x) refl e; inner = all_inner is_word_byte (b ∷ w) refl refl a }
  where
    go : (x : ℕ) (y : List ℕ) (v : Bool) → is_word_byte x ≡ v → is_token (whole (b ∷ (w ++ x ∷ y))) ≡ true → (goes_on (b ∷ w) x ≡ true) × (is_word_byte x ≡ true)
    go x y true f e = (ap is_token (whole_run (b ∷ (w ++ x ∷ [])) h (all_one is_word_byte (b ∷ w) x a f)), f)
    go x y false f e = absurd (not_both (sym e ∙ ap is_token (letter_none b (w ++ x ∷ y) h (all_more is_word_byte (b ∷ w) x y f))))

word_case : (v : List ℕ) (t : Token) → word v ≡ Some t → Bounded v
word_case [] t e = absurd cc
word_case (b ∷ w) t e = go (is_letter b) refl (list_all is_word_byte (b ∷ w)) refl
  where
    none : word (b ∷ w) ≡ None → ⊥
    none f = let g : None ≡ Some t = sym f ∙ e in cc

    go : (x : Bool) → is_letter b ≡ x → (y : Bool) → list_all is_word_byte (b ∷ w) ≡ y → Bounded (b ∷ w)
    go true f true g = word_bounded b w f g
    go x f false g = absurd (none (no_word (b ∷ w) g))
    go false f true g = absurd (none (rw f refl))

-- ---- numbers

digit_no_letter : (b : ℕ) → is_digit b ≡ true → is_letter b ≡ false
digit_no_letter b h = grind (arith, nat_tests)

digit_word_byte : (b : ℕ) → is_digit b ≡ true → is_word_byte b ≡ true
digit_word_byte b h = grind (arith, nat_tests)

plain_is : (b : ℕ) (w : List ℕ) → is_digit b ≡ true → list_all is_digit w ≡ true → whole (b ∷ w) ≡ Some (numeral false (b ∷ w))
plain_is b w h a = rw (digit_no_letter b h, not_at is_digit b 45 h refl, h, a) refl

plain_word : (b : ℕ) (w : List ℕ) → is_digit b ≡ true → word (b ∷ w) ≡ None
plain_word b w h = rw (digit_no_letter b h) refl

plain_number : (b : ℕ) (w : List ℕ) → is_digit b ≡ true → list_all is_digit w ≡ false → number (b ∷ w) ≡ None
plain_number b w h a = rw (not_at is_digit b 45 h refl, h, a) refl

plain_text : (b : ℕ) (w : List ℕ) → is_digit b ≡ true → text (b ∷ w) ≡ None
plain_text b w h = rw (not_at is_digit b 34 h refl) refl

plain_none : (b : ℕ) (w : List ℕ) → is_digit b ≡ true → list_all is_digit w ≡ false → whole (b ∷ w) ≡ None
plain_none b w h a = rw (plain_word b w h, plain_number b w h a, plain_text b w h) (mark_none is_digit b w mark_texts h refl)

plain_bounded : (b : ℕ) (w : List ℕ) → is_digit b ≡ true → list_all is_digit w ≡ true → Bounded (b ∷ w)
plain_bounded b w h a = record { next = λ x y e. go x y (is_digit x) refl e; inner = all_inner is_digit (b ∷ w) refl refl (both (is_digit b) (list_all is_digit w) h a) }
  where
    go : (x : ℕ) (y : List ℕ) (v : Bool) → is_digit x ≡ v → is_token (whole (b ∷ (w ++ x ∷ y))) ≡ true → (goes_on (b ∷ w) x ≡ true) × (is_word_byte x ≡ true)
    go x y true f e = (ap is_token (plain_is b (w ++ x ∷ []) h (all_one is_digit w x a f)), digit_word_byte x f)
    go x y false f e = absurd (not_both (sym e ∙ ap is_token (plain_none b (w ++ x ∷ y) h (all_more is_digit w x y f))))

signed_is : (b : ℕ) (w : List ℕ) → is_digit b ≡ true → list_all is_digit w ≡ true → whole (45 ∷ b ∷ w) ≡ Some (numeral true (b ∷ w))
signed_is b w h a = rw (h, a) refl

signed_none : (b : ℕ) (w : List ℕ) → is_digit b ≡ true → list_all is_digit w ≡ false → whole (45 ∷ b ∷ w) ≡ None
signed_none b w h a = rw (h, a, not_at is_digit b 62 h refl) refl

signed_bounded : (b : ℕ) (w : List ℕ) → is_digit b ≡ true → list_all is_digit w ≡ true → Bounded (45 ∷ b ∷ w)
signed_bounded b w h a = record { next = λ x y e. go x y (is_digit x) refl e; inner = all_inner is_digit (b ∷ w) refl refl (both (is_digit b) (list_all is_digit w) h a) }
  where
    go : (x : ℕ) (y : List ℕ) (v : Bool) → is_digit x ≡ v → is_token (whole (45 ∷ b ∷ (w ++ x ∷ y))) ≡ true → (goes_on (45 ∷ b ∷ w) x ≡ true) × (is_word_byte x ≡ true)
    go x y true f e = (ap is_token (signed_is b (w ++ x ∷ []) h (all_one is_digit w x a f)), digit_word_byte x f)
    go x y false f e = absurd (not_both (sym e ∙ ap is_token (signed_none b (w ++ x ∷ y) h (all_more is_digit w x y f))))

number_case : (v : List ℕ) (t : Token) → number v ≡ Some t → Bounded v
number_case [] t e = absurd cc
number_case (b ∷ w) t e = sign (b == 45) refl e
  where
    digits : (d : ℕ) (ds : List ℕ) (o : Token) → cond (is_digit d && (is_digit d && list_all is_digit ds)) (Some o) None ≡ Some t → (is_digit d ≡ true) × (list_all is_digit ds ≡ true)
    digits d ds o f = go (is_digit d) (list_all is_digit ds) f
      where
        go : (p q : Bool) → cond (p && (p && q)) (Some o) None ≡ Some t → (p ≡ true) × (q ≡ true)
        go true true f = (refl, refl)
        go true false f = absurd cc
        go false q f = absurd cc

    after : (w : List ℕ) → number (45 ∷ w) ≡ Some t → Bounded (45 ∷ w)
    after [] f = absurd cc
    after (d ∷ ds) f = let q = digits d ds (numeral true (d ∷ ds)) f in signed_bounded d ds q.0 q.1

    sign : (v : Bool) → (b == 45) ≡ v → number (b ∷ w) ≡ Some t → Bounded (b ∷ w)
    sign true f g =
        let is : b ≡ 45 = eqb-true b 45 f in
        subst (λ (k : ℕ). Bounded (k ∷ w)) (sym is) (after w (subst (λ (k : ℕ). number (k ∷ w) ≡ Some t) is g))
    sign false f g =
        let h : cond (is_digit b && (is_digit b && list_all is_digit w)) (Some (numeral false (b ∷ w))) None ≡ Some t = rw f at g in
        let q = digits b w (numeral false (b ∷ w)) h in
        plain_bounded b w q.0 q.1

-- ---- texts

text_step : (s : Step) (w : List ℕ) (x : ℕ) (y : List ℕ) (c : List ℕ) → ((e : Escape) (c : List ℕ) → characters e w ≡ Some c → characters e (w ++ x ∷ y) ≡ None)
    → after_step s w (λ e. characters e w) ≡ Some c → after_step s (w ++ x ∷ y) (λ e. characters e (w ++ x ∷ y)) ≡ None
text_step step.Close [] x y c ih h = refl
text_step step.Close (b ∷ w) x y c ih h = absurd cc
text_step (step.Means b) w x y c ih h = go (characters escape.Plain w) refl h
  where
    go : (o : Option (List ℕ)) → characters escape.Plain w ≡ o → byte_before b o ≡ Some c → byte_before b (characters escape.Plain (w ++ x ∷ y)) ≡ None
    go None e f = absurd cc
    go (Some v) e f = rw (ih escape.Plain v e) refl
text_step (step.Begins e) w x y c ih h = ih e c h
text_step step.Refused w x y c ih h = absurd cc

no_more_text : (e : Escape) (w : List ℕ) (x : ℕ) (y c : List ℕ) → characters e w ≡ Some c → characters e (w ++ x ∷ y) ≡ None
unfolding characters
no_more_text e [] x y c h = absurd cc
no_more_text e (b ∷ w) x y c h = text_step (in_text e b) w x y c (λ e c k. no_more_text e w x y c k) h

two_refused : (o : Option ℕ) → two_digits o None ≡ step.Refused
two_refused None = refl
two_refused (Some d) = refl

feed_refused : (e : Escape) → in_text e 10 ≡ step.Refused
feed_refused escape.Plain = refl
feed_refused escape.Backslash = refl
feed_refused escape.Hex = refl
feed_refused (escape.HexDigit a) = two_refused (hex a)

return_refused : (e : Escape) → in_text e 13 ≡ step.Refused
return_refused escape.Plain = refl
return_refused escape.Backslash = refl
return_refused escape.Hex = refl
return_refused (escape.HexDigit a) = two_refused (hex a)

closed_inner : (w c : List ℕ) → closed w ≡ Some c → list_all is_inner w ≡ true
closed_inner [] c k = refl
closed_inner (x ∷ w) c k = absurd cc

below_inner : (s : Step) (w c : List ℕ) → ((e : Escape) (c : List ℕ) → characters e w ≡ Some c → list_all is_inner w ≡ true) → after_step s w (λ e. characters e w) ≡ Some c → list_all is_inner w ≡ true
below_inner step.Close w c ih k = closed_inner w c k
below_inner (step.Means x) w c ih k = go (characters escape.Plain w) refl k
  where
    go : (o : Option (List ℕ)) → characters escape.Plain w ≡ o → byte_before x o ≡ Some c → list_all is_inner w ≡ true
    go None e f = absurd cc
    go (Some v) e f = ih escape.Plain v e
below_inner (step.Begins e) w c ih k = ih e c k
below_inner step.Refused w c ih k = absurd cc

-- a byte that is not refused
here_inner : (e : Escape) (b : ℕ) → (in_text e b ≡ step.Refused → ⊥) → is_inner b ≡ true
here_inner e b refused = go (b == 10) refl (b == 13) refl
  where
    go : (p : Bool) → (b == 10) ≡ p → (q : Bool) → (b == 13) ≡ q → is_inner b ≡ true
    go true f q g = absurd (refused (ap (in_text e) (eqb-true b 10 f) ∙ feed_refused e))
    go false f true g = absurd (refused (ap (in_text e) (eqb-true b 13 g) ∙ return_refused e))
    go false f false g = rw (f, g) refl

not_refused : (s : Step) (w c : List ℕ) → after_step s w (λ e. characters e w) ≡ Some c → s ≡ step.Refused → ⊥
not_refused s w c h f = let g : None ≡ Some c = ap (λ (s : Step). after_step s w (λ e. characters e w)) (sym f) ∙ h in cc

text_inner : (e : Escape) (w c : List ℕ) → characters e w ≡ Some c → list_all is_inner w ≡ true
unfolding characters
text_inner e [] c h = refl
text_inner e (b ∷ w) c h = both (is_inner b) (list_all is_inner w) (here_inner e b (not_refused (in_text e b) w c h)) (below_inner (in_text e b) w c (λ e c k. text_inner e w c k) h)

quote_whole : (w : List ℕ) → characters escape.Plain w ≡ None → whole (34 ∷ w) ≡ None
quote_whole w h = rw h refl

text_bounded : (w c : List ℕ) → characters escape.Plain w ≡ Some c → Bounded (34 ∷ w)
text_bounded w c h = record {
  next = λ x y e. absurd (not_both (sym e ∙ ap is_token (quote_whole (w ++ x ∷ y) (no_more_text escape.Plain w x y c h))));
  inner = text_inner escape.Plain w c h;
}

text_case : (v : List ℕ) (t : Token) → text v ≡ Some t → Bounded v
text_case [] t e = absurd cc
text_case (b ∷ w) t e = go (b == 34) refl e
  where
    meant : (o : Option (List ℕ)) → characters escape.Plain w ≡ o → as_text o ≡ Some t → Bounded (34 ∷ w)
    meant None f g = absurd cc
    meant (Some c) f g = text_bounded w c f

    go : (v : Bool) → (b == 34) ≡ v → cond v (as_text (characters escape.Plain w)) None ≡ Some t → Bounded (b ∷ w)
    go true f g = subst (λ (k : ℕ). Bounded (k ∷ w)) (sym (eqb-true b 34 f)) (meant (characters escape.Plain w) refl g)
    go false f g = absurd cc

-- ---- marks

abbrev Each : (List ℕ → Type 0) → List (List ℕ × Mark) → Type 0
Each P [] = Unit {0}
Each P (row ∷ rows) = P row.0 × Each P rows

mark_by : (P : List ℕ → Type 0) (rows : List (List ℕ × Mark)) → Each P rows → (v : List ℕ) (t : Token) → mark_in rows v ≡ Some t → P v
mark_by P [] h v t e = absurd cc
mark_by P (row ∷ rows) h v t e = go (bytes_eq v row.0) refl e (mark_by P rows h.1 v t)
  where
    go : (b : Bool) → bytes_eq v row.0 ≡ b → cond b (Some (token.Mark row.1)) (mark_in rows v) ≡ Some t → (mark_in rows v ≡ Some t → P v) → P v
    go true f g next = subst P (sym (same_bytes v row.0 f)) h.0
    go false f g next = next g

alone : (v : List ℕ) → list_all is_inner v ≡ true → ((x : ℕ) (y : List ℕ) → whole (v ++ x ∷ y) ≡ None) → Bounded v
alone v inner none = record { next = λ x y e. absurd (not_both (sym e ∙ ap is_token (none x y))); inner = inner }

marks_bounded : Each Bounded mark_texts
marks_bounded = (
  alone (45 ∷ 62 ∷ []) refl (λ x y. refl),
  (
    alone (60 ∷ 45 ∷ []) refl (λ x y. refl),
    (
      alone (124 ∷ []) refl (λ x y. refl),
      (
        alone (61 ∷ []) refl (λ x y. refl),
        (
          alone (44 ∷ []) refl (λ x y. refl),
          (
            alone (46 ∷ 46 ∷ []) refl (λ x y. refl),
            (
              alone (91 ∷ []) refl (λ x y. refl),
              (
                alone (93 ∷ []) refl (λ x y. refl),
                (
                  alone (123 ∷ []) refl (λ x y. refl),
                  (
                    alone (125 ∷ []) refl (λ x y. refl),
                    (
                      alone (40 ∷ []) refl (λ x y. refl),
                      (
                        alone (41 ∷ []) refl (λ x y. refl),
                        (
                          alone (95 ∷ []) refl (λ x y. refl),
                          tt,
                        ),
                      ),
                    ),
                  ),
                ),
              ),
            ),
          ),
        ),
      ),
    ),
  ),
)

pub bounded : (v : List ℕ) (t : Token) → whole v ≡ Some t → Bounded v
bounded v t e = go (word v) refl (number v) refl (text v) refl (mark_in mark_texts v) refl e
  where
    go : (a : Option Token) → word v ≡ a → (b : Option Token) → number v ≡ b → (c : Option Token) → text v ≡ c → (d : Option Token) → mark_in mark_texts v ≡ d
        → or_none a (or_none b (or_none c d)) ≡ Some t → Bounded v
    go (Some x) f b g c h d k e = word_case v x f
    go None f (Some x) g c h d k e = number_case v x g
    go None f None g (Some x) h d k e = text_case v x h
    go None f None g None h (Some x) k e = mark_by Bounded mark_texts marks_bounded v x k
    go None f None g None h None k e = absurd cc

-- ---- the front of bytes, where others follow

-- what the longest front says
pub record Found (m : ℕ) (bytes : List ℕ) (t : Token) (n : ℕ) : Type 0 where
  pub is : whole (take n bytes) ≡ Some t
  pub within : n ≤ m
  pub none : (k : ℕ) → n < k → k ≤ m → whole (take k bytes) ≡ None

last_one : (k m : ℕ) → k ≤ suc m → nat_le k m ≡ false → k ≡ suc m
last_one k m le h = grind (arith, nat_tests)

no_last : (k m : ℕ) → nat_le k m ≡ true → k ≤ m
no_last k m h = grind (arith, nat_tests)

found_less : (m : ℕ) (bytes : List ℕ) (t : Token) (n : ℕ) → Found m bytes t n → whole (take (suc m) bytes) ≡ None → Found (suc m) bytes t n
found_less m bytes t n h f =
    let le = h.within in
    record { is = h.is; within = omega arith; none = λ k lt le. by k lt le (nat_le k m) refl }
  where
    by : (k : ℕ) → n < k → k ≤ suc m → (b : Bool) → nat_le k m ≡ b → whole (take k bytes) ≡ None
    by k lt le true e = h.none k lt (no_last k m e)
    by k lt le false e = ap (λ (j : ℕ). whole (take j bytes)) (last_one k m le e) ∙ f

pub found : (m : ℕ) (bytes : List ℕ) (t : Token) (n : ℕ) → longest m bytes ≡ (t, n) → (t ≡ token.Bad → ⊥) → Found m bytes t n
unfolding longest
found zero bytes t n e good = absurd (good (sym (ap (λ (x : Token × ℕ). x.0) e)))
found (suc m) bytes t n e good = go (whole (take (suc m) bytes)) refl e (λ g. found m bytes t n g good)
  where
    go : (o : Option Token) → whole (take (suc m) bytes) ≡ o → longer_or o (suc m) (λ u. longest m bytes) ≡ (t, n) → (longest m bytes ≡ (t, n) → Found m bytes t n) → Found (suc m) bytes t n
    go (Some u) f g less =
        let n-is : suc m ≡ n = ap (λ (x : Token × ℕ). x.1) g in
        let t-is : u ≡ t = ap (λ (x : Token × ℕ). x.0) g in
        record { is = ap (λ (k : ℕ). whole (take k bytes)) (sym n-is) ∙ f ∙ ap Some t-is; within = omega arith; none = λ k lt le. absurd (omega arith) }
    go None f g less = found_less m bytes t n (less g) f

-- the token ends before the bytes that follow
pub stops : (v s : List ℕ) (t : Token) → front (v ++ s) ≡ (t, length v) → (t ≡ token.Bad → ⊥) → begins (goes_on v) s ≡ false
stops v [] t e good = refl
stops v (x ∷ y) t e good = go (whole (v ++ x ∷ [])) refl
  where
    fits : suc (length v) ≤ length (v ++ x ∷ y)
    fits = omega (arith, length-append v (x ∷ y))

    one : (v : List ℕ) → take (suc (length v)) (v ++ x ∷ y) ≡ v ++ x ∷ []
    one [] = refl
    one (b ∷ v) = ap (λ (l : List ℕ). b ∷ l) (one v)

    go : (o : Option Token) → whole (v ++ x ∷ []) ≡ o → is_token o ≡ false
    go None f = refl
    go (Some u) f =
        let h = (found (length (v ++ x ∷ y)) (v ++ x ∷ y) t (length v) e good).none (suc (length v)) (omega arith) fits in
        let g : Some u ≡ None = sym f ∙ ap whole (sym (one v)) ∙ h in
        absurd cc

pub no_goes_on : (v s : List ℕ) (t : Token) → whole v ≡ Some t → begins is_word_byte s ≡ false → begins (goes_on v) s ≡ false
no_goes_on v [] t e h = refl
no_goes_on v (x ∷ y) t e h = go (goes_on v x) refl
  where
    go : (b : Bool) → goes_on v x ≡ b → b ≡ false
    go false f = refl
    go true f = absurd (not_both (sym ((bounded v t e).next x [] f).1 ∙ h))

longer_front : (v s : List ℕ) (m : ℕ) → length v < m → m ≤ length (v ++ s) → (x : ℕ) × (y z : List ℕ) × (s ≡ x ∷ y) × (take m (v ++ s) ≡ v ++ x ∷ z)
longer_front v s zero lt le = absurd (omega arith)
longer_front [] [] (suc m) lt le = absurd (omega arith)
longer_front [] (x ∷ y) (suc m) lt le = (x, y, take m y, refl, refl)
longer_front (b ∷ v) s (suc m) lt le =
    let q = longer_front v s m (omega arith) (omega arith) in
    (q.0, q.1, q.2, q.3, ap (λ (l : List ℕ). b ∷ l) q.4)

pub front_of : (v s : List ℕ) (t : Token) → 0 < length v → whole v ≡ Some t → begins (goes_on v) s ≡ false → IsFront (v ++ s) t (length v)
front_of v s t some e h =
    front_is (v ++ s) t (length v) (record {
      some = some;
      within = omega (arith, length-append v s);
      is = ap whole (sym (take_front v s)) ∙ e;
      longest = λ m lt le. let q = longer_front v s m lt le in ap whole q.4 ∙ none q.0 q.1 q.2 (whole (v ++ q.0 ∷ q.2)) refl (ap (begins (goes_on v)) (sym q.3) ∙ h);
    })
  where
    none : (x : ℕ) (y z : List ℕ) (o : Option Token) → whole (v ++ x ∷ z) ≡ o → goes_on v x ≡ false → whole (v ++ x ∷ z) ≡ None
    none x y z None f g = f
    none x y z (Some u) f g = absurd (not_both (sym ((bounded v t e).next x z (ap is_token f)).0 ∙ g))
