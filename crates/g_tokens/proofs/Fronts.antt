-- The longest front that is a token, and that no front is one.
use Rattle.std.proofs.Common.{◌≡◌, ℕ, zero, suc, ◌+◌, ◌-◌, ◌<◌, ◌≤◌, Bool, true, false, cond, List, [], ◌∷◌, length, take, Option, Some, None, refl, sym, ap, ◌∙◌, arith, subst, nat_eq}
use Rattle.std.specs.Prelude.{nat_le}
use Rattle.std.proofs.lemmas.Bool.Decides.{nat_tests}
use Rattle.std.proofs.lemmas.Bool.{eqb-true}
use Rattle.g_tokens.specs.declared.token.Token.{Token}
use Rattle.g_tokens.specs.declared.token.Token.TheVariants as token
use Rattle.g_tokens.specs.declared.token.Mark.{Mark}
use Rattle.g_tokens.specs.declared.token.Mark.TheVariants as mark
use Rattle.g_tokens.specs.Tokens.{is_letter, is_digit, word, number, text, mark_in, mark_texts, whole, longest, longer_or, IsLongest, IsBad, IsFront}
use Rattle.g_tokens.specs.Scan.{mark_alone}

not_within : (n m : ℕ) → nat_le n m ≡ false → n ≤ suc m → n ≡ suc m
not_within n m h le = grind (arith, nat_tests)

within : (n m : ℕ) → nat_le n m ≡ true → n ≤ m
within n m h = grind (arith, nat_tests)

longer_step : (m n : ℕ) (bytes : List ℕ) (t : Token) → IsLongest bytes t n → n ≤ suc m → suc m ≤ length bytes → (n ≤ m → longest m bytes ≡ (t, n))
    → (b : Bool) → nat_le n m ≡ b → longer_or (whole (take (suc m) bytes)) (suc m) (λ u. longest m bytes) ≡ (t, n)
longer_step m n bytes t l le fits ih true e =
    let le2 : n ≤ m = within n m e in
    let lt : n < suc m = omega arith in
    rw (l.longest (suc m) lt fits) (ih le2)
longer_step m n bytes t l le fits ih false e =
    let is : n ≡ suc m = not_within n m e le in
    let w : whole (take (suc m) bytes) ≡ Some t = subst (λ (k : ℕ). whole (take k bytes) ≡ Some t) is l.is in
    rw w (ap (λ (k : ℕ). (t, k)) (sym is))

longest_at : (m n : ℕ) (bytes : List ℕ) (t : Token) → IsLongest bytes t n → n ≤ m → m ≤ length bytes → longest m bytes ≡ (t, n)
unfolding longest
longest_at zero n bytes t l le fits = absurd (let some = l.some in omega arith)
longest_at (suc m) n bytes t l le fits =
    let fits2 : m ≤ length bytes = omega arith in
    longer_step m n bytes t l le fits (λ le2. longest_at m n bytes t l le2 fits2) (nat_le n m) refl

bad_at : (m : ℕ) (bytes : List ℕ) → IsBad bytes → m ≤ length bytes → longest m bytes ≡ (token.Bad, length bytes)
unfolding longest
bad_at zero bytes bad fits = refl
bad_at (suc m) bytes bad fits =
    let lt : 0 < suc m = omega arith in
    let fits2 : m ≤ length bytes = omega arith in
    rw (bad (suc m) lt fits) (bad_at m bytes bad fits2)

pub front_is : (bytes : List ℕ) (t : Token) (n : ℕ) → IsLongest bytes t n → IsFront bytes t n
front_is bytes t n l =
    let fits = l.within in
    record { is = longest_at (length bytes) n bytes t l fits (omega arith); some = l.some; within = l.within }

pub front_bad : (b : ℕ) (rest : List ℕ) (n : ℕ) → IsBad (b ∷ rest) → n ≡ length (b ∷ rest) → IsFront (b ∷ rest) token.Bad n
front_bad b rest n bad e =
    record { is = bad_at (length (b ∷ rest)) (b ∷ rest) bad (omega arith) ∙ ap (λ (k : ℕ). (token.Bad, k)) (sym e); some = omega (arith, e); within = omega (arith, e) }

-- a byte with which no token begins
pub no_token : (b : ℕ) (rest : List ℕ) → ((w : List ℕ) → whole (b ∷ w) ≡ None) → IsBad (b ∷ rest)
no_token b rest none zero lt fits = absurd (omega arith)
no_token b rest none (suc m) lt fits = none (take m rest)

-- a mark of one byte that begins no other token
pub alone : (b : ℕ) (t : Token) (rest : List ℕ) → whole (b ∷ []) ≡ Some t → ((c : ℕ) (w : List ℕ) → whole (b ∷ c ∷ w) ≡ None) → IsLongest (b ∷ rest) t 1
alone b t rest is none = record { some = omega arith; within = omega arith; is = is; longest = λ m lt fits. longer rest m lt fits }
  where
    longer : (rest : List ℕ) (m : ℕ) → 1 < m → m ≤ length (b ∷ rest) → whole (take m (b ∷ rest)) ≡ None
    longer rest zero lt fits = absurd (omega arith)
    longer [] (suc m) lt fits = absurd (omega arith)
    longer (c ∷ w) (suc zero) lt fits = absurd (omega arith)
    longer (c ∷ w) (suc (suc m)) lt fits = none c (take m w)

-- a mark of two bytes
pub pair : (a b : ℕ) (t : Token) (rest : List ℕ) → whole (a ∷ b ∷ []) ≡ Some t → ((c : ℕ) (w : List ℕ) → whole (a ∷ b ∷ c ∷ w) ≡ None) → IsLongest (a ∷ b ∷ rest) t 2
pair a b t rest is none = record { some = omega arith; within = omega arith; is = is; longest = λ m lt fits. longer rest m lt fits }
  where
    longer : (rest : List ℕ) (m : ℕ) → 2 < m → m ≤ length (a ∷ b ∷ rest) → whole (take m (a ∷ b ∷ rest)) ≡ None
    longer rest zero lt fits = absurd (omega arith)
    longer rest (suc zero) lt fits = absurd (omega arith)
    longer [] (suc (suc m)) lt fits = absurd (omega arith)
    longer (c ∷ w) (suc (suc zero)) lt fits = absurd (omega arith)
    longer (c ∷ w) (suc (suc (suc m))) lt fits = none c (take m w)

-- a byte that begins a token only before some others, and they don't follow
pub no_pair : (a : ℕ) (rest : List ℕ) → whole (a ∷ []) ≡ None → ((b : ℕ) (w r : List ℕ) → rest ≡ b ∷ r → whole (a ∷ b ∷ w) ≡ None) → IsBad (a ∷ rest)
no_pair a rest one two zero lt fits = absurd (omega arith)
no_pair a rest one two (suc zero) lt fits = one
no_pair a [] one two (suc (suc m)) lt fits = absurd (omega arith)
no_pair a (b ∷ r) one two (suc (suc m)) lt fits = two b (take m r) r refl

-- ---- marks of one byte

abbrev Alone : ℕ → Mark → Type 0
Alone b m = (rest : List ℕ) → IsLongest (b ∷ rest) (token.Mark m) 1

at_byte : (b k : ℕ) (m n : Mark) → Alone k n → nat_eq b k ≡ true → n ≡ m → Alone b m
at_byte b k m n h e is = subst (λ (x : ℕ). Alone x m) (sym (eqb-true b k e)) (subst (λ (x : Mark). Alone k x) is h)

choice : (b k : ℕ) (m n : Mark) (o : Option Mark) → Alone k n → (o ≡ Some m → Alone b m) → cond (nat_eq b k) (Some n) o ≡ Some m → Alone b m
choice b k m n o h other e = go (nat_eq b k) refl e
  where
    go : (v : Bool) → nat_eq b k ≡ v → cond v (Some n) o ≡ Some m → Alone b m
    go true is f = at_byte b k m n h is cc
    go false is f = other f

pub alone_is : (b : ℕ) (m : Mark) → mark_alone b ≡ Some m → Alone b m
alone_is b m =
    choice b 124 m mark.Bar _ (λ rest. alone 124 (token.Mark mark.Bar) rest refl (λ c w. refl))
    (choice b 61 m mark.Equals _ (λ rest. alone 61 (token.Mark mark.Equals) rest refl (λ c w. refl))
    (choice b 44 m mark.Comma _ (λ rest. alone 44 (token.Mark mark.Comma) rest refl (λ c w. refl))
    (choice b 91 m mark.OpenBracket _ (λ rest. alone 91 (token.Mark mark.OpenBracket) rest refl (λ c w. refl))
    (choice b 93 m mark.CloseBracket _ (λ rest. alone 93 (token.Mark mark.CloseBracket) rest refl (λ c w. refl))
    (choice b 123 m mark.OpenBrace _ (λ rest. alone 123 (token.Mark mark.OpenBrace) rest refl (λ c w. refl))
    (choice b 125 m mark.CloseBrace _ (λ rest. alone 125 (token.Mark mark.CloseBrace) rest refl (λ c w. refl))
    (choice b 40 m mark.OpenParen _ (λ rest. alone 40 (token.Mark mark.OpenParen) rest refl (λ c w. refl))
    (choice b 41 m mark.CloseParen _ (λ rest. alone 41 (token.Mark mark.CloseParen) rest refl (λ c w. refl))
    (choice b 95 m mark.Unwired None (λ rest. alone 95 (token.Mark mark.Unwired) rest refl (λ c w. refl)) (λ e. absurd cc))))))))))

-- ---- marks of two bytes

no_items : (l : List ℕ) → length l ≡ 0 → l ≡ []
no_items [] e = refl
no_items (b ∷ l) e = absurd (omega arith)

same_first : (b c : ℕ) (w r : List ℕ) → b ∷ w ≡ c ∷ r → b ≡ c
same_first b c w r e = cc

pub not_equal : (b k : ℕ) → (b ≡ k → ⊥) → nat_eq b k ≡ false
not_equal b k ne = go (nat_eq b k) refl
  where
    go : (v : Bool) → nat_eq b k ≡ v → v ≡ false
    go false e = refl
    go true e = absurd (ne (eqb-true b k e))

module _ (rest : List ℕ) where
  pub end_is : (a : ℕ) → whole (a ∷ []) ≡ None → length rest ≡ 0 → IsFront (a ∷ rest) token.Bad 1
  end_is a one empty = let e = no_items rest empty in front_bad a rest 1 (no_pair a rest one (λ b w r f. absurd (let g : [] ≡ b ∷ r = sym e ∙ f in cc))) (rw e refl)

  pub dots_is : (b : ℕ) (w : List ℕ) → rest ≡ b ∷ w → b ≡ 46 → IsFront (46 ∷ rest) (token.Mark mark.Dots) 2
  dots_is b w e f = rw (e, f) (front_is (46 ∷ 46 ∷ w) (token.Mark mark.Dots) 2 (pair 46 46 (token.Mark mark.Dots) w refl (λ c w. refl)))

  pub no_dots : (b : ℕ) (w : List ℕ) → rest ≡ b ∷ w → (b ≡ 46 → ⊥) → IsFront (46 ∷ rest) token.Bad (length rest + 1)
  no_dots b w e ne = front_bad 46 rest (length rest + 1) (no_pair 46 rest refl (λ c u r f. let g : b ≡ c = same_first b c w r (sym e ∙ f) in rw (not_equal c 46 (λ h. ne (g ∙ h))) refl)) (omega arith)

  pub feeds_is : (b : ℕ) (w : List ℕ) → rest ≡ b ∷ w → b ≡ 45 → IsFront (60 ∷ rest) (token.Mark mark.Feeds) 2
  feeds_is b w e f = rw (e, f) (front_is (60 ∷ 45 ∷ w) (token.Mark mark.Feeds) 2 (pair 60 45 (token.Mark mark.Feeds) w refl (λ c w. refl)))

  pub no_feeds : (b : ℕ) (w : List ℕ) → rest ≡ b ∷ w → (b ≡ 45 → ⊥) → IsFront (60 ∷ rest) token.Bad (length rest + 1)
  no_feeds b w e ne = front_bad 60 rest (length rest + 1) (no_pair 60 rest refl (λ c u r f. let g : b ≡ c = same_first b c w r (sym e ∙ f) in rw (not_equal c 45 (λ h. ne (g ∙ h))) refl)) (omega arith)

  pub arrow_is : (b : ℕ) (w : List ℕ) → rest ≡ b ∷ w → b ≡ 62 → IsFront (45 ∷ rest) (token.Mark mark.Arrow) 2
  arrow_is b w e f = rw (e, f) (front_is (45 ∷ 62 ∷ w) (token.Mark mark.Arrow) 2 (pair 45 62 (token.Mark mark.Arrow) w refl (λ c w. refl)))

  pub no_arrow : (b : ℕ) (w : List ℕ) → rest ≡ b ∷ w → (b ≡ 62 → ⊥) → is_digit b ≡ false → IsFront (45 ∷ rest) token.Bad (length rest + 1)
  no_arrow b w e ne d =
      front_bad 45 rest (length rest + 1) (no_pair 45 rest refl (λ c u r f.
      let g : b ≡ c = same_first b c w r (sym e ∙ f) in
      let d2 : is_digit c ≡ false = ap is_digit (sym g) ∙ d in
      rw (d2, not_equal c 62 (λ h. ne (g ∙ h))) refl)) (omega arith)

-- a byte with which no token begins
pub alone_front : (b : ℕ) (rest : List ℕ) (m : Mark) → Some m ≡ mark_alone b → IsFront (b ∷ rest) (token.Mark m) 1
alone_front b rest m h = front_is (b ∷ rest) (token.Mark m) 1 (alone_is b m (sym h) rest)

-- ---- bytes with which no token begins

after_other : (b k : ℕ) (m : Mark) (o : Option Mark) → None ≡ cond (nat_eq b k) (Some m) o → (nat_eq b k ≡ false) × (None ≡ o)
after_other b k m o h = go (nat_eq b k) h
  where
    go : (v : Bool) → None ≡ cond v (Some m) o → (v ≡ false) × (None ≡ o)
    go true h = absurd cc
    go false h = (refl, h)

module _ (b : ℕ) (rest : List ℕ) (letter : is_letter b ≡ false) (digit : is_digit b ≡ false) (minus : b ≡ 45 → ⊥) (less : b ≡ 60 → ⊥) (dot : b ≡ 46 → ⊥) (quote : b ≡ 34 → ⊥) (other : None ≡ mark_alone b) where
  no_word : (w : List ℕ) → word (b ∷ w) ≡ None
  no_word w = rw letter refl

  no_number : (w : List ℕ) → number (b ∷ w) ≡ None
  no_number w = rw (not_equal b 45 minus, digit) refl

  no_text : (w : List ℕ) → text (b ∷ w) ≡ None
  no_text w = rw (not_equal b 34 quote) refl

  no_mark : (w : List ℕ) → mark_in mark_texts (b ∷ w) ≡ None
  no_mark w =
      let a = after_other b 124 mark.Bar _ other in
      let c = after_other b 61 mark.Equals _ a.1 in
      let d = after_other b 44 mark.Comma _ c.1 in
      let e = after_other b 91 mark.OpenBracket _ d.1 in
      let f = after_other b 93 mark.CloseBracket _ e.1 in
      let g = after_other b 123 mark.OpenBrace _ f.1 in
      let h = after_other b 125 mark.CloseBrace _ g.1 in
      let i = after_other b 40 mark.OpenParen _ h.1 in
      let j = after_other b 41 mark.CloseParen _ i.1 in
      let k = after_other b 95 mark.Unwired _ j.1 in
      rw (not_equal b 45 minus, not_equal b 60 less, a.0, c.0, d.0, not_equal b 46 dot, e.0, f.0, g.0, h.0, i.0, j.0, k.0) refl

  pub no_front : (n : ℕ) → n ≡ length (b ∷ rest) → IsFront (b ∷ rest) token.Bad n
  no_front n e = front_bad b rest n (no_token b rest (λ w. rw (no_word w, no_number w, no_text w) (no_mark w))) e
