-- A run of word bytes is the longest token at its place.
use Rattle.std.proofs.Common.{◌≡◌, ℕ, zero, suc, ◌+◌, ◌<◌, ◌≤◌, Bool, true, false, cond, ◌&&◌, not, List, [], ◌∷◌, length, take, Some, None, refl, sym, ap, ◌∙◌, arith, subst, nat_eq}
use Rattle.std.specs.Prelude.{nat_le}
use Rattle.std.specs.List.{prefix_len, list_all}
use Rattle.std.proofs.lemmas.Bool.{and_parts, eqb-true}
use Rattle.std.proofs.lemmas.Bool.Decides.{nat_tests}
use Rattle.std.proofs.lemmas.List.Sums.{prefix_len-le-length}
use Rattle.g_tokens.specs.declared.token.Token.{Token}
use Rattle.std.proofs.lemmas.List.Folds.{length-prefix_len}
use Rattle.g_tokens.specs.declared.token.Token.TheVariants as token
use Rattle.g_tokens.specs.declared.token.Mark.{Mark}
use Rattle.g_tokens.specs.Tokens.{is_letter, is_digit, is_word_byte, begins, word_of, word, is_numeral, number, text, mark_in, mark_texts, whole, IsLongest}

pub one_more : (n : ℕ) → 1 + n ≡ suc n
one_more n = omega arith

pub all_prefix : (p : ℕ → Bool) (xs : List ℕ) → list_all p (take (prefix_len p xs) xs) ≡ true
all_prefix p [] = refl
all_prefix p (x ∷ xs) = go (p x) refl (all_prefix p xs)
  where
    go : (b : Bool) → p x ≡ b → list_all p (take (prefix_len p xs) xs) ≡ true → list_all p (take (cond b (1 + prefix_len p xs) 0) (x ∷ xs)) ≡ true
    go true e ih = rw (one_more (prefix_len p xs), e) ih
    go false e ih = refl

pub not_all : (p : ℕ → Bool) (xs : List ℕ) (m : ℕ) → prefix_len p xs < m → m ≤ length xs → list_all p (take m xs) ≡ false
not_all p xs zero lt le = absurd (omega arith)
not_all p [] (suc m) lt le = absurd (omega arith)
not_all p (x ∷ xs) (suc m) lt le = go (p x) refl lt (not_all p xs m)
  where
    go : (b : Bool) → p x ≡ b → cond b (1 + prefix_len p xs) 0 < suc m → (prefix_len p xs < m → m ≤ length xs → list_all p (take m xs) ≡ false) → list_all p (take (suc m) (x ∷ xs)) ≡ false
    go true e h ih = rw e (ih (omega arith) (omega arith))
    go false e h ih = rw e refl

letter_is : (b : ℕ) → is_letter b ≡ true → is_word_byte b ≡ true
letter_is b h = rw h refl

-- a byte of a kind is not a byte of none
not_at : (p : ℕ → Bool) (b k : ℕ) → p b ≡ true → p k ≡ false → nat_eq b k ≡ false
not_at p b k h e = go (nat_eq b k) refl
  where
    go : (v : Bool) → nat_eq b k ≡ v → v ≡ false
    go false same = refl
    go true same = let f : b ≡ k = eqb-true b k same in let g : true ≡ false = sym h ∙ ap p f ∙ e in absurd cc

pub mark_none : (p : ℕ → Bool) (b : ℕ) (w : List ℕ) (rows : List (List ℕ × Mark)) → p b ≡ true → list_all (λ (row : List ℕ × Mark). not (begins p row.0)) rows ≡ true → mark_in rows (b ∷ w) ≡ None
mark_none p b w [] h e = refl
mark_none p b w (([], m) ∷ rows) h e = mark_none p b w rows h e
mark_none p b w ((k ∷ u, m) ∷ rows) h e =
    let q = and_parts (not (p k)) (list_all (λ (row : List ℕ × Mark). not (begins p row.0)) rows) e in
    rw (not_at p b k h (go (p k) q.0)) (mark_none p b w rows h q.1)
  where
    go : (v : Bool) → not v ≡ true → v ≡ false
    go true e = absurd cc
    go false e = refl

-- a letter is no digit
no_digit : (b : ℕ) → is_letter b ≡ true → is_digit b ≡ true → ⊥
no_digit b h e = grind (arith, nat_tests)

-- what begins with a letter is neither a numeral nor a mark
no_numeral : (b : ℕ) (w : List ℕ) → is_letter b ≡ true → is_numeral (b ∷ w) ≡ false
no_numeral b w h = rw (not_at is_letter b 45 h refl) (go (is_digit b) refl)
  where
    go : (v : Bool) → is_digit b ≡ v → (is_digit b && list_all is_digit (b ∷ w)) ≡ false
    go false e = rw e refl
    go true e = absurd (no_digit b h e)

and_false : (x y : Bool) → y ≡ false → (x && y) ≡ false
and_false true y e = e
and_false false y e = refl

whole_run : (w : List ℕ) → begins is_letter w ≡ true → list_all is_word_byte w ≡ true → whole w ≡ Some (word_of w)
whole_run w h a = rw (h, a) refl

no_word : (w : List ℕ) → list_all is_word_byte w ≡ false → word w ≡ None
no_word w a = rw (and_false (begins is_letter w) (list_all is_word_byte w) a) refl

no_number : (b : ℕ) (w : List ℕ) → is_letter b ≡ true → number (b ∷ w) ≡ None
no_number b w h = rw (no_numeral b w h) refl

no_text : (b : ℕ) (w : List ℕ) → is_letter b ≡ true → text (b ∷ w) ≡ None
no_text b w h = rw (not_at is_letter b 34 h refl) refl

whole_none : (b : ℕ) (w : List ℕ) → is_letter b ≡ true → list_all is_word_byte (b ∷ w) ≡ false → whole (b ∷ w) ≡ None
whole_none b w h a =
    rw (no_word (b ∷ w) a, no_number b w h, no_text b w h) (mark_none is_letter b w mark_texts h refl)

pub run_longest : (bytes : List ℕ) → begins is_letter bytes ≡ true → IsLongest bytes (word_of (take (prefix_len is_word_byte bytes) bytes)) (prefix_len is_word_byte bytes)
run_longest [] h = absurd cc
run_longest (b ∷ bytes) h =
    let n : ℕ = prefix_len is_word_byte (b ∷ bytes) in
    let n-is : prefix_len is_word_byte (b ∷ bytes) ≡ suc (prefix_len is_word_byte bytes) = rw (letter_is b h) (one_more (prefix_len is_word_byte bytes)) in
    let front : begins is_letter (take n (b ∷ bytes)) ≡ true = ap (λ (k : ℕ). begins is_letter (take k (b ∷ bytes))) n-is ∙ h in
    record {
      some = omega (arith, n-is);
      within = prefix_len-le-length is_word_byte (b ∷ bytes);
      is = whole_run (take n (b ∷ bytes)) front (all_prefix is_word_byte (b ∷ bytes));
      longest = λ m lt le. longer m lt le;
    }
  where
    longer : (m : ℕ) → prefix_len is_word_byte (b ∷ bytes) < m → m ≤ length (b ∷ bytes) → whole (take m (b ∷ bytes)) ≡ None
    longer zero lt le = absurd (omega arith)
    longer (suc k) lt le = whole_none b (take k bytes) h (not_all is_word_byte (b ∷ bytes) (suc k) lt le)

too_long : (n : ℕ) → 64 < n → nat_le n 64 ≡ false
too_long n h = grind (arith, nat_tests)

short : (n : ℕ) → n ≤ 64 → nat_le n 64 ≡ true
short n h = grind (arith, nat_tests)

pub bad_longest : (bytes : List ℕ) (len : ℕ) → begins is_letter bytes ≡ true → len ≡ prefix_len is_word_byte bytes → 64 < len → IsLongest bytes token.Bad len
bad_longest bytes len h e lt =
    let n : ℕ = prefix_len is_word_byte bytes in
    let lt2 : 64 < prefix_len is_word_byte bytes = omega (arith, e) in
    let t : word_of (take n bytes) ≡ token.Bad = rw (length-prefix_len is_word_byte bytes, too_long n lt2) refl in
    subst (λ (k : ℕ). IsLongest bytes token.Bad k) (sym e) (subst (λ (x : Token). IsLongest bytes x n) t (run_longest bytes h))

pub word_longest : (bytes w : List ℕ) (len : ℕ) → begins is_letter bytes ≡ true → len ≡ prefix_len is_word_byte bytes → len ≤ 64 → w ≡ take len bytes → IsLongest bytes (token.Word w) len
word_longest bytes w len h e le is =
    let n : ℕ = prefix_len is_word_byte bytes in
    let le2 : prefix_len is_word_byte bytes ≤ 64 = omega (arith, e) in
    let w-is : take n bytes ≡ w = ap (λ (k : ℕ). take k bytes) (sym e) ∙ sym is in
    let t : word_of (take n bytes) ≡ token.Word w = rw (length-prefix_len is_word_byte bytes, short n le2) (ap token.Word w-is) in
    subst (λ (k : ℕ). IsLongest bytes (token.Word w) k) (sym e) (subst (λ (x : Token). IsLongest bytes x n) t (run_longest bytes h))
