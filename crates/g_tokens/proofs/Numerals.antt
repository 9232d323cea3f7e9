-- A run of digits is the longest token at its place.
use Rattle.std.proofs.Common.{◌≡◌, ℕ, zero, suc, ◌+◌, ◌*◌, ◌-◌, ◌^◌, ◌<◌, ◌≤◌, Bool, true, false, List, [], ◌∷◌, length, take, Some, None, refl, sym, ap, ◌∙◌, arith, subst, nat_eq, add-one}
use Rattle.std.specs.List.{prefix_len, list_all}
use Rattle.std.proofs.lemmas.Bool.{and_parts, eqb-true}
use Rattle.std.proofs.lemmas.Bool.Decides.{nat_tests}
use Rattle.std.proofs.lemmas.List.Sums.{prefix_len-le-length}
use Rattle.std.proofs.Math.Nat.{pow-succ', pow-le-pow_right}
use Rattle.g_tokens.specs.declared.token.Token.{Token}
use Rattle.g_tokens.specs.Tokens.{is_letter, is_digit, begins, numeral, word, number, text, mark_texts, whole, IsLongest, IsFront}
use Rattle.g_tokens.proofs.Fronts.{front_is}
use Rattle.g_tokens.proofs.WordRuns.{one_more, all_prefix, not_all, mark_none}

-- ---- the value

pub next_below : (i v b : ℕ) → v < 10 ^ i → is_digit b ≡ true → 10 * v + (b - 48) < 10 ^ (i + 1)
next_below i v b h d =
    let e : 10 ^ (i + 1) ≡ 10 * 10 ^ i = ap (λ (k : ℕ). 10 ^ k) (add-one i) ∙ pow-succ' 10 i in
    let le : b ≤ 57 = at_most b d in
    omega (arith, e)
  where
    at_most : (b : ℕ) → is_digit b ≡ true → b ≤ 57
    at_most b d = grind (arith, nat_tests)

pub below_twenty : (i v : ℕ) → i ≤ 20 → v < 10 ^ i → v < 10 ^ 20
below_twenty i v le h =
    let e : 10 ^ i ≤ 10 ^ 20 = pow-le-pow_right {n = 10} (omega arith) le in
    omega (arith, h, e)

pub first_all : (b : ℕ) (w : List ℕ) → list_all is_digit (b ∷ w) ≡ true → is_digit b ≡ true
first_all b w h = (and_parts (is_digit b) (list_all is_digit w) h).0

pub rest_all : (b : ℕ) (w : List ℕ) → list_all is_digit (b ∷ w) ≡ true → list_all is_digit w ≡ true
rest_all b w h = (and_parts (is_digit b) (list_all is_digit w) h).1

pub digit_range : (b : ℕ) → is_digit b ≡ true → (48 ≤ b) × (b ≤ 57)
digit_range b d = (grind (arith, nat_tests), grind (arith, nat_tests))

-- ---- the token

not_letter : (b : ℕ) → is_digit b ≡ true → is_letter b ≡ false
not_letter b h = grind (arith, nat_tests)

not_byte : (b k : ℕ) → is_digit b ≡ true → is_digit k ≡ false → nat_eq b k ≡ false
not_byte b k h e = go (nat_eq b k) refl
  where
    go : (v : Bool) → nat_eq b k ≡ v → v ≡ false
    go false same = refl
    go true same = let f : b ≡ k = eqb-true b k same in let g : true ≡ false = sym h ∙ ap is_digit f ∙ e in absurd cc

-- without a sign
plain_is : (b : ℕ) (w : List ℕ) → is_digit b ≡ true → list_all is_digit (b ∷ w) ≡ true → whole (b ∷ w) ≡ Some (numeral false (b ∷ w))
plain_is b w h all =
    let q = and_parts (is_digit b) (list_all is_digit w) all in
    rw (not_letter b h, not_byte b 45 h refl, h, q.1) refl

no_word : (b : ℕ) (w : List ℕ) → is_digit b ≡ true → word (b ∷ w) ≡ None
no_word b w h = rw (not_letter b h) refl

no_number : (b : ℕ) (w : List ℕ) → is_digit b ≡ true → list_all is_digit (b ∷ w) ≡ false → number (b ∷ w) ≡ None
no_number b w h all =
    let a : list_all is_digit w ≡ false = rw h at all in
    rw (not_byte b 45 h refl, h, a) refl

no_text : (b : ℕ) (w : List ℕ) → is_digit b ≡ true → text (b ∷ w) ≡ None
no_text b w h = rw (not_byte b 34 h refl) refl

plain_none : (b : ℕ) (w : List ℕ) → is_digit b ≡ true → list_all is_digit (b ∷ w) ≡ false → whole (b ∷ w) ≡ None
plain_none b w h all =
    rw (no_word b w h, no_number b w h all, no_text b w h) (mark_none is_digit b w mark_texts h refl)

pub plain : (bytes : List ℕ) (t : Token) (n : ℕ) → begins is_digit bytes ≡ true → t ≡ numeral false (take (prefix_len is_digit bytes) bytes) → n ≡ prefix_len is_digit bytes → IsFront bytes t n
plain [] t n h e f = absurd cc
plain (b ∷ bytes) t n h e f = rw (e, f) (front_is (b ∷ bytes) _ _ run)
  where
    n-is : prefix_len is_digit (b ∷ bytes) ≡ suc (prefix_len is_digit bytes)
    n-is = rw h (one_more (prefix_len is_digit bytes))

    longer : (m : ℕ) → prefix_len is_digit (b ∷ bytes) < m → m ≤ length (b ∷ bytes) → whole (take m (b ∷ bytes)) ≡ None
    longer zero lt le = absurd (omega arith)
    longer (suc k) lt le = plain_none b (take k bytes) h (not_all is_digit (b ∷ bytes) (suc k) lt le)

    is : (k : ℕ) → prefix_len is_digit (b ∷ bytes) ≡ suc k → whole (take (prefix_len is_digit (b ∷ bytes)) (b ∷ bytes)) ≡ Some (numeral false (take (prefix_len is_digit (b ∷ bytes)) (b ∷ bytes)))
    is k e =
        let all : list_all is_digit (take (suc k) (b ∷ bytes)) ≡ true = ap (λ (k : ℕ). list_all is_digit (take k (b ∷ bytes))) (sym e) ∙ all_prefix is_digit (b ∷ bytes) in
        subst (λ (k : ℕ). whole (take k (b ∷ bytes)) ≡ Some (numeral false (take k (b ∷ bytes)))) (sym e) (plain_is b (take k bytes) h all)

    run : IsLongest (b ∷ bytes) (numeral false (take (prefix_len is_digit (b ∷ bytes)) (b ∷ bytes))) (prefix_len is_digit (b ∷ bytes))
    run = record {
      some = omega (arith, n-is);
      within = prefix_len-le-length is_digit (b ∷ bytes);
      is = is (prefix_len is_digit bytes) n-is;
      longest = longer;
    }

-- with a sign
signed_is : (b : ℕ) (w : List ℕ) → is_digit b ≡ true → list_all is_digit (b ∷ w) ≡ true → whole (45 ∷ b ∷ w) ≡ Some (numeral true (b ∷ w))
signed_is b w h all =
    let q = and_parts (is_digit b) (list_all is_digit w) all in
    rw (h, q.1) refl

signed_none : (b : ℕ) (w : List ℕ) → is_digit b ≡ true → list_all is_digit (b ∷ w) ≡ false → whole (45 ∷ b ∷ w) ≡ None
signed_none b w h all =
    let a : list_all is_digit w ≡ false = rw h at all in
    rw (h, a, not_byte b 62 h refl) refl

pub signed : (rest : List ℕ) (t : Token) (n : ℕ) → begins is_digit rest ≡ true → t ≡ numeral true (take (prefix_len is_digit rest) rest) → n ≡ prefix_len is_digit rest → IsFront (45 ∷ rest) t (n + 1)
signed [] t n h e f = absurd cc
signed (b ∷ rest) t n h e f = rw (e, f, add-one) (front_is (45 ∷ b ∷ rest) _ _ run)
  where
    n-is : prefix_len is_digit (b ∷ rest) ≡ suc (prefix_len is_digit rest)
    n-is = rw h (one_more (prefix_len is_digit rest))

    longer : (m : ℕ) → suc (prefix_len is_digit (b ∷ rest)) < m → m ≤ length (45 ∷ b ∷ rest) → whole (take m (45 ∷ b ∷ rest)) ≡ None
    longer zero lt le = absurd (omega arith)
    longer (suc zero) lt le = absurd (omega (arith, n-is))
    longer (suc (suc k)) lt le = signed_none b (take k rest) h (not_all is_digit (b ∷ rest) (suc k) (omega arith) (omega arith))

    is : (k : ℕ) → prefix_len is_digit (b ∷ rest) ≡ suc k → whole (take (suc (prefix_len is_digit (b ∷ rest))) (45 ∷ b ∷ rest)) ≡ Some (numeral true (take (prefix_len is_digit (b ∷ rest)) (b ∷ rest)))
    is k e =
        let all : list_all is_digit (take (suc k) (b ∷ rest)) ≡ true = ap (λ (k : ℕ). list_all is_digit (take k (b ∷ rest))) (sym e) ∙ all_prefix is_digit (b ∷ rest) in
        subst (λ (k : ℕ). whole (45 ∷ take k (b ∷ rest)) ≡ Some (numeral true (take k (b ∷ rest)))) (sym e) (signed_is b (take k rest) h all)

    run : IsLongest (45 ∷ b ∷ rest) (numeral true (take (prefix_len is_digit (b ∷ rest)) (b ∷ rest))) (suc (prefix_len is_digit (b ∷ rest)))
    run =
        let le = prefix_len-le-length is_digit (b ∷ rest) in
        record {
          some = omega arith;
          within = omega arith;
          is = is (prefix_len is_digit rest) n-is;
          longest = longer;
        }
