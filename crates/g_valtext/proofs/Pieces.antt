-- What a token in front of bytes adds to their tokens.
use Rattle.std.proofs.Common.{◌≡◌, ℕ, zero, suc, ◌+◌, ◌*◌, ◌-◌, ◌/◌, ◌%◌, ◌^◌, ◌<◌, ◌≤◌, Bool, true, false, ◌&&◌, ◌||◌, List, [], ◌∷◌, ◌++◌, length, take, map, Some, ℤ, pos, negsuc, refl, sym, ap, ◌∙◌, arith, subst, append_assoc, add-one}
use Rattle.std.specs.Prelude.{nat_le, nat_lt, ◌==◌}
use Rattle.std.specs.List.{prefix_len, list_all}
use Rattle.std.specs.Fmt.{decimal, signed_decimal}
use Rattle.std.proofs.Math.Seq.{drop-append_seam}
use Rattle.std.proofs.lemmas.Bool.Decides.{nat_tests}
use Rattle.std.proofs.lemmas.Bool.{and_parts, eqb-true}
use Rattle.std.proofs.lemmas.Fmt.{decimal_by_steps_wide, length-decimal-le_wide}
use Rattle.std.proofs.lemmas.List.{length-append}
use Rattle.std.proofs.lemmas.List.Folds.{list_all-append}
use Rattle.g_tokens.specs.declared.token.Token.{Token}
use Rattle.g_tokens.specs.declared.token.Token.TheVariants as token
use Rattle.g_tokens.specs.declared.token.Mark.{Mark}
use Rattle.g_tokens.specs.declared.texts.Escape.TheVariants as escape
use Rattle.g_tokens.specs.Tokens.{is_letter, is_digit, is_word_byte, is_space, begins, digits_value, numeral, hex, lexemes, IsFront}
use Rattle.g_tokens.specs.Scan.{End, text_end, mark_alone}
use Rattle.g_tokens.proofs.Fronts.{front_is, alone_front}
use Rattle.g_tokens.proofs.Gaps.{over_space, at_token}
use Rattle.g_tokens.proofs.Numerals.{plain, signed}
use Rattle.g_tokens.proofs.TextEnds.{quoted_front}
use Rattle.g_tokens.proofs.WordRuns.{word_longest}
use Rattle.g_values.specs.Text.{hex_digit, byte_text, bytes_text, quoted}
use Rattle.g_valtext.specs.Plain.{is_byte}

-- the next byte goes on with no word and no number
abbrev pub Bound : List ℕ → Type 0
Bound bytes = begins is_word_byte bytes ≡ false

-- the bytes have these tokens
pub record Cut (bytes : List ℕ) (ts : List Token) : Type 0 where
  pub kinds : (at : ℕ) → map (λ x. x.token) (lexemes false 0 at bytes) ≡ ts

pub finish : Cut [] []
unfolding lexemes
finish = record { kinds = λ at. refl }

pub space : {bytes : List ℕ} {ts : List Token} → Cut bytes ts → Cut (32 ∷ bytes) ts
space {bytes} c = record { kinds = λ at. ap (map (λ x. x.token)) (over_space false at 32 bytes refl) ∙ c.kinds (suc at) }

piece : (b : ℕ) (w : List ℕ) (t : Token) {bytes : List ℕ} {ts : List Token} → is_space b ≡ false → IsFront ((b ∷ w) ++ bytes) t (length (b ∷ w)) → Cut bytes ts → Cut ((b ∷ w) ++ bytes) (t ∷ ts)
piece b w t {bytes} filled f c = record {
  kinds = λ at.
      ap (map (λ x. x.token)) (at_token false at b (w ++ bytes) t (length (b ∷ w)) filled refl f)
      ∙ ap (λ l. t ∷ map (λ x. x.token) (lexemes false 0 (at + length (b ∷ w)) l)) (drop-append_seam (b ∷ w) bytes)
      ∙ ap (λ l. t ∷ l) (c.kinds (at + length (b ∷ w)));
}

pub mark_piece : (b : ℕ) (m : Mark) {bytes : List ℕ} {ts : List Token} → is_space b ≡ false → Some m ≡ mark_alone b → Cut bytes ts → Cut (b ∷ bytes) (token.Mark m ∷ ts)
mark_piece b m {bytes} filled is c = piece b [] (token.Mark m) filled (alone_front b bytes m is) c

-- ---- runs

prefix_is : (p : ℕ → Bool) (w line : List ℕ) → list_all p w ≡ true → begins p line ≡ false → prefix_len p (w ++ line) ≡ length w
prefix_is p [] [] h e = refl
prefix_is p [] (b ∷ line) h e = rw e refl
prefix_is p (b ∷ w) line h e =
    let q = and_parts (p b) (list_all p w) h in
    rw (q.0, prefix_is p w line q.1 e) (omega arith)

take_front : (w line : List ℕ) → w ≡ take (length w) (w ++ line)
take_front [] line = refl
take_front (b ∷ w) line = ap (λ l. b ∷ l) (take_front w line)

-- a byte of a kind is not a byte of none
not_at : (p : ℕ → Bool) (b k : ℕ) → p b ≡ true → p k ≡ false → (b == k) ≡ false
not_at p b k h e = go (b == k) refl
  where
    go : (v : Bool) → (b == k) ≡ v → v ≡ false
    go false same = refl
    go true same = let f : b ≡ k = eqb-true b k same in let g : true ≡ false = sym h ∙ ap p f ∙ e in absurd cc

pub word_piece : (b : ℕ) (w : List ℕ) {bytes : List ℕ} {ts : List Token} → is_letter b ≡ true → list_all is_word_byte (b ∷ w) ≡ true → length (b ∷ w) ≤ 64 → Bound bytes → Cut bytes ts → Cut ((b ∷ w) ++ bytes) (token.Word (b ∷ w) ∷ ts)
word_piece b w {bytes} letter all short bound c =
    piece b w (token.Word (b ∷ w)) (rw (not_at is_letter b 32 letter refl, not_at is_letter b 9 letter refl) refl)
    (front_is ((b ∷ w) ++ bytes) (token.Word (b ∷ w)) (length (b ∷ w))
    (word_longest ((b ∷ w) ++ bytes) (b ∷ w) (length (b ∷ w)) letter (sym (prefix_is is_word_byte (b ∷ w) bytes all bound)) short (take_front (b ∷ w) bytes)))
    c

-- ---- numbers

-- a number that a token can be
abbrev pub IsShort : ℤ → Type 0
IsShort (pos n) = n < 10 ^ 20
IsShort (negsuc n) = suc n < 10 ^ 20

record IsDigits (n : ℕ) (ds : List ℕ) : Type 0 where
  all : list_all is_digit ds ≡ true
  first : begins is_digit ds ≡ true
  value : digits_value 0 ds ≡ n

digit_at : (d : ℕ) → d < 10 → is_digit (48 + d) ≡ true
digit_at d h = grind (arith, nat_tests)

both : (a b : Bool) → a ≡ true → b ≡ true → (a && b) ≡ true
both a b e f = rw (e, f) refl

value_more : (v : ℕ) (ds : List ℕ) (b : ℕ) → digits_value v (ds ++ b ∷ []) ≡ 10 * digits_value v ds + (b - 48)
value_more v [] b = refl
value_more v (d ∷ ds) b = value_more (10 * v + (d - 48)) ds b

first_more : (ds line : List ℕ) → begins is_digit ds ≡ true → begins is_digit (ds ++ line) ≡ true
first_more [] line h = absurd cc
first_more (d ∷ ds) line h = h

one_digit : (n : ℕ) → n < 10 → IsDigits n ((48 + n) ∷ [])
one_digit n h =
    let d = digit_at n h in
    record { all = rw d refl; first = d; value = omega arith }

more_digits : (n : ℕ) (ds : List ℕ) → 10 ≤ n → IsDigits (n / 10) ds → IsDigits n (ds ++ (48 + n % 10) ∷ [])
more_digits n ds h i =
    let lt : n % 10 < 10 = omega arith in
    let d = digit_at (n % 10) lt in
    let v = i.value in
    record {
      all = list_all-append is_digit ds ((48 + n % 10) ∷ []) ∙ both (list_all is_digit ds) (list_all is_digit ((48 + n % 10) ∷ [])) i.all (rw d refl);
      first = first_more ds ((48 + n % 10) ∷ []) i.first;
      value = value_more 0 ds (48 + n % 10) ∙ omega arith;
    }

is_digits : (n : ℕ) → n < 10 ^ 64 → IsDigits n (decimal n)
is_digits = decimal_by_steps_wide IsDigits one_digit more_digits

not_long : (n : ℕ) → n ≤ 20 → nat_le n 20 ≡ true
not_long n h = grind (arith, nat_tests)

digit_word : (b : ℕ) → is_word_byte b ≡ false → is_digit b ≡ false
digit_word b h = grind (arith, nat_tests)

no_digit : (line : List ℕ) → begins is_word_byte line ≡ false → begins is_digit line ≡ false
no_digit [] h = refl
no_digit (b ∷ line) h = digit_word b h

-- the run of digits ends where they do
run_is : (negative : Bool) (ds line : List ℕ) → list_all is_digit ds ≡ true → begins is_digit line ≡ false
    → numeral negative ds ≡ numeral negative (take (prefix_len is_digit (ds ++ line)) (ds ++ line))
run_is negative ds line all e = ap (numeral negative) (take_front ds line ∙ ap (λ n. take n (ds ++ line)) (sym (prefix_is is_digit ds line all e)))

plain_piece : (n : ℕ) (ds : List ℕ) {bytes : List ℕ} {ts : List Token} → IsDigits n ds → length ds ≤ 20 → Bound bytes → Cut bytes ts → Cut (ds ++ bytes) (token.Number (pos n) ∷ ts)
plain_piece n [] i le e c = absurd (let f = i.first in cc)
plain_piece n (b ∷ w) {bytes} i le e c =
    let line = no_digit bytes e in
    let is : numeral false (b ∷ w) ≡ token.Number (pos n) = rw (not_long (length (b ∷ w)) le, i.value) refl in
    piece b w (token.Number (pos n)) (rw (not_at is_digit b 32 i.first refl, not_at is_digit b 9 i.first refl) refl)
    (plain ((b ∷ w) ++ bytes) (token.Number (pos n)) (length (b ∷ w)) i.first (sym is ∙ run_is false (b ∷ w) bytes i.all line) (sym (prefix_is is_digit (b ∷ w) bytes i.all line)))
    c

signed_piece : (n : ℕ) (ds : List ℕ) {bytes : List ℕ} {ts : List Token} → IsDigits (suc n) ds → length ds ≤ 20 → Bound bytes → Cut bytes ts → Cut (45 ∷ (ds ++ bytes)) (token.Number (negsuc n) ∷ ts)
signed_piece n ds {bytes} i le e c =
    let line = no_digit bytes e in
    let is : numeral true ds ≡ token.Number (negsuc n) = rw (not_long (length ds) le, i.value) refl in
    let f : IsFront (45 ∷ (ds ++ bytes)) (token.Number (negsuc n)) (length ds + 1) =
    signed (ds ++ bytes) (token.Number (negsuc n)) (length ds) (first_more ds bytes i.first) (sym is ∙ run_is true ds bytes i.all line) (sym (prefix_is is_digit ds bytes i.all line)) in
    piece 45 ds (token.Number (negsuc n)) refl (subst (λ k. IsFront (45 ∷ (ds ++ bytes)) (token.Number (negsuc n)) k) (add-one (length ds)) f) c

pub number_piece : (z : ℤ) {bytes : List ℕ} {ts : List Token} → IsShort z → Bound bytes → Cut bytes ts → Cut (signed_decimal z ++ bytes) (token.Number z ∷ ts)
number_piece (pos n) h e c =
    let wide : n < 10 ^ 64 = omega arith in
    plain_piece n (decimal n) (is_digits n wide) (length-decimal-le_wide 20 n (omega arith) h wide) e c
number_piece (negsuc n) h e c =
    let wide : suc n < 10 ^ 64 = omega arith in
    signed_piece n (decimal (suc n)) (is_digits (suc n) wide) (length-decimal-le_wide 20 (suc n) (omega arith) h wide) e c

-- ---- texts

hex_value : (d : ℕ) → d < 16 → hex (hex_digit d) ≡ Some d
hex_value zero h = refl
hex_value (suc zero) h = refl
hex_value (suc (suc zero)) h = refl
hex_value (suc (suc (suc zero))) h = refl
hex_value (suc (suc (suc (suc zero)))) h = refl
hex_value (suc (suc (suc (suc (suc zero))))) h = refl
hex_value (suc (suc (suc (suc (suc (suc zero)))))) h = refl
hex_value (suc (suc (suc (suc (suc (suc (suc zero))))))) h = refl
hex_value (suc (suc (suc (suc (suc (suc (suc (suc zero)))))))) h = refl
hex_value (suc (suc (suc (suc (suc (suc (suc (suc (suc zero))))))))) h = refl
hex_value (suc (suc (suc (suc (suc (suc (suc (suc (suc (suc zero)))))))))) h = refl
hex_value (suc (suc (suc (suc (suc (suc (suc (suc (suc (suc (suc zero))))))))))) h = refl
hex_value (suc (suc (suc (suc (suc (suc (suc (suc (suc (suc (suc (suc zero)))))))))))) h = refl
hex_value (suc (suc (suc (suc (suc (suc (suc (suc (suc (suc (suc (suc (suc zero))))))))))))) h = refl
hex_value (suc (suc (suc (suc (suc (suc (suc (suc (suc (suc (suc (suc (suc (suc zero)))))))))))))) h = refl
hex_value (suc (suc (suc (suc (suc (suc (suc (suc (suc (suc (suc (suc (suc (suc (suc zero))))))))))))))) h = refl
hex_value (suc (suc (suc (suc (suc (suc (suc (suc (suc (suc (suc (suc (suc (suc (suc (suc d)))))))))))))))) h = absurd (omega arith)

-- a byte's characters before others
record Written (b : ℕ) (front : List ℕ) : Type 0 where
  ends : (w v : List ℕ) (n : ℕ) → text_end escape.Plain w ≡ Some (v, n) → text_end escape.Plain (front ++ w) ≡ Some (b ∷ v, length front + n)

sums : (b : ℕ) (v : List ℕ) (n k m : ℕ) → m ≡ k + n → ◌≡◌ {A = End} (Some (b ∷ v, m)) (Some (b ∷ v, k + n))
sums b v n k m e = ap (λ (j : ℕ). Some (b ∷ v, j)) e

marked : (b : ℕ) → ((b == 34) || (b == 92)) ≡ true → Written b (92 ∷ b ∷ [])
unfolding text_end
marked b h = record { ends = λ w v n e. rw (h, e) (sums b v n 2 (suc (suc n)) (omega arith)) }

printable : (b : ℕ) → ((b == 34) || (b == 92)) ≡ false → (nat_lt 31 b && nat_lt b 127) ≡ true → Written b (b ∷ [])
unfolding text_end
printable b h k =
    let one : (b == 34) ≡ false = grind (arith, nat_tests) in
    let two : (b == 92) ≡ false = grind (arith, nat_tests) in
    let three : nat_le 32 b ≡ true = grind (arith, nat_tests) in
    record { ends = λ w v n e. rw (one, two, three, e) (sums b v n 1 (suc n) (omega arith)) }

escaped : (b : ℕ) → b < 256 → Written b (92 ∷ 120 ∷ hex_digit (b / 16) ∷ hex_digit (b % 16) ∷ [])
unfolding text_end
escaped b h =
    let high = hex_value (b / 16) (omega arith) in
    let low = hex_value (b % 16) (omega arith) in
    let back : 16 * (b / 16) + b % 16 ≡ b = omega arith in
    record { ends = λ w v n e. rw (high, high, low, e, back) (sums b v n 4 (suc (suc (suc (suc n)))) (omega arith)) }

written : (b : ℕ) → is_byte b ≡ true → Written b (byte_text b)
written b h = go ((b == 34) || (b == 92)) refl (nat_lt 31 b && nat_lt b 127) refl
  where
    lt : (b : ℕ) → is_byte b ≡ true → b < 256
    lt b h = grind (arith, nat_tests)

    go : (p : Bool) → ((b == 34) || (b == 92)) ≡ p → (q : Bool) → (nat_lt 31 b && nat_lt b 127) ≡ q → Written b (byte_text b)
    go true e q f = rw e (marked b e)
    go false e true f = rw (e, f) (printable b e f)
    go false e false f = rw (e, f) (escaped b (lt b h))

ends : (v rest : List ℕ) → list_all is_byte v ≡ true → text_end escape.Plain (bytes_text v ++ 34 ∷ rest) ≡ Some (v, length (bytes_text v) + 1)
unfolding text_end
ends [] rest h = refl
ends (b ∷ v) rest h =
    let q = and_parts (is_byte b) (list_all is_byte v) h in
    let n : length (byte_text b) + (length (bytes_text v) + 1) ≡ length (byte_text b ++ bytes_text v) + 1 = omega (arith, length-append (byte_text b) (bytes_text v)) in
    ap (text_end escape.Plain) (append_assoc (byte_text b) (bytes_text v) (34 ∷ rest))
    ∙ (written b q.0).ends (bytes_text v ++ 34 ∷ rest) v (length (bytes_text v) + 1) (ends v rest q.1)
    ∙ ap (λ (k : ℕ). Some (b ∷ v, k)) n

pub text_piece : (v : List ℕ) {bytes : List ℕ} {ts : List Token} → list_all is_byte v ≡ true → Cut bytes ts → Cut (quoted v ++ bytes) (token.Text v ∷ ts)
text_piece v {bytes} h c =
    let w : List ℕ = bytes_text v ++ 34 ∷ [] in
    let long : length (34 ∷ w) ≡ (length (bytes_text v) + 1) + 1 = omega (arith, length-append (bytes_text v) (34 ∷ [])) in
    let f : IsFront (34 ∷ (bytes_text v ++ 34 ∷ bytes)) (token.Text v) ((length (bytes_text v) + 1) + 1) = quoted_front (bytes_text v ++ 34 ∷ bytes) v (length (bytes_text v) + 1) (sym (ends v bytes h)) in
    let g : IsFront ((34 ∷ w) ++ bytes) (token.Text v) ((length (bytes_text v) + 1) + 1) = subst (λ l. IsFront (34 ∷ l) (token.Text v) ((length (bytes_text v) + 1) + 1)) (sym (append_assoc (bytes_text v) (34 ∷ []) bytes)) f in
    piece 34 w (token.Text v) refl (subst (λ n. IsFront ((34 ∷ w) ++ bytes) (token.Text v) n) (sym long) g) c
