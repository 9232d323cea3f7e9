-- Numbers in front of bytes.
use Rattle.std.proofs.Common.{◌≡◌, ℕ, suc, ◌+◌, ◌*◌, ◌-◌, ◌/◌, ◌%◌, ◌^◌, ◌<◌, ◌≤◌, Bool, true, false, List, [], ◌∷◌, ◌++◌, length, take, ℤ, pos, negsuc, refl, sym, ap, ◌∙◌, arith, subst, add-one}
use Rattle.std.specs.Prelude.{nat_le}
use Rattle.std.specs.List.{prefix_len, list_all}
use Rattle.std.specs.Fmt.{decimal, signed_decimal}
use Rattle.std.proofs.lemmas.Bool.Decides.{nat_tests}
use Rattle.std.proofs.lemmas.Bool.{and_parts}
use Rattle.std.proofs.lemmas.Fmt.{decimal_by_steps_wide, length-decimal-le_wide}
use Rattle.std.proofs.lemmas.List.Folds.{list_all-append}
use Rattle.g_tokens.specs.declared.token.Token.{Token}
use Rattle.g_tokens.specs.declared.token.Token.TheVariants as token
use Rattle.g_tokens.specs.Tokens.{is_digit, is_word_byte, begins, digits_value, numeral, IsFront}
use Rattle.g_tokens.proofs.Numerals.{plain, signed}
use Rattle.g_print_laws.proofs.Lexing.{Bound, Inside, is_inner, not_at, both, prefix_is, take_front, bound_line, piece}

-- a number that a token can be
abbrev pub IsShort : ℤ → Type 0
IsShort (pos n) = n < 10 ^ 20
IsShort (negsuc n) = suc n < 10 ^ 20

record IsDigits (n : ℕ) (ds : List ℕ) : Type 0 where
  all : list_all is_digit ds ≡ true
  first : begins is_digit ds ≡ true
  value : digits_value 0 ds ≡ n

digit_at : (d : ℕ) → d < 10 → is_digit (48 + d) ≡ true
digit_at d h = grind (arith, nat_tests)

value_more : (v : ℕ) (ds : List ℕ) (b : ℕ) → digits_value v (ds ++ b ∷ []) ≡ 10 * digits_value v ds + (b - 48)
value_more v [] b = refl
value_more v (d ∷ ds) b = value_more (10 * v + (d - 48)) ds b

first_more : (ds : List ℕ) (b : ℕ) → begins is_digit ds ≡ true → begins is_digit (ds ++ b ∷ []) ≡ true
first_more [] b h = absurd cc
first_more (d ∷ ds) b h = h

one_digit : (n : ℕ) → n < 10 → IsDigits n ((48 + n) ∷ [])
one_digit n h =
    let d = digit_at n h in
    record { all = rw d refl; first = d; value = omega arith }

more_digits : (n : ℕ) (ds : List ℕ) → 10 ≤ n → IsDigits (n / 10) ds → IsDigits n (ds ++ (48 + n % 10) ∷ [])
more_digits n ds h i =
    let lt : n % 10 < 10 = omega arith in
    let d = digit_at (n % 10) lt in
    let v = i.value in
    record {
      all = list_all-append is_digit ds ((48 + n % 10) ∷ []) ∙ both (list_all is_digit ds) (list_all is_digit ((48 + n % 10) ∷ [])) i.all (rw d refl);
      first = first_more ds (48 + n % 10) i.first;
      value = value_more 0 ds (48 + n % 10) ∙ omega arith;
    }

is_digits : (n : ℕ) → n < 10 ^ 64 → IsDigits n (decimal n)
is_digits = decimal_by_steps_wide IsDigits one_digit more_digits

not_long : (n : ℕ) → n ≤ 20 → nat_le n 20 ≡ true
not_long n h = grind (arith, nat_tests)

plain_value : (n : ℕ) (ds : List ℕ) → IsDigits n ds → length ds ≤ 20 → numeral false ds ≡ token.Number (pos n)
plain_value n ds i le = rw (not_long (length ds) le, i.value) refl

signed_value : (n : ℕ) (ds : List ℕ) → IsDigits (suc n) ds → length ds ≤ 20 → numeral true ds ≡ token.Number (negsuc n)
signed_value n ds i le = rw (not_long (length ds) le, i.value) refl

digit_inner : (b : ℕ) → is_digit b ≡ true → is_inner b ≡ true
digit_inner b h = rw (not_at is_digit b 10 h refl, not_at is_digit b 13 h refl) refl

inner_digits : (ds : List ℕ) → list_all is_digit ds ≡ true → list_all is_inner ds ≡ true
inner_digits [] h = refl
inner_digits (b ∷ ds) h =
    let q = and_parts (is_digit b) (list_all is_digit ds) h in
    both (is_inner b) (list_all is_inner ds) (digit_inner b q.0) (inner_digits ds q.1)

digit_word : (b : ℕ) → is_word_byte b ≡ false → is_digit b ≡ false
digit_word b h = grind (arith, nat_tests)

no_digit : (line : List ℕ) → begins is_word_byte line ≡ false → begins is_digit line ≡ false
no_digit [] h = refl
no_digit (b ∷ line) h = digit_word b h

-- the run of digits ends where they do
run_is : (negative : Bool) (ds line : List ℕ) → list_all is_digit ds ≡ true → begins is_digit line ≡ false
    → numeral negative ds ≡ numeral negative (take (prefix_len is_digit (ds ++ line)) (ds ++ line))
run_is negative ds line all e = ap (numeral negative) (take_front ds line ∙ ap (λ n. take n (ds ++ line)) (sym (prefix_is is_digit ds line all e)))

first_front : (ds line : List ℕ) → begins is_digit ds ≡ true → begins is_digit (ds ++ line) ≡ true
first_front [] line h = absurd cc
first_front (d ∷ ds) line h = h

plain_piece : (n : ℕ) (ds : List ℕ) {bytes : List ℕ} {ts : List Token} → IsDigits n ds → length ds ≤ 20 → Bound bytes → Inside bytes ts → Inside (ds ++ bytes) (token.Number (pos n) ∷ ts)
plain_piece n [] i le e s = absurd (let f = i.first in cc)
plain_piece n (b ∷ w) i le e s =
    let line : begins is_digit s.line ≡ false = no_digit s.line (bound_line is_word_byte s.line _ s.below s.parts e) in
    piece b w (token.Number (pos n))
    (record { space = rw (not_at is_digit b 32 i.first refl, not_at is_digit b 9 i.first refl) refl; comment = not_at is_digit b 35 i.first refl; inner = inner_digits (b ∷ w) i.all })
    s
    (plain ((b ∷ w) ++ s.line) (token.Number (pos n)) (length (b ∷ w)) i.first (sym (plain_value n (b ∷ w) i le) ∙ run_is false (b ∷ w) s.line i.all line) (sym (prefix_is is_digit (b ∷ w) s.line i.all line)))

signed_piece : (n : ℕ) (ds : List ℕ) {bytes : List ℕ} {ts : List Token} → IsDigits (suc n) ds → length ds ≤ 20 → Bound bytes → Inside bytes ts → Inside (45 ∷ (ds ++ bytes)) (token.Number (negsuc n) ∷ ts)
signed_piece n ds i le e s =
    let line : begins is_digit s.line ≡ false = no_digit s.line (bound_line is_word_byte s.line _ s.below s.parts e) in
    let f : IsFront (45 ∷ (ds ++ s.line)) (token.Number (negsuc n)) (length ds + 1) =
    signed (ds ++ s.line) (token.Number (negsuc n)) (length ds) (first_front ds s.line i.first) (sym (signed_value n ds i le) ∙ run_is true ds s.line i.all line) (sym (prefix_is is_digit ds s.line i.all line)) in
    piece 45 ds (token.Number (negsuc n)) (record { space = refl; comment = refl; inner = inner_digits ds i.all }) s (subst (λ k. IsFront (45 ∷ (ds ++ s.line)) (token.Number (negsuc n)) k) (add-one (length ds)) f)

pub number_piece : (z : ℤ) {bytes : List ℕ} {ts : List Token} → IsShort z → Bound bytes → Inside bytes ts → Inside (signed_decimal z ++ bytes) (token.Number z ∷ ts)
number_piece (pos n) h e s =
    let wide : n < 10 ^ 64 = omega arith in
    plain_piece n (decimal n) (is_digits n wide) (length-decimal-le_wide 20 n (omega arith) h wide) e s
number_piece (negsuc n) h e s =
    let wide : suc n < 10 ^ 64 = omega arith in
    signed_piece n (decimal (suc n)) (is_digits (suc n) wide) (length-decimal-le_wide 20 (suc n) (omega arith) h wide) e s
