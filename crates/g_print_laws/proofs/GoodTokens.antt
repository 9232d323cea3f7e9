-- The tokens of bytes are such as bytes can have.
use Rattle.std.proofs.Common.{◌≡◌, ℕ, zero, suc, ◌+◌, ◌*◌, ◌-◌, ◌^◌, ◌<◌, ◌≤◌, Bool, true, false, cond, ◌&&◌, ◌||◌, List, [], ◌∷◌, ◌++◌, length, take, pos, Option, Some, None, refl, sym, ◌∙◌, arith, subst}
use Rattle.std.specs.Prelude.{nat_le, ◌==◌, slice_index}
use Rattle.std.specs.List.{list_all}
use Rattle.std.specs.Str.{bytes_eq}
use Rattle.std.proofs.lemmas.Bool.{and_parts}
use Rattle.std.proofs.lemmas.Bool.Decides.{nat_tests}
use Rattle.std.proofs.lemmas.List.{map-append}
use Rattle.std.proofs.lemmas.List.Folds.{list_all-append}
use Rattle.g_tokens.specs.declared.token.Token.{Token}
use Rattle.g_tokens.specs.declared.token.Token.TheVariants as token
use Rattle.g_tokens.specs.declared.token.Mark.{Mark}
use Rattle.g_tokens.specs.declared.token.Spot.{Spot}
use Rattle.g_tokens.specs.declared.token.Lexeme.{Lexeme}
use Rattle.g_tokens.specs.declared.texts.Escape.{Escape}
use Rattle.g_tokens.specs.declared.texts.Escape.TheVariants as escape
use Rattle.g_tokens.specs.declared.texts.Step.{Step}
use Rattle.g_tokens.specs.declared.texts.Step.TheVariants as step
use Rattle.g_tokens.specs.Tokens.{is_letter, is_digit, is_word_byte, is_space, begins, word, digits_value, minus, digits_of, numeral, number, hex, first_digit, two_digits, in_text, byte_before, closed, after_step, characters, as_text, text, mark_in, mark_texts, or_none, whole, longer_or, longest, front, at_gap, lexemes, line_rest, line_tokens, content, cut, placed, lines, lines_tokens, placed_tokens, tokens_of}
use Rattle.g_tokens.proofs.Numerals.{next_below, below_twenty, first_all, rest_all}
use Rattle.g_print_laws.specs.Bytes.{IsBytes}
use Rattle.g_print_laws.proofs.Lexing.{both}
use Rattle.g_print_laws.proofs.NumberPieces.{IsShort}
use Rattle.g_print_laws.proofs.TextPieces.{is_byte}
use Rattle.g_print_laws.proofs.Parts.{IsGood, AreGood, some_is}

abbrev AllGood : Option Token → Type 0
AllGood None = Unit {0}
AllGood (Some t) = IsGood t

-- ---- words

word_good : (w : List ℕ) → AllGood (word w)
word_good w = go (begins is_letter w) (list_all is_word_byte w) (nat_le (length w) 64) refl refl refl
  where
    short : (n : ℕ) → nat_le n 64 ≡ true → n ≤ 64
    short n h = grind (arith, nat_tests)

    go : (a b c : Bool) → begins is_letter w ≡ a → list_all is_word_byte w ≡ b → nat_le (length w) 64 ≡ c → AllGood (cond (a && b) (Some (cond c (token.Word w) token.Bad)) None)
    go true true true e f g = record { letter = e; all = f; short = short (length w) g }
    go true true false e f g = tt
    go true false c e f g = tt
    go false b c e f g = tt

-- ---- numbers

value_below : (ds : List ℕ) (i v : ℕ) → v < 10 ^ i → list_all is_digit ds ≡ true → digits_value v ds < 10 ^ (i + length ds)
value_below [] i v h d = let e : i + 0 ≡ i = omega arith in subst (λ (k : ℕ). v < 10 ^ k) (sym e) h
value_below (b ∷ ds) i v h d =
    let e : (i + 1) + length ds ≡ i + suc (length ds) = omega arith in
    subst (λ (k : ℕ). digits_value (10 * v + (b - 48)) ds < 10 ^ k) e (value_below ds (i + 1) (10 * v + (b - 48)) (next_below i v b h (first_all b ds d)) (rest_all b ds d))

minus_short : (n : ℕ) → n < 10 ^ 20 → IsShort (minus n)
minus_short zero h = h
minus_short (suc n) h = h

numeral_good : (negative : Bool) (ds : List ℕ) → list_all is_digit ds ≡ true → IsGood (numeral negative ds)
numeral_good negative ds d = go (nat_le (length ds) 20) refl negative
  where
    short : (n : ℕ) → nat_le n 20 ≡ true → n ≤ 20
    short n h = grind (arith, nat_tests)

    value : nat_le (length ds) 20 ≡ true → digits_value 0 ds < 10 ^ 20
    value e =
        let z : 0 + length ds ≡ length ds = omega arith in
        below_twenty (length ds) (digits_value 0 ds) (short (length ds) e) (subst (λ (k : ℕ). digits_value 0 ds < 10 ^ k) z (value_below ds 0 0 (omega arith) d))

    go : (b : Bool) → nat_le (length ds) 20 ≡ b → (n : Bool) → IsGood (cond b (token.Number (cond n (minus (digits_value 0 ds)) (pos (digits_value 0 ds)))) token.Bad)
    go true e true = minus_short (digits_value 0 ds) (value e)
    go true e false = value e
    go false e n = tt

number_good : (w : List ℕ) → AllGood (number w)
number_good w = go (begins is_digit (digits_of w)) (list_all is_digit (digits_of w)) refl
  where
    go : (a b : Bool) → list_all is_digit (digits_of w) ≡ b → AllGood (cond (a && b) (Some (numeral (begins (λ b. b == 45) w) (digits_of w))) None)
    go true true e = numeral_good (begins (λ b. b == 45) w) (digits_of w) e
    go true false e = tt
    go false b e = tt

-- ---- texts

hex_below : (b d : ℕ) → hex b ≡ Some d → d < 16
hex_below b d e = go (is_digit b) (nat_le 97 b && nat_le b 102) (nat_le 65 b && nat_le b 70) refl refl refl e
  where
    digit : (b : ℕ) → is_digit b ≡ true → b - 48 < 16
    digit b h = grind (arith, nat_tests)

    small : (b : ℕ) → (nat_le 97 b && nat_le b 102) ≡ true → b - 87 < 16
    small b h = grind (arith, nat_tests)

    large : (b : ℕ) → (nat_le 65 b && nat_le b 70) ≡ true → b - 55 < 16
    large b h = grind (arith, nat_tests)

    go : (p q r : Bool) → is_digit b ≡ p → (nat_le 97 b && nat_le b 102) ≡ q → (nat_le 65 b && nat_le b 70) ≡ r → cond p (Some (b - 48)) (cond q (Some (b - 87)) (cond r (Some (b - 55)) None)) ≡ Some d → d < 16
    go true q r f g h k = subst (λ (n : ℕ). n < 16) (some_is k) (digit b f)
    go false true r f g h k = subst (λ (n : ℕ). n < 16) (some_is k) (small b g)
    go false false true f g h k = subst (λ (n : ℕ). n < 16) (some_is k) (large b h)
    go false false false f g h k = absurd cc

-- a byte that a step means is one
abbrev Means : Step → Type 0
Means (step.Means b) = is_byte b ≡ true
Means _ = Unit {0}

two_mean : (o p : Option ℕ) → ((d : ℕ) → o ≡ Some d → d < 16) → ((d : ℕ) → p ≡ Some d → d < 16) → Means (two_digits o p)
two_mean None p h k = tt
two_mean (Some d) None h k = tt
two_mean (Some d) (Some e) h k =
    let one = h d refl in
    let two = k e refl in
    byte_below (16 * d + e) (omega arith)
  where
    byte_below : (b : ℕ) → b < 256 → is_byte b ≡ true
    byte_below b h = grind (arith, nat_tests)

first_means : (b : ℕ) (o : Option ℕ) → Means (first_digit b o)
first_means b None = tt
first_means b (Some d) = tt

step_means : (e : Escape) (b : ℕ) → is_byte b ≡ true → Means (in_text e b)
step_means escape.Plain b h = go (b == 34) (b == 92) (nat_le 32 b)
  where
    go : (p q r : Bool) → Means (cond p step.Close (cond q (step.Begins escape.Backslash) (cond r (step.Means b) step.Refused)))
    go true q r = tt
    go false true r = tt
    go false false true = h
    go false false false = tt
step_means escape.Backslash b h = go (b == 34 || b == 92) (b == 110) (b == 120)
  where
    go : (p q r : Bool) → Means (cond p (step.Means b) (cond q (step.Means 10) (cond r (step.Begins escape.Hex) step.Refused)))
    go true q r = h
    go false true r = refl
    go false false true = tt
    go false false false = tt
step_means escape.Hex b h = first_means b (hex b)
step_means (escape.HexDigit a) b h = two_mean (hex a) (hex b) (hex_below a) (hex_below b)

abbrev AllBytes : Option (List ℕ) → Type 0
AllBytes None = Unit {0}
AllBytes (Some v) = IsBytes v

before_bytes : (b : ℕ) (o : Option (List ℕ)) → is_byte b ≡ true → AllBytes o → AllBytes (byte_before b o)
before_bytes b None h k = tt
before_bytes b (Some v) h k = both (is_byte b) (list_all is_byte v) h k

closed_bytes : (w : List ℕ) → AllBytes (closed w)
closed_bytes [] = refl
closed_bytes (b ∷ w) = tt

step_bytes : (s : Step) (w : List ℕ) (go : Escape → Option (List ℕ)) → Means s → ((e : Escape) → AllBytes (go e)) → AllBytes (after_step s w go)
step_bytes step.Close w go h k = closed_bytes w
step_bytes (step.Means b) w go h k = before_bytes b (go escape.Plain) h (k escape.Plain)
step_bytes (step.Begins e) w go h k = k e
step_bytes step.Refused w go h k = tt

characters_bytes : (w : List ℕ) → IsBytes w → (e : Escape) → AllBytes (characters e w)
unfolding characters
characters_bytes [] h e = tt
characters_bytes (b ∷ w) h e =
    let q = and_parts (is_byte b) (list_all is_byte w) h in
    step_bytes (in_text e b) w (λ e. characters e w) (step_means e b q.0) (characters_bytes w q.1)

as_good : (o : Option (List ℕ)) → AllBytes o → AllGood (as_text o)
as_good None h = tt
as_good (Some v) h = h

text_good : (w : List ℕ) → IsBytes w → AllGood (text w)
text_good [] h = tt
text_good (b ∷ w) h = go (b == 34)
  where
    go : (p : Bool) → AllGood (cond p (as_text (characters escape.Plain w)) None)
    go true = as_good (characters escape.Plain w) (characters_bytes w (and_parts (is_byte b) (list_all is_byte w) h).1 escape.Plain)
    go false = tt

-- ---- any token

mark_good : (rows : List (List ℕ × Mark)) (w : List ℕ) → AllGood (mark_in rows w)
mark_good [] w = tt
mark_good (row ∷ rows) w = go (bytes_eq w row.0) (mark_good rows w)
  where
    go : (b : Bool) → AllGood (mark_in rows w) → AllGood (cond b (Some (token.Mark row.1)) (mark_in rows w))
    go true h = tt
    go false h = h

or_good : (o p : Option Token) → AllGood o → AllGood p → AllGood (or_none o p)
or_good None p h k = k
or_good (Some t) p h k = h

whole_good : (w : List ℕ) → IsBytes w → AllGood (whole w)
whole_good w h =
    or_good (word w) (or_none (number w) (or_none (text w) (mark_in mark_texts w))) (word_good w)
    (or_good (number w) (or_none (text w) (mark_in mark_texts w)) (number_good w) (or_good (text w) (mark_in mark_texts w) (text_good w h) (mark_good mark_texts w)))

take_bytes : (n : ℕ) (w : List ℕ) → IsBytes w → IsBytes (take n w)
take_bytes zero w h = refl
take_bytes (suc n) [] h = refl
take_bytes (suc n) (b ∷ w) h =
    let q = and_parts (is_byte b) (list_all is_byte w) h in
    both (is_byte b) (list_all is_byte (take n w)) q.0 (take_bytes n w q.1)

longer_good : (o : Option Token) (n : ℕ) (shorter : Unit {0} → Token × ℕ) → AllGood o → IsGood (shorter tt).0 → IsGood (longer_or o n shorter).0
longer_good None n shorter h k = k
longer_good (Some t) n shorter h k = h

longest_good : (n : ℕ) (w : List ℕ) → IsBytes w → IsGood (longest n w).0
unfolding longest
longest_good zero w h = tt
longest_good (suc n) w h = longer_good (whole (take (suc n) w)) (suc n) (λ u. longest n w) (whole_good (take (suc n) w) (take_bytes (suc n) w h)) (longest_good n w h)

-- ---- lines

abbrev AllLexemes : List Lexeme → Type 0
AllLexemes [] = Unit {0}
AllLexemes (x ∷ xs) = IsGood x.token × AllLexemes xs

gap_good : (p q : Bool) (at : ℕ) (w : List ℕ) (go : ℕ → List Lexeme) → IsBytes w → ((skip : ℕ) → AllLexemes (go skip)) → AllLexemes (at_gap p q at w go)
gap_good true q at w go h k = k 0
gap_good false true at w go h k = tt
gap_good false false at w go h k = (longest_good (length w) w h, k ((front w).1 - 1))

lexemes_good : (w : List ℕ) → IsBytes w → (skip at : ℕ) → AllLexemes (lexemes true skip at w)
unfolding lexemes
lexemes_good [] h skip at = tt
lexemes_good (b ∷ w) h zero at = gap_good (is_space b) (true && b == 35) at (b ∷ w) (λ skip. lexemes true skip (suc at) w) h (λ skip. lexemes_good w (and_parts (is_byte b) (list_all is_byte w) h).1 skip (suc at))
lexemes_good (b ∷ w) h (suc skip) at = lexemes_good w (and_parts (is_byte b) (list_all is_byte w) h).1 skip (suc at)

rest_good : (n end : ℕ) (xs : List Lexeme) → AllLexemes xs → AreGood (tokens_of (line_rest n end xs))
rest_good n end [] h = (tt, tt)
rest_good n end (x ∷ xs) h = (h.0, rest_good n x.end xs h.1)

line_good : (n : ℕ) (xs : List Lexeme) → AllLexemes xs → AreGood (tokens_of (line_tokens n xs))
line_good n [] h = tt
line_good n (x ∷ xs) h = (h.0, rest_good n x.end xs h.1)

content_bytes : (line : List ℕ) → IsBytes line → IsBytes (content line)
content_bytes line h = go (slice_index line (length line - 1) == 13)
  where
    go : (b : Bool) → IsBytes (cond b (take (length line - 1) line) line)
    go true = take_bytes (length line - 1) line h
    go false = h

good_append : (ts us : List Token) → AreGood ts → AreGood us → AreGood (ts ++ us)
good_append [] us h k = k
good_append (t ∷ ts) us h k = (h.0, good_append ts us h.1 k)

abbrev AllLines : List (List ℕ) → Type 0
AllLines [] = Unit {0}
AllLines (l ∷ ls) = IsBytes l × AllLines ls

joined_good : (xs ys : List (Token × Spot)) → AreGood (tokens_of xs) → AreGood (tokens_of ys) → AreGood (tokens_of (xs ++ ys))
joined_good xs ys h k = subst AreGood (sym (map-append (λ x. x.0) xs ys)) (good_append (tokens_of xs) (tokens_of ys) h k)

one_good : (n : ℕ) (line : List ℕ) → IsBytes line → AreGood (tokens_of (line_tokens n (lexemes true 0 0 (content line))))
one_good n line h = line_good n (lexemes true 0 0 (content line)) (lexemes_good (content line) (content_bytes line h) 0 0)

all_good : (n : ℕ) (ls : List (List ℕ)) → AllLines ls → AreGood (tokens_of (lines_tokens n ls))
all_good n [] h = tt
all_good n (line ∷ []) h = joined_good (line_tokens n (lexemes true 0 0 (content line))) (placed n token.End (length line) ∷ []) (one_good n line h.0) (tt, tt)
all_good n (line ∷ next ∷ rest) h = joined_good (line_tokens n (lexemes true 0 0 (content line))) (lines_tokens (suc n) (next ∷ rest)) (one_good n line h.0) (all_good (suc n) (next ∷ rest) h.1)

cut_bytes : (p : Bool) (current : List ℕ) (b : ℕ) (go : List ℕ → List (List ℕ)) → IsBytes current → is_byte b ≡ true → ((begun : List ℕ) → IsBytes begun → AllLines (go begun)) → AllLines (cut p current b go)
cut_bytes true current b go h e k = (h, k [] refl)
cut_bytes false current b go h e k = k (current ++ b ∷ []) (list_all-append is_byte current (b ∷ []) ∙ both (list_all is_byte current) (list_all is_byte (b ∷ [])) h (rw e refl))

lines_bytes : (bytes current : List ℕ) → IsBytes bytes → IsBytes current → AllLines (lines current bytes)
unfolding lines
lines_bytes [] current h k = (k, tt)
lines_bytes (b ∷ bytes) current h k =
    let q = and_parts (is_byte b) (list_all is_byte bytes) h in
    cut_bytes (b == 10) current b (λ begun. lines begun bytes) k q.0 (λ begun g. lines_bytes bytes begun q.1 g)

pub tokens_good : (bytes : List ℕ) → IsBytes bytes → AreGood (tokens_of (placed_tokens bytes))
tokens_good bytes h = all_good 1 (lines [] bytes) (lines_bytes bytes [] h refl)
