-- Bytes that have given tokens: each written, with a space after it.
use Rattle.std.proofs.Common.{◌≡◌, ℕ, suc, ◌+◌, ◌/◌, ◌%◌, ◌<◌, ◌^◌, Bool, true, false, ◌&&◌, ◌||◌, List, [], ◌∷◌, ◌++◌, ℤ, pos, negsuc, cond, refl, ◌∙◌, arith}
use Rattle.std.specs.Prelude.{nat_lt, ◌==◌}
use Rattle.std.specs.List.{list_all}
use Rattle.std.specs.Fmt.{decimal, signed_decimal}
use Rattle.std.proofs.lemmas.Bool.Decides.{nat_tests}
use Rattle.std.proofs.lemmas.Bool.{and_parts}
use Rattle.std.proofs.lemmas.Fmt.{decimal_by_steps_wide}
use Rattle.std.proofs.lemmas.List.Folds.{list_all-append}
use Rattle.g_values.specs.Text.{hex_digit, byte_text, bytes_text}
use Rattle.g_diagram.specs.Text.{quoted}
use Rattle.g_tokens.specs.declared.token.Token.{Token}
use Rattle.g_tokens.specs.declared.token.Token.TheVariants as token
use Rattle.g_tokens.specs.declared.token.Mark.{Mark}
use Rattle.g_tokens.specs.declared.token.Mark.TheVariants as mark
use Rattle.g_tokens.specs.Tokens.{is_word_byte}
use Rattle.g_print_laws.specs.Bytes.{IsBytes}
use Rattle.g_print_laws.proofs.Lexing.{Inside, IsWord, both, finish, feed, space, starts, word_piece, mark_piece, arrow_piece, feeds_piece, dots_piece}
use Rattle.g_print_laws.proofs.NumberPieces.{IsShort, number_piece}
use Rattle.g_print_laws.proofs.TextPieces.{is_byte, text_piece}
use Rattle.g_print_laws.proofs.Parts.{AreGood}
use Rattle.g_listing_completions.proofs.Forms.{done, lost, run}
use Rattle.g_listing_completions.proofs.BorderForms.{going}
use Rattle.g_listing_completions.proofs.CutLines.{At}

-- ---- what is written is bytes

both_bytes : (a b : List ℕ) → IsBytes a → IsBytes b → IsBytes (a ++ b)
both_bytes a b h k = list_all-append is_byte a b ∙ both (list_all is_byte a) (list_all is_byte b) h k

pub one_byte : (b : ℕ) (bytes : List ℕ) → is_byte b ≡ true → IsBytes bytes → IsBytes (b ∷ bytes)
one_byte b bytes h k = both (is_byte b) (list_all is_byte bytes) h k

word_byte : (b : ℕ) → is_word_byte b ≡ true → is_byte b ≡ true
word_byte b h = grind (arith, nat_tests)

word_bytes : (w : List ℕ) → list_all is_word_byte w ≡ true → IsBytes w
word_bytes [] h = refl
word_bytes (b ∷ w) h =
    let q = and_parts (is_word_byte b) (list_all is_word_byte w) h in
    one_byte b w (word_byte b q.0) (word_bytes w q.1)

small_byte : (b : ℕ) → b < 256 → is_byte b ≡ true
small_byte b h = grind (arith, nat_tests)

abbrev Digits : ℕ → List ℕ → Type 0
Digits n ds = IsBytes ds

decimal_bytes : (n : ℕ) → n < 10 ^ 64 → IsBytes (decimal n)
decimal_bytes = decimal_by_steps_wide Digits
    (λ n h. one_byte (48 + n) [] (small_byte (48 + n) (omega arith)) refl)
    (λ n ds h i. both_bytes ds ((48 + n % 10) ∷ []) i (one_byte (48 + n % 10) [] (small_byte (48 + n % 10) (omega arith)) refl))

number_bytes : (z : ℤ) → IsShort z → IsBytes (signed_decimal z)
number_bytes (pos n) h = decimal_bytes n (omega arith)
number_bytes (negsuc n) h = one_byte 45 (decimal (suc n)) refl (decimal_bytes (suc n) (omega arith))

hex_byte : (d : ℕ) → d < 16 → is_byte (hex_digit d) ≡ true
hex_byte d h = go (nat_lt d 10)
  where
    go : (b : Bool) → is_byte (cond b (48 + d) (55 + d)) ≡ true
    go true = small_byte (48 + d) (omega arith)
    go false = small_byte (55 + d) (omega arith)

byte_of : (b : ℕ) → is_byte b ≡ true → b < 256
byte_of b h = grind (arith, nat_tests)

text_byte : (b : ℕ) → is_byte b ≡ true → IsBytes (byte_text b)
text_byte b h = go ((b == 34) || (b == 92)) (nat_lt 31 b && nat_lt b 127)
  where
    small : b < 256
    small = byte_of b h

    go : (p q : Bool) → IsBytes (cond p (92 ∷ b ∷ []) (cond q (b ∷ []) (92 ∷ 120 ∷ hex_digit (b / 16) ∷ hex_digit (b % 16) ∷ [])))
    go true q = one_byte b [] h refl
    go false true = one_byte b [] h refl
    go false false =
        let high = hex_byte (b / 16) (omega (arith, small)) in
        let low = hex_byte (b % 16) (omega arith) in
        one_byte (hex_digit (b / 16)) (hex_digit (b % 16) ∷ []) high (one_byte (hex_digit (b % 16)) [] low refl)

text_bytes : (v : List ℕ) → IsBytes v → IsBytes (bytes_text v)
text_bytes [] h = refl
text_bytes (b ∷ v) h =
    let q = and_parts (is_byte b) (list_all is_byte v) h in
    both_bytes (byte_text b) (bytes_text v) (text_byte b q.0) (text_bytes v q.1)

-- ---- one token

abbrev Put : Token → List ℕ → List Token → Type 0
Put t bytes ts = (written : List ℕ) × IsBytes written × Inside written (t ∷ ts)

a_mark : (b : ℕ) (m : Mark) {bytes : List ℕ} {ts : List Token} → is_byte b ≡ true → IsBytes bytes → Inside (b ∷ 32 ∷ bytes) (token.Mark m ∷ ts) → Put (token.Mark m) bytes ts
a_mark b m {bytes} {ts} h are i = (b ∷ 32 ∷ bytes, one_byte b (32 ∷ bytes) h are, i)

two_bytes : (a b : ℕ) (m : Mark) {bytes : List ℕ} {ts : List Token} → is_byte a ≡ true → is_byte b ≡ true → IsBytes bytes → Inside (a ∷ b ∷ 32 ∷ bytes) (token.Mark m ∷ ts) → Put (token.Mark m) bytes ts
two_bytes a b m {bytes} {ts} h k are i = (a ∷ b ∷ 32 ∷ bytes, one_byte a (b ∷ 32 ∷ bytes) h (one_byte b (32 ∷ bytes) k are), i)

put_mark : (m : Mark) (bytes : List ℕ) (ts : List Token) → IsBytes bytes → Inside (32 ∷ bytes) ts → Put (token.Mark m) bytes ts
put_mark mark.Arrow bytes ts are i = two_bytes 45 62 mark.Arrow refl refl are (arrow_piece i)
put_mark mark.Feeds bytes ts are i = two_bytes 60 45 mark.Feeds refl refl are (feeds_piece i)
put_mark mark.Dots bytes ts are i = two_bytes 46 46 mark.Dots refl refl are (dots_piece i)
put_mark mark.Bar bytes ts are i = a_mark 124 mark.Bar refl are (mark_piece 124 mark.Bar (record { space = refl; comment = refl; inner = refl }) refl i)
put_mark mark.Equals bytes ts are i = a_mark 61 mark.Equals refl are (mark_piece 61 mark.Equals (record { space = refl; comment = refl; inner = refl }) refl i)
put_mark mark.Comma bytes ts are i = a_mark 44 mark.Comma refl are (mark_piece 44 mark.Comma (record { space = refl; comment = refl; inner = refl }) refl i)
put_mark mark.OpenBracket bytes ts are i = a_mark 91 mark.OpenBracket refl are (mark_piece 91 mark.OpenBracket (record { space = refl; comment = refl; inner = refl }) refl i)
put_mark mark.CloseBracket bytes ts are i = a_mark 93 mark.CloseBracket refl are (mark_piece 93 mark.CloseBracket (record { space = refl; comment = refl; inner = refl }) refl i)
put_mark mark.OpenBrace bytes ts are i = a_mark 123 mark.OpenBrace refl are (mark_piece 123 mark.OpenBrace (record { space = refl; comment = refl; inner = refl }) refl i)
put_mark mark.CloseBrace bytes ts are i = a_mark 125 mark.CloseBrace refl are (mark_piece 125 mark.CloseBrace (record { space = refl; comment = refl; inner = refl }) refl i)
put_mark mark.OpenParen bytes ts are i = a_mark 40 mark.OpenParen refl are (mark_piece 40 mark.OpenParen (record { space = refl; comment = refl; inner = refl }) refl i)
put_mark mark.CloseParen bytes ts are i = a_mark 41 mark.CloseParen refl are (mark_piece 41 mark.CloseParen (record { space = refl; comment = refl; inner = refl }) refl i)
put_mark mark.Unwired bytes ts are i = a_mark 95 mark.Unwired refl are (mark_piece 95 mark.Unwired (record { space = refl; comment = refl; inner = refl }) refl i)

put_word : (w : List ℕ) → IsWord w → (bytes : List ℕ) (ts : List Token) → IsBytes bytes → Inside (32 ∷ bytes) ts → Put (token.Word w) bytes ts
put_word w good bytes ts are i = (w ++ 32 ∷ bytes, both_bytes w (32 ∷ bytes) (word_bytes w good.all) are, word_piece w good refl i)

put_number : (z : ℤ) → IsShort z → (bytes : List ℕ) (ts : List Token) → IsBytes bytes → Inside (32 ∷ bytes) ts → Put (token.Number z) bytes ts
put_number z good bytes ts are i = (signed_decimal z ++ 32 ∷ bytes, both_bytes (signed_decimal z) (32 ∷ bytes) (number_bytes z good) are, number_piece z good refl i)

put_text : (v : List ℕ) → IsBytes v → (bytes : List ℕ) (ts : List Token) → IsBytes bytes → Inside (32 ∷ bytes) ts → Put (token.Text v) bytes ts
put_text v good bytes ts are i = (
  quoted v (32 ∷ bytes),
  both_bytes (34 ∷ (bytes_text v ++ 34 ∷ [])) (32 ∷ bytes) (one_byte 34 (bytes_text v ++ 34 ∷ []) refl (both_bytes (bytes_text v) (34 ∷ []) (text_bytes v good) refl)) are,
  text_piece v good i,
)

-- ---- tokens up to END

abbrev Writes : Bool → List Token → Type 0
Writes amid ts = (bytes : List ℕ) × IsBytes bytes × At amid bytes ts

pub lost_stays : (ts : List Token) → run lost ts ≡ done → ⊥
lost_stays [] e = cc
lost_stays (t ∷ ts) e = lost_stays ts e

last_end : (ts : List Token) → run done ts ≡ done → Writes false (token.End ∷ ts)
last_end [] e = ([], refl, finish)
last_end (t ∷ ts) e = absurd (lost_stays ts e)

from_start : (t : Token) (ts : List Token) → (t ≡ token.Eol → ⊥) → Writes true (t ∷ ts) → Writes false (t ∷ ts)
from_start t ts other r = (r.0, r.1, starts t other r.2)

pub written : (ts : List Token) (amid : Bool) → AreGood ts → run (going amid) ts ≡ done → Writes amid ts
written [] true good e = absurd cc
written [] false good e = absurd cc
written (token.Word w ∷ ts) true good e = let r = written ts true good.1 e in put_word w good.0 r.0 ts r.1 (space r.2)
written (token.Number z ∷ ts) true good e = let r = written ts true good.1 e in put_number z good.0 r.0 ts r.1 (space r.2)
written (token.Text v ∷ ts) true good e = let r = written ts true good.1 e in put_text v good.0 r.0 ts r.1 (space r.2)
written (token.Mark m ∷ ts) true good e = let r = written ts true good.1 e in put_mark m r.0 ts r.1 (space r.2)
written (token.Eol ∷ ts) true good e = let r = written ts false good.1 e in (10 ∷ r.0, one_byte 10 r.0 refl r.1, feed r.2)
written (token.End ∷ ts) true good e = absurd (lost_stays ts e)
written (token.Bad ∷ ts) true good e = absurd (lost_stays ts e)
written (token.Word w ∷ ts) false good e = let r = written ts true good.1 e in from_start (token.Word w) ts (λ f. cc) (put_word w good.0 r.0 ts r.1 (space r.2))
written (token.Number z ∷ ts) false good e = let r = written ts true good.1 e in from_start (token.Number z) ts (λ f. cc) (put_number z good.0 r.0 ts r.1 (space r.2))
written (token.Text v ∷ ts) false good e = let r = written ts true good.1 e in from_start (token.Text v) ts (λ f. cc) (put_text v good.0 r.0 ts r.1 (space r.2))
written (token.Mark m ∷ ts) false good e = let r = written ts true good.1 e in from_start (token.Mark m) ts (λ f. cc) (put_mark m r.0 ts r.1 (space r.2))
written (token.Eol ∷ ts) false good e = absurd (lost_stays ts e)
written (token.End ∷ ts) false good e = last_end ts e
written (token.Bad ∷ ts) false good e = absurd (lost_stays ts e)
