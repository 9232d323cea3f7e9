-- The tokens of bytes: at each place the longest front that is a token.
use Rattle.std.specs.Prelude.{◌≡◌, ℕ, zero, suc, ◌+◌, ◌*◌, ◌-◌, ◌≤◌, ◌<◌, Bool, true, false, ◌&&◌, ◌||◌, ◌==◌, nat_le, List, [], ◌∷◌, ◌++◌, length, take, map, Option, Some, None, codes, slice_index, ℤ, pos, negsuc, if◌then◌else◌}
use Rattle.std.specs.List.{list_all}
use Rattle.std.specs.Str.{bytes_eq}
use Rattle.g_types.specs.Names.{longest_word}
pub use Rattle.g_types.specs.Names.{is_letter, is_digit, is_word_byte}
use Rattle.g_tokens.specs.declared.token.Token.{Token}
use Rattle.g_tokens.specs.declared.token.Token.TheVariants as token
use Rattle.g_tokens.specs.declared.token.Mark.{Mark}
use Rattle.g_tokens.specs.declared.token.Mark.TheVariants as mark
use Rattle.g_tokens.specs.declared.token.Spot.{Spot}
use Rattle.g_tokens.specs.declared.token.Lexeme.{Lexeme}
use Rattle.g_tokens.specs.declared.texts.Escape.{Escape}
use Rattle.g_tokens.specs.declared.texts.Escape.TheVariants as escape
use Rattle.g_tokens.specs.declared.texts.Step.{Step}
use Rattle.g_tokens.specs.declared.texts.Step.TheVariants as step

-- ---- bytes: letters, digits and what else a word may have are those of names

abbrev pub is_space : ℕ → Bool
is_space b = b == 32 || b == 9

abbrev pub begins : (ℕ → Bool) → List ℕ → Bool
begins p [] = false
begins p (b ∷ bytes) = p b

-- ---- what all of some bytes are: a token, or none. Nothing here goes along bytes to find an end.

-- a run of letters, digits and `_` that begins with a letter is a word, or bad if it is too long
abbrev pub is_run : List ℕ → Bool
is_run w = begins is_letter w && list_all is_word_byte w

abbrev pub word_of : List ℕ → Token
word_of w = if nat_le (length w) longest_word then token.Word w else token.Bad

abbrev pub word : List ℕ → Option Token
word w = if is_run w then Some (word_of w) else None

abbrev pub digits_value : ℕ → List ℕ → ℕ
digits_value n [] = n
digits_value n (b ∷ bytes) = digits_value (10 * n + (b - 48)) bytes

abbrev pub minus : ℕ → ℤ
minus zero = pos 0
minus (suc n) = negsuc n

abbrev pub digits_of : List ℕ → List ℕ
digits_of [] = []
digits_of (b ∷ w) = if b == 45 then w else b ∷ w

abbrev pub is_numeral : List ℕ → Bool
is_numeral w = begins is_digit (digits_of w) && list_all is_digit (digits_of w)

-- digits, with a `-` before them or not, are a number, or bad if they are too many
abbrev pub numeral : Bool → List ℕ → Token
numeral negative digits =
    if nat_le (length digits) 20 then token.Number (if negative then minus (digits_value 0 digits) else pos (digits_value 0 digits)) else token.Bad

abbrev pub number : List ℕ → Option Token
number w = if is_numeral w then Some (numeral (begins (λ b. b == 45) w) (digits_of w)) else None

-- the value of a hexadecimal digit of either case
abbrev pub hex : ℕ → Option ℕ
hex b = if is_digit b then Some (b - 48) else (if nat_le 97 b && nat_le b 102 then Some (b - 87) else (if nat_le 65 b && nat_le b 70 then Some (b - 55) else None))

abbrev pub first_digit : ℕ → Option ℕ → Step
first_digit b None = step.Refused
first_digit b (Some d) = step.Begins (escape.HexDigit b)

abbrev pub two_digits : Option ℕ → Option ℕ → Step
two_digits None o = step.Refused
two_digits (Some d) None = step.Refused
two_digits (Some d) (Some e) = step.Means (16 * d + e)

-- What a byte does inside a text: a character is a byte from 32 on other than `"` and `\`, or `\"`, `\\`, `\n` for byte 10, or `\x` and two
-- hexadecimal digits.
abbrev pub in_text : Escape → ℕ → Step
in_text escape.Plain b = if b == 34 then step.Close else (if b == 92 then step.Begins escape.Backslash else (if nat_le 32 b then step.Means b else step.Refused))
in_text escape.Backslash b =
    if b == 34 || b == 92 then step.Means b else (if b == 110 then step.Means 10 else (if b == 120 then step.Begins escape.Hex else step.Refused))
in_text escape.Hex b = first_digit b (hex b)
in_text (escape.HexDigit a) b = two_digits (hex a) (hex b)

abbrev pub byte_before : ℕ → Option (List ℕ) → Option (List ℕ)
byte_before b None = None
byte_before b (Some bytes) = Some (b ∷ bytes)

abbrev pub closed : List ℕ → Option (List ℕ)
closed [] = Some []
closed (b ∷ w) = None

abbrev pub after_step : Step → List ℕ → (Escape → Option (List ℕ)) → Option (List ℕ)
after_step step.Close w go = closed w
after_step (step.Means b) w go = byte_before b (go escape.Plain)
after_step (step.Begins e) w go = go e
after_step step.Refused w go = None

-- what characters mean of which the last is the closing quote
unfoldable pub characters : Escape → List ℕ → Option (List ℕ)
characters e [] = None
characters e (b ∷ w) = after_step (in_text e b) w (λ e. characters e w)

abbrev pub as_text : Option (List ℕ) → Option Token
as_text None = None
as_text (Some bytes) = Some (token.Text bytes)

abbrev pub text : List ℕ → Option Token
text [] = None
text (b ∷ w) = if b == 34 then as_text (characters escape.Plain w) else None

abbrev pub mark_texts : List (List ℕ × Mark)
mark_texts =
    (codes "->", mark.Arrow) ∷ (codes "<-", mark.Feeds) ∷ (codes "|", mark.Bar) ∷ (codes "=", mark.Equals) ∷ (codes ",", mark.Comma) ∷ (codes "..", mark.Dots)
    ∷ (codes "[", mark.OpenBracket) ∷ (codes "]", mark.CloseBracket) ∷ (codes "{", mark.OpenBrace) ∷ (codes "}", mark.CloseBrace)
    ∷ (codes "(", mark.OpenParen) ∷ (codes ")", mark.CloseParen) ∷ (codes "_", mark.Unwired) ∷ []

abbrev pub mark_in : List (List ℕ × Mark) → List ℕ → Option Token
mark_in [] w = None
mark_in (row ∷ rows) w = if bytes_eq w row.0 then Some (token.Mark row.1) else mark_in rows w

abbrev pub or_none : Option Token → Option Token → Option Token
or_none None o = o
or_none (Some t) o = Some t

-- the token that these bytes are, all of them
abbrev pub whole : List ℕ → Option Token
whole w = or_none (word w) (or_none (number w) (or_none (text w) (mark_in mark_texts w)))

-- ---- the longest match

abbrev pub longer_or : Option Token → ℕ → (Unit {0} → Token × ℕ) → Token × ℕ
longer_or (Some t) n shorter = (t, n)
longer_or None n shorter = shorter tt

-- the longest front of at most so many bytes that is a token, with its length; where there is none all the bytes are one bad token
unfoldable pub longest : ℕ → List ℕ → Token × ℕ
longest zero bytes = (token.Bad, length bytes)
longest (suc n) bytes = longer_or (whole (take (suc n) bytes)) (suc n) (λ u. longest n bytes)

abbrev pub front : List ℕ → Token × ℕ
front bytes = longest (length bytes) bytes

-- the first so many bytes are this token, and no longer front is a token
pub record IsLongest (bytes : List ℕ) (t : Token) (n : ℕ) : Type 0 where
  pub some : 0 < n
  pub within : n ≤ length bytes
  pub is : whole (take n bytes) ≡ Some t
  pub longest : (m : ℕ) → n < m → m ≤ length bytes → whole (take m bytes) ≡ None

-- the token at the front and its length
pub record IsFront (bytes : List ℕ) (t : Token) (n : ℕ) : Type 0 where
  pub is : front bytes ≡ (t, n)
  pub some : 0 < n
  pub within : n ≤ length bytes

-- no front is a token
abbrev pub IsBad : List ℕ → Type 0
IsBad bytes = (m : ℕ) → 0 < m → m ≤ length bytes → whole (take m bytes) ≡ None

-- ---- a line

abbrev pub at_gap : Bool → Bool → ℕ → List ℕ → (ℕ → List Lexeme) → List Lexeme
at_gap true comment at w go = go 0
at_gap false true at w go = []
at_gap false false at w go = record { token = (front w).0; begin = at; end = at + (front w).1 } ∷ go ((front w).1 - 1)

-- The tokens of a line, or of a text, from a place on. So many bytes belong to the token before. Spaces and tabs stand between tokens, and where
-- there are comments `#` begins one.
unfoldable pub lexemes : Bool → ℕ → ℕ → List ℕ → List Lexeme
lexemes comments skip at [] = []
lexemes comments (suc skip) at (b ∷ bytes) = lexemes comments skip (suc at) bytes
lexemes comments zero at (b ∷ bytes) = at_gap (is_space b) (comments && b == 35) at (b ∷ bytes) (λ skip. lexemes comments skip (suc at) bytes)

-- ---- a listing

abbrev pub placed : ℕ → Token → ℕ → Token × Spot
placed line t at = (t, record { line = line; column = at + 1 })

-- the further tokens of a line, and EOL just after the last
abbrev pub line_rest : ℕ → ℕ → List Lexeme → List (Token × Spot)
line_rest line end [] = placed line token.Eol end ∷ []
line_rest line end (x ∷ xs) = placed line x.token x.begin ∷ line_rest line x.end xs

-- a line without a token has no EOL
abbrev pub line_tokens : ℕ → List Lexeme → List (Token × Spot)
line_tokens line [] = []
line_tokens line (x ∷ xs) = placed line x.token x.begin ∷ line_rest line x.end xs

-- a carriage return at the end of a line is dropped
abbrev pub content : List ℕ → List ℕ
content line = if slice_index line (length line - 1) == 13 then take (length line - 1) line else line

abbrev pub cut : Bool → List ℕ → ℕ → (List ℕ → List (List ℕ)) → List (List ℕ)
cut true current b go = current ∷ go []
cut false current b go = go (current ++ b ∷ [])

-- the lines between line feeds, of which the first has begun with these bytes
unfoldable pub lines : List ℕ → List ℕ → List (List ℕ)
lines current [] = current ∷ []
lines current (b ∷ bytes) = cut (b == 10) current b (λ begun. lines begun bytes)

-- the tokens of lines, numbered from this one on, and END just past the last byte
abbrev pub lines_tokens : ℕ → List (List ℕ) → List (Token × Spot)
lines_tokens n [] = []
lines_tokens n (line ∷ []) = line_tokens n (lexemes true 0 0 (content line)) ++ placed n token.End (length line) ∷ []
lines_tokens n (line ∷ next ∷ rest) = line_tokens n (lexemes true 0 0 (content line)) ++ lines_tokens (suc n) (next ∷ rest)

-- the tokens of a listing, each with its place
abbrev pub placed_tokens : List ℕ → List (Token × Spot)
placed_tokens bytes = lines_tokens 1 (lines [] bytes)

abbrev pub tokens_of : List (Token × Spot) → List Token
tokens_of = map (λ x. x.0)

abbrev pub places_of : List (Token × Spot) → List Spot
places_of = map (λ x. x.1)
