-- What one token of a phrase stands for in front of bytes.
use Rattle.std.proofs.Common.{◌≡◌, ℕ, Bool, true, false, List, [], ◌∷◌, ◌++◌, ℤ, Option, Some, None, refl, sym, ap, ◌∙◌, subst, inl, inr}
use Rattle.std.specs.Prelude.{◌⊎◌, codes}
use Rattle.g_tokens.specs.Tokens.{is_word_byte}
use Rattle.g_tokens.specs.Scan.{mark_alone}
use Rattle.std.specs.Fmt.{signed_decimal}
use Rattle.g_grammar.specs.Grammar.{Grammar, Has, Phrases, give, take, bind, loop, or_else, tail}
use Rattle.g_grammar.proofs.Laws.{first_is, ends}
use Rattle.g_grammar.proofs.Live.{either_left, either_right}
use Rattle.g_tokens.specs.declared.token.Token.{Token}
use Rattle.g_tokens.specs.declared.token.Token.TheVariants as token
use Rattle.g_tokens.specs.declared.token.Mark.{Mark}
use Rattle.g_tokens.specs.declared.token.Mark.TheVariants as mark
use Rattle.g_diagram.specs.Text as text
use Rattle.g_listing_grammar.specs.Words.{name, wire, eol, feeds, arrow, bar, number, close_bracket, close_paren, close_brace, open_paren, comma_or_brace, comma_or_bracket, comma_or_eol, arrow_or_eol, equals_or_arrow}
use Rattle.g_listing_grammar.specs.Words.{text as text_of_token}
use Rattle.g_listing_grammar.specs.Nodes.{dots}
use Rattle.g_listing_grammar.specs.Borders.{item_or_end, wires_to, outputs, operands, last_wire, to_wire, across, turned, through}
use Rattle.g_print_laws.specs.Bytes.{IsBytes}
use Rattle.g_print_laws.proofs.Lexing.{Bound, Full, Inside, IsPiece, IsWord, feed, space, word_piece, mark_piece, arrow_piece, feeds_piece, dots_piece}
use Rattle.g_print_laws.proofs.NumberPieces.{IsShort, number_piece}
use Rattle.g_print_laws.proofs.TextPieces.{text_piece}

-- tokens that bytes can have
abbrev pub IsGood : Token → Type 0
IsGood (token.Word w) = IsWord w
IsGood (token.Number z) = IsShort z
IsGood (token.Text v) = IsBytes v
IsGood _ = Unit {0}

abbrev pub AreGood : List Token → Type 0
AreGood [] = Unit {0}
AreGood (t ∷ ts) = IsGood t × AreGood ts

-- bytes that go on with no word and no number, inside a line
pub record Rest (bytes : List ℕ) (ts : List Token) : Type 0 where
  pub bound : Bound bytes
  pub inside : Inside bytes ts

good_after : (front rest : List Token) → AreGood (front ++ rest) → AreGood rest
good_after [] rest g = g
good_after (t ∷ front) rest g = good_after front rest g.1

pub after : {A : Type 0} (g : Grammar Token A) (ts : List Token) (a : A) (rest : List Token) → Has g ts a rest → AreGood ts → AreGood rest
after g ts a rest h good =
    let e = ends g ts a rest h in
    good_after e.0 rest (subst AreGood e.1 good)

-- ---- phrases

abbrev pub State : Type 1
State = List ℕ → List Token → Type 0

-- what a phrase writes in front of bytes, by its value
pub record Says {A : Type 0} (Q : A → State) (R : State) (g : Grammar Token A) (s : A → List ℕ → List ℕ) : Type 0 where
  pub says : (ts : List Token) (a : A) (rest : List Token) → Has g ts a rest → AreGood ts → (bytes : List ℕ) → Q a bytes rest → R (s a bytes) ts

-- bytes that tokens have, which give others once what was written before is put in front
pub record Went (R : State) (front : List ℕ → List ℕ) (target : List ℕ) (ts : List Token) : Type 0 where
  pub written : List ℕ
  pub stands : R written ts
  pub is : front written ≡ target

-- the same of a phrase that goes on after others
pub record Goes {B : Type 0} (Q : B → State) (R : State) (g : Grammar Token B) (front : List ℕ → List ℕ) (s : B → List ℕ → List ℕ) : Type 0 where
  pub goes : (ts : List Token) (b : B) (rest : List Token) → Has g ts b rest → AreGood ts → (bytes : List ℕ) → Q b bytes rest → Went R front (s b bytes) ts

pub gives : {B : Type 0} {Q : B → State} {x : B} {front : List ℕ → List ℕ} {s : B → List ℕ → List ℕ} → ((bytes : List ℕ) → front bytes ≡ s x bytes) → Goes Q (Q x) (give x) front s
gives {B} {Q} {x} {front} {s} e = record {
  goes = λ ts b rest h good bytes q. record {
    written = bytes;
    stands = subst (λ l. Q x bytes l) (sym h.1) (subst (λ y. Q y bytes rest) (sym h.0) q);
    is = e bytes ∙ ap (λ y. s y bytes) h.0;
  };
}

pub binds : {A B : Type 0} {M : A → State} {Q : B → State} {R : State} {g : Grammar Token A} {f : A → Grammar Token B} {r : A → List ℕ → List ℕ} {front : List ℕ → List ℕ} {s : B → List ℕ → List ℕ}
    → Says M R g r → ((a : A) → Goes Q (M a) (f a) (λ w. front (r a w)) s) → Goes Q R (bind g f) front s
binds {A} {B} {M} {Q} {R} {g} {f} {r} {front} {s} one next = record {
  goes = λ ts b rest h good bytes q.
      let w = (next h.0).goes h.1 b rest h.3 (after g ts h.0 h.1 h.2 good) bytes q in
      record { written = r h.0 w.written; stands = one.says ts h.0 h.1 h.2 good w.written w.stands; is = w.is };
}

pub closes : {B : Type 0} {Q : B → State} {R : State} {g : Grammar Token B} {s : B → List ℕ → List ℕ} → Goes Q R g (λ w. w) s → Says Q R g s
closes {B} {Q} {R} {g} {s} x = record { says = λ ts b rest h good bytes q. let w = x.goes ts b rest h good bytes q in subst (λ l. R l ts) w.is w.stands }

-- the same where the first of two goes on after others too
pub binds_on : {A B : Type 0} {M : A → State} {Q : B → State} {R : State} {g : Grammar Token A} {f : A → Grammar Token B} {before : List ℕ → List ℕ} {r : A → List ℕ → List ℕ} {s : B → List ℕ → List ℕ} (front : List ℕ → List ℕ)
    → Goes M R g before r → ((a : A) → Goes Q (M a) (f a) (λ w. front (r a w)) s) → Goes Q R (bind g f) (λ w. front (before w)) s
binds_on {A} {B} {M} {Q} {R} {g} {f} {before} {r} {s} front one next = record {
  goes = λ ts b rest h good bytes q.
      let w = (next h.0).goes h.1 b rest h.3 (after g ts h.0 h.1 h.2 good) bytes q in
      let u = one.goes ts h.0 h.1 h.2 good w.written w.stands in
      record { written = u.written; stands = u.stands; is = ap front u.is ∙ w.is };
}

-- the same in other words
pub alike : {A : Type 0} {Q : A → State} {R : State} {g : Grammar Token A} {r s : A → List ℕ → List ℕ} → Says Q R g r → ((a : A) (bytes : List ℕ) → r a bytes ≡ s a bytes) → Says Q R g s
alike {A} {Q} {R} {g} {r} {s} x e = record { says = λ ts a rest h good bytes q. subst (λ l. R l ts) (e a bytes) (x.says ts a rest h good bytes q) }

-- what is written before may be any bytes
pub opens : {B : Type 0} {Q : B → State} {R : State} {g : Grammar Token B} {front : List ℕ → List ℕ} {s : B → List ℕ → List ℕ} → Says Q R g s → Goes Q R g front (λ b bytes. front (s b bytes))
opens {B} {Q} {R} {g} {front} {s} x = record { goes = λ ts b rest h good bytes q. record { written = s b bytes; stands = x.says ts b rest h good bytes q; is = refl } }

pub in_other_words : {B : Type 0} {Q : B → State} {R : State} {g : Grammar Token B} {front : List ℕ → List ℕ} {r s : B → List ℕ → List ℕ} → Says Q R g r → ((b : B) (bytes : List ℕ) → front (r b bytes) ≡ s b bytes) → Goes Q R g front s
in_other_words {B} {Q} {R} {g} {front} {r} {s} x e = record { goes = λ ts b rest h good bytes q. record { written = r b bytes; stands = x.says ts b rest h good bytes q; is = e b bytes } }

-- ---- one token

-- what a token of a kind is in front of bytes
abbrev pub Stands : {A : Type 0} → (A → State) → State → (Token → Option A) → (A → List ℕ → List ℕ) → Type 0
Stands {A} Q R p s = (t : Token) (a : A) → p t ≡ Some a → IsGood t → (bytes : List ℕ) (ts : List Token) → Q a bytes ts → R (s a bytes) (t ∷ ts)

pub one : {A : Type 0} {Q : A → State} {R : State} (p : Token → Option A) {s : A → List ℕ → List ℕ} → Stands Q R p s → Says Q R (take p) s
one {A} {Q} {R} p {s} st = record {
  says = λ ts a rest h good bytes q.
      let f = first_is p ts a h.0 in
      let is : ts ≡ f.0 ∷ rest = f.1 ∙ ap (λ l. f.0 ∷ l) h.1 in
      let g : AreGood (f.0 ∷ rest) = subst AreGood is good in
      subst (λ l. R (s a bytes) l) (sym is) (st f.0 a f.2 g.0 bytes rest q);
}

abbrev pub Rested : {A : Type 0} → A → State
Rested a = Rest

abbrev pub Filled : {A : Type 0} → A → State
Filled a = Full

-- a space and a token
spaced : {bytes : List ℕ} {ts : List Token} → Inside bytes ts → Rest (32 ∷ bytes) ts
spaced i = record { bound = refl; inside = space i }

pub a_word : (w : List ℕ) {bytes : List ℕ} {ts : List Token} → IsWord w → Rest bytes ts → Rest (text.word w bytes) (token.Word w ∷ ts)
a_word w h r = spaced (word_piece w h r.bound r.inside)

pub some_is : {A : Type 0} {x y : A} → Some x ≡ Some y → x ≡ y
some_is e = cc

pub stands_name : Stands Rested Rest name text.word
stands_name (token.Word w) n e g bytes ts r = subst (λ (m : List ℕ). Rest (text.word m bytes) (token.Word w ∷ ts)) (some_is e) (a_word w g r)
stands_name (token.Mark m) a e g bytes ts r = absurd cc
stands_name (token.Number z) a e g bytes ts r = absurd cc
stands_name (token.Text v) a e g bytes ts r = absurd cc
stands_name token.Eol a e g bytes ts r = absurd cc
stands_name token.End a e g bytes ts r = absurd cc
stands_name token.Bad a e g bytes ts r = absurd cc

unwired : {bytes : List ℕ} {ts : List Token} → Rest bytes ts → Rest (text.wire None bytes) (token.Mark mark.Unwired ∷ ts)
unwired r = spaced (mark_piece 95 mark.Unwired (record { space = refl; comment = refl; inner = refl }) refl r.inside)

pub stands_wire : Stands Rested Rest wire text.wire
stands_wire (token.Word w) o e g bytes ts r = subst (λ (m : Option (List ℕ)). Rest (text.wire m bytes) (token.Word w ∷ ts)) (some_is e) (a_word w g r)
stands_wire (token.Mark mark.Unwired) o e g bytes ts r = subst (λ (m : Option (List ℕ)). Rest (text.wire m bytes) (token.Mark mark.Unwired ∷ ts)) (some_is e) (unwired r)
stands_wire (token.Mark m) a e g bytes ts r = absurd cc
stands_wire (token.Number z) a e g bytes ts r = absurd cc
stands_wire (token.Text v) a e g bytes ts r = absurd cc
stands_wire token.Eol a e g bytes ts r = absurd cc
stands_wire token.End a e g bytes ts r = absurd cc
stands_wire token.Bad a e g bytes ts r = absurd cc

pub an_arrow : {bytes : List ℕ} {ts : List Token} → Rest bytes ts → Rest (text.arrow bytes) (token.Mark mark.Arrow ∷ ts)
an_arrow r = spaced (arrow_piece r.inside)

-- a mark of one byte, with a space before it or without
pub a_mark : (b : ℕ) (m : Mark) {bytes : List ℕ} {ts : List Token} → IsPiece b [] → Some m ≡ mark_alone b → Inside bytes ts → Rest (32 ∷ b ∷ bytes) (token.Mark m ∷ ts)
a_mark b m p h i = spaced (mark_piece b m p h i)

abbrev pub Inner : {A : Type 0} → A → State
Inner a = Inside

-- what stands after a comma, which others follow, and after the last
abbrev pub Further : Bool → State
Further true = Inside
Further false = Rest

pub stands_arrow : Stands Rested Rest arrow (λ u. text.arrow)
stands_arrow (token.Mark mark.Arrow) a e g bytes ts r = an_arrow r
stands_arrow (token.Mark m) a e g bytes ts r = absurd cc
stands_arrow (token.Word w) a e g bytes ts r = absurd cc
stands_arrow (token.Number z) a e g bytes ts r = absurd cc
stands_arrow (token.Text v) a e g bytes ts r = absurd cc
stands_arrow token.Eol a e g bytes ts r = absurd cc
stands_arrow token.End a e g bytes ts r = absurd cc
stands_arrow token.Bad a e g bytes ts r = absurd cc

pub stands_bar : Stands Rested Rest bar (λ u. text.bar)
stands_bar (token.Mark mark.Bar) a e g bytes ts r = a_mark 124 mark.Bar (record { space = refl; comment = refl; inner = refl }) refl r.inside
stands_bar (token.Mark m) a e g bytes ts r = absurd cc
stands_bar (token.Word w) a e g bytes ts r = absurd cc
stands_bar (token.Number z) a e g bytes ts r = absurd cc
stands_bar (token.Text v) a e g bytes ts r = absurd cc
stands_bar token.Eol a e g bytes ts r = absurd cc
stands_bar token.End a e g bytes ts r = absurd cc
stands_bar token.Bad a e g bytes ts r = absurd cc

pub stands_feeds : Stands Rested Rest feeds (λ u bytes. text.word (codes "<-") bytes)
stands_feeds (token.Mark mark.Feeds) a e g bytes ts r = spaced (feeds_piece r.inside)
stands_feeds (token.Mark m) a e g bytes ts r = absurd cc
stands_feeds (token.Word w) a e g bytes ts r = absurd cc
stands_feeds (token.Number z) a e g bytes ts r = absurd cc
stands_feeds (token.Text v) a e g bytes ts r = absurd cc
stands_feeds token.Eol a e g bytes ts r = absurd cc
stands_feeds token.End a e g bytes ts r = absurd cc
stands_feeds token.Bad a e g bytes ts r = absurd cc

-- a mark right at what stands before
pub closed : (b : ℕ) (m : Mark) {bytes : List ℕ} {ts : List Token} → IsPiece b [] → Some m ≡ mark_alone b → is_word_byte b ≡ false → Inside bytes ts → Rest (b ∷ bytes) (token.Mark m ∷ ts)
closed b m p h n i = record { bound = n; inside = mark_piece b m p h i }

pub stands_close_bracket : Stands Rested Rest close_bracket (λ u bytes. 93 ∷ bytes)
stands_close_bracket (token.Mark mark.CloseBracket) a e g bytes ts r = closed 93 mark.CloseBracket (record { space = refl; comment = refl; inner = refl }) refl refl r.inside
stands_close_bracket (token.Mark m) a e g bytes ts r = absurd cc
stands_close_bracket (token.Word w) a e g bytes ts r = absurd cc
stands_close_bracket (token.Number z) a e g bytes ts r = absurd cc
stands_close_bracket (token.Text v) a e g bytes ts r = absurd cc
stands_close_bracket token.Eol a e g bytes ts r = absurd cc
stands_close_bracket token.End a e g bytes ts r = absurd cc
stands_close_bracket token.Bad a e g bytes ts r = absurd cc

pub stands_close_paren : Stands Rested Rest close_paren (λ u bytes. 41 ∷ bytes)
stands_close_paren (token.Mark mark.CloseParen) a e g bytes ts r = closed 41 mark.CloseParen (record { space = refl; comment = refl; inner = refl }) refl refl r.inside
stands_close_paren (token.Mark m) a e g bytes ts r = absurd cc
stands_close_paren (token.Word w) a e g bytes ts r = absurd cc
stands_close_paren (token.Number z) a e g bytes ts r = absurd cc
stands_close_paren (token.Text v) a e g bytes ts r = absurd cc
stands_close_paren token.Eol a e g bytes ts r = absurd cc
stands_close_paren token.End a e g bytes ts r = absurd cc
stands_close_paren token.Bad a e g bytes ts r = absurd cc

pub stands_close_brace : Stands Rested Rest close_brace (λ u bytes. 125 ∷ bytes)
stands_close_brace (token.Mark mark.CloseBrace) a e g bytes ts r = closed 125 mark.CloseBrace (record { space = refl; comment = refl; inner = refl }) refl refl r.inside
stands_close_brace (token.Mark m) a e g bytes ts r = absurd cc
stands_close_brace (token.Word w) a e g bytes ts r = absurd cc
stands_close_brace (token.Number z) a e g bytes ts r = absurd cc
stands_close_brace (token.Text v) a e g bytes ts r = absurd cc
stands_close_brace token.Eol a e g bytes ts r = absurd cc
stands_close_brace token.End a e g bytes ts r = absurd cc
stands_close_brace token.Bad a e g bytes ts r = absurd cc

pub stands_open_paren : Stands Inner Rest open_paren (λ u bytes. 40 ∷ bytes)
stands_open_paren (token.Mark mark.OpenParen) a e g bytes ts r = closed 40 mark.OpenParen (record { space = refl; comment = refl; inner = refl }) refl refl r
stands_open_paren (token.Mark m) a e g bytes ts r = absurd cc
stands_open_paren (token.Word w) a e g bytes ts r = absurd cc
stands_open_paren (token.Number z) a e g bytes ts r = absurd cc
stands_open_paren (token.Text v) a e g bytes ts r = absurd cc
stands_open_paren token.Eol a e g bytes ts r = absurd cc
stands_open_paren token.End a e g bytes ts r = absurd cc
stands_open_paren token.Bad a e g bytes ts r = absurd cc

pub stands_dots : Stands Inner Rest dots (λ u bytes. 46 ∷ 46 ∷ bytes)
stands_dots (token.Mark mark.Dots) a e g bytes ts r = record { bound = refl; inside = dots_piece r }
stands_dots (token.Mark m) a e g bytes ts r = absurd cc
stands_dots (token.Word w) a e g bytes ts r = absurd cc
stands_dots (token.Number z) a e g bytes ts r = absurd cc
stands_dots (token.Text v) a e g bytes ts r = absurd cc
stands_dots token.Eol a e g bytes ts r = absurd cc
stands_dots token.End a e g bytes ts r = absurd cc
stands_dots token.Bad a e g bytes ts r = absurd cc

abbrev pub comma_or_brace_text : Bool → List ℕ → List ℕ
comma_or_brace_text true bytes = 44 ∷ 32 ∷ bytes
comma_or_brace_text false bytes = 125 ∷ bytes

pub stands_comma_or_brace : Stands Further Rest comma_or_brace comma_or_brace_text
stands_comma_or_brace (token.Mark mark.Comma) true e g bytes ts r = closed 44 mark.Comma (record { space = refl; comment = refl; inner = refl }) refl refl (space r)
stands_comma_or_brace (token.Mark mark.Comma) false e g bytes ts r = absurd cc
stands_comma_or_brace (token.Mark mark.CloseBrace) true e g bytes ts r = absurd cc
stands_comma_or_brace (token.Mark mark.CloseBrace) false e g bytes ts r = closed 125 mark.CloseBrace (record { space = refl; comment = refl; inner = refl }) refl refl r.inside
stands_comma_or_brace (token.Mark m) a e g bytes ts r = absurd cc
stands_comma_or_brace (token.Word w) a e g bytes ts r = absurd cc
stands_comma_or_brace (token.Number z) a e g bytes ts r = absurd cc
stands_comma_or_brace (token.Text v) a e g bytes ts r = absurd cc
stands_comma_or_brace token.Eol a e g bytes ts r = absurd cc
stands_comma_or_brace token.End a e g bytes ts r = absurd cc
stands_comma_or_brace token.Bad a e g bytes ts r = absurd cc

abbrev pub comma_or_bracket_text : Bool → List ℕ → List ℕ
comma_or_bracket_text true bytes = 44 ∷ 32 ∷ bytes
comma_or_bracket_text false bytes = 93 ∷ bytes

pub stands_comma_or_bracket : Stands Further Rest comma_or_bracket comma_or_bracket_text
stands_comma_or_bracket (token.Mark mark.Comma) true e g bytes ts r = closed 44 mark.Comma (record { space = refl; comment = refl; inner = refl }) refl refl (space r)
stands_comma_or_bracket (token.Mark mark.Comma) false e g bytes ts r = absurd cc
stands_comma_or_bracket (token.Mark mark.CloseBracket) true e g bytes ts r = absurd cc
stands_comma_or_bracket (token.Mark mark.CloseBracket) false e g bytes ts r = closed 93 mark.CloseBracket (record { space = refl; comment = refl; inner = refl }) refl refl r.inside
stands_comma_or_bracket (token.Mark m) a e g bytes ts r = absurd cc
stands_comma_or_bracket (token.Word w) a e g bytes ts r = absurd cc
stands_comma_or_bracket (token.Number z) a e g bytes ts r = absurd cc
stands_comma_or_bracket (token.Text v) a e g bytes ts r = absurd cc
stands_comma_or_bracket token.Eol a e g bytes ts r = absurd cc
stands_comma_or_bracket token.End a e g bytes ts r = absurd cc
stands_comma_or_bracket token.Bad a e g bytes ts r = absurd cc

-- the end of a line
pub a_feed : {below : List ℕ} {ts : List Token} → Full below ts → Rest (10 ∷ below) (token.Eol ∷ ts)
a_feed f = record { bound = refl; inside = feed f }

pub stands_eol : Stands Filled Rest eol (λ u bytes. 10 ∷ bytes)
stands_eol token.Eol a e g bytes ts r = a_feed r
stands_eol (token.Mark m) a e g bytes ts r = absurd cc
stands_eol (token.Word w) a e g bytes ts r = absurd cc
stands_eol (token.Number z) a e g bytes ts r = absurd cc
stands_eol (token.Text v) a e g bytes ts r = absurd cc
stands_eol token.End a e g bytes ts r = absurd cc
stands_eol token.Bad a e g bytes ts r = absurd cc

abbrev pub OrLine : Bool → State
OrLine true = Inside
OrLine false = Full

abbrev pub comma_or_eol_text : Bool → List ℕ → List ℕ
comma_or_eol_text true bytes = 44 ∷ 32 ∷ bytes
comma_or_eol_text false bytes = 10 ∷ bytes

pub stands_comma_or_eol : Stands OrLine Rest comma_or_eol comma_or_eol_text
stands_comma_or_eol (token.Mark mark.Comma) true e g bytes ts r = closed 44 mark.Comma (record { space = refl; comment = refl; inner = refl }) refl refl (space r)
stands_comma_or_eol (token.Mark mark.Comma) false e g bytes ts r = absurd cc
stands_comma_or_eol (token.Mark m) a e g bytes ts r = absurd cc
stands_comma_or_eol token.Eol true e g bytes ts r = absurd cc
stands_comma_or_eol token.Eol false e g bytes ts r = a_feed r
stands_comma_or_eol (token.Word w) a e g bytes ts r = absurd cc
stands_comma_or_eol (token.Number z) a e g bytes ts r = absurd cc
stands_comma_or_eol (token.Text v) a e g bytes ts r = absurd cc
stands_comma_or_eol token.End a e g bytes ts r = absurd cc
stands_comma_or_eol token.Bad a e g bytes ts r = absurd cc

abbrev pub ArrowOrLine : Bool → State
ArrowOrLine true = Rest
ArrowOrLine false = Full

abbrev pub arrow_or_eol_text : Bool → List ℕ → List ℕ
arrow_or_eol_text true bytes = text.arrow bytes
arrow_or_eol_text false bytes = 10 ∷ bytes

pub stands_arrow_or_eol : Stands ArrowOrLine Rest arrow_or_eol arrow_or_eol_text
stands_arrow_or_eol (token.Mark mark.Arrow) true e g bytes ts r = an_arrow r
stands_arrow_or_eol (token.Mark mark.Arrow) false e g bytes ts r = absurd cc
stands_arrow_or_eol (token.Mark m) a e g bytes ts r = absurd cc
stands_arrow_or_eol token.Eol true e g bytes ts r = absurd cc
stands_arrow_or_eol token.Eol false e g bytes ts r = a_feed r
stands_arrow_or_eol (token.Word w) a e g bytes ts r = absurd cc
stands_arrow_or_eol (token.Number z) a e g bytes ts r = absurd cc
stands_arrow_or_eol (token.Text v) a e g bytes ts r = absurd cc
stands_arrow_or_eol token.End a e g bytes ts r = absurd cc
stands_arrow_or_eol token.Bad a e g bytes ts r = absurd cc

abbrev pub EqualsOrArrow : Bool → State
EqualsOrArrow true = Inside
EqualsOrArrow false = Rest

abbrev pub equals_or_arrow_text : Bool → List ℕ → List ℕ
equals_or_arrow_text true bytes = 32 ∷ 61 ∷ 32 ∷ bytes
equals_or_arrow_text false bytes = text.arrow bytes

pub stands_equals_or_arrow : Stands EqualsOrArrow Rest equals_or_arrow equals_or_arrow_text
stands_equals_or_arrow (token.Mark mark.Equals) true e g bytes ts r = a_mark 61 mark.Equals (record { space = refl; comment = refl; inner = refl }) refl (space r)
stands_equals_or_arrow (token.Mark mark.Equals) false e g bytes ts r = absurd cc
stands_equals_or_arrow (token.Mark mark.Arrow) true e g bytes ts r = absurd cc
stands_equals_or_arrow (token.Mark mark.Arrow) false e g bytes ts r = an_arrow r
stands_equals_or_arrow (token.Mark m) a e g bytes ts r = absurd cc
stands_equals_or_arrow (token.Word w) a e g bytes ts r = absurd cc
stands_equals_or_arrow (token.Number z) a e g bytes ts r = absurd cc
stands_equals_or_arrow (token.Text v) a e g bytes ts r = absurd cc
stands_equals_or_arrow token.Eol a e g bytes ts r = absurd cc
stands_equals_or_arrow token.End a e g bytes ts r = absurd cc
stands_equals_or_arrow token.Bad a e g bytes ts r = absurd cc

pub stands_number : Stands Rested Inside number (λ z bytes. signed_decimal z ++ bytes)
stands_number (token.Number z) n e g bytes ts r = subst (λ (m : ℤ). Inside (signed_decimal m ++ bytes) (token.Number z ∷ ts)) (some_is e) (number_piece z g r.bound r.inside)
stands_number (token.Mark m) a e g bytes ts r = absurd cc
stands_number (token.Word w) a e g bytes ts r = absurd cc
stands_number (token.Text v) a e g bytes ts r = absurd cc
stands_number token.Eol a e g bytes ts r = absurd cc
stands_number token.End a e g bytes ts r = absurd cc
stands_number token.Bad a e g bytes ts r = absurd cc

pub stands_text : Stands Rested Inside text_of_token text.quoted
stands_text (token.Text v) n e g bytes ts r = subst (λ (m : List ℕ). Inside (text.quoted m bytes) (token.Text v ∷ ts)) (some_is e) (text_piece v g r.inside)
stands_text (token.Mark m) a e g bytes ts r = absurd cc
stands_text (token.Word w) a e g bytes ts r = absurd cc
stands_text (token.Number z) a e g bytes ts r = absurd cc
stands_text token.Eol a e g bytes ts r = absurd cc
stands_text token.End a e g bytes ts r = absurd cc
stands_text token.Bad a e g bytes ts r = absurd cc

-- ---- choices and loops

abbrev pub Either : {A B : Type 0} → (A → State) → (B → State) → (A ⊎ B) → State
Either Q P (inl a) = Q a
Either Q P (inr b) = P b

abbrev pub either_text : {A B : Type 0} → (A → List ℕ → List ℕ) → (B → List ℕ → List ℕ) → (A ⊎ B) → List ℕ → List ℕ
either_text f g (inl a) = f a
either_text f g (inr b) = g b

pub stands_or : {A B : Type 0} (Q : A → State) (P : B → State) (R : State) (p : Token → Option A) (q : Token → Option B) (f : A → List ℕ → List ℕ) (g : B → List ℕ → List ℕ)
    → Stands Q R p f → Stands P R q g → Stands (Either Q P) R (or_else p q) (either_text f g)
stands_or Q P R p q f g one two t (inl a) e good bytes ts r = one t a (either_left (p t) (q t) a e) good bytes ts r
stands_or Q P R p q f g one two t (inr b) e good bytes ts r = two t b (either_right (p t) (q t) b e) good bytes ts r

abbrev pub chain : {A : Type 0} → (A → List ℕ → List ℕ) → List A → List ℕ → List ℕ
chain f [] rest = rest
chain f (x ∷ xs) rest = f x (chain f xs rest)

abbrev pub chain_end : {A D : Type 0} → (A → List ℕ → List ℕ) → (D → List ℕ → List ℕ) → List A × D → List ℕ → List ℕ
chain_end f g x bytes = chain f x.0 (g x.1 bytes)

abbrev pub EndOf : {A D : Type 0} → (D → State) → List A × D → State
EndOf P x = P x.1

-- a loop, by its turns
pub loops : {A C D : Type 0} {M : State} {P : D → State} {p : Token → Option C} {k : C → Grammar Token (A ⊎ D)} {f : A → List ℕ → List ℕ} {g : D → List ℕ → List ℕ}
    → Says (Either (λ a. M) P) M (bind (take p) k) (either_text f g) → Says (EndOf P) M (loop p k) (chain_end f g)
loops {A} {C} {D} {M} {P} {p} {k} {f} {g} turn = record { says = λ ts x rest h good bytes q. go ts x.0 x.1 rest h good bytes q }
  where
    go : (ts : List Token) (xs : List A) (d : D) (rest : List Token) → Phrases p (λ c. Has (k c)) ts xs d rest → AreGood ts → (bytes : List ℕ) → P d bytes rest → M (chain f xs (g d bytes)) ts
    go ts [] d rest h good bytes q = turn.says ts (inr d) rest (h.0, tail ts, (h.1, refl), h.2) good bytes q
    go ts (x ∷ xs) d rest h good bytes q =
        let one : Has (bind (take p) k) ts (inl x) h.1 = (h.0, tail ts, (h.2, refl), h.3) in
        turn.says ts (inl x) h.1 one good (chain f xs (g d bytes)) (go h.1 xs d rest h.4 (after (bind (take p) k) ts (inl x) h.1 one good) bytes q)

-- ---- chains of tokens

pub name_says : Says Rested Rest (take name) text.word
name_says = one name stands_name

pub wire_says : Says Rested Rest (take wire) text.wire
wire_says = one wire stands_wire

pub arrow_says : Says Rested Rest (take arrow) (λ u. text.arrow)
arrow_says = one arrow stands_arrow

pub eol_says : Says Filled Rest (take eol) (λ u bytes. 10 ∷ bytes)
eol_says = one eol stands_eol

pub last_wire_says : Says Filled Rest last_wire (λ w more. text.wire w (10 ∷ more))
last_wire_says = closes (binds wire_says (λ o. binds eol_says (λ e. gives (λ bytes. refl))))

pub to_wire_says : Says Filled Rest to_wire (λ w more. text.arrow (text.wire w (10 ∷ more)))
to_wire_says = closes (binds arrow_says (λ u. opens last_wire_says))

pub across_says : Says Filled Rest across (λ w more. text.across w.0 w.1 (10 ∷ more))
across_says = closes (binds wire_says (λ i. binds to_wire_says (λ o. gives (λ bytes. refl))))

pub turned_says : Says Rested Rest turned (λ w bytes. text.arrow (text.wire w.0 (text.bar (text.wire w.1 bytes))))
turned_says = closes (binds arrow_says (λ u. binds wire_says (λ o. binds (one bar stands_bar) (λ v. binds wire_says (λ i. gives (λ bytes. refl))))))

pub through_says : Says Filled Rest through (λ w more. text.arrow (text.wire w.0 (text.back w.1 w.2 (10 ∷ more))))
through_says = closes (binds turned_says (λ w. binds to_wire_says (λ o. gives (λ bytes. refl))))

-- wires up to another token
pub wires_says : {D : Type 0} (P : D → State) (q : Token → Option D) (g : D → List ℕ → List ℕ) → Stands P Rest q g → Says (EndOf P) Rest (wires_to q) (chain_end text.wire g)
wires_says {D} P q g st =
    loops (closes (binds (one (or_else wire q) (stands_or Rested P Rest wire q text.wire g stands_wire st)) turn))
  where
    turn : (x : Option (List ℕ) ⊎ D) → Goes (Either (λ a. Rest) P) (Either Rested P x) (item_or_end x) (λ w. either_text text.wire g x w) (either_text text.wire g)
    turn (inl a) = gives (λ bytes. refl)
    turn (inr d) = gives (λ bytes. refl)

wires_are : (ws : List (Option (List ℕ))) (rest : List ℕ) → chain text.wire ws rest ≡ text.wires ws rest
wires_are [] rest = refl
wires_are (w ∷ ws) rest = ap (text.wire w) (wires_are ws rest)

outputs_goes : (arrowed : Bool) → Goes Filled (ArrowOrLine arrowed) (outputs arrowed) (λ w. arrow_or_eol_text arrowed w) (λ outs more. text.outputs outs (10 ∷ more))
outputs_goes true = binds wire_says (λ o. binds (wires_says Filled eol (λ u bytes. 10 ∷ bytes) stands_eol) (λ os. gives (λ bytes. ap (λ l. text.arrow (text.wire o l)) (wires_are os.0 (10 ∷ bytes)))))
outputs_goes false = gives (λ bytes. refl)

pub operands_says : Says Filled Rest operands (λ w more. text.operands w.0 w.1 (10 ∷ more))
operands_says =
    closes (binds (wires_says ArrowOrLine arrow_or_eol arrow_or_eol_text stands_arrow_or_eol) (λ ins.
    binds_on (chain text.wire ins.0) (outputs_goes ins.1) (λ outs. gives (λ bytes. wires_are ins.0 (text.outputs outs (10 ∷ bytes))))))
