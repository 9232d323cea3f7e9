-- Literals and selectors in front of bytes.
use Rattle.std.proofs.Common.{◌≡◌, ℕ, zero, suc, ◌-◌, Bool, true, false, cond, List, [], ◌∷◌, ◌++◌, map, Option, Some, None, refl, sym, ap, ◌∙◌, subst, codes, inl, inr}
use Rattle.std.specs.Prelude.{◌⊎◌}
use Rattle.g_grammar.specs.Grammar.{Grammar, take, loop, nothing, or_else}
use Rattle.g_tokens.specs.declared.token.Token.{Token}
use Rattle.g_tokens.specs.declared.token.Token.TheVariants as token
use Rattle.g_tokens.specs.declared.token.Mark.TheVariants as mark
use Rattle.g_diagram.specs.declared.panel.Lit.{Lit}
use Rattle.g_diagram.specs.declared.panel.Lit.TheVariants as lit
use Rattle.g_diagram.specs.Text as text
use Rattle.g_print_laws.proofs.TextLemmas.{literal-Number, literal-Truth, literal-Text, literal-Null, literal-Array, literal-Cluster}
use Rattle.g_listing_grammar.specs.declared.LiteralFirst.{LiteralFirst}
use Rattle.g_listing_grammar.specs.declared.LiteralFirst.TheVariants as begin
use Rattle.g_listing_grammar.specs.Words.{close_bracket, comma_or_bracket}
use Rattle.g_listing_grammar.specs.Types.{is_above}
use Rattle.g_listing_grammar.specs.Literals.{literal_words, literal_word, fitting_literal, literal_first, next_item, array_rest, literal_rest_of, literal_rest, literals}
use Rattle.g_print_laws.proofs.Lexing.{Inside, IsWord, word_piece, mark_piece}
use Rattle.g_print_laws.proofs.NumberPieces.{number_piece}
use Rattle.g_print_laws.proofs.TextPieces.{text_piece}
use Rattle.g_print_laws.proofs.Tables.{holds}
use Rattle.g_print_laws.proofs.Parts.{State, Rest, Rested, Further, Either, either_text, EndOf, chain, chain_end, Says, Goes, gives, binds, binds_on, closes, one, loops, Stands, stands_or, some_is, comma_or_bracket_text, stands_close_bracket, stands_comma_or_bracket}
use Rattle.g_print_laws.proofs.TypeParts.{nothing_has, others_says}

abbrev First : LiteralFirst → State
First (begin.Whole l) = Rest
First begin.Array = Inside
First begin.Cluster = Inside

abbrev first_front : LiteralFirst → List ℕ → List ℕ
first_front (begin.Whole l) bytes = text.literal l bytes
first_front begin.Array bytes = 91 ∷ bytes
first_front begin.Cluster bytes = 123 ∷ bytes

-- a token is written so
abbrev Writes : Token → LiteralFirst → Type 0
Writes t c = (bytes : List ℕ) (ts : List Token) → First c bytes ts → Inside (first_front c bytes) (t ∷ ts)

whole_word : (u : List ℕ) (l : Lit) → ((bytes : List ℕ) → text.literal l bytes ≡ u ++ bytes) → IsWord u → Writes (token.Word u) (begin.Whole l)
whole_word u l e g bytes ts q = subst (λ (v : List ℕ). Inside v (token.Word u ∷ ts)) (sym (e bytes)) (word_piece u g q.bound q.inside)

as_word : (u : List ℕ) (l : Lit) → ((bytes : List ℕ) → text.literal l bytes ≡ u ++ bytes) → (c : LiteralFirst) → Some (begin.Whole l) ≡ Some c → IsWord u → Writes (token.Word u) c
as_word u l e c f g = subst (λ (d : LiteralFirst). Writes (token.Word u) d) (some_is f) (whole_word u l e g)

stands_literal : (arrays : Bool) → Stands First Inside (literal_word arrays) first_front
stands_literal arrays (token.Word u) c e g bytes ts q =
    holds (λ (w : List ℕ) (d : LiteralFirst). IsWord w → Writes (token.Word w) d) literal_words
    (whole_word (codes "TRUE") (lit.Truth true) (literal-Truth true), (whole_word (codes "FALSE") (lit.Truth false) (literal-Truth false), (whole_word (codes "null") lit.Null literal-Null, tt)))
    u c e g bytes ts q
stands_literal arrays (token.Number z) c e g bytes ts q =
    subst (λ (d : LiteralFirst). First d bytes ts → Inside (first_front d bytes) (token.Number z ∷ ts)) (some_is e)
    (λ q. subst (λ (v : List ℕ). Inside v (token.Number z ∷ ts)) (sym (literal-Number z bytes)) (number_piece z g q.bound q.inside)) q
stands_literal arrays (token.Text v) c e g bytes ts q =
    subst (λ (d : LiteralFirst). First d bytes ts → Inside (first_front d bytes) (token.Text v ∷ ts)) (some_is e)
    (λ q. subst (λ (w : List ℕ). Inside w (token.Text v ∷ ts)) (sym (literal-Text v bytes)) (text_piece v g q.inside)) q
stands_literal true (token.Mark mark.OpenBracket) c e g bytes ts q =
    subst (λ (d : LiteralFirst). First d bytes ts → Inside (first_front d bytes) (token.Mark mark.OpenBracket ∷ ts)) (some_is e)
    (λ q. mark_piece 91 mark.OpenBracket (record { space = refl; comment = refl; inner = refl }) refl q) q
stands_literal false (token.Mark mark.OpenBracket) c e g bytes ts q = absurd cc
stands_literal arrays (token.Mark mark.OpenBrace) c e g bytes ts q =
    subst (λ (d : LiteralFirst). First d bytes ts → Inside (first_front d bytes) (token.Mark mark.OpenBrace ∷ ts)) (some_is e)
    (λ q. mark_piece 123 mark.OpenBrace (record { space = refl; comment = refl; inner = refl }) refl q) q
stands_literal arrays (token.Mark m) c e g bytes ts q = absurd cc
stands_literal arrays token.Eol c e g bytes ts q = absurd cc
stands_literal arrays token.End c e g bytes ts q = absurd cc
stands_literal arrays token.Bad c e g bytes ts q = absurd cc

fits : (n : ℕ) (o : Option LiteralFirst) (c : LiteralFirst) → fitting_literal n o ≡ Some c → o ≡ Some c
fits n None c e = absurd cc
fits n (Some (begin.Whole l)) c e = go (is_above n) e
  where
    go : (b : Bool) → cond b (Some (begin.Whole l)) None ≡ Some c → Some (begin.Whole l) ≡ Some c
    go true e = e
    go false e = absurd cc
fits n (Some begin.Array) c e = go (is_above n) e
  where
    go : (b : Bool) → cond b (Some begin.Array) None ≡ Some c → Some begin.Array ≡ Some c
    go true e = e
    go false e = absurd cc
fits n (Some begin.Cluster) c e = go (is_above (n - 1)) e
  where
    go : (b : Bool) → cond b (Some begin.Cluster) None ≡ Some c → Some begin.Cluster ≡ Some c
    go true e = e
    go false e = absurd cc

stands_first : (n : ℕ) (arrays : Bool) → Stands First Inside (literal_first n arrays) first_front
stands_first n arrays t c e = stands_literal arrays t c (fits n (literal_word arrays t) c e)

-- ---- literals

-- the items of an array after the first, up to the bracket
abbrev items_text : List Lit × Unit {0} → List ℕ → List ℕ
items_text xs bytes = text.after_comma (map text.literal xs.0) (93 ∷ bytes)

chain_is : (xs : List Lit) (bytes : List ℕ) → chain (λ l rest. 44 ∷ 32 ∷ text.literal l rest) xs (93 ∷ bytes) ≡ text.after_comma (map text.literal xs) (93 ∷ bytes)
chain_is [] bytes = refl
chain_is (x ∷ xs) bytes = ap (λ l. 44 ∷ 32 ∷ text.literal x l) (chain_is xs bytes)

items_says : (g : Grammar Token Lit) → Says Rested Inside g text.literal → Says (EndOf Rested) Rest (loop comma_or_bracket (next_item g)) (chain_end (λ l rest. 44 ∷ 32 ∷ text.literal l rest) (λ u bytes. 93 ∷ bytes))
items_says g x = loops (closes (binds (one comma_or_bracket stands_comma_or_bracket) turn))
  where
    turn : (further : Bool) → Goes (Either Rested Rested) (Further further) (next_item g further) (λ w. comma_or_bracket_text further w) (either_text (λ l rest. 44 ∷ 32 ∷ text.literal l rest) (λ u bytes. 93 ∷ bytes))
    turn true = binds x (λ l. gives (λ bytes. refl))
    turn false = gives (λ bytes. refl)

abbrev Bracket : Unit {0} → State
Bracket u = Rest

array_goes : (rest : LiteralFirst → Grammar Token Lit) (g : Grammar Token Lit) → ((c : LiteralFirst) → Goes Rested (First c) (rest c) (first_front c) text.literal) → Says Rested Inside g text.literal
    → (x : LiteralFirst ⊎ Unit {0}) → Goes Rested (Either First Bracket x) (array_rest rest g x) (λ w. 91 ∷ either_text first_front (λ u bytes. 93 ∷ bytes) x w) text.literal
array_goes rest g x y (inr end) = gives (λ bytes. sym (literal-Array [] bytes))
array_goes rest g x y (inl c) =
    binds_on (λ w. 91 ∷ w) (x c) (λ l. binds (items_says g y) (λ ls. gives (λ bytes. ap (λ m. 91 ∷ text.literal l m) (chain_is ls.0 bytes) ∙ sym (literal-Array (l ∷ ls.0) bytes))))

stands_close : Stands Bracket Inside close_bracket (λ u bytes. 93 ∷ bytes)
stands_close t u e g bytes ts q = (stands_close_bracket t u e g bytes ts q).inside

first_says : (n : ℕ) (arrays : Bool) → Says First Inside (take (literal_first n arrays)) first_front
first_says n arrays = one (literal_first n arrays) (stands_first n arrays)

goes_of : (n : ℕ) → ((c : LiteralFirst) → Goes Rested (First c) (literal_rest n c) (first_front c) text.literal) → (c : LiteralFirst)
    → Goes Rested (First c) (literal_rest_of (literal_first n) (literal_rest n) c) (first_front c) text.literal
goes_of n x (begin.Whole l) = gives (λ bytes. refl)
goes_of n x begin.Array =
    binds (one (or_else (literal_first n false) close_bracket) (stands_or First Bracket Inside (literal_first n false) close_bracket first_front (λ u bytes. 93 ∷ bytes) (stands_first n false) stands_close))
    (array_goes (literal_rest n) (literals n false) x (closes (binds (first_says n false) x)))
goes_of n x begin.Cluster =
    let all : Says Rested Inside (literals n true) text.literal = closes (binds (first_says n true) x) in
    binds all (λ l. binds (others_says (literals n true) text.literal all 63) (λ ls. gives (λ bytes. sym (literal-Cluster (l ∷ ls) bytes))))

rest_goes : (n : ℕ) (c : LiteralFirst) → Goes Rested (First c) (literal_rest n c) (first_front c) text.literal
unfolding literal_rest
rest_goes zero c = opens_none
  where
    opens_none : Goes Rested (First c) nothing (first_front c) text.literal
    opens_none = record { goes = λ ts b rest h good bytes q. absurd (nothing_has ts b rest h) }
rest_goes (suc n) c = goes_of n (rest_goes n) c

pub literals_says : (n : ℕ) (arrays : Bool) → Says Rested Inside (literals n arrays) text.literal
literals_says n arrays = closes (binds (first_says n arrays) (rest_goes n))
