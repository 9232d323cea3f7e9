-- The selectors of a branch.
use Rattle.std.proofs.Common.{◌≡◌, ℕ, Bool, true, false, List, [], ◌∷◌, ◌++◌, map, ℤ, Option, Some, None, refl, sym, ap, subst, codes, inl, inr}
use Rattle.std.specs.Prelude.{◌⊎◌}
use Rattle.std.specs.Fmt.{signed_decimal}
use Rattle.g_grammar.specs.Grammar.{give, or_else}
use Rattle.g_tokens.specs.declared.token.Token.{Token}
use Rattle.g_tokens.specs.declared.token.Token.TheVariants as token
use Rattle.g_diagram.specs.declared.node.Selector.{Selector}
use Rattle.g_diagram.specs.declared.node.Selector.TheVariants as selector
use Rattle.g_diagram.specs.Text as text
use Rattle.g_listing_grammar.specs.declared.SelectorFirst.{SelectorFirst}
use Rattle.g_listing_grammar.specs.declared.SelectorFirst.TheVariants as begin
use Rattle.g_listing_grammar.specs.Words.{comma_or_eol, number}
use Rattle.g_listing_grammar.specs.Nodes.{selector_words, whole_selector, selector_first, dots, range_rest, selector_rest, more_or_last, selector_item, further_selectors, selectors}
use Rattle.g_listing_words.specs.Operations.{lookup}
use Rattle.g_print_laws.proofs.Lexing.{Inside, Full, IsWord, word_piece}
use Rattle.g_print_laws.proofs.NumberPieces.{number_piece}
use Rattle.g_print_laws.proofs.TextPieces.{text_piece}
use Rattle.g_print_laws.proofs.Tables.{holds}
use Rattle.g_print_laws.proofs.Parts.{State, Rest, Rested, Filled, Inner, Either, either_text, chain, Goes, gives, binds, binds_on, closes, one, loops, Stands, stands_or, some_is, OrLine, comma_or_eol_text, stands_comma_or_eol, stands_dots, stands_number}

abbrev pub first_front : SelectorFirst → List ℕ → List ℕ
first_front (begin.Whole s) bytes = text.selector_text s bytes
first_front (begin.Number n) bytes = signed_decimal n ++ bytes

abbrev Writes : Token → SelectorFirst → Type 0
Writes t c = (bytes : List ℕ) (ts : List Token) → Rest bytes ts → Inside (first_front c bytes) (t ∷ ts)

whole_word : (u : List ℕ) (s : Selector) → ((bytes : List ℕ) → text.selector_text s bytes ≡ u ++ bytes) → IsWord u → Writes (token.Word u) (begin.Whole s)
whole_word u s e g bytes ts q = subst (λ (v : List ℕ). Inside v (token.Word u ∷ ts)) (sym (e bytes)) (word_piece u g q.bound q.inside)

by_word : (u : List ℕ) (o : Option Selector) (c : SelectorFirst) → lookup selector_words u ≡ o → whole_selector o ≡ Some c → IsWord u → Writes (token.Word u) c
by_word u None c e f g = absurd cc
by_word u (Some s) c e f g =
    subst (λ (d : SelectorFirst). Writes (token.Word u) d) (some_is f)
    (holds (λ (w : List ℕ) (s : Selector). IsWord w → Writes (token.Word w) (begin.Whole s)) selector_words
    (whole_word (codes "TRUE") (selector.Truth true) (λ bytes. refl), (whole_word (codes "FALSE") (selector.Truth false) (λ bytes. refl), (whole_word (codes "default") selector.Default (λ bytes. refl), tt)))
    u s e g)

pub stands_selector : Stands Rested Inside selector_first first_front
stands_selector (token.Word u) c e g bytes ts q = by_word u (lookup selector_words u) c refl e g bytes ts q
stands_selector (token.Number z) c e g bytes ts q =
    subst (λ (d : SelectorFirst). Inside (first_front d bytes) (token.Number z ∷ ts)) (some_is e) (number_piece z g q.bound q.inside)
stands_selector (token.Text v) c e g bytes ts q =
    subst (λ (d : SelectorFirst). Inside (first_front d bytes) (token.Text v ∷ ts)) (some_is e) (text_piece v g q.inside)
stands_selector (token.Mark m) c e g bytes ts q = absurd cc
stands_selector token.Eol c e g bytes ts q = absurd cc
stands_selector token.End c e g bytes ts q = absurd cc
stands_selector token.Bad c e g bytes ts q = absurd cc

abbrev More : Selector × Bool → State
More x = OrLine x.1

abbrev rest_text : Selector × Bool → List ℕ → List ℕ
rest_text x bytes = text.selector_text x.0 (comma_or_eol_text x.1 bytes)

range_goes : (n : ℤ) (x : Unit {0} ⊎ Bool) → Goes More (Either Inner OrLine x) (range_rest n x) (λ w. signed_decimal n ++ either_text (λ (u : Unit {0}) bytes. 46 ∷ 46 ∷ bytes) comma_or_eol_text x w) rest_text
range_goes n (inl u) = binds (one number stands_number) (λ m. binds (one comma_or_eol stands_comma_or_eol) (λ more. gives (λ bytes. refl)))
range_goes n (inr more) = gives (λ bytes. refl)

rest_goes : (c : SelectorFirst) → Goes More Rest (selector_rest c) (first_front c) rest_text
rest_goes (begin.Whole s) = binds (one comma_or_eol stands_comma_or_eol) (λ more. gives (λ bytes. refl))
rest_goes (begin.Number n) =
    binds (one (or_else dots comma_or_eol) (stands_or Inner OrLine Rest dots comma_or_eol (λ (u : Unit {0}) bytes. 46 ∷ 46 ∷ bytes) comma_or_eol_text stands_dots stands_comma_or_eol)) (range_goes n)

-- a selector with a comma after it, and the last of a line
abbrev with_comma : Selector → List ℕ → List ℕ
with_comma s bytes = text.selector_text s (44 ∷ 32 ∷ bytes)

abbrev last_one : Selector → List ℕ → List ℕ
last_one s more = text.selector_text s (10 ∷ more)

abbrev Turn : Selector ⊎ Selector → State
Turn = Either (λ (s : Selector). Inside) (λ (s : Selector). Full)

item_goes : (c : SelectorFirst) → Goes Turn Rest (selector_item c) (first_front c) (either_text with_comma last_one)
item_goes c = binds_on (λ w. w) (rest_goes c) turn
  where
    turn : (x : Selector × Bool) → Goes Turn (More x) (give (more_or_last x)) (λ w. rest_text x w) (either_text with_comma last_one)
    turn (s, true) = gives (λ bytes. refl)
    turn (s, false) = gives (λ bytes. refl)

after_are : (ss : List Selector) (s : Selector) (more : List ℕ) → 44 ∷ 32 ∷ chain with_comma ss (last_one s more) ≡ text.after_comma (map text.selector_text (ss ++ s ∷ [])) (10 ∷ more)
after_are [] s more = refl
after_are (x ∷ ss) s more = ap (λ l. 44 ∷ 32 ∷ text.selector_text x l) (after_are ss s more)

further_goes : (x : Selector ⊎ Selector) → Goes Filled (Turn x) (further_selectors x) (λ w. either_text with_comma last_one x w) (λ ss more. text.listed (map text.selector_text ss) (10 ∷ more))
further_goes (inl s) =
    binds (loops {P = λ (s : Selector). Full} (closes (binds (one selector_first stands_selector) item_goes))) (λ ss. gives (λ bytes. ap (text.selector_text s) (after_are ss.0 ss.1 bytes)))
further_goes (inr s) = gives (λ bytes. refl)

-- selectors up to the end of the line
pub selectors_goes : (c : SelectorFirst) → Goes Filled Rest (selectors c) (first_front c) (λ ss more. text.listed (map text.selector_text ss) (10 ∷ more))
selectors_goes c = binds_on (λ w. w) (item_goes c) further_goes
