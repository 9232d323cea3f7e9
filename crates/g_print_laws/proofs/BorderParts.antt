-- Lines at the border of a structure.
use Rattle.std.proofs.Common.{◌≡◌, ℕ, zero, suc, Bool, true, false, cond, ◌&&◌, List, [], ◌∷◌, ◌++◌, pos, negsuc, Option, Some, None, refl, ap, subst, codes, inl, inr}
use Rattle.std.specs.Prelude.{◌⊎◌, nat_le}
use Rattle.std.specs.Fmt.{decimal}
use Rattle.g_grammar.specs.Grammar.{Grammar, take, or_else}
use Rattle.g_types.specs.Ty as types_spec
use Rattle.g_tokens.specs.declared.token.Token.{Token}
use Rattle.g_tokens.specs.declared.token.Token.TheVariants as token
use Rattle.g_diagram.specs.declared.node.Tunnel.{Tunnel}
use Rattle.g_diagram.specs.Text as text
use Rattle.g_listing_grammar.specs.declared.Border.{Border}
use Rattle.g_listing_grammar.specs.declared.Border.TheVariants as border
use Rattle.g_listing_grammar.specs.declared.LineWord.{LineWord}
use Rattle.g_listing_grammar.specs.declared.LineWord.TheVariants as line
use Rattle.g_listing_grammar.specs.Words.{word_in, word, default_or_eol, field_number, between}
use Rattle.g_listing_grammar.specs.Words.{text as text_of_token}
use Rattle.g_listing_grammar.specs.Types.{types}
use Rattle.g_listing_grammar.specs.Literals.{literals}
use Rattle.g_listing_grammar.specs.Borders.{register_rest, result_end, line_rest, line_or_end, lines_of, lines_to}
use Rattle.g_listing_words.specs.Operations.{lookup}
use Rattle.g_print_laws.proofs.Lexing.{Inside, Full, IsWord, space, word_piece, starts}
use Rattle.g_print_laws.proofs.NumberPieces.{number_piece}
use Rattle.g_print_laws.proofs.Tables.{holds, named}
use Rattle.g_print_laws.proofs.Parts.{State, Rest, Rested, Filled, Either, either_text, EndOf, chain, chain_end, Says, Goes, alike, gives, binds, binds_on, closes, one, loops, Stands, stands_or, some_is, a_word, a_feed, stands_text, wire_says, arrow_says, eol_says, last_wire_says, across_says, turned_says, through_says}
use Rattle.g_print_laws.proofs.TypeParts.{types_says}
use Rattle.g_print_laws.proofs.LiteralParts.{literals_says}

-- ---- with a space before them

pub with_space : {A : Type 0} {Q : A → State} {g : Grammar Token A} {s : A → List ℕ → List ℕ} → Says Q Inside g s → Says Q Rest g (λ a bytes. 32 ∷ s a bytes)
with_space x = record { says = λ ts a rest h good bytes q. record { bound = refl; inside = space (x.says ts a rest h good bytes q) } }

pub ty_says : Says Rested Rest (types 8 true) (λ t bytes. text.word (types_spec.text t) bytes)
ty_says = with_space (types_says 8 true)

pub literal_says : Says Rested Rest (literals 8 true) (λ l bytes. 32 ∷ text.literal l bytes)
literal_says = with_space (literals_says 8 true)

pub text_says : Says Rested Rest (take text_of_token) (λ v bytes. 32 ∷ text.quoted v bytes)
text_says = with_space (one text_of_token stands_text)

pub between_is : (low high n k : ℕ) → between low high n ≡ Some k → n ≡ k
between_is low high n k e = go (nat_le low n && nat_le n high) e
  where
    go : (b : Bool) → cond b (Some n) None ≡ Some k → n ≡ k
    go true f = some_is f
    go false f = absurd cc

pub field_says : Says Rested Rest (take field_number) (λ k bytes. text.word (decimal k) bytes)
field_says = with_space (one field_number go)
  where
    go : Stands Rested Inside field_number (λ k bytes. decimal k ++ bytes)
    go (token.Number (pos n)) k e g bytes ts r = subst (λ (m : ℕ). Inside (decimal m ++ bytes) (token.Number (pos n) ∷ ts)) (between_is 0 63 n k e) (number_piece (pos n) g r.bound r.inside)
    go (token.Number (negsuc n)) k e g bytes ts r = absurd cc
    go (token.Mark m) k e g bytes ts r = absurd cc
    go (token.Word w) k e g bytes ts r = absurd cc
    go (token.Text v) k e g bytes ts r = absurd cc
    go token.Eol k e g bytes ts r = absurd cc
    go token.End k e g bytes ts r = absurd cc
    go token.Bad k e g bytes ts r = absurd cc

-- ---- the first word of a line

indented : (depth : ℕ) {bytes : List ℕ} {ts : List Token} → Inside bytes ts → Inside (text.indent depth bytes) ts
indented zero i = i
indented (suc depth) i = space (space (indented depth i))

pub a_line : (depth : ℕ) (w : List ℕ) {bytes : List ℕ} {ts : List Token} → IsWord w → Rest bytes ts → Full (text.indent depth (w ++ bytes)) (token.Word w ∷ ts)
a_line depth w g r = starts (token.Word w) (λ e. absurd cc) (indented depth (word_piece w g r.bound r.inside))

-- words of a table that begin lines
pub stands_row : {A : Type 0} (depth : ℕ) (spelled : A → List ℕ) (rows : List (List ℕ × A)) → ((u : List ℕ) (x : A) → lookup rows u ≡ Some x → u ≡ spelled x)
    → Stands Rested Full (word_in rows) (λ x bytes. text.indent depth (spelled x ++ bytes))
stands_row depth spelled rows is (token.Word u) x e g bytes ts r = subst (λ (v : List ℕ). Full (text.indent depth (v ++ bytes)) (token.Word u ∷ ts)) (is u x e) (a_line depth u g r)
stands_row depth spelled rows is (token.Mark m) x e g bytes ts r = absurd cc
stands_row depth spelled rows is (token.Number z) x e g bytes ts r = absurd cc
stands_row depth spelled rows is (token.Text v) x e g bytes ts r = absurd cc
stands_row depth spelled rows is token.Eol x e g bytes ts r = absurd cc
stands_row depth spelled rows is token.End x e g bytes ts r = absurd cc
stands_row depth spelled rows is token.Bad x e g bytes ts r = absurd cc

pub one_row : (w : List ℕ) (u : List ℕ) (x : Unit {0}) → lookup ((w, tt) ∷ []) u ≡ Some x → u ≡ w
one_row w = holds (λ v y. v ≡ w) ((w, tt) ∷ []) (refl, tt)

pub stands_stop : (depth : ℕ) (w : List ℕ) → Stands Rested Full (word w) (λ u bytes. text.indent depth (w ++ bytes))
stands_stop depth w = stands_row depth (λ u. w) ((w, tt) ∷ []) (one_row w)

-- ---- lines

abbrev pub line_word : LineWord → List ℕ
line_word line.Tunnel = codes "tunnel"
line_word line.Register = codes "register"
line_word line.Last = codes "last"
line_word line.Gather = codes "gather"
line_word line.Index = codes "index"
line_word line.Result = codes "result"
line_word line.Carry = codes "carry"
line_word line.Ref = codes "ref"
line_word line.Element = codes "index"
line_word line.Field = codes "field"

line_named : (b : Border) (u : List ℕ) (w : LineWord) → lookup (lines_of b) u ≡ Some w → u ≡ line_word w
line_named border.For = named line_word (lines_of border.For) refl
line_named border.While = named line_word (lines_of border.While) refl
line_named border.Case = named line_word (lines_of border.Case) refl
line_named border.FirstFrame = named line_word (lines_of border.FirstFrame) refl
line_named border.Frame = named line_word (lines_of border.Frame) refl
line_named border.InPlace = named line_word (lines_of border.InPlace) refl

abbrev DefaultOrLine : Bool → State
DefaultOrLine true = Rest
DefaultOrLine false = Full

abbrev default_or_eol_text : Bool → List ℕ → List ℕ
default_or_eol_text true bytes = text.word (codes "default") bytes
default_or_eol_text false bytes = 10 ∷ bytes

abbrev IsDefault : List ℕ → Bool → Type 0
IsDefault w b = (bytes : List ℕ) (ts : List Token) → IsWord w → DefaultOrLine b bytes ts → Rest (default_or_eol_text b bytes) (token.Word w ∷ ts)

stands_default : Stands DefaultOrLine Rest default_or_eol default_or_eol_text
stands_default (token.Word w) b e g bytes ts q = holds IsDefault ((codes "default", true) ∷ []) ((λ bytes ts g q. a_word (codes "default") g q), tt) w b e bytes ts g q
stands_default token.Eol true e g bytes ts q = absurd cc
stands_default token.Eol false e g bytes ts q = a_feed q
stands_default (token.Mark m) b e g bytes ts q = absurd cc
stands_default (token.Number z) b e g bytes ts q = absurd cc
stands_default (token.Text v) b e g bytes ts q = absurd cc
stands_default token.End b e g bytes ts q = absurd cc
stands_default token.Bad b e g bytes ts q = absurd cc

-- the first word and the operands of a line, up to its end
abbrev pub whole_line : Tunnel → List ℕ → List ℕ
whole_line t more = text.border_word t ++ text.border_operands t (10 ∷ more)

register_goes : (w : Option (List ℕ)) → Goes Filled Rest (register_rest w) (λ bytes. codes "register" ++ text.wire w bytes) whole_line
register_goes (Some n) = binds through_says (λ w. gives (λ bytes. refl))
register_goes None = binds ty_says (λ t. binds through_says (λ w. gives (λ bytes. refl)))

result_goes : (w : Option (List ℕ)) (b : Bool) → Goes Filled (DefaultOrLine b) (result_end w b) (λ bytes. codes "result" ++ text.wire w (default_or_eol_text b bytes)) whole_line
result_goes w true = binds eol_says (λ e. gives (λ bytes. refl))
result_goes w false = gives (λ bytes. refl)

line_goes : (w : LineWord) → Goes Filled Rest (line_rest w) (λ bytes. line_word w ++ bytes) whole_line
line_goes line.Tunnel = binds across_says (λ w. gives (λ bytes. refl))
line_goes line.Register = binds wire_says register_goes
line_goes line.Last = binds across_says (λ w. gives (λ bytes. refl))
line_goes line.Gather = binds across_says (λ w. gives (λ bytes. refl))
line_goes line.Index = binds across_says (λ w. gives (λ bytes. refl))
line_goes line.Result = binds wire_says (λ w. binds (one default_or_eol stands_default) (result_goes w))
line_goes line.Carry = binds across_says (λ w. gives (λ bytes. refl))
line_goes line.Ref = binds wire_says (λ r. binds turned_says (λ w. binds arrow_says (λ u. binds wire_says (λ same. binds last_wire_says (λ code. gives (λ bytes. refl))))))
line_goes line.Element = binds wire_says (λ a. binds wire_says (λ i. binds through_says (λ w. gives (λ bytes. refl))))
line_goes line.Field = binds field_says (λ k. binds wire_says (λ c. binds through_says (λ w. gives (λ bytes. refl))))

abbrev pub line_at : ℕ → Tunnel → List ℕ → List ℕ
line_at depth t more = text.border t depth more

abbrev pub stop_at : {A : Type 0} → ℕ → (A → List ℕ) → A → List ℕ → List ℕ
stop_at depth spelled x bytes = text.indent depth (spelled x ++ bytes)

lines_are : (depth : ℕ) (ls : List Tunnel) (rest : List ℕ) → chain (line_at depth) ls rest ≡ text.borders ls depth rest
lines_are depth [] rest = refl
lines_are depth (l ∷ ls) rest = ap (text.border l depth) (lines_are depth ls rest)

-- lines of a border up to a word, one level further in than the word
pub lines_says : (b : Border) (stop : List ℕ) (depth : ℕ) → Says (EndOf Rested) Full (lines_to b stop) (λ x bytes. text.borders x.0 (suc depth) (text.indent depth (stop ++ bytes)))
lines_says b stop depth = alike all (λ x bytes. lines_are (suc depth) x.0 (text.indent depth (stop ++ bytes)))
  where
    turn : (x : LineWord ⊎ Unit {0}) → Goes (Either (λ (a : Tunnel). Full) Rested) (Either Rested Rested x) (line_or_end x) (λ w. either_text (stop_at (suc depth) line_word) (stop_at depth (λ (u : Unit {0}). stop)) x w) (either_text (line_at (suc depth)) (stop_at depth (λ (u : Unit {0}). stop)))
    turn (inl w) = binds_on (text.indent (suc depth)) (line_goes w) (λ l. gives (λ bytes. refl))
    turn (inr u) = gives (λ bytes. refl)

    all : Says (EndOf Rested) Full (lines_to b stop) (chain_end (line_at (suc depth)) (stop_at depth (λ (u : Unit {0}). stop)))
    all =
        loops (closes (binds (one (or_else (word_in (lines_of b)) (word stop))
        (stands_or Rested Rested Full (word_in (lines_of b)) (word stop) (stop_at (suc depth) line_word) (stop_at depth (λ (u : Unit {0}). stop)) (stands_row (suc depth) line_word (lines_of b) (line_named b)) (stands_stop depth stop))) turn))
