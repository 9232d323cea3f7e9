-- What one token says: tests with a value, and the tables of words.
use Rattle.std.specs.Prelude.{ℕ, ℤ, pos, negsuc, Bool, true, false, ◌&&◌, nat_le, List, [], ◌∷◌, Option, Some, None, codes, if◌then◌else◌}
use Rattle.g_types.specs.declared.rep.Rep.TheVariants.{I8, I16, I32, I64, U8, U16, U32, U64}
use Rattle.g_tokens.specs.declared.token.Token.{Token}
use Rattle.g_tokens.specs.declared.token.Token.TheVariants as token
use Rattle.g_tokens.specs.declared.token.Mark.TheVariants as mark
use Rattle.g_listing_words.specs.Operations.{lookup, operation_named}
use Rattle.g_listing_words.specs.declared.Operation.{Operation}
use Rattle.g_listing_grammar.specs.declared.NodeWord.{NodeWord}
use Rattle.g_listing_grammar.specs.declared.NodeWord.TheVariants as node
use Rattle.g_listing_grammar.specs.declared.PlainWord.TheVariants as plain
use Rattle.g_listing_grammar.specs.declared.StructureWord.TheVariants as structure
use Rattle.g_listing_grammar.specs.declared.TypeWord.{TypeWord}
use Rattle.g_listing_grammar.specs.declared.TypeWord.TheVariants as type

abbrev pub type_words : List (List ℕ × TypeWord)
type_words =
    (codes "i8", type.Number I8) ∷ (codes "i16", type.Number I16) ∷ (codes "i32", type.Number I32) ∷ (codes "i64", type.Number I64)
    ∷ (codes "u8", type.Number U8) ∷ (codes "u16", type.Number U16) ∷ (codes "u32", type.Number U32) ∷ (codes "u64", type.Number U64)
    ∷ (codes "bool", type.Truth) ∷ (codes "str", type.Text) ∷ (codes "queue", type.Queue) ∷ (codes "ref", type.Ref) ∷ []

-- the words that begin nodes, but for those of operations
abbrev pub node_words : List (List ℕ × NodeWord)
node_words =
    (codes "const", node.Plain plain.Const) ∷ (codes "obtain", node.Plain plain.Obtain) ∷ (codes "read", node.Plain plain.Read)
    ∷ (codes "write", node.Plain plain.Write) ∷ (codes "call", node.Plain plain.Call)
    ∷ (codes "for", node.Structure structure.For) ∷ (codes "while", node.Structure structure.While) ∷ (codes "case", node.Structure structure.Case)
    ∷ (codes "sequence", node.Structure structure.Sequence) ∷ (codes "inplace", node.Structure structure.InPlace) ∷ []

abbrev pub or_operation : Option NodeWord → Option Operation → Option NodeWord
or_operation (Some w) o = Some w
or_operation None None = None
or_operation None (Some op) = Some (node.Plain (plain.Operation op))

-- how a node begins in listings of this version
abbrev pub node_named : ℕ → List ℕ → Option NodeWord
node_named v w = or_operation (lookup node_words w) (operation_named v w)

abbrev pub node_word : ℕ → Token → Option NodeWord
node_word v (token.Word w) = node_named v w
node_word v _ = None

-- a token that is a word of the table
abbrev pub word_in : {A : Type 0} → List (List ℕ × A) → Token → Option A
word_in rows (token.Word w) = lookup rows w
word_in rows _ = None

abbrev pub word : List ℕ → Token → Option (Unit {0})
word w = word_in ((w, tt) ∷ [])

abbrev pub name : Token → Option (List ℕ)
name (token.Word w) = Some w
name _ = None

abbrev pub text : Token → Option (List ℕ)
text (token.Text bytes) = Some bytes
text _ = None

-- a name, or the mark of an unwired operand
abbrev pub wire : Token → Option (Option (List ℕ))
wire (token.Word w) = Some (Some w)
wire (token.Mark mark.Unwired) = Some None
wire _ = None

abbrev pub eol : Token → Option (Unit {0})
eol token.Eol = Some tt
eol _ = None

abbrev pub arrow : Token → Option (Unit {0})
arrow (token.Mark mark.Arrow) = Some tt
arrow _ = None

abbrev pub feeds : Token → Option (Unit {0})
feeds (token.Mark mark.Feeds) = Some tt
feeds _ = None

abbrev pub bar : Token → Option (Unit {0})
bar (token.Mark mark.Bar) = Some tt
bar _ = None

abbrev pub close_bracket : Token → Option (Unit {0})
close_bracket (token.Mark mark.CloseBracket) = Some tt
close_bracket _ = None

abbrev pub open_paren : Token → Option (Unit {0})
open_paren (token.Mark mark.OpenParen) = Some tt
open_paren _ = None

abbrev pub close_paren : Token → Option (Unit {0})
close_paren (token.Mark mark.CloseParen) = Some tt
close_paren _ = None

abbrev pub close_brace : Token → Option (Unit {0})
close_brace (token.Mark mark.CloseBrace) = Some tt
close_brace _ = None

-- a comma, and that more follows; or the brace, and that nothing does
abbrev pub comma_or_brace : Token → Option Bool
comma_or_brace (token.Mark mark.Comma) = Some true
comma_or_brace (token.Mark mark.CloseBrace) = Some false
comma_or_brace _ = None

abbrev pub comma_or_bracket : Token → Option Bool
comma_or_bracket (token.Mark mark.Comma) = Some true
comma_or_bracket (token.Mark mark.CloseBracket) = Some false
comma_or_bracket _ = None

abbrev pub comma_or_eol : Token → Option Bool
comma_or_eol (token.Mark mark.Comma) = Some true
comma_or_eol token.Eol = Some false
comma_or_eol _ = None

abbrev pub arrow_or_eol : Token → Option Bool
arrow_or_eol (token.Mark mark.Arrow) = Some true
arrow_or_eol token.Eol = Some false
arrow_or_eol _ = None

abbrev pub equals_or_arrow : Token → Option Bool
equals_or_arrow (token.Mark mark.Equals) = Some true
equals_or_arrow (token.Mark mark.Arrow) = Some false
equals_or_arrow _ = None

abbrev pub default_or_eol : Token → Option Bool
default_or_eol (token.Word w) = lookup ((codes "default", true) ∷ []) w
default_or_eol token.Eol = Some false
default_or_eol _ = None

-- ---- numbers within bounds

abbrev pub number : Token → Option ℤ
number (token.Number n) = Some n
number _ = None

abbrev pub between : ℕ → ℕ → ℕ → Option ℕ
between low high n = if nat_le low n && nat_le n high then Some n else None

-- a number from 1 to 64
abbrev pub pool_size : Token → Option ℕ
pool_size (token.Number (pos n)) = between 1 64 n
pool_size _ = None

-- the number of an element of a cluster
abbrev pub field_number : Token → Option ℕ
field_number (token.Number (pos n)) = between 0 63 n
field_number _ = None

abbrev pub as_pos : Option ℕ → Option ℤ
as_pos None = None
as_pos (Some n) = Some (pos n)

-- -1, or a number from 1 to 1,000,000
abbrev pub queue_size : Token → Option ℤ
queue_size (token.Number (pos n)) = as_pos (between 1 1000000 n)
queue_size (token.Number (negsuc n)) = if nat_le n 0 then Some (negsuc 0) else None
queue_size _ = None

-- the versions that there are
abbrev pub version : Token → Option ℕ
version (token.Number (pos n)) = between 1 1 n
version _ = None
