-- Readings by computation: a listing that is accepted, and bounds that are broken, each refused at its token.
use Rattle.std.proofs.Common.{◌≡◌, ℕ, zero, suc, true, false, List, [], ◌∷◌, refl}
use Rattle.std.specs.Prelude.{codes, pos, negsuc, Some, None, Err}
use Rattle.g_grammar.specs.Grammar.{read, repeat}
use Rattle.g_grammar.proofs.Laws.{takes}
use Rattle.g_types.specs.declared.rep.Rep.TheVariants.{I32}
use Rattle.g_types.specs.declared.ty.Ty.TheVariants.{Num}
use Rattle.g_values.specs.declared.primitive.Primitive.TheVariants as primitive
use Rattle.g_diagram.specs.declared.hierarchy.Clones.TheVariants as clones
use Rattle.g_diagram.specs.declared.hierarchy.System.TheVariants as system
use Rattle.g_diagram.specs.declared.hierarchy.Hierarchy.{Hierarchy}
use Rattle.g_diagram.specs.declared.panel.Lit.TheVariants as lit
use Rattle.g_diagram.specs.declared.panel.PanelItem.TheVariants as panel
use Rattle.g_diagram.specs.declared.node.Node.TheVariants as node
use Rattle.g_tokens.specs.declared.token.Token.{Token}
use Rattle.g_tokens.specs.declared.token.Token.TheVariants as token
use Rattle.g_tokens.specs.declared.token.Mark.TheVariants as mark
use Rattle.g_listing_words.specs.Operations.{operation_of}
use Rattle.g_listing_words.specs.declared.Operation.TheVariants as operation
use Rattle.g_listing_grammar.specs.declared.Border.TheVariants as border
use Rattle.g_listing_grammar.specs.declared.LineWord.TheVariants as line
use Rattle.g_listing_grammar.specs.declared.NodeWord.TheVariants as word_of
use Rattle.g_listing_grammar.specs.declared.PlainWord.TheVariants as plain
use Rattle.g_listing_grammar.specs.declared.StructureWord.TheVariants as structure
use Rattle.g_listing_grammar.specs.declared.Until.TheVariants as until
use Rattle.g_listing_grammar.specs.Types.{types}
use Rattle.g_listing_grammar.specs.Literals.{literal_rest, literals}
use Rattle.g_listing_grammar.specs.Borders.{line_rest, lines_to}
use Rattle.g_listing_grammar.specs.Nodes.{gives, nodes, node_rest, operation_rest, plain_rest}
use Rattle.g_listing_grammar.specs.Listing.{HasHierarchy, kind, listing}

-- ---- types and literals

refs : ℕ → List Token → List Token
refs zero ts = ts
refs (suc n) ts = token.Word (codes "ref") ∷ token.Mark mark.OpenParen ∷ refs n ts

-- the eighth `ref` is refused
eighth : read (types 8 true) (refs 8 (token.Word (codes "i32") ∷ [])) ≡ Err (refs 1 (token.Word (codes "i32") ∷ []))
unfolding types refs
eighth = refl

elements : ℕ → List Token → List Token
elements zero ts = ts
elements (suc n) ts = token.Word (codes "i8") ∷ token.Mark mark.Comma ∷ elements n ts

-- the comma after the 64th element is refused
wide : read (types 8 true) (token.Mark mark.OpenBrace ∷ elements 64 []) ≡ Err (token.Mark mark.Comma ∷ [])
unfolding types elements
wide = refl

braces : ℕ → List Token → List Token
braces zero ts = ts
braces (suc n) ts = token.Mark mark.OpenBrace ∷ braces n ts

-- the eighth brace of a literal is refused
eighth_brace : read (literals 8 true) (braces 8 []) ≡ Err (braces 1 [])
unfolding literal_rest braces
eighth_brace = refl

-- a bracket isn't, and what it would hold is
eighth_bracket : read (literals 8 true) (braces 7 (token.Mark mark.OpenBracket ∷ token.Number (pos 1) ∷ [])) ≡ Err (token.Number (pos 1) ∷ [])
unfolding literal_rest braces
eighth_bracket = refl

-- an array right inside an array
inner : List Token
inner = token.Mark mark.OpenBracket ∷ token.Mark mark.CloseBracket ∷ token.Mark mark.CloseBracket ∷ []

nested : read (literals 8 true) (token.Mark mark.OpenBracket ∷ inner) ≡ Err inner
unfolding literal_rest inner
nested = refl

-- ---- lines

field : read (line_rest line.Field) (token.Number (pos 64) ∷ []) ≡ Err (token.Number (pos 64) ∷ [])
field = refl

element : read (operation_rest operation.Get) (token.Number (pos 64) ∷ []) ≡ Err (token.Number (pos 64) ∷ [])
element = refl

queue : read (plain_rest plain.Obtain) (token.Text [] ∷ token.Number (pos 0) ∷ []) ≡ Err (token.Number (pos 0) ∷ [])
queue = refl

-- only `for` has `index` lines
index : read (lines_to border.While (codes "do")) (token.Word (codes "index") ∷ []) ≡ Err (token.Word (codes "index") ∷ [])
unfolding repeat
index = refl

-- two results want two operands: one too few, and one too many
short : read (gives 2) (token.Word (codes "give") ∷ token.Mark mark.Unwired ∷ token.Eol ∷ []) ≡ Err (token.Eol ∷ [])
short = refl

over : read (gives 1) (token.Word (codes "give") ∷ token.Mark mark.Unwired ∷ token.Mark mark.Unwired ∷ []) ≡ Err (token.Mark mark.Unwired ∷ [])
over = refl

-- the first frame has no `carry`
first_frame : read (node_rest 1 32 (word_of.Structure structure.Sequence)) (token.Eol ∷ token.Word (codes "frame") ∷ token.Eol ∷ token.Word (codes "carry") ∷ []) ≡ Err (token.Word (codes "carry") ∷ [])
unfolding node_rest repeat
first_frame = refl

loops : ℕ → List Token → List Token
loops zero ts = ts
loops (suc n) ts =
    token.Word (codes "while") ∷ token.Mark mark.Unwired ∷ token.Mark mark.Arrow ∷ token.Mark mark.Unwired ∷ token.Eol ∷ token.Word (codes "do") ∷ token.Eol ∷ loops n ts

-- the 33rd structure is refused at its first word
deep : read (nodes 1 32 until.End) (loops 33 []) ≡ Err (loops 1 [])
unfolding node_rest repeat operation_of loops
deep = refl

-- ---- listings

head : List Token → List Token
head ts = token.Word (codes "glisting") ∷ token.Number (pos 1) ∷ token.Eol ∷ token.Word (codes "vi") ∷ token.Word (codes "Main") ∷ ts

-- a pool of 65
pool : read listing (head (token.Word (codes "pool") ∷ token.Number (pos 65) ∷ token.Word (codes "same") ∷ token.Eol ∷ [])) ≡ Err (token.Number (pos 65) ∷ token.Word (codes "same") ∷ token.Eol ∷ [])
unfolding repeat types literal_rest node_rest operation_of head
pool = refl

-- clones after a system
clones_late : read kind (token.Word (codes "ui") ∷ token.Word (codes "preallocated") ∷ []) ≡ Err (token.Word (codes "preallocated") ∷ [])
clones_late = refl

-- glisting 1; vi Main; control a i32 = -5 -> a; inc a -> _; end
small : List Token
small = head (
    token.Eol
    ∷ token.Word (codes "control") ∷ token.Word (codes "a") ∷ token.Word (codes "i32") ∷ token.Mark mark.Equals ∷ token.Number (negsuc 4) ∷ token.Mark mark.Arrow ∷ token.Word (codes "a") ∷ token.Eol
    ∷ token.Word (codes "inc") ∷ token.Word (codes "a") ∷ token.Mark mark.Arrow ∷ token.Mark mark.Unwired ∷ token.Eol
    ∷ token.Word (codes "end") ∷ token.Eol ∷ token.End ∷ []
    )

abbrev increment : Hierarchy
increment = record {
  vis = record {
    name = codes "Main";
    clones = clones.NonReentrant;
    system = system.Same;
    panel = panel.Control (codes "a") (Num I32) false (Some (lit.Number (negsuc 4))) (Some (codes "a")) ∷ [];
    top = record { nodes = node.Apply primitive.Inc (Some (codes "a") ∷ []) (None ∷ []) ∷ [] };
  } ∷ [];
}

accepted : HasHierarchy small increment
unfolding repeat types literal_rest node_rest operation_of head small
accepted = takes listing small increment [] refl
