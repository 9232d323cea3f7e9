-- Nodes of listings of a version: a structure may hold others while there are levels left.
use Rattle.std.specs.Prelude.{ℕ, ℤ, zero, suc, Bool, true, false, List, [], ◌∷◌, ◌++◌, Option, Some, None, codes, ◌⊎◌, if◌then◌else◌}
use Rattle.std.proofs.Common.{inl, inr}
use Rattle.g_grammar.specs.Grammar.{Grammar, give, take, loop, ◌>>=◌, nothing, or_else, exactly}
use Rattle.g_values.specs.declared.primitive.Primitive.TheVariants as primitive
use Rattle.g_diagram.specs.declared.node.Tunnel.{Tunnel}
use Rattle.g_diagram.specs.declared.node.Tunnel.TheVariants as tunnel
use Rattle.g_diagram.specs.declared.node.Selector.{Selector}
use Rattle.g_diagram.specs.declared.node.Selector.TheVariants as selector
use Rattle.g_diagram.specs.declared.node.Branch.{Branch}
use Rattle.g_diagram.specs.declared.node.SequenceFrame.{SequenceFrame}
use Rattle.g_diagram.specs.declared.node.Node.{Node}
use Rattle.g_diagram.specs.declared.node.Node.TheVariants as node
use Rattle.g_tokens.specs.declared.token.Token.{Token}
use Rattle.g_tokens.specs.declared.token.Token.TheVariants as token
use Rattle.g_tokens.specs.declared.token.Mark.TheVariants as mark
use Rattle.g_listing_words.specs.Operations.{lookup}
use Rattle.g_listing_words.specs.declared.Operation.{Operation}
use Rattle.g_listing_words.specs.declared.Operation.TheVariants as operation
use Rattle.g_listing_grammar.specs.declared.NodeWord.{NodeWord}
use Rattle.g_listing_grammar.specs.declared.NodeWord.TheVariants as word_of
use Rattle.g_listing_grammar.specs.declared.PlainWord.{PlainWord}
use Rattle.g_listing_grammar.specs.declared.PlainWord.TheVariants as plain
use Rattle.g_listing_grammar.specs.declared.StructureWord.{StructureWord}
use Rattle.g_listing_grammar.specs.declared.StructureWord.TheVariants as structure
use Rattle.g_listing_grammar.specs.declared.Until.{Until}
use Rattle.g_listing_grammar.specs.declared.Until.TheVariants as until
use Rattle.g_listing_grammar.specs.declared.Border.{Border}
use Rattle.g_listing_grammar.specs.declared.Border.TheVariants as border
use Rattle.g_listing_grammar.specs.declared.SelectorFirst.{SelectorFirst}
use Rattle.g_listing_grammar.specs.declared.SelectorFirst.TheVariants as first
use Rattle.g_listing_grammar.specs.Words.{node_word, word, word_in, name, text, wire, eol, comma_or_eol, number, field_number, queue_size}
use Rattle.g_listing_grammar.specs.Types.{types, is_above}
use Rattle.g_listing_grammar.specs.Literals.{literals}
use Rattle.g_listing_grammar.specs.Borders.{Wire, operands, last_wire, to_wire, across, lines_to}

-- ---- selectors

abbrev pub selector_words : List (List ℕ × Selector)
selector_words = (codes "TRUE", selector.Truth true) ∷ (codes "FALSE", selector.Truth false) ∷ (codes "default", selector.Default) ∷ []

abbrev pub whole_selector : Option Selector → Option SelectorFirst
whole_selector None = None
whole_selector (Some s) = Some (first.Whole s)

-- how a selector begins
abbrev pub selector_first : Token → Option SelectorFirst
selector_first (token.Number n) = Some (first.Number n)
selector_first (token.Text bytes) = Some (first.Whole (selector.Text bytes))
selector_first (token.Word w) = whole_selector (lookup selector_words w)
selector_first _ = None

abbrev pub dots : Token → Option (Unit {0})
dots (token.Mark mark.Dots) = Some tt
dots _ = None

-- what follows a number: `..` and another, or nothing of the selector
abbrev pub range_rest : ℤ → (Unit {0} ⊎ Bool) → Grammar Token (Selector × Bool)
range_rest n (inl x) = do
  m ← take number
  more ← take comma_or_eol
  give (selector.Range n m, more)
range_rest n (inr more) = give (selector.Number n, more)

-- a selector after its first token, and whether another follows
abbrev pub selector_rest : SelectorFirst → Grammar Token (Selector × Bool)
selector_rest (first.Whole s) = do
  more ← take comma_or_eol
  give (s, more)
selector_rest (first.Number n) = take (or_else dots comma_or_eol) >>= range_rest n

abbrev pub more_or_last : {A : Type 0} → A × Bool → A ⊎ A
more_or_last (a, true) = inl a
more_or_last (a, false) = inr a

abbrev pub selector_item : SelectorFirst → Grammar Token (Selector ⊎ Selector)
selector_item c = do
  s ← selector_rest c
  give (more_or_last s)

abbrev pub and_last : {A : Type 0} → List A × A → List A
and_last x = x.0 ++ x.1 ∷ []

-- selectors up to the end of the line, the first after its first token
abbrev pub further_selectors : (Selector ⊎ Selector) → Grammar Token (List Selector)
further_selectors (inl s) = do
  ss ← loop selector_first selector_item
  give (s ∷ and_last ss)
further_selectors (inr s) = give (s ∷ [])

abbrev pub selectors : SelectorFirst → Grammar Token (List Selector)
selectors c = selector_item c >>= further_selectors

-- ---- branches

abbrev pub results : List Tunnel → ℕ
results [] = 0
results (tunnel.Result w d ∷ ls) = suc (results ls)
results (l ∷ ls) = results ls

-- a `give` line with as many operands as the case has results, where it has any
abbrev pub gives : ℕ → Grammar Token (List Wire)
gives zero = give []
gives (suc n) = do
  x ← take (word (codes "give"))
  ws ← exactly (suc n) (take wire)
  e ← take eol
  give ws

-- the words that end a diagram: FALSE for `end`
abbrev pub ends_of : Until → List (List ℕ × Bool)
ends_of until.End = (codes "end", false) ∷ []
ends_of until.WhenOrEnd = (codes "when", true) ∷ (codes "end", false) ∷ []
ends_of until.FrameOrEnd = (codes "frame", true) ∷ (codes "end", false) ∷ []

-- the nodes of a diagram, and the word that ends it
abbrev pub Inside : Type 1
Inside = Until → Grammar Token (List Node × Bool)

-- one more; or the last, after `end`
abbrev pub more_or_end : {A : Type 0} → A → Bool → Grammar Token (A ⊎ A)
more_or_end a true = give (inl a)
more_or_end a false = do
  e ← take eol
  give (inr a)

-- a branch after the first token of its first selector, up to the next `when` or the end of the case
abbrev pub branch_rest : Inside → ℕ → SelectorFirst → Grammar Token (Branch ⊎ Branch)
branch_rest inside n c = do
  ss ← selectors c
  ws ← gives n
  nodes ← inside until.WhenOrEnd
  more_or_end (record { selectors = ss; gives = ws; body = record { nodes = nodes.0 } }) nodes.1

-- ---- frames

-- a frame after the end of its `frame` line, up to the next `frame` or the end of the sequence
abbrev pub frame_rest : Inside → Border → Grammar Token (SequenceFrame ⊎ SequenceFrame)
frame_rest inside b = do
  lines ← lines_to b (codes "do")
  e ← take eol
  nodes ← inside until.FrameOrEnd
  more_or_end (record { lines = lines.0; body = record { nodes = nodes.0 } }) nodes.1

-- a frame after `frame`
abbrev pub framed : Inside → Border → Grammar Token (SequenceFrame ⊎ SequenceFrame)
framed inside b = do
  e ← take eol
  frame_rest inside b

abbrev pub further_frames : Inside → (SequenceFrame ⊎ SequenceFrame) → Grammar Token (List SequenceFrame)
further_frames inside (inl f) = do
  fs ← loop eol (λ e. frame_rest inside border.Frame)
  give (f ∷ and_last fs)
further_frames inside (inr f) = give (f ∷ [])

-- ---- nodes

-- a structure only where a level is left
abbrev pub fitting_node : ℕ → Option NodeWord → Option NodeWord
fitting_node n None = None
fitting_node n (Some (word_of.Plain w)) = Some (word_of.Plain w)
fitting_node n (Some (word_of.Structure w)) = if is_above n then Some (word_of.Structure w) else None

-- how a node begins inside which so many levels of structures may stand
abbrev pub node_first : ℕ → ℕ → Token → Option NodeWord
node_first v n t = fitting_node n (node_word v t)

abbrev pub node_or_end : {D : Type 0} → (NodeWord → Grammar Token Node) → (NodeWord ⊎ D) → Grammar Token (Node ⊎ D)
node_or_end rest (inl w) = do
  n ← rest w
  give (inl n)
node_or_end rest (inr d) = give (inr d)

-- an operation after its word
abbrev pub operation_rest : Operation → Grammar Token Node
operation_rest (operation.Apply p) = do
  w ← operands
  give (node.Apply p w.0 w.1)
operation_rest operation.Get = do
  k ← take field_number
  w ← operands
  give (node.Apply (primitive.Get k) w.0 w.1)
operation_rest operation.Set = do
  k ← take field_number
  w ← operands
  give (node.Apply (primitive.Set k) w.0 w.1)
operation_rest (operation.Shared s) = do
  w ← operands
  give (node.Shared s w.0 w.1)

-- a node without diagrams after its first word
abbrev pub plain_rest : PlainWord → Grammar Token Node
plain_rest plain.Const = do
  t ← types 8 true
  l ← literals 8 true
  o ← to_wire
  give (node.Const t l o)
plain_rest (plain.Operation o) = operation_rest o
plain_rest plain.Obtain = do
  q ← take text
  n ← take queue_size
  t ← types 8 true
  o ← to_wire
  give (node.Obtain q n t o)
plain_rest plain.Read = do
  n ← take name
  o ← to_wire
  give (node.Read n o)
plain_rest plain.Write = do
  n ← take name
  i ← last_wire
  give (node.Write n i)
plain_rest plain.Call = do
  n ← take name
  w ← operands
  give (node.Call n w.0 w.1)

-- lines of a border, `do`, nodes and `end`, each with its line's end
abbrev pub lines_and_body : Inside → Border → Grammar Token (List Tunnel × List Node)
lines_and_body inside b = do
  lines ← lines_to b (codes "do")
  d ← take eol
  nodes ← inside until.End
  e ← take eol
  give (lines.0, nodes.0)

-- a structure of this version after its first word, with such diagrams inside it
abbrev pub structure_rest : ℕ → Inside → StructureWord → Grammar Token Node
structure_rest v inside structure.For = do
  w ← across
  b ← lines_and_body inside border.For
  give (node.For w.0 w.1 b.0 (record { nodes = b.1 }))
structure_rest v inside structure.While = do
  w ← across
  b ← lines_and_body inside border.While
  give (node.While w.0 w.1 b.0 (record { nodes = b.1 }))
structure_rest v inside structure.Case = do
  w ← last_wire
  lines ← lines_to border.Case (codes "when")
  branches ← loop selector_first (branch_rest inside (results lines.0))
  give (node.Case w lines.0 (and_last branches))
structure_rest v inside structure.Sequence = do
  e ← take eol
  x ← take (word (codes "frame"))
  first ← framed inside border.FirstFrame
  frames ← further_frames inside first
  give (node.Sequence frames)
structure_rest v inside structure.InPlace = do
  e ← take eol
  b ← lines_and_body inside border.InPlace
  give (node.InPlace b.0 (record { nodes = b.1 }))

abbrev pub word_rest : (StructureWord → Grammar Token Node) → NodeWord → Grammar Token Node
word_rest structures (word_of.Plain w) = plain_rest w
word_rest structures (word_of.Structure w) = structures w

abbrev pub nodes_of : (Token → Option NodeWord) → (NodeWord → Grammar Token Node) → Inside
nodes_of begin rest u = loop (or_else begin (word_in (ends_of u))) (node_or_end rest)

-- a node after its first word, inside which so many levels of structures may stand
unfoldable pub node_rest : ℕ → ℕ → NodeWord → Grammar Token Node
node_rest v zero w = word_rest (λ s. nothing) w
node_rest v (suc n) w = word_rest (structure_rest v (nodes_of (node_first v n) (node_rest v n))) w

-- nodes inside which so many levels of structures may stand
abbrev pub nodes : ℕ → ℕ → Inside
nodes v n = nodes_of (node_first v n) (node_rest v n)
