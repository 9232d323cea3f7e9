-- What a hierarchy is that a listing can have: all that the grammar of listings asks of names, numbers, texts, types, literals, lines and
-- levels, said of the hierarchy itself.
use Rattle.std.specs.Prelude.{◌≡◌, ◌≤◌, ◌<◌, ◌^◌, ◌↔◌, ◌||◌, ℕ, zero, suc, ℤ, pos, negsuc, ⊤, Bool, true, false, List, [], ◌∷◌, length, Option, Some, None, refl}
use Rattle.std.specs.List.{All}
use Rattle.g_types.specs.Names.{is_word}
use Rattle.g_values.specs.Spelled.{IsSpelled}
use Rattle.g_operations.specs.Rows.{primitive_row}
use Rattle.g_diagram.specs.declared.hierarchy.Hierarchy.{Hierarchy}
use Rattle.g_diagram.specs.declared.hierarchy.Vi.{Vi}
use Rattle.g_diagram.specs.declared.panel.Lit.{Lit}
use Rattle.g_diagram.specs.declared.panel.Lit.TheOpen.{Lit-F}
use Rattle.g_diagram.specs.declared.panel.Lit.TheViews.{out-Lit}
use Rattle.g_diagram.specs.declared.panel.PanelItem.{PanelItem}
use Rattle.g_diagram.specs.declared.panel.PanelItem.TheVariants.{Control, Indicator}
use Rattle.g_diagram.specs.declared.node.Selector.{Selector}
use Rattle.g_diagram.specs.declared.node.Selector.TheVariants as selector
use Rattle.g_diagram.specs.declared.node.Tunnel.{Tunnel}
use Rattle.g_diagram.specs.declared.node.Tunnel.TheVariants as line
use Rattle.g_diagram.specs.declared.node.Branch.{Branch}
use Rattle.g_diagram.specs.declared.node.Diagram.{Diagram}
use Rattle.g_diagram.specs.declared.node.SequenceFrame.{SequenceFrame}
use Rattle.g_diagram.specs.declared.node.Node.{Node}
use Rattle.g_diagram.specs.declared.node.Node.TheOpen.{Node-F}
use Rattle.g_diagram.specs.declared.node.Node.TheViews.{out-Node}
use Rattle.g_diagram.specs.Lines.{Wire}
use Rattle.g_diagram.specs.Text.{text_of}
use Rattle.g_listing_grammar.specs.declared.Border.{Border}
use Rattle.g_listing_grammar.specs.declared.Border.TheVariants.{For, While, Case, FirstFrame, Frame, InPlace}
use Rattle.g_listing_grammar.specs.declared.LineWord.{LineWord}
use Rattle.g_listing_grammar.specs.declared.LineWord.TheVariants as form
use Rattle.g_listing_grammar.specs.Nodes.{results}
use Rattle.g_listing_grammar.specs.Listing.{IsListing}
use Rattle.g_listing_laws.specs.Spelled.{IsPoolSize, IsQueueSize}
use Rattle.g_print_laws.specs.Bytes.{IsBytes}

-- ---- names, wires and numbers

-- a letter, and then letters, digits and underlines; at most 64 bytes
abbrev pub IsName : List ℕ → Type 0
IsName name = is_word name ≡ true

-- a name, or unwired
abbrev pub IsWire : Wire → Type 0
IsWire None = ⊤
IsWire (Some name) = IsName name

-- a number of at most 20 digits
abbrev pub IsNumeral : ℤ → Type 0
IsNumeral (pos n) = n < 10 ^ 20
IsNumeral (negsuc n) = suc n < 10 ^ 20

-- one of the elements 0 to 63 of a cluster
abbrev pub IsElement : ℕ → Type 0
IsElement k = k ≤ 63

-- ---- literals

-- an array
abbrev pub is_array_at : Lit-F Lit → Bool
is_array_at (Lit-F.Array items) = true
is_array_at _ = false

-- One level of a literal, in which such literals stand: its number is short or its text is bytes, an array has no array for an item, and a
-- cluster has 1 to 64 parts.
abbrev pub IsLiteralAt : (inside : Lit → Type 0) → Lit-F Lit → Type 0
IsLiteralAt inside (Lit-F.Number n) = IsNumeral n
IsLiteralAt inside (Lit-F.Truth b) = ⊤
IsLiteralAt inside (Lit-F.Text bytes) = IsBytes bytes
IsLiteralAt inside Lit-F.Null = ⊤
IsLiteralAt inside (Lit-F.Array items) = All (λ item. inside item × (is_array_at (out-Lit item) ≡ false)) items
IsLiteralAt inside (Lit-F.Cluster items) = (1 ≤ length items) × (length items ≤ 64) × All inside items

-- a literal of at most so many levels
unfoldable pub IsLiteral : (levels : ℕ) → Lit → Type 0
IsLiteral zero l = ⊥
IsLiteral (suc n) l = IsLiteralAt (IsLiteral n) (out-Lit l)

-- ---- lines at the border of a structure

-- the form of a line
abbrev pub form_of : Tunnel → LineWord
form_of (line.Tunnel outer inner) = form.Tunnel
form_of (line.Register initial inner next last) = form.Register
form_of (line.Kept t inner next last) = form.Register
form_of (line.Last inner outer) = form.Last
form_of (line.Gather inner outer) = form.Gather
form_of (line.Index array inner) = form.Index
form_of (line.Result outer default) = form.Result
form_of (line.Carry before inner) = form.Carry
form_of (line.Ref reference inner next same code) = form.Ref
form_of (line.Element array index inner next outer) = form.Element
form_of (line.Field field cluster inner next outer) = form.Field

-- the border of a `for` or a `while`
abbrev pub is_loop : Border → Bool
is_loop For = true
is_loop While = true
is_loop _ = false

-- that of a case
abbrev pub is_case : Border → Bool
is_case Case = true
is_case _ = false

-- that of an in-place structure
abbrev pub is_place : Border → Bool
is_place InPlace = true
is_place _ = false

-- that of a frame of a sequence, the first one or another
abbrev pub is_frame : Border → Bool
is_frame FirstFrame = true
is_frame Frame = true
is_frame _ = false

-- Which forms of line each border has: tunnels all; registers and gathered values the loops; the last value all but a case; an array's
-- elements one by one a `for`; results a case; what the frame before gives each frame but the first; the rest an in-place structure.
abbrev pub has_form : Border → LineWord → Bool
has_form b form.Tunnel = true
has_form b form.Register = is_loop b
has_form b form.Last = is_loop b || (is_frame b || is_place b)
has_form b form.Gather = is_loop b
has_form For form.Index = true
has_form b form.Index = false
has_form b form.Result = is_case b
has_form Frame form.Carry = true
has_form b form.Carry = false
has_form b form.Ref = is_place b
has_form b form.Element = is_place b
has_form b form.Field = is_place b

-- examples
while_has_no_index : has_form While form.Index ≡ false
while_has_no_index = refl

case_has_no_last : has_form Case form.Last ≡ false
case_has_no_last = refl

first_frame_has_no_carry : has_form FirstFrame form.Carry ≡ false
first_frame_has_no_carry = refl

frame_has_carry : has_form Frame form.Carry ≡ true
frame_has_carry = refl

-- a wire with a name
abbrev pub IsWired : Wire → Type 0
IsWired None = ⊥
IsWired (Some name) = IsName name

-- The operands of a line. A register with an initial wire has a name for it; one that keeps its value has a type in its place.
abbrev pub HasOperands : Tunnel → Type 0
HasOperands (line.Tunnel outer inner) = IsWire outer × IsWire inner
HasOperands (line.Register initial inner next last) = IsWired initial × IsWire inner × IsWire next × IsWire last
HasOperands (line.Kept t inner next last) = IsSpelled t × IsWire inner × IsWire next × IsWire last
HasOperands (line.Last inner outer) = IsWire inner × IsWire outer
HasOperands (line.Gather inner outer) = IsWire inner × IsWire outer
HasOperands (line.Index array inner) = IsWire array × IsWire inner
HasOperands (line.Result outer default) = IsWire outer
HasOperands (line.Carry before inner) = IsWire before × IsWire inner
HasOperands (line.Ref reference inner next same code) = IsWire reference × IsWire inner × IsWire next × IsWire same × IsWire code
HasOperands (line.Element array index inner next outer) = IsWire array × IsWire index × IsWire inner × IsWire next × IsWire outer
HasOperands (line.Field field cluster inner next outer) = IsElement field × IsWire cluster × IsWire inner × IsWire next × IsWire outer

-- a line of one of the forms that the border has
pub record IsLine (b : Border) (l : Tunnel) : Type 0 where
  pub form : has_form b (form_of l) ≡ true
  pub operands : HasOperands l

-- ---- nodes

-- the numbers of a selector are short, and its text is bytes
abbrev pub IsSelector : Selector → Type 0
IsSelector (selector.Number n) = IsNumeral n
IsSelector (selector.Range low high) = IsNumeral low × IsNumeral high
IsSelector (selector.Truth b) = ⊤
IsSelector (selector.Text bytes) = IsBytes bytes
IsSelector selector.Default = ⊤

-- a branch has a selector, and gives as many wires as its case has results
pub record IsBranch (inside : Diagram → Type 0) (results : ℕ) (b : Branch) : Type 0 where
  pub some : 1 ≤ length b.selectors
  pub selectors : All IsSelector b.selectors
  pub count : length b.gives ≡ results
  pub gives : All IsWire b.gives
  pub body : inside b.body

-- a frame has lines of its border
pub record IsFrame (inside : Diagram → Type 0) (b : Border) (f : SequenceFrame) : Type 0 where
  pub lines : All (IsLine b) f.lines
  pub body : inside f.body

-- a sequence has a frame, and `carry` lines after the first alone
abbrev pub AreFrames : (inside : Diagram → Type 0) → List SequenceFrame → Type 0
AreFrames inside [] = ⊥
AreFrames inside (f ∷ fs) = IsFrame inside FirstFrame f × All (IsFrame inside Frame) fs

-- the element that `get` or `set` names
abbrev pub HasElement : Option ℕ → Type 0
HasElement None = ⊤
HasElement (Some k) = IsElement k

-- what stands before and after the arrow of an operation or a call
abbrev pub AreOperands : (inputs outputs : List Wire) → Type 0
AreOperands inputs outputs = All IsWire inputs × All IsWire outputs

-- A node, in whose structures such diagrams stand. How many operands an operation or a call has is no matter of the grammar.
abbrev pub IsNodeAt : (inside : Diagram → Type 0) → Node-F Node Branch Diagram SequenceFrame → Type 0
IsNodeAt inside (Node-F.Const t literal out) = IsSpelled t × IsLiteral 8 literal × IsWire out
IsNodeAt inside (Node-F.Apply op inputs outputs) = HasElement (primitive_row op).field × AreOperands inputs outputs
IsNodeAt inside (Node-F.Shared op inputs outputs) = AreOperands inputs outputs
IsNodeAt inside (Node-F.Obtain queue size item out) = IsBytes queue × IsQueueSize size × IsSpelled item × IsWire out
IsNodeAt inside (Node-F.Read object out) = IsName object × IsWire out
IsNodeAt inside (Node-F.Write object input) = IsName object × IsWire input
IsNodeAt inside (Node-F.Call vi inputs outputs) = IsName vi × AreOperands inputs outputs
IsNodeAt inside (Node-F.For count iteration lines body) = IsWire count × IsWire iteration × All (IsLine For) lines × inside body
IsNodeAt inside (Node-F.While stop iteration lines body) = IsWire stop × IsWire iteration × All (IsLine While) lines × inside body
IsNodeAt inside (Node-F.Case selector lines branches) =
    IsWire selector × All (IsLine Case) lines × (1 ≤ length branches) × All (IsBranch inside (results lines)) branches
IsNodeAt inside (Node-F.Sequence frames) = AreFrames inside frames
IsNodeAt inside (Node-F.InPlace lines body) = All (IsLine InPlace) lines × inside body

-- a diagram of such nodes
abbrev pub HasNodes : (Node → Type 0) → Diagram → Type 0
HasNodes P body = All P body.nodes

-- no diagram
abbrev pub Nowhere : Diagram → Type 0
Nowhere body = ⊥

-- A node of at most so many levels of structures. Where no level is left no diagram may stand inside.
unfoldable pub IsNode : (levels : ℕ) → Node → Type 0
IsNode zero n = IsNodeAt Nowhere (out-Node n)
IsNode (suc levels) n = IsNodeAt (HasNodes (IsNode levels)) (out-Node n)

-- ---- VIs and hierarchies

-- the default of a control, where it has one
abbrev pub IsDefault : Option Lit → Type 0
IsDefault None = ⊤
IsDefault (Some l) = IsLiteral 8 l

-- a control or an indicator
abbrev pub IsItem : PanelItem → Type 0
IsItem (Control name t required default out) = IsName name × IsSpelled t × IsDefault default × IsWire out
IsItem (Indicator name t input) = IsName name × IsSpelled t × IsWire input

-- a VI, in whose diagram structures stand at most 32 deep
pub record IsVi (vi : Vi) : Type 0 where
  pub name : IsName vi.name
  pub clones : IsPoolSize vi.clones
  pub panel : All IsItem vi.panel
  pub top : All (IsNode 32) vi.top.nodes

-- A listing can have this hierarchy: it has a VI, and each VI is such.
pub record CanBeListed (h : Hierarchy) : Type 0 where
  pub some : 1 ≤ length h.vis
  pub vis : All IsVi h.vis

-- ---- laws

-- some bytes have this hierarchy
abbrev pub IsListed : Hierarchy → Type 0
IsListed h = (bytes : List ℕ) × IsBytes bytes × IsListing bytes h

-- bytes have what can be listed, all of it and nothing else
abbrev pub ListedExactly : Type 0
ListedExactly = (h : Hierarchy) → IsListed h ↔ CanBeListed h

-- what can be listed is had by its canonical text, which is bytes
abbrev pub CanonicalLists : Type 0
CanonicalLists = (h : Hierarchy) → CanBeListed h → IsBytes (text_of h) × IsListing (text_of h) h

-- what has at most so many levels has at most one more
abbrev pub DeeperLiterals : Type 0
DeeperLiterals = (n : ℕ) (l : Lit) → IsLiteral n l → IsLiteral (suc n) l

abbrev pub DeeperNodes : Type 0
DeeperNodes = (n : ℕ) (x : Node) → IsNode n x → IsNode (suc n) x
