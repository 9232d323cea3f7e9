-- Operands, and the lines at the border of a structure.
use Rattle.std.specs.Prelude.{ℕ, Bool, true, false, List, [], ◌∷◌, Option, Some, None, codes, ◌⊎◌}
use Rattle.std.proofs.Common.{inl, inr}
use Rattle.g_grammar.specs.Grammar.{Grammar, give, take, loop, ◌>>=◌, or_else}
use Rattle.g_diagram.specs.declared.node.Tunnel.{Tunnel}
use Rattle.g_diagram.specs.declared.node.Tunnel.TheVariants as tunnel
use Rattle.g_tokens.specs.declared.token.Token.{Token}
use Rattle.g_listing_grammar.specs.declared.Border.{Border}
use Rattle.g_listing_grammar.specs.declared.Border.TheVariants as border
use Rattle.g_listing_grammar.specs.declared.LineWord.{LineWord}
use Rattle.g_listing_grammar.specs.declared.LineWord.TheVariants as line
use Rattle.g_listing_grammar.specs.Words.{word, word_in, wire, eol, arrow, bar, arrow_or_eol, default_or_eol, field_number}
use Rattle.g_listing_grammar.specs.Types.{types}

abbrev pub Wire : Type 0
Wire = Option (List ℕ)

-- ---- operands

abbrev pub item_or_end : {A D : Type 0} → (A ⊎ D) → Grammar Token (A ⊎ D)
item_or_end x = give x

-- wires up to another token
abbrev pub wires_to : {D : Type 0} → (Token → Option D) → Grammar Token (List Wire × D)
wires_to q = loop (or_else wire q) item_or_end

-- behind an arrow there is at least one output
abbrev pub outputs : Bool → Grammar Token (List Wire)
outputs true = do
  o ← take wire
  os ← wires_to eol
  give (o ∷ os.0)
outputs false = give []

-- {in} [-> out {out}] up to the end of the line
abbrev pub operands : Grammar Token (List Wire × List Wire)
operands = do
  ins ← wires_to arrow_or_eol
  outs ← outputs ins.1
  give (ins.0, outs)

-- an operand up to the end of the line
abbrev pub last_wire : Grammar Token Wire
last_wire = do
  o ← take wire
  e ← take eol
  give o

-- `-> out` up to the end of the line
abbrev pub to_wire : Grammar Token Wire
to_wire = do
  x ← take arrow
  last_wire

-- `in -> out` up to the end of the line
abbrev pub across : Grammar Token (Wire × Wire)
across = do
  i ← take wire
  o ← to_wire
  give (i, o)

-- `-> out | in`
abbrev pub turned : Grammar Token (Wire × Wire)
turned = do
  x ← take arrow
  o ← take wire
  y ← take bar
  i ← take wire
  give (o, i)

-- `-> out | in -> out` up to the end of the line
abbrev pub through : Grammar Token (Wire × Wire × Wire)
through = do
  w ← turned
  o ← to_wire
  give (w.0, w.1, o)

-- ---- lines

-- after `register`: an initial wire, or `_` and a type
abbrev pub register_rest : Wire → Grammar Token Tunnel
register_rest (Some n) = do
  w ← through
  give (tunnel.Register (Some n) w.0 w.1 w.2)
register_rest None = do
  t ← types 8 true
  w ← through
  give (tunnel.Kept t w.0 w.1 w.2)

abbrev pub result_end : Wire → Bool → Grammar Token Tunnel
result_end w true = do
  e ← take eol
  give (tunnel.Result w true)
result_end w false = give (tunnel.Result w false)

-- a line after its first word
abbrev pub line_rest : LineWord → Grammar Token Tunnel
line_rest line.Tunnel = do
  w ← across
  give (tunnel.Tunnel w.0 w.1)
line_rest line.Register = do
  w ← take wire
  register_rest w
line_rest line.Last = do
  w ← across
  give (tunnel.Last w.0 w.1)
line_rest line.Gather = do
  w ← across
  give (tunnel.Gather w.0 w.1)
line_rest line.Index = do
  w ← across
  give (tunnel.Index w.0 w.1)
line_rest line.Result = do
  w ← take wire
  d ← take default_or_eol
  result_end w d
line_rest line.Carry = do
  w ← across
  give (tunnel.Carry w.0 w.1)
line_rest line.Ref = do
  r ← take wire
  w ← turned
  x ← take arrow
  same ← take wire
  code ← last_wire
  give (tunnel.Ref r w.0 w.1 same code)
line_rest line.Element = do
  a ← take wire
  i ← take wire
  w ← through
  give (tunnel.Element a i w.0 w.1 w.2)
line_rest line.Field = do
  k ← take field_number
  c ← take wire
  w ← through
  give (tunnel.Field k c w.0 w.1 w.2)

abbrev pub line_or_end : {D : Type 0} → (LineWord ⊎ D) → Grammar Token (Tunnel ⊎ D)
line_or_end (inl w) = do
  l ← line_rest w
  give (inl l)
line_or_end (inr d) = give (inr d)

-- ---- the lines that each structure has

abbrev pub while_lines : List (List ℕ × LineWord)
while_lines = (codes "tunnel", line.Tunnel) ∷ (codes "register", line.Register) ∷ (codes "last", line.Last) ∷ (codes "gather", line.Gather) ∷ []

abbrev pub for_lines : List (List ℕ × LineWord)
for_lines = (codes "index", line.Index) ∷ while_lines

abbrev pub case_lines : List (List ℕ × LineWord)
case_lines = (codes "tunnel", line.Tunnel) ∷ (codes "result", line.Result) ∷ []

abbrev pub first_frame_lines : List (List ℕ × LineWord)
first_frame_lines = (codes "tunnel", line.Tunnel) ∷ (codes "last", line.Last) ∷ []

abbrev pub frame_lines : List (List ℕ × LineWord)
frame_lines = (codes "carry", line.Carry) ∷ first_frame_lines

abbrev pub place_lines : List (List ℕ × LineWord)
place_lines =
    (codes "tunnel", line.Tunnel) ∷ (codes "last", line.Last) ∷ (codes "ref", line.Ref) ∷ (codes "index", line.Element) ∷ (codes "field", line.Field) ∷ []

abbrev pub lines_of : Border → List (List ℕ × LineWord)
lines_of border.For = for_lines
lines_of border.While = while_lines
lines_of border.Case = case_lines
lines_of border.FirstFrame = first_frame_lines
lines_of border.Frame = frame_lines
lines_of border.InPlace = place_lines

-- lines of a border up to a word
abbrev pub lines_to : Border → List ℕ → Grammar Token (List Tunnel × Unit {0})
lines_to b stop = loop (or_else (word_in (lines_of b)) (word stop)) line_or_end
