-- Values on the wires of a frame, and the values that a line gives at its operands.
use Rattle.std.specs.Prelude.{ℕ, ◌+◌, ◌==◌, Bool, true, false, not, ◌&&◌, List, [], ◌∷◌, ◌++◌, Option, Some, None, is_some, if◌then◌else◌}
use Rattle.g_values.specs.declared.value.Value.{Value}
use Rattle.g_prims_definitions.specs.Clusters.{or_nothing}
use Rattle.g_prims_definitions.specs.Arithmetic.{nothing}
use Rattle.g_diagram.specs.Lines.{Wire, Entry}
use Rattle.g_diagram.specs.Operands.{Side, Outside, Inside, Before, Operand, Line, kind_lines}
use Rattle.g_diagram.specs.Ports.{Port, same_wire}
use Rattle.g_border.specs.declared.place.WireSource.{WireSource}

-- the values on the wires of a frame, by name
abbrev pub Reader : Type 0
Reader = List ℕ → Option Value

-- an unwired operand needs no value
abbrev pub has_value : Reader → Wire → Bool
has_value r None = true
has_value r (Some name) = is_some (r name)

-- the value at a wired operand that has one
abbrev pub value_on : Reader → Wire → Value
value_on r None = nothing
value_on r (Some name) = or_nothing (r name)

-- a value at a source of a frame
abbrev pub Given : Type 0
Given = List (WireSource × Value)

abbrev pub same_source : WireSource → WireSource → Bool
same_source a b = (a.line == b.line) && (a.operand == b.operand)

-- the value that is given at a source
abbrev pub value_given : Given → WireSource → Option Value
value_given [] p = None
value_given (g ∷ gs) p = if same_source g.0 p then Some g.1 else value_given gs p

-- ---- the operands of a line

abbrev pub is_on : (of side : Side) → Bool
is_on Outside Outside = true
is_on Outside Inside = false
is_on Outside Before = false
is_on Inside Outside = false
is_on Inside Inside = true
is_on Inside Before = false
is_on Before Outside = false
is_on Before Inside = false
is_on Before Before = true

-- the numbers of the operands, from one on, that are sources on a side
abbrev pub sources_on : Side → (operand : ℕ) → List Operand → List ℕ
sources_on side k [] = []
sources_on side k (o ∷ os) = if o.is_source && is_on o.side side then k ∷ sources_on side (k + 1) os else sources_on side (k + 1) os

-- values at operands of a line, one after another
abbrev pub given_at : (line : ℕ) → (operands : List ℕ) → List Value → Given
given_at l [] vs = []
given_at l (k ∷ ks) [] = []
given_at l (k ∷ ks) (v ∷ vs) = (record { line = l; operand = k }, v) ∷ given_at l ks vs

-- the values of a line's sources on a side, in order
abbrev pub given_on : Side → (line : ℕ) → List Operand → List Value → Given
given_on side l operands vs = given_at l (sources_on side 1 operands) vs

-- ---- sources by name, and the operands of a node on all its lines

-- the source of a name in a diagram: the first one, by line and operand
abbrev pub source_of : List Port → (diagram : ℕ) → (name : List ℕ) → Option WireSource
source_of [] d name = None
source_of (p ∷ ps) d name =
    if p.is_source && ((p.diagram == d) && same_wire (Some name) p.wire) then Some (record { line = p.line; operand = p.operand }) else source_of ps d name

-- the operands of a node, by line
abbrev pub node_lines : Entry → List Line
node_lines e = kind_lines (λ vi k. false) e e.kind

-- the wires that operands of a side take
abbrev pub wires_taken : Side → List Operand → List Wire
wires_taken side [] = []
wires_taken side (o ∷ os) = if not o.is_source && is_on o.side side then o.wire ∷ wires_taken side os else wires_taken side os

abbrev pub wires_taken_on : Side → List Line → List Wire
wires_taken_on side [] = []
wires_taken_on side (l ∷ ls) = wires_taken side l.operands ++ wires_taken_on side ls

-- the wires of its own diagram that a node takes, on all its lines
abbrev pub inputs_of : Entry → List Wire
inputs_of e = wires_taken_on Outside (node_lines e)

abbrev pub place_all : (line : ℕ) → List ℕ → List WireSource
place_all l [] = []
place_all l (k ∷ ks) = record { line = l; operand = k } ∷ place_all l ks

abbrev pub lines_sources : Side → List Line → List WireSource
lines_sources side [] = []
lines_sources side (l ∷ ls) = place_all l.line (sources_on side 1 l.operands) ++ lines_sources side ls

abbrev pub paired : List WireSource → List Value → Given
paired [] vs = []
paired (p ∷ ps) [] = []
paired (p ∷ ps) (v ∷ vs) = (p, v) ∷ paired ps vs

-- the values of a node's outputs, in order
abbrev pub outputs_given : Entry → List Value → Given
outputs_given e vs = paired (lines_sources Outside (node_lines e)) vs
