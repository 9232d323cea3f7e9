-- The operands of each form of line, in order: the one table from which operand numbers, sources, consumers and wires are read.
-- The operands of a line are its places for wires, counted from 1, left to right. In `register _ type` the `_` is operand 1.
use Rattle.std.specs.Prelude.{ℕ, ◌+◌, Bool, true, false, List, [], ◌∷◌, ◌++◌, map, Option, Some, None}
use Rattle.g_diagram.specs.declared.node.Tunnel.{Tunnel}
use Rattle.g_diagram.specs.declared.node.Tunnel.TheVariants as line
use Rattle.g_diagram.specs.declared.panel.PanelItem.{PanelItem}
use Rattle.g_diagram.specs.declared.panel.PanelItem.TheVariants.{Control, Indicator}
use Rattle.g_diagram.specs.Lines.{Wire, Arm, Part, Entry, Kind, Const, Apply, Shows, Shared, Obtain, Read, Write, Call, Loop, Case, Sequence, InPlace}

-- the side of a structure's border on which an operand stands
pub data Side : Type 0 where
  -- in the diagram that holds the node
  Outside : Side
  -- in each diagram inside
  Inside : Side
  -- in the diagram of the frame before
  Before : Side

-- An operand gives a value to a wire of a diagram, as a source, or takes one, as a consumer. A free consumer may be left unwired, and
-- a free source's wire may have no consumer.
pub record Operand : Type 0 where
  pub is_source : Bool
  pub side : Side
  pub is_free : Bool
  pub wire : Wire

abbrev pub source : Side → Wire → Operand
source side w = record { is_source = true; side = side; is_free = false; wire = w }

abbrev pub free_source : Side → Wire → Operand
free_source side w = record { is_source = true; side = side; is_free = true; wire = w }

abbrev pub consumer : Side → Wire → Operand
consumer side w = record { is_source = false; side = side; is_free = false; wire = w }

abbrev pub free_consumer : Side → Wire → Operand
free_consumer side w = record { is_source = false; side = side; is_free = true; wire = w }

-- a line at the border of a loop, of a frame or of a structure in place
abbrev pub border : Tunnel → List Operand
border (line.Tunnel outer inner) = consumer Outside outer ∷ source Inside inner ∷ []
border (line.Register initial inner next last) = consumer Outside initial ∷ source Inside inner ∷ consumer Inside next ∷ source Outside last ∷ []
border (line.Kept t inner next last) = free_consumer Outside None ∷ source Inside inner ∷ consumer Inside next ∷ source Outside last ∷ []
border (line.Last inner outer) = consumer Inside inner ∷ source Outside outer ∷ []
border (line.Gather inner outer) = consumer Inside inner ∷ source Outside outer ∷ []
border (line.Index array inner) = consumer Outside array ∷ source Inside inner ∷ []
border (line.Result outer default) = source Outside outer ∷ []
border (line.Carry before inner) = consumer Before before ∷ source Inside inner ∷ []
border (line.Ref reference inner next same code) =
    consumer Outside reference ∷ source Inside inner ∷ consumer Inside next ∷ source Outside same ∷ source Outside code ∷ []
border (line.Element array index inner next outer) =
    consumer Outside array ∷ consumer Outside index ∷ source Inside inner ∷ consumer Inside next ∷ source Outside outer ∷ []
border (line.Field field cluster inner next outer) =
    consumer Outside cluster ∷ source Inside inner ∷ consumer Inside next ∷ source Outside outer ∷ []

-- a case's tunnel may go unused in a branch
abbrev pub case_border : Tunnel → List Operand
case_border (line.Tunnel outer inner) = consumer Outside outer ∷ free_source Inside inner ∷ []
case_border t = border t

-- a line with its operands: the node to which it belongs, and the diagrams on the sides of that node's border. An operand stands once in
-- each diagram of its side
pub record Line : Type 0 where
  pub line : ℕ
  pub node : ℕ
  pub outside : ℕ
  pub inside : List ℕ
  pub before : List ℕ
  pub operands : List Operand

abbrev pub plain_line : Entry → List Operand → Line
plain_line e ops = record { line = e.line; node = e.line; outside = e.diagram; inside = []; before = []; operands = ops }

-- the first line of a loop
abbrev pub header_line : Entry → (body : ℕ) → List Operand → Line
header_line e body ops = record { line = e.line; node = e.line; outside = e.diagram; inside = body ∷ []; before = []; operands = ops }

-- the border lines of a node from a line on
abbrev pub border_lines : Entry → (inside before : List ℕ) → (Tunnel → List Operand) → (line : ℕ) → List Tunnel → List Line
border_lines e inside before form l [] = []
border_lines e inside before form l (t ∷ ts) =
    record { line = l; node = e.line; outside = e.diagram; inside = inside; before = before; operands = form t }
    ∷ border_lines e inside before form (l + 1) ts

-- the frames of a sequence: the lines of one stand after `frame`
abbrev pub parts_lines : Entry → (before : List ℕ) → List Part → List Line
parts_lines e before [] = []
parts_lines e before (part ∷ parts) = border_lines e (part.body ∷ []) before border (part.body + 1) part.lines ++ parts_lines e (part.body ∷ []) parts

-- a `give` line stands after its `when`
abbrev pub give_line : Entry → Arm → Line
give_line e arm =
    record { line = arm.body + 1; node = e.line; outside = e.diagram; inside = arm.body ∷ []; before = []; operands = map (free_consumer Inside) arm.gives }

-- which inputs of calls are free, by the called VI's name and the input's number from 0
abbrev pub Freedom : Type 0
Freedom = List ℕ → ℕ → Bool

abbrev pub call_inputs : (ℕ → Bool) → (k : ℕ) → List Wire → List Operand
call_inputs free k [] = []
call_inputs free k (w ∷ ws) = record { is_source = false; side = Outside; is_free = free k; wire = w } ∷ call_inputs free (k + 1) ws

-- an operand that some forms of a line have
abbrev pub if_wired : (Wire → Operand) → Option Wire → List Operand
if_wired form None = []
if_wired form (Some w) = form w ∷ []

-- inputs and then outputs
abbrev pub in_and_out : (inputs outputs : List Wire) → List Operand
in_and_out inputs outputs = map (consumer Outside) inputs ++ map (source Outside) outputs

-- The first line of a loop: the count from outside, which may be left to arrays, the stop wire inside, and the iteration
abbrev pub loop_header : (count stop : Option Wire) → (iteration : Wire) → List Operand
loop_header count stop iteration =
    if_wired (free_consumer Outside) count ++ (if_wired (consumer Inside) stop ++ (source Inside iteration ∷ []))

-- the lines of a node that have operands
abbrev pub kind_lines : Freedom → Entry → Kind → List Line
kind_lines free e (Const t literal out) = plain_line e (source Outside out ∷ []) ∷ []
kind_lines free e (Apply op inputs outputs) = plain_line e (in_and_out inputs outputs) ∷ []
kind_lines free e (Shows name t w) = plain_line e (free_consumer Outside w ∷ []) ∷ []
kind_lines free e (Shared op inputs outputs) = plain_line e (in_and_out inputs outputs) ∷ []
kind_lines free e (Obtain queue size item out) = plain_line e (source Outside out ∷ []) ∷ []
kind_lines free e (Read object out) = plain_line e (source Outside out ∷ []) ∷ []
kind_lines free e (Write object input) = plain_line e (consumer Outside input ∷ []) ∷ []
kind_lines free e (Call vi inputs outputs) = plain_line e (call_inputs (free vi) 0 inputs ++ map (source Outside) outputs) ∷ []
kind_lines free e (Loop count stop iteration lines body) =
    header_line e body (loop_header count stop iteration) ∷ border_lines e (body ∷ []) [] border (e.line + 1) lines
kind_lines free e (Case selector lines arms) =
    plain_line e (consumer Outside selector ∷ [])
    ∷ (border_lines e (map (λ a. a.body) arms) [] case_border (e.line + 1) lines ++ map (give_line e) arms)
kind_lines free e (Sequence parts) = parts_lines e [] parts
kind_lines free e (InPlace lines body finish) = border_lines e (body ∷ []) [] border (e.line + 1) lines

abbrev pub entries_lines : Freedom → List Entry → List Line
entries_lines free [] = []
entries_lines free (e ∷ es) = kind_lines free e e.kind ++ entries_lines free es

-- a control gives its value inside the VI's own diagram
abbrev pub control_line : (line : ℕ) → Wire → Line
control_line l w = record { line = l; node = l; outside = 0; inside = 0 ∷ []; before = []; operands = source Inside w ∷ [] }

abbrev pub control_lines : (line : ℕ) → List PanelItem → List Line
control_lines l [] = []
control_lines l (Control name t required default out ∷ items) = control_line l out ∷ control_lines (l + 1) items
control_lines l (Indicator name t w ∷ items) = control_lines (l + 1) items
