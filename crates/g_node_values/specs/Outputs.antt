-- Inner: the places of a node's outputs, as the code goes through its lines.
use Rattle.std.specs.Prelude.{ℕ, ◌+◌, List, [], ◌∷◌, ◌++◌, length}
use Rattle.g_diagram.specs.declared.node.Tunnel.{Tunnel}
use Rattle.g_diagram.specs.Lines.{Wire, Part, Entry, Kind, Const, Apply, Shows, Shared, Obtain, Read, Write, Call, Loop, Case, Sequence, InPlace}
use Rattle.g_diagram.specs.Operands.{Outside, border}
use Rattle.g_border.specs.declared.place.WireSource.{WireSource}
use Rattle.g_border.specs.Readers.{place_all, sources_on}

abbrev pub place : (line operand : ℕ) → WireSource
place l k = record { line = l; operand = k }

-- outputs, from an operand on
abbrev pub outputs_from : (line operand : ℕ) → List Wire → List WireSource
outputs_from l k [] = []
outputs_from l k (w ∷ ws) = place l k ∷ outputs_from l (k + 1) ws

-- what a border line gives outside
abbrev pub border_places : (line : ℕ) → Tunnel → List WireSource
border_places l t = place_all l (sources_on Outside 1 (border t))

abbrev pub borders_places : (line : ℕ) → List Tunnel → List WireSource
borders_places l [] = []
borders_places l (t ∷ ts) = border_places l t ++ borders_places (l + 1) ts

abbrev pub parts_places : List Part → List WireSource
parts_places [] = []
parts_places (part ∷ parts) = borders_places (part.body + 1) part.lines ++ parts_places parts

abbrev pub kind_places : Entry → Kind → List WireSource
kind_places e (Const t literal out) = place e.line 1 ∷ []
kind_places e (Apply op inputs outputs) = outputs_from e.line (length inputs + 1) outputs
kind_places e (Shows name t w) = []
kind_places e (Shared op inputs outputs) = outputs_from e.line (length inputs + 1) outputs
kind_places e (Obtain queue size item out) = place e.line 1 ∷ []
kind_places e (Read object out) = place e.line 1 ∷ []
kind_places e (Write object w) = []
kind_places e (Call vi inputs outputs) = outputs_from e.line (length inputs + 1) outputs
kind_places e (Loop count stop iteration lines body) = borders_places (e.line + 1) lines
kind_places e (Case selector lines arms) = borders_places (e.line + 1) lines
kind_places e (Sequence parts) = parts_places parts
kind_places e (InPlace lines body finish) = borders_places (e.line + 1) lines
