-- Inner: whether a node has its inputs, as the code goes through its lines.
use Rattle.std.specs.Prelude.{Bool, true, ◌&&◌, List, [], ◌∷◌, Option, Some, None}
use Rattle.std.specs.List.{list_all}
use Rattle.g_diagram.specs.declared.node.Tunnel.{Tunnel}
use Rattle.g_diagram.specs.Lines.{Wire, Part, Kind, Const, Apply, Shows, Shared, Obtain, Read, Write, Call, Loop, Case, Sequence, InPlace}
use Rattle.g_diagram.specs.Operands.{Outside, border}
use Rattle.g_border.specs.Readers.{Reader, has_value, wires_taken}

-- the operands that a border line takes from outside
abbrev pub border_has : Reader → Tunnel → Bool
border_has r t = list_all (has_value r) (wires_taken Outside (border t))

abbrev pub borders_have : Reader → List Tunnel → Bool
borders_have r [] = true
borders_have r (t ∷ ts) = border_has r t && borders_have r ts

abbrev pub parts_have : Reader → List Part → Bool
parts_have r [] = true
parts_have r (part ∷ parts) = borders_have r part.lines && parts_have r parts

-- a structure whose first line may take a wire
abbrev pub structure_has : Reader → Option Wire → List Tunnel → Bool
structure_has r None lines = borders_have r lines
structure_has r (Some w) lines = has_value r w && borders_have r lines

abbrev pub kind_has : Reader → Kind → Bool
kind_has r (Const t literal out) = true
kind_has r (Apply op inputs outputs) = list_all (has_value r) inputs
kind_has r (Shows name t w) = has_value r w
kind_has r (Shared op inputs outputs) = list_all (has_value r) inputs
kind_has r (Obtain queue size item out) = true
kind_has r (Read object out) = true
kind_has r (Write object w) = has_value r w
kind_has r (Call vi inputs outputs) = list_all (has_value r) inputs
kind_has r (Loop count stop iteration lines body) = structure_has r count lines
kind_has r (Case selector lines arms) = structure_has r (Some selector) lines
kind_has r (Sequence parts) = parts_have r parts
kind_has r (InPlace lines body finish) = borders_have r lines
