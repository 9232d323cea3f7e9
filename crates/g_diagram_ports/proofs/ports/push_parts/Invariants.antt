use Rattle.std.proofs.Common.{◌≡◌, [], ◌++◌, map, drop}
use Rattle.g_diagram.specs.Operands.{parts_lines}
use Rattle.g_diagram.specs.Ports.{ports_in}
use Rattle.g_diagram_table.specs.Seen as table
use Rattle.g_diagram_ports.specs.Seen.{seen}
use Rattle.g_diagram_ports.proofs.ports.push_parts.Given as goal

abbrev pub invariant-loop-part : goal.invariant-loop-part
invariant-loop-part l =
    map seen l.ports.items ++ ports_in (parts_lines (table.seen l.entry) l.before.items (map table.seen_part (drop l.part-index l.parts)))
    ≡ map seen l.fn.ports.items ++ ports_in (parts_lines (table.seen l.entry) [] (map table.seen_part l.parts))
