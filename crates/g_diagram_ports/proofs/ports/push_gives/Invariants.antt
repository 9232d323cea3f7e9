use Rattle.std.proofs.Common.{◌≡◌, ◌++◌, map, drop}
use Rattle.g_diagram.specs.Operands.{give_line}
use Rattle.g_diagram.specs.Ports.{ports_in}
use Rattle.g_diagram_table.specs.Seen as table
use Rattle.g_diagram_ports.specs.Seen.{seen}
use Rattle.g_diagram_ports.proofs.ports.push_gives.Given as goal

abbrev pub invariant-loop-arm : goal.invariant-loop-arm
invariant-loop-arm l =
    map seen l.ports.items ++ ports_in (map (give_line (table.seen l.entry)) (map table.seen_arm (drop l.arm-index l.arms)))
    ≡ map seen l.fn.ports.items ++ ports_in (map (give_line (table.seen l.entry)) (map table.seen_arm l.arms))
