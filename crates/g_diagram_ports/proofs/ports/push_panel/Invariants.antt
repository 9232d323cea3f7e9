use Rattle.std.proofs.Common.{◌≡◌, ◌++◌, drop, map}
use Rattle.g_diagram.specs.Operands.{control_lines}
use Rattle.g_diagram.specs.Ports.{ports_in}
use Rattle.g_diagram_ports.specs.Seen.{seen}
use Rattle.g_diagram_ports.proofs.ports.push_panel.Given as goal

abbrev pub invariant-loop-item : goal.invariant-loop-item
invariant-loop-item l = map seen l.ports.items ++ ports_in (control_lines l.line (drop l.item-index l.panel)) ≡ map seen l.fn.ports.items ++ ports_in (control_lines 1 l.panel)
