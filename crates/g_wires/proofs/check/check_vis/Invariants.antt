use Rattle.std.proofs.Common.{◌≡◌, ◌++◌, drop}
use Rattle.g_diagram_ports.specs.Callees.{freedom_by}
use Rattle.g_wires.specs.Breaks.{plain_in, each_from}
use Rattle.g_rules_lines.specs.Names.{known_by}
use Rattle.g_wires.specs.Checked.{ports_with, CyclesBelow, SameBreaks}
use Rattle.g_wires.proofs.check.check_vis.Given as goal

abbrev pub invariant-loop-vi : goal.invariant-loop-vi
invariant-loop-vi l = record {
  number : l.number ≡ l.vi-index;
  plain : SameBreaks (l.found.plain.items ++ each_from (plain_in (ports_with (freedom_by l.known.callees)) (known_by l.known.arities l.known.queues)) l.number (drop l.vi-index l.vis))
      (each_from (plain_in (ports_with (freedom_by l.known.callees)) (known_by l.known.arities l.known.queues)) 0 l.vis);
  cycles : CyclesBelow (ports_with (freedom_by l.known.callees)) l.vis l.vi-index l.found.cycles.items;
}
