use Rattle.std.proofs.Common.{◌≡◌, ◌++◌, map, drop}
use Rattle.g_border.specs.Bodies.{in_diagram}
use Rattle.g_bodies.specs.Steps.{seen_read}
use Rattle.g_bodies.proofs.reads.push_wires.Given as goal

abbrev pub invariant-loop-wire : goal.invariant-loop-wire
invariant-loop-wire l =
    map seen_read l.reads.items ++ in_diagram l.diagram (drop l.wire-index l.wires) ≡ map seen_read l.fn.reads.items ++ in_diagram l.diagram l.wires
