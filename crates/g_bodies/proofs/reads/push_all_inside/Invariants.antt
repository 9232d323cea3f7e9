use Rattle.std.proofs.Common.{◌≡◌, ◌++◌, map, drop}
use Rattle.g_border.specs.Bodies.{in_diagram}
use Rattle.g_bodies.specs.Steps.{seen_read, taken_inside}
use Rattle.g_bodies.proofs.reads.push_all_inside.Given as goal

abbrev pub invariant-loop-tunnel : goal.invariant-loop-tunnel
invariant-loop-tunnel l =
    map seen_read l.reads.items ++ in_diagram l.diagram (taken_inside (drop l.tunnel-index l.lines)) ≡ map seen_read l.fn.reads.items ++ in_diagram l.diagram (taken_inside l.lines)
