use Rattle.std.proofs.Common.{◌≡◌, ◌++◌, drop}
use Rattle.g_border.specs.Loops as spec
use Rattle.g_wire_values.specs.Wires.{reader}
use Rattle.g_crossing.specs.Counts.{least_with}
use Rattle.g_crossing.proofs.loops.iterations.Given as goal

abbrev pub invariant-loop-tunnel : goal.invariant-loop-tunnel
invariant-loop-tunnel l =
    least_with l.least (spec.sizes (reader l.outer) (drop l.tunnel-index l.lines)) ≡ spec.least (spec.wired_count (reader l.outer) l.count ++ spec.sizes (reader l.outer) l.lines)
