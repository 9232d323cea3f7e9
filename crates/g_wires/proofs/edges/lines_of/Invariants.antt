use Rattle.std.proofs.Common.{take}
use Rattle.std.specs.Prelude.{All}
use Rattle.g_wires.specs.Marks.{NodeBelow}
use Rattle.g_wires.proofs.edges.lines_of.Given as goal

abbrev pub invariant-loop-port : goal.invariant-loop-port
invariant-loop-port l = All (NodeBelow l.lines) (take l.port-index l.ports)
