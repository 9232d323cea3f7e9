use Rattle.std.proofs.Common.{◌≡◌, ◌++◌, take}
use Rattle.g_wires.specs.Marks.{lacks_taker, coded_breaks}
use Rattle.g_wires.proofs.unused_sources.push_marked_consumers.Given as goal

abbrev pub invariant-loop-port : goal.invariant-loop-port
invariant-loop-port l = l.breaks.items ≡ l.fn.breaks.items ++ coded_breaks l.vi 3 (lacks_taker l.marks) (take l.port-index l.ports)
