use Rattle.std.proofs.Common.{◌≡◌, ◌++◌, take}
use Rattle.g_wires.specs.Marks.{has_no_wire, coded_breaks}
use Rattle.g_wires.proofs.unwired.push_unwired.Given as goal

abbrev pub invariant-loop-port : goal.invariant-loop-port
invariant-loop-port l = l.breaks.items ≡ l.fn.breaks.items ++ coded_breaks l.vi 4 has_no_wire (take l.port-index l.ports)
