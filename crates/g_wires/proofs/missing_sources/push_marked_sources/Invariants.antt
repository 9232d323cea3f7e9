use Rattle.std.proofs.Common.{◌≡◌, ◌++◌, take}
use Rattle.g_wires.specs.Marks.{lacks_mark, coded_breaks}
use Rattle.g_wires.proofs.missing_sources.push_marked_sources.Given as goal

abbrev pub invariant-loop-port : goal.invariant-loop-port
invariant-loop-port l = l.breaks.items ≡ l.fn.breaks.items ++ coded_breaks l.vi 1 (lacks_mark l.marks) (take l.port-index l.ports)
