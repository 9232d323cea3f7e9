use Rattle.std.proofs.Common.{◌≡◌, ◌++◌, take}
use Rattle.g_wires.specs.Marks.{follows_source, coded_breaks}
use Rattle.g_wires.proofs.second_sources.push_later.Given as goal

abbrev pub invariant-loop-port : goal.invariant-loop-port
invariant-loop-port l = l.breaks.items ≡ l.fn.breaks.items ++ coded_breaks l.vi 2 (follows_source l.firsts) (take l.port-index l.ports)
