use Rattle.std.proofs.Common.{take}
use Rattle.std.specs.Prelude.{All}
use Rattle.g_wires.specs.Coding.{Numbers, has_wire_of}
use Rattle.g_wires.proofs.coded.wire_numbers.Given as goal

abbrev pub invariant-loop-port : goal.invariant-loop-port
invariant-loop-port l = record {
  numbers : Numbers l.numbers;
  all : All (has_wire_of l.numbers) (take l.port-index l.ports);
}
