use Rattle.std.proofs.Common.{◌≡◌, map, take}
use Rattle.g_wires.specs.Coding.{code_by}
use Rattle.g_wires.proofs.coded.code_all.Given as goal

abbrev pub invariant-loop-port : goal.invariant-loop-port
invariant-loop-port l = l.all.items ≡ map (code_by l.numbers) (take l.port-index l.ports)
