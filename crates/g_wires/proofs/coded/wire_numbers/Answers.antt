use Rattle.std.proofs.Common.{subst, arith}
use Rattle.std.proofs.lemmas.List.Elements.{All-more, All-weaker}
use Rattle.std.proofs.Common.{take}
use Rattle.g_diagram_ports.specs.declared.port.Port.{Port}
use Rattle.g_wires.specs.Coding.{has_wire_of}
use Rattle.g_wires.proofs.EdgeLemmas.{all_taken}
use Rattle.g_wires.proofs.coded.wire_numbers.Goals as goal

pub loop-port-preserved : goal.loop-port-preserved
loop-port-preserved c =
    let P : Port → Type 0 = has_wire_of c.add_wire.new.numbers in
    record {
      numbers = c.in_ok-add_wire.ensures.numbers c.loop-port.invariant.numbers;
      all = All-more P c.args.ports.now c.loop-port.port-index c.port-item.result c.loop-port-test.true
          (All-weaker (has_wire_of c.loop-port.numbers) P c.in_ok-add_wire.ensures.keeps (take c.loop-port.port-index c.args.ports.now) c.loop-port.invariant.all)
          (subst P c.port-item.is c.in_ok-add_wire.ensures.has);
    }

pub returns-clause-all : goal.returns-clause-all
returns-clause-all c = all_taken (has_wire_of c.loop-port.numbers) c.args.ports.now c.loop-port.port-index (omega arith) c.loop-port.invariant.all
