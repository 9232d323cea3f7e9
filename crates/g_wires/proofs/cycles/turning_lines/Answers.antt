use Rattle.std.proofs.Common.{length, subst}
use Rattle.g_graph.specs.Graph.{Graph, TellsCycles}
use Rattle.g_wires.proofs.Turning.{lines_told}
use Rattle.g_wires.proofs.cycles.turning_lines.Goals as goal

pub returns : goal.returns
returns c =
    let P : Graph → Type 0 = λ g. TellsCycles g (length g) c.in_ok-marks.marks.items in
    lines_told c.in_ok-lines.lines c.args.count c.args.ports.now c.in_ok-graph.graph.items c.in_ok-marks.marks.items c.truncate.new.self.items c.in_ok-lines.ensures
    c.in_ok-graph.ensures.len c.in_ok-graph.ensures.edges (subst P c.as_slice.ensures.value c.in_ok-marks.ensures) c.truncate.ensures.items
