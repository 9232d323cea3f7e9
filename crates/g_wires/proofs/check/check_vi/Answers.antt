use Rattle.std.proofs.Common.{List, map, ap, ◌∙◌}
use Rattle.g_diagram.specs.declared.hierarchy.Vi.{Vi}
use Rattle.g_diagram.specs.Ports.{Port}
use Rattle.g_diagram_ports.specs.Callees.{freedom_by}
use Rattle.g_diagram_table.specs.Seen as table
use Rattle.g_wires.specs.Checked.{ports_with, IsCoding}
use Rattle.g_rules_lines.specs.Names.{known_by}
use Rattle.g_wires.proofs.Cycling.{cycles_added}
use Rattle.g_wires.proofs.Codings.{plain_added, lines_of_slices}
use Rattle.g_wires.proofs.check.check_vi.Goals as goal

pub coded_ports-requires : goal.coded_ports-requires
coded_ports-requires c = ap (map table.seen) c.as_slice.ensures.value ∙ c.in_ok-entries.ensures

pub returns : goal.returns
returns c =
    let ports : Vi → List Port = ports_with (freedom_by c.args.known.now.callees) in
    let coding : IsCoding (ports c.args.vi.now) c.in_ok-coded.coded.ports.items c.in_ok-coded.coded.count = c.in_ok-coded.ensures in
    record {
      plain = plain_added ports (known_by c.args.known.now.arities c.args.known.now.queues) c.args.vi.now c.in_ok-coded.coded.ports.items c.in_ok-coded.coded.count coding c.args.number c.as_slice-2.result.now c.as_slice-3.result.now
          (map table.seen c.as_slice-4.result.now) c.args.found.now.plain.items c.push_named.new.breaks.items c.push_lined.new.breaks.items c.as_slice-2.ensures.value c.as_slice-3.ensures
          (ap (map table.seen) c.as_slice-4.ensures.value ∙ c.in_ok-entries.ensures) c.in_ok-push_named.ensures c.in_ok-push_lined.ensures;
      cycles = cycles_added c.args.number (ports c.args.vi.now) c.in_ok-coded.coded.ports.items coding.steps c.args.found.now.cycles.items c.push_marked.new.breaks.items c.as_slice-6.result.now c.in_ok-push_marked.ensures
          (lines_of_slices c.in_ok-coded.coded.ports.items c.as_slice-5.result.now c.in_ok-turning.turning.items c.as_slice-6.result.now c.as_slice-5.ensures.value c.as_slice-6.ensures.value c.in_ok-turning.ensures);
    }
