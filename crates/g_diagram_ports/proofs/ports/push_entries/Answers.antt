use Rattle.std.proofs.Common.{ℕ, ◌+◌, List, ◌++◌, map, drop}
use Rattle.g_diagram.specs.Operands.{Freedom}
use Rattle.g_diagram.specs.Ports.{ports_in}
use Rattle.g_diagram_table.specs.declared.entry.Entry.{Entry}
use Rattle.g_diagram_table.specs.Seen as table
use Rattle.g_diagram_ports.specs.Seen.{seen}
use Rattle.g_diagram_ports.specs.Callees.{freedom_by}
use Rattle.g_diagram_ports.specs.Tunnels.{outer_lines, all_outer_lines}
use Rattle.g_diagram_ports.proofs.Lines.{ports_append, one_more}
use Rattle.g_diagram_ports.proofs.ports.push_entries.Goals as goal

pub loop-entry-preserved : goal.loop-entry-preserved
loop-entry-preserved c =
    let e : Entry = c.entry-item.result in
    let free : Freedom = freedom_by c.args.callees.now in
    let es : List Entry = c.args.entries.now in
    let i : ℕ = c.loop-entry.entry-index in
    one_more (λ (es : List Entry). ports_in (all_outer_lines free (map table.seen es))) (λ (es : List Entry). ports_in (all_outer_lines free (map table.seen es)))
    (ports_in (outer_lines free (table.seen e) (table.seen_kind e.kind))) es i e (map seen c.loop-entry.ports.items) (map seen c.push_entry.new.ports.items)
    (map seen c.args.ports.now.items ++ ports_in (all_outer_lines free (map table.seen es)))
    c.loop-entry-test.true c.entry-item.is c.in_ok-push_entry.ensures
    (ports_append (outer_lines free (table.seen e) (table.seen_kind e.kind)) (all_outer_lines free (map table.seen (drop (i + 1) es)))) c.loop-entry.invariant
