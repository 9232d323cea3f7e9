use Rattle.std.proofs.Common.{ℕ, ◌+◌, List, length, length-append, map, ap, sym, ◌∙◌}
use Rattle.g_diagram.specs.Lines.{Entry, lines_of, entries_in, nodes_entries, panel_entries}
use Rattle.g_diagram.specs.Sizes.{vi_nodes, told}
use Rattle.g_diagram.proofs.LineLemmas.{in_turn}
use Rattle.g_diagram.proofs.NodeTotals.{both}
use Rattle.g_diagram.proofs.node_count.nodes.Goals as goal

pub returns : goal.returns
returns c =
    let vi = c.args.vi.now in
    let at : ℕ = 1 + length vi.panel in
    let shown : List Entry = panel_entries vi.panel 1 in
    let inside : List Entry = nodes_entries vi.top.nodes at 0 in
    both c.add.result c.panel_total.result c.nodes_total.result (length shown) (length inside) (vi_nodes vi) c.add.ensures
    (c.panel_total.ensures 1 ∙ ap (λ items. told (length (panel_entries items 1))) c.as_slice.ensures)
    (c.nodes_total.ensures at 0 ∙ ap (λ ns. told (length (entries_in (map lines_of ns) at 0))) c.as_slice-2.ensures
    ∙ ap (λ (es : List Entry). told (length es)) (sym (in_turn vi.top.nodes at 0)))
    (length-append shown inside)
