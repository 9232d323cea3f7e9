use Rattle.std.proofs.Common.{ℕ, ◌+◌, List, [], ◌∷◌, length, refl, arith}
use Rattle.g_diagram.specs.declared.panel.PanelItem.{PanelItem}
use Rattle.g_diagram.specs.Lines.{panel_entries}
use Rattle.g_diagram.proofs.NodeTotals.{one_more, all_counted, panel_step}
use Rattle.g_diagram.proofs.node_count.panel_total.Goals as goal

pub loop-item-init : goal.loop-item-init
loop-item-init c = λ line. record { line = line; kept = omega arith; is = omega arith }

pub loop-item-preserved : goal.loop-item-preserved
loop-item-preserved c = λ line.
    let x : PanelItem = c.item-item.result in
    one_more (λ (items : List PanelItem) at. panel_entries items at) (λ at. panel_entries (x ∷ []) at) (λ at. at + 1) c.args.panel.now c.loop-item.item-index x
    c.loop-item.total c.item_total.result c.add-total.result (length (panel_entries c.args.panel.now line))
    c.loop-item-test.true c.item-item.is c.add-total.ensures c.item_total.ensures (λ at. panel_step x _ at) (c.loop-item.invariant line)

pub returns : goal.returns
returns c = λ line.
    all_counted (λ (items : List PanelItem) at. panel_entries items at) c.args.panel.now c.loop-item.item-index c.loop-item.total (length (panel_entries c.args.panel.now line))
    (omega (arith, c.loop-item-test.false)) (λ at. refl) (c.loop-item.invariant line)
