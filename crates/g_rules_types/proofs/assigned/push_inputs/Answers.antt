use Rattle.std.proofs.Common.{ℕ, ◌+◌, List, ◌++◌, drop, sym, ap, ◌∙◌}
use Rattle.g_diagram.specs.declared.panel.PanelItem.{PanelItem}
use Rattle.g_diagram.specs.Lines.{Wire}
use Rattle.g_typing.specs.Types.{Types}
use Rattle.g_typing.specs.Typing.{control_types}
use Rattle.g_typing.specs.Assigned.{inputs_unlike}
use Rattle.g_rules_types.specs.Calls.{item_unlike}
use Rattle.g_rules_types.specs.Known.{types_of}
use Rattle.g_rules_types.proofs.Calls.{item_step, no_control}
use Rattle.g_rules_types.proofs.Loops.{one_more, all_added}
use Rattle.g_rules_types.proofs.assigned.push_inputs.Goals as goal

pub loop-item-preserved : goal.loop-item-preserved
loop-item-preserved c =
    let types : Types = types_of c.args.types.now in
    let v : ℕ = c.args.vi in
    let l : ℕ = c.args.line in
    let d : ℕ = c.args.diagram in
    let ws : List Wire = c.args.inputs.now in
    let k : ℕ = c.loop-item.k in
    let i : ℕ = c.loop-item.item-index in
    let item : PanelItem = c.item-item.result in
    let rest : List PanelItem = drop (i + 1) c.args.panel.now in
    one_more (λ (items : List PanelItem). inputs_unlike types v l d (k + 1) (drop k ws) (control_types items))
    (λ (items : List PanelItem). inputs_unlike types v l d (c.in_ok-k.k + 1) (drop c.in_ok-k.k ws) (control_types items))
    (item_unlike types v l d k ws item) c.args.panel.now i item c.loop-item.places.items c.push_item.new.places.items
    (c.args.places.now.items ++ inputs_unlike types v l d 1 ws (control_types c.args.panel.now))
    c.loop-item-test.true c.item-item.is c.in_ok-k.ensures.places
    (item_step types v l d k ws item rest ∙ ap (λ (m : ℕ). item_unlike types v l d k ws item ++ inputs_unlike types v l d (m + 1) (drop m ws) (control_types rest)) (sym c.in_ok-k.ensures.next))
    c.loop-item.invariant

pub returns : goal.returns
returns c =
    let types : Types = types_of c.args.types.now in
    let k : ℕ = c.loop-item.k in
    all_added (λ (items : List PanelItem). inputs_unlike types c.args.vi c.args.line c.args.diagram (k + 1) (drop k c.args.inputs.now) (control_types items)) c.args.panel.now
    c.loop-item.item-index c.loop-item.places.items (c.args.places.now.items ++ inputs_unlike types c.args.vi c.args.line c.args.diagram 1 c.args.inputs.now (control_types c.args.panel.now))
    c.loop-item-test.false (no_control types c.args.vi c.args.line c.args.diagram (k + 1) (drop k c.args.inputs.now)) c.loop-item.invariant
