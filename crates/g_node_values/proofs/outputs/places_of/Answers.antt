use Rattle.std.proofs.Common.{List, ◌++◌, ap, sym, ◌∙◌}
use Rattle.g_border.specs.declared.place.WireSource.{WireSource}
use Rattle.g_diagram_table.specs.Seen as node
use Rattle.g_node_values.specs.Outputs.{kind_places}
use Rattle.g_node_values.proofs.OutputLemmas.{outputs_by_kind}
use Rattle.g_node_values.proofs.outputs.places_of.Goals as goal

pub returns : goal.returns
returns c =
    c.in_ok-push_places.ensures
    ∙ ap (λ (places : List WireSource). places ++ kind_places (node.seen c.args.entry.now) (node.seen_kind c.args.entry.now.kind)) c.new-places.ensures.items
    ∙ sym (outputs_by_kind (node.seen c.args.entry.now))
