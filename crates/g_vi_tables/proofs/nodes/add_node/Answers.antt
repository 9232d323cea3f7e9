use Rattle.std.proofs.lemmas.Result.{on_ok_weaker}
use Rattle.g_vi_tables.proofs.Growing.{nodes_more, node_places_more}
use Rattle.g_vi_tables.proofs.nodes.add_node.Goals as goal

pub returns-clause-nodes : goal.returns-clause-nodes
returns-clause-nodes c = on_ok_weaker c.add_place.result (λ h d. nodes_more c.args.nodes.now c.push_node.new.nodes c.args.entry c.in_ok-place.ensures.nodes d) c.add_place.ensures

pub returns-clause-places : goal.returns-clause-places
returns-clause-places c =
    on_ok_weaker c.add_place.result
    (node_places_more c.args.nodes.now c.push_node.new.nodes c.args.places.now c.add_place.new.places c.args.entry c.in_ok-place.place c.requires c.in_ok-place.ensures.place c.in_ok-place.ensures.nodes)
    c.add_place.ensures
