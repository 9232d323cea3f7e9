use Rattle.std.proofs.Common.{sym, ◌∙◌}
use Rattle.g_vi_tables.proofs.KeyLemmas.{pair_added}
use Rattle.g_vi_tables.proofs.nodes.add_place.Goals as goal

pub returns : goal.returns
returns c = pair_added c.args.places.now c.insert.new.self c.args.diagram c.args.line c.args.place c.in_ok-insert.ensures.updates.0 (sym c.contains_key.ensures ∙ c.if-contains_key.false)
