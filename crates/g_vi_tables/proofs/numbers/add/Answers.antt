use Rattle.std.proofs.Common.{ℕ, List, sym, ◌∙◌}
use Rattle.std.proofs.lemmas.Map.Text.{btree_map_updates_str}
use Rattle.g_vi_tables.proofs.KeyLemmas.{name_added}
use Rattle.g_vi_tables.proofs.numbers.add.Goals as goal

pub returns : goal.returns
returns c =
    let bs : List ℕ = c.args.name.now in
    name_added c.args.numbers.now c.insert.new.self bs c.args.number
    (btree_map_updates_str bs c.args.numbers.now c.insert.new.self _ c.in_ok-insert.ensures.updates) (sym c.contains_key.ensures ∙ c.if-contains_key.false)
