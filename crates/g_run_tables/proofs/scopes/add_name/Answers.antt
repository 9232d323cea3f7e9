use Rattle.std.proofs.Common.{ℕ, List, sym, ◌∙◌}
use Rattle.std.proofs.lemmas.Map.Text.{btree_map_updates_str}
use Rattle.g_vi_tables.proofs.KeyLemmas.{type_added}
use Rattle.g_run_tables.proofs.scopes.add_name.Goals as goal

pub returns : goal.returns
returns c =
    let bs : List ℕ = c.args.name.now in
    type_added c.args.scope.now c.insert.new.self bs c.args.ty
    (btree_map_updates_str bs c.args.scope.now c.insert.new.self _ c.in_ok-insert.ensures.updates) (sym c.contains_key.ensures ∙ c.if-contains_key.false)
