use Rattle.std.proofs.Common.{ℕ, List, sym, ◌∙◌, refl}
use Rattle.std.proofs.lemmas.Map.Text.{btree_map_updates_str}
use Rattle.g_rules_types.proofs.PanelLemmas.{added}
use Rattle.g_rules_types.proofs.panels.add_panel.Goals as goal

pub returns : goal.returns
returns c =
    let bs : List ℕ = c.args.name.now in
    added (λ panel. panel.now) c.args.panels.now c.insert.new.self bs c.args.panel c.args.panel.now refl
    (btree_map_updates_str bs c.args.panels.now c.insert.new.self _ c.in_ok-insert.ensures.updates) (sym c.contains_key.ensures ∙ c.if-contains_key.false)
