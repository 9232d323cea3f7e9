use Rattle.std.proofs.Common.{sym, ◌∙◌}
use Rattle.std.proofs.lemmas.Map.Text.{btree_map_updates_str}
use Rattle.g_diagram_ports.proofs.BranchLemmas.{name_added}
use Rattle.g_diagram_ports.proofs.branches.add_name.Goals as goal

pub returns : goal.returns
returns c = name_added c.args.lines.now c.insert.new.self c.args.name.now c.args.line
    (btree_map_updates_str c.args.name.now c.args.lines.now c.insert.new.self _ c.in_ok-insert.ensures.updates) (sym c.contains_key.ensures ∙ c.if-contains_key.false)
