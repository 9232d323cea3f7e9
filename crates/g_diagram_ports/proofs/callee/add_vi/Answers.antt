use Rattle.std.proofs.Common.{ℕ, List, sym, ◌∙◌, ap, subst}
use Rattle.std.proofs.lemmas.Map.Text.{btree_map_updates_str}
use Rattle.g_diagram.specs.Ports.{required_controls}
use Rattle.g_diagram_ports.proofs.CalleeLemmas.{added, required_by}
use Rattle.g_diagram_ports.proofs.callee.add_vi.Goals as goal

pub returns : goal.returns
returns c =
    let bs : List ℕ = c.as_slice-name.result.now in
    let P : List ℕ → Type 0 = required_by c.args.callees.now c.insert.new.self (required_controls c.args.vi.now.panel) in
    subst P c.as_slice-name.ensures
    (added c.args.callees.now c.insert.new.self bs c.in_ok-flags.flags (required_controls c.args.vi.now.panel) (c.in_ok-flags.ensures ∙ ap required_controls c.as_slice.ensures)
    (btree_map_updates_str bs c.args.callees.now c.insert.new.self _ c.in_ok-insert.ensures.updates) (sym c.contains_key.ensures ∙ c.if-contains_key.false))
