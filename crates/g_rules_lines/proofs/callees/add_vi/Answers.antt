use Rattle.std.proofs.Common.{ℕ, List, sym, ◌∙◌, ap, subst}
use Rattle.std.proofs.lemmas.Map.Text.{btree_map_updates_str}
use Rattle.g_rules_lines.specs.Callees.{arity, control_count, indicator_count}
use Rattle.g_rules_lines.proofs.ArityLemmas.{arity_added, arity_by}
use Rattle.g_rules_lines.proofs.callees.add_vi.Goals as goal

pub returns : goal.returns
returns c =
    let bs : List ℕ = c.as_slice-name.result.now in
    let counts : ℕ × ℕ = arity c.args.vi.now in
    let P : List ℕ → Type 0 = arity_by c.args.known.now c.insert.new.self counts in
    let controls = c.control_count.ensures ∙ ap control_count c.as_slice.ensures in
    let indicators = c.indicator_count.ensures ∙ ap indicator_count c.as_slice-2.ensures in
    subst P c.as_slice-name.ensures
    (arity_added c.args.known.now c.insert.new.self bs _ counts (λ i. (controls i, indicators i))
    (btree_map_updates_str bs c.args.known.now c.insert.new.self _ c.in_ok-insert.ensures.updates) (sym c.contains_key.ensures ∙ c.if-contains_key.false))
