use Rattle.std.proofs.Common.{◌≡◌, ℕ, List, sym, ◌∙◌, subst}
use Rattle.std.proofs.lemmas.Map.Text.{btree_map_updates_str}
use Rattle.g_rules_lines.specs.Names.{queue_at, queue_after, seen_queue}
use Rattle.g_rules_lines.proofs.QueueLemmas.{queue_added}
use Rattle.g_rules_lines.proofs.queues.add_queue.Goals as goal

pub returns : goal.returns
returns c =
    let bs : List ℕ = c.as_slice-key.result.now in
    let P : List ℕ → Type 0 = λ key. (name : List ℕ) → queue_at c.insert.new.self name ≡ queue_after (queue_at c.args.known.now name) key name (seen_queue c.args.queue) in
    subst P c.as_slice-key.ensures
    (queue_added c.args.known.now c.insert.new.self bs c.args.queue
    (btree_map_updates_str bs c.args.known.now c.insert.new.self _ c.in_ok-insert.ensures.updates) (sym c.contains_key.ensures ∙ c.if-contains_key.false))
