use Rattle.std.proofs.Common.{List, map, refl, ◌∙◌}
use Rattle.g_diagram_table.specs.declared.entry.Entry.{Entry}
use Rattle.g_diagram_table.specs.Seen.{seen, seen_kind}
use Rattle.g_rules_lines.specs.Queues.{Queue, queue_in, queues_in}
use Rattle.g_rules_lines.specs.Names.{queue_at}
use Rattle.g_rules_lines.proofs.QueueLemmas.{firsts_more}
use Rattle.g_rules_lines.proofs.queues.add_entries.Goals as goal

pub loop-entry-preserved : goal.loop-entry-preserved
loop-entry-preserved c = λ n.
    let f : Entry → List Queue = λ e. queue_in (seen_kind e.kind) in
    let F : List Entry → List Queue = λ es. queues_in (map seen es) in
    firsts_more f F c.args.entries.now c.loop-entry.entry-index c.entry-item.result n (queue_at c.loop-entry.known n) (queue_at c.add_kind.new.known n)
    c.loop-entry-test.true c.entry-item.is refl (c.in_ok-add_kind.ensures n) ∙ c.loop-entry.invariant n
