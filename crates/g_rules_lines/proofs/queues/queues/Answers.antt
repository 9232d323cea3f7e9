use Rattle.std.proofs.Common.{List, refl, ◌∙◌}
use Rattle.g_diagram.specs.Lines.{entries_of}
use Rattle.g_diagram.specs.declared.hierarchy.Vi.{Vi}
use Rattle.g_rules_lines.specs.Queues.{Queue, queues_in, all_queues}
use Rattle.g_rules_lines.specs.Names.{queue_at}
use Rattle.g_rules_lines.proofs.QueueLemmas.{firsts_more}
use Rattle.g_rules_lines.proofs.queues.queues.Goals as goal

pub loop-vi-preserved : goal.loop-vi-preserved
loop-vi-preserved c = λ n.
    let f : Vi → List Queue = λ v. queues_in (entries_of v) in
    firsts_more f all_queues c.args.vis.now c.loop-vi.vi-index c.vi-item.result n (queue_at c.loop-vi.known n) (queue_at c.add_vi.new.known n)
    c.loop-vi-test.true c.vi-item.is refl (c.in_ok-add_vi.ensures n) ∙ c.loop-vi.invariant n
