use Rattle.std.proofs.Common.{ℕ, ◌+◌, List, map, drop, ap, sym, ◌∙◌}
use Rattle.g_frames.specs.declared.program.QueueName.{QueueName}
use Rattle.g_program.specs.declared.queues.ObtainLine.{ObtainLine}
use Rattle.g_program.specs.Queues.{seen_queue}
use Rattle.g_program.proofs.QueueLemmas.{first_next, from_there, with_rest}
use Rattle.g_program.proofs.queues.first_lines.Goals as goal

pub loop-line-preserved : goal.loop-line-preserved
loop-line-preserved c =
    let i : ℕ = c.loop-line.line-index in
    let kept : List QueueName = map seen_queue c.loop-line.queues.items in
    let rest : List QueueName = map seen_queue (drop (i + 1) c.args.all.now) in
    record {
      met = c.in_ok-add_line.ensures.met;
      queues = ap (λ ks. with_rest ks rest) c.in_ok-add_line.ensures.queues ∙ first_next kept (seen_queue c.line-item.result) rest
          ∙ ap (λ (ls : List ObtainLine). with_rest kept (map seen_queue ls)) (sym (from_there c.args.all.now i c.line-item.result c.loop-line-test.true c.line-item.is)) ∙ c.loop-line.invariant.queues;
    }
