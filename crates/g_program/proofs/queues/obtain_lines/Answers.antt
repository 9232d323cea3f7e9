use Rattle.std.proofs.Common.{List, ◌++◌, map, ap, sym, ◌∙◌}
use Rattle.std.proofs.lemmas.List.{append-nil}
use Rattle.g_frames.specs.declared.program.QueueName.{QueueName}
use Rattle.g_frames.specs.Program.{FlatVi}
use Rattle.g_program.specs.Queues.{is_in, obtained, seen_queue}
use Rattle.g_program.proofs.TableLemmas.{Next, next_of, none_after, obtained_next}
use Rattle.g_program.proofs.queues.obtain_lines.Goals as goal

pub loop-vi-preserved : goal.loop-vi-preserved
loop-vi-preserved c = λ flat are.
    let n : Next flat c.loop-vi.vi-index c.vi-item.result = next_of flat c.args.vis.now c.loop-vi.vi-index c.vi-item.result are c.loop-vi-test.true c.vi-item.is in
    obtained_next (is_in c.args.reached.now) c.loop-vi.number c.in_ok-number.number c.loop-vi.vi-index n.vi flat (map seen_queue c.loop-vi.queues.items) (map seen_queue c.push_vi.new.queues.items)
    (obtained (is_in c.args.reached.now) 0 flat) c.in_ok-number.ensures n.first (c.in_ok-push_vi.ensures n.vi n.is) (c.loop-vi.invariant flat are)

pub returns : goal.returns
returns c = λ flat are.
    let found : List QueueName = map seen_queue c.loop-vi.queues.items in
    sym (append-nil found)
    ∙ ap (λ (vis : List FlatVi). found ++ obtained (is_in c.args.reached.now) c.loop-vi.number vis) (sym (none_after flat c.args.vis.now c.loop-vi.vi-index are c.loop-vi-test.false))
    ∙ c.loop-vi.invariant flat are
