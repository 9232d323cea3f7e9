use Rattle.std.proofs.Common.{ℕ, ◌+◌, ◌==◌, ◌||◌, List, drop, get_or, ap, ◌∙◌, sym}
use Rattle.std.specs.Prelude.{None}
use Rattle.std.specs.List.{list_any}
use Rattle.g_hier.specs.declared.linked.Space.{Space}
use Rattle.g_program.specs.Queues.{is_in}
use Rattle.g_program.proofs.QueueLemmas.{among_next}
use Rattle.g_start.proofs.StartLemmas.{drop_at}
use Rattle.g_start.proofs.sources.vis_with_spaces.Goals as goal

pub loop-space-preserved : goal.loop-space-preserved
loop-space-preserved c = λ v.
    let i : ℕ = c.loop-space.space-index in
    let spaces : List Space = c.args.spaces.now in
    let none : Space = record { vi = 0; clone = 0; caller = None } in
    let x : Space = get_or spaces i none in
    among_next x.vi v (is_in c.loop-space.vis v) (is_in c.insert.new.self v) (list_any (λ s. s.vi == v) (drop (i + 1) spaces)) (c.in_ok-_is_new.ensures.updates.0 v)
    ∙ ap (λ (ss : List Space). is_in c.loop-space.vis v || list_any (λ s. s.vi == v) ss) (sym (drop_at spaces i none c.loop-space-test.true)) ∙ c.loop-space.invariant v
