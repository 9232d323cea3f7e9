use Rattle.std.proofs.Common.{◌+◌, length, Some, ap, sym, ◌∙◌}
use Rattle.std.proofs.lemmas.Result.{IfOk-weaker}
use Rattle.g_frames.specs.Run.{after, is_at_rest}
use Rattle.g_runs.proofs.StepLemmas.{starts, rested, went, lasts_same, lasts_after, after_more, has_run, longer}
use Rattle.g_runs.proofs.whole.run.Goals as goal

pub loop-init : goal.loop-init
loop-init c =
    let r = c.requires in (
      (r.0, (r.1.0, starts r.0 c.args.controls c.args.limit c.in_ok-state.state r.1.1 (c.in_ok-state.ensures r.0 r.1.0))),
      (λ p are. ap (after p c.args.controls c.args.limit) c.new-trace.ensures.items ∙ ap (λ s. Some s) (sym (c.in_ok-state.ensures p are)), ap length c.new-trace.ensures.items),
    )

pub ended-requires : goal.ended-requires
ended-requires c =
    let n = c.loop.invariant.0 in
    let stays = rested n.0 c.loop.state c.in_ok-firing.field-0 c.next.new.state c.in-None.is (c.in_ok-firing.ensures n.0 n.1.0) in
    (n.0, (n.1.0, lasts_same n.0 c.loop.state c.next.new.state stays.1 n.1.1))

pub returns-in-None : goal.returns-in-None
returns-in-None c =
    IfOk-weaker c.ended.result _ _
    (λ ran e p are.
    let stays = rested p c.loop.state c.in_ok-firing.field-0 c.next.new.state c.in-None.is (c.in_ok-firing.ensures p are) in
    has_run p c.args.controls c.args.limit ran.trace c.loop.trace.items c.next.new.state ran.state ran.end
    (c.loop.invariant.1.0 p are ∙ ap (λ s. Some s) (sym stays.1)) (ap (is_at_rest p) stays.1 ∙ stays.0) e.0 e.1.0 (e.1.1 p are))
    c.ended.ensures

pub loop-preserved : goal.loop-preserved
loop-preserved c =
    let n = c.loop.invariant.0 in
    let x = c.in-Some.firing in
    let items = c.in_ok-push-in-Some.ensures.items in
    let d = went n.0 c.loop.state c.in_ok-firing.field-0 x c.next.new.state c.in-Some.is (c.in_ok-firing.ensures n.0 n.1.0) in (
      (n.0, (n.1.0, lasts_after n.0 c.loop.state x c.next.new.state d.0 d.1 n.1.1)),
      (
        λ p are.
            let done = went p c.loop.state c.in_ok-firing.field-0 x c.next.new.state c.in-Some.is (c.in_ok-firing.ensures p are) in
            ap (after p c.args.controls c.args.limit) items
            ∙ after_more p c.args.controls c.args.limit c.loop.trace.items c.loop.state x c.next.new.state (c.loop.invariant.1.0 p are) done.0 done.1,
        ap length items ∙ longer c.loop.trace.items x ∙ ap (λ n. n + 1) c.loop.invariant.1.1,
      ),
    )
