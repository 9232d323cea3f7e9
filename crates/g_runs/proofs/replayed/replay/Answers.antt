use Rattle.std.proofs.Common.{List, drop, true, ◌≡◌, ◌+◌, None, ap, sym, ◌∙◌}
use Rattle.std.specs.Prelude.{slice_index_or}
use Rattle.std.proofs.lemmas.List.{drop_all}
use Rattle.g_frames.specs.declared.firing.Firing.{Firing}
use Rattle.g_frames.specs.Fire.{can_fire}
use Rattle.g_frames.specs.Run.{after_from, first_refused}
use Rattle.g_runs.proofs.StepLemmas.{starts, lasts_here, lasts_after, goes_after, refused_after, drop_at}
use Rattle.g_runs.proofs.replayed.replay.Goals as goal

pub loop-at-init : goal.loop-at-init
loop-at-init c =
    let r = c.requires in (
      (r.0, (r.1.0, starts r.0 c.args.controls c.args.limit c.in_ok-state.state r.1.1 (c.in_ok-state.ensures r.0 r.1.0))),
      λ p are. (ap (after_from p c.args.trace.now) (c.in_ok-state.ensures p are), ap (first_refused p 0 c.args.trace.now) (c.in_ok-state.ensures p are)),
    )

pub fire-requires : goal.fire-requires
fire-requires c =
    let n = c.loop-at.invariant.0 in
    let x : Firing = slice_index_or c.args.trace.now c.loop-at.at (record { frame = 0; node = 0; choice = None }) in
    (n.0, (n.1.0, lasts_here n.0 c.loop-at.state n.1.1 x.frame x.node))

pub loop-at-preserved : goal.loop-at-preserved
loop-at-preserved c =
    let n = c.loop-at.invariant.0 in
    let none : Firing = record { frame = 0; node = 0; choice = None } in
    let xs : List Firing = c.args.trace.now in
    let x : Firing = slice_index_or xs c.loop-at.at none in
    let e = drop_at xs c.loop-at.at none c.loop-at-test.true in
    let d = c.in_ok-fire.ensures n.0 n.1.0 in (
      (n.0, (n.1.0, lasts_after n.0 c.loop-at.state x c.fire.new.state (sym d.0 ∙ c.if-not-branch.false) d.1 n.1.1)),
      λ p are.
          let done = c.in_ok-fire.ensures p are in
          let before = c.loop-at.invariant.1 p are in
          let can : can_fire p c.loop-at.state x ≡ true = sym done.0 ∙ c.if-not-branch.false in (
            sym (goes_after p (drop c.loop-at.at xs) (drop (c.loop-at.at + 1) xs) c.loop-at.state x c.fire.new.state e can done.1) ∙ before.0,
            sym (refused_after p c.loop-at.at (drop c.loop-at.at xs) (drop (c.loop-at.at + 1) xs) c.loop-at.state x c.fire.new.state e can done.1) ∙ before.1,
          ),
    )

pub returns : goal.returns
returns c = λ p are.
    sym ((c.loop-at.invariant.1 p are).0) ∙ ap (λ xs. after_from p xs c.loop-at.state) (drop_all c.loop-at.at c.args.trace.now c.loop-at-test.false)
