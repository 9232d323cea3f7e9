use Rattle.std.proofs.Common.{◌∙◌, sym}
use Rattle.g_run_ends.specs.Verdicts.{fires}
use Rattle.g_run_ends.proofs.ScanLemmas.{found_clone, next_clone, no_clone}
use Rattle.g_run_ends.proofs.choices.can_take.Goals as goal

pub returns-then-branch : goal.returns-then-branch
returns-then-branch c = λ p are.
    found_clone (fires p c.args.has_room c.args.state.now c.args.frame c.args.node) c.loop-clone.clone c.args.clones (c.loop-clone.invariant p are)
    (sym (c.in_ok-can_fire.ensures p are) ∙ c.if-branch.true) c.loop-clone-test.true

pub loop-clone-preserved : goal.loop-clone-preserved
loop-clone-preserved c = λ p are.
    next_clone (fires p c.args.has_room c.args.state.now c.args.frame c.args.node) c.loop-clone.clone (c.loop-clone.invariant p are)
    (sym (c.in_ok-can_fire.ensures p are) ∙ c.if-branch.false)

pub returns : goal.returns
returns c = λ p are.
    no_clone (fires p c.args.has_room c.args.state.now c.args.frame c.args.node) c.loop-clone.clone c.args.clones (c.loop-clone.invariant p are)
    c.loop-clone-test.false c.loop-clone.auto.clone-end
