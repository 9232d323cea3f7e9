use Rattle.std.proofs.Common.{true, false, ap, not, refl, ◌∙◌}
use Rattle.std.proofs.lemmas.Result.{IfOk-weaker}
use Rattle.g_frames.specs.declared.state.End.TheVariants.{Unfinished}
use Rattle.g_run_ends.proofs.EndLemmas.{ends, rests}
use Rattle.g_run_ends.proofs.end.end_by.Goals as goal

pub returns-then-some_goes : goal.returns-then-some_goes
returns-then-some_goes c = λ p are is.
    ends p c.args.state.now false Unfinished
    (rests p c.args.state.now c.some_goes.result c.args.verdicts.now c.some_goes.ensures is ∙ ap not c.if-some_goes.true) refl

pub returns : goal.returns
returns c =
    IfOk-weaker c.end_at_rest.result _ _
    (λ e h p are is. ends p c.args.state.now true e
    (rests p c.args.state.now c.some_goes.result c.args.verdicts.now c.some_goes.ensures is ∙ ap not c.if-some_goes.false) (h p are))
    c.end_at_rest.ensures
