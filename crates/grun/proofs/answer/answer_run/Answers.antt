use Rattle.std.proofs.Common.{◌≡◌, List, None, ap, subst, ◌∙◌}
use Rattle.std.proofs.lemmas.Result.{IfOk-weaker}
use Rattle.g_diagram.specs.declared.place.Break.{Break}
use Rattle.g_rules.specs.Checked.{IsChecked}
use Rattle.grun.specs.declared.answer.Answer.{Answer}
use Rattle.grun.specs.Texts.{breaks_text}
use Rattle.grun.specs.Answer.{reply, IsRunAnswer, broken}
use Rattle.grun.proofs.Running.{is_ready, is_some_list}
use Rattle.grun.proofs.answer.answer_run.Goals as goal

pub answer_settings-requires : goal.answer_settings-requires
answer_settings-requires c =
    let h = c.args.h.now in
    let main = c.args.main.now in
    let checked = subst (IsChecked h main) c.in-Unbroken.is c.in_ok-breaks.ensures in
    is_ready c.accepted_laws.ensures h main c.in-Unbroken.typed c.in-Unbroken.linked checked.0 checked.1.0 checked.1.1 c.requires.spelled c.requires.own_lines

pub returns-in-Broken : goal.returns-in-Broken
returns-in-Broken c =
    let h = c.args.h.now in
    let main = c.args.main.now in
    let bs = c.in-Broken.breaks in
    let checked = subst (IsChecked h main) c.in-Broken.is c.in_ok-breaks.ensures in
    IfOk-weaker c.answer_breaks.result
    (λ (a : Answer). (a.trace ≡ None) × (reply a.status a.text ≡ reply 3 (breaks_text main h.vis c.as_slice.result.now)))
    (λ (a : Answer). IsRunAnswer main c.args.settings.now c.args.limit h a.trace (reply a.status a.text))
    (λ a x. rw (x.0, x.1 ∙ ap (λ (l : List Break). reply 3 (breaks_text main h.vis l)) c.as_slice.ensures)
    (broken bs checked.0 (is_some_list bs checked.1)))
    c.answer_breaks.ensures
