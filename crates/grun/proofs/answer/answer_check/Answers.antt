use Rattle.std.proofs.Common.{◌≡◌, ℕ, ◌≤◌, List, None, length, ap, subst, ◌∙◌}
use Rattle.std.proofs.lemmas.Result.{IfOk-weaker}
use Rattle.g_diagram.specs.declared.place.Break.{Break}
use Rattle.g_rules.specs.Checked.{IsChecked}
use Rattle.g_line.specs.declared.forms.Line.TheVariants.{Check}
use Rattle.g_line.specs.Forms.{HasLine}
use Rattle.g_listing_grammar.specs.Listing.{IsListing}
use Rattle.grun.specs.declared.answer.Answer.{Answer}
use Rattle.grun.specs.Texts.{breaks_text}
use Rattle.grun.specs.Answer.{reply, IsAnswer, LIMIT, checked_broken, checked_ok}
use Rattle.grun.proofs.Running.{is_some_list}
use Rattle.grun.proofs.answer.answer_check.Goals as goal

pub returns-in-Broken : goal.returns-in-Broken
returns-in-Broken c =
    let h = c.args.h.now in
    let main = c.args.main.now in
    let bs = c.in-Broken.breaks in
    let checked = subst (IsChecked h main) c.in-Broken.is c.in_ok-breaks.ensures in
    IfOk-weaker c.answer_breaks.result
    (λ (a : Answer). (a.trace ≡ None) × (reply a.status a.text ≡ reply 3 (breaks_text main h.vis c.as_slice.result.now)))
    (λ (a : Answer). (words : List (List ℕ)) (bytes : List ℕ) → HasLine words (Check main) → length bytes ≤ LIMIT → IsListing bytes h → IsAnswer words bytes a.trace (reply a.status a.text))
    (λ a x words bytes has short is. rw (x.0, x.1 ∙ ap (λ (l : List Break). reply 3 (breaks_text main h.vis l)) c.as_slice.ensures)
    (checked_broken main h bs has short is checked.0 (is_some_list bs checked.1)))
    c.answer_breaks.ensures

pub returns : goal.returns
returns c words bytes has short is =
    let h = c.args.h.now in
    let main = c.args.main.now in
    let checked = subst (IsChecked h main) c.in-Unbroken.is c.in_ok-breaks.ensures in
    rw (c.plain.ensures.trace, c.plain.ensures.status, c.plain.ensures.text, c.in_ok-fixed-in-Unbroken.ensures) (checked_ok main h has short is checked.0)
