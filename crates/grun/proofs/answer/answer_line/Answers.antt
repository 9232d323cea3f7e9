use Rattle.std.proofs.Common.{ℕ, ◌≤◌, List, length, subst}
use Rattle.std.proofs.lemmas.Result.{IfOk-weaker}
use Rattle.g_line.specs.declared.forms.Setting.{Setting}
use Rattle.g_line.specs.declared.forms.Line.TheVariants.{Check}
use Rattle.g_line.specs.Forms.{HasLine}
use Rattle.g_listing.specs.Refusal.{IsRefusal}
use Rattle.g_listing_grammar.specs.Listing.{IsListing}
use Rattle.grun.specs.declared.answer.Answer.{Answer}
use Rattle.grun.specs.Answer.{reply, IsRunAnswer, IsAnswer, LIMIT, syntax, printed, runs}
use Rattle.grun.proofs.answer.answer_line.Goals as goal

pub returns-in-Err-Syntax : goal.returns-in-Err-Syntax
returns-in-Err-Syntax c words has =
    rw (c.plain.ensures.trace, c.plain.ensures.status, c.plain.ensures.text, c.in_ok-placed-in-Err-Syntax.ensures)
    (syntax c.args.line.now c.in-Err-Syntax.spot has c.requires (subst (IsRefusal c.args.bytes.now) c.in-Err-Syntax.field-0-is c.in-Err-Syntax.ensures.refused))

pub returns-in-Check : goal.returns-in-Check
returns-in-Check c =
    IfOk-weaker c.answer_check.result
    (λ (a : Answer). (words : List (List ℕ)) (bytes : List ℕ) → HasLine words (Check c.in-Check.main) → length bytes ≤ LIMIT → IsListing bytes c.in-Ok.h → IsAnswer words bytes a.trace (reply a.status a.text))
    (λ (a : Answer). (words : List (List ℕ)) → HasLine words c.args.line.now → IsAnswer words c.args.bytes.now a.trace (reply a.status a.text))
    (λ a x words has. x words c.args.bytes.now (subst (HasLine words) c.in-Check.is has) c.requires c.in-Ok.ensures.found)
    c.answer_check.ensures

pub returns-in-Print : goal.returns-in-Print
returns-in-Print c words has =
    rw (c.plain-in-Print.ensures.trace, c.plain-in-Print.ensures.status, c.plain-in-Print.ensures.text, c.in_ok-print_listing-in-Print.ensures.text)
    (printed c.in-Ok.h (subst (HasLine words) c.in-Print.is has) c.requires c.in-Ok.ensures.found)

pub answer_run-requires-clause-spelled : goal.answer_run-requires-clause-spelled
answer_run-requires-clause-spelled c = c.spelled_laws.ensures c.args.bytes.now c.in-Ok.h c.in-Ok.ensures.found

pub answer_run-requires-clause-own_lines : goal.answer_run-requires-clause-own_lines
answer_run-requires-clause-own_lines c = c.own_lines_laws.ensures c.args.bytes.now c.in-Ok.h c.in-Ok.ensures.found

pub returns : goal.returns
returns c =
    IfOk-weaker c.answer_run.result
    (λ (a : Answer). IsRunAnswer c.in-Run.main c.as_slice.result.now c.in-Run.limit c.in-Ok.h a.trace (reply a.status a.text))
    (λ (a : Answer). (words : List (List ℕ)) → HasLine words c.args.line.now → IsAnswer words c.args.bytes.now a.trace (reply a.status a.text))
    (λ a x words has. runs c.in-Run.main c.in-Run.settings c.in-Run.limit c.in-Ok.h a.trace (reply a.status a.text) (subst (HasLine words) c.in-Run.is has) c.requires c.in-Ok.ensures.found
    (subst (λ (settings : List Setting). IsRunAnswer c.in-Run.main settings c.in-Run.limit c.in-Ok.h a.trace (reply a.status a.text)) c.as_slice.ensures x))
    c.answer_run.ensures
