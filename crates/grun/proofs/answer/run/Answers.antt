use Rattle.std.proofs.Common.{◌≡◌, List, Some, sym, ap, ◌∙◌}
use Rattle.std.specs.Prelude.{slice_get}
use Rattle.std.proofs.lemmas.Result.{IfOk-weaker}
use Rattle.g_frames.specs.declared.firing.Firing.{Firing}
use Rattle.g_frames.specs.Program.{Program}
use Rattle.g_hier.specs.Outlines.{number_of}
use Rattle.g_program.specs.Tables.{IsTableOf}
use Rattle.grun.specs.declared.answer.Answer.{Answer}
use Rattle.grun.specs.Answer.{reply, Runs}
use Rattle.grun.specs.Ready.{RunsProgram}
use Rattle.grun.proofs.Running.{are_controls, run_needs, runs_so}
use Rattle.grun.proofs.answer.run.Goals as goal

pub run_program-requires : goal.run_program-requires
run_program-requires c =
    let h = c.args.h.now in
    let ready = c.requires.ready in
    let number = number_of h.vis c.args.main.now in
    let found = c.in_ok-tables.ensures.program number ready.links.linked in
    let stands = ap (slice_get h.vis) (sym ready.links.linked.main_is) ∙ ready.stands in
    let controls = are_controls h number found.0 found.1.0 ready.vi stands c.args.controls (c.requires.controls ready.vi ready.stands) in
    (found.0, (found.1.1, run_needs c.needs_laws.ensures.firings c.needs_laws.ensures.starts c.typed_laws.ensures.runs found.0 c.args.controls c.args.limit (ready.accepted found.0 found.1.0) controls))

pub returns : goal.returns
returns c =
    let h = c.args.h.now in
    let number = number_of h.vis c.args.main.now in
    let found = c.in_ok-tables.ensures.program number c.requires.ready.links.linked in
    let tables = c.in_ok-tables.tables in
    IfOk-weaker c.run_program.result
    (λ (a : Answer). (trace : List Firing) × ((a.trace ≡ Some trace) × ((p : Program) → IsTableOf p tables → RunsProgram p c.args.controls c.args.limit trace (reply a.status a.text))))
    (λ (a : Answer). (trace : List Firing) × ((a.trace ≡ Some trace) × Runs h number c.args.controls c.args.limit trace (reply a.status a.text)))
    (λ a x. (x.0, (x.1.0, runs_so h number found.0 c.args.controls c.args.limit x.0 (reply a.status a.text) found.1.0 (x.1.1 found.0 found.1.1))))
    c.run_program.ensures
