use Rattle.g_diagram_table.specs.Seen.{seen}
use Rattle.g_frames.specs.Fire.{here}
use Rattle.g_plans.proofs.PlanLemmas.{asked, waited}
use Rattle.g_plans.proofs.plans.ask.Goals as goal

pub returns-in_ok-follow_up-in-Done : goal.returns-in_ok-follow_up-in-Done
returns-in_ok-follow_up-in-Done c =
    λ p room f vi table. asked p room f vi c.args.state.now c.try_op.new.self c.follow_up.new.state c.args.firing (seen c.args.entry.now) c.args.request c.in-Done.reply
    c.in-Done.ensures.done (c.in_ok-follow_up-in-Done.ensures (here p room c.args.state.now f vi) table)

pub returns-in-NotYet : goal.returns-in-NotYet
returns-in-NotYet c =
    λ p room f vi table. waited p room f vi c.args.state.now c.try_op.new.self c.args.firing (seen c.args.entry.now) c.args.request
    c.in-NotYet.ensures.not_yet.0 c.in-NotYet.ensures.not_yet.1.1
