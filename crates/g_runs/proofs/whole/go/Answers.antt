use Rattle.g_runs.proofs.StepLemmas.{lasts_here}
use Rattle.g_runs.proofs.whole.go.Goals as goal

pub fire-requires : goal.fire-requires
fire-requires c =
    let r = c.requires in
    let x = c.args.firing in
    (r.0, (r.1.0, lasts_here r.0 c.args.state.now r.1.1 x.frame x.node))
