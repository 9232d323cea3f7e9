use Rattle.g_run_ends.proofs.PrintLemmas.{ended}
use Rattle.g_run_ends.proofs.print.push_item.Goals as goal

pub returns-then-at-values : goal.returns-then-at-values
returns-then-at-values c = λ items rest. ended c.args.item.now items c.args.values.now c.args.at c.args.out.now.items rest c.if-at-values.true
