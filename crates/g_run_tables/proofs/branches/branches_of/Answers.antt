use Rattle.std.proofs.Common.{drop}
use Rattle.std.proofs.lemmas.List.{drop_all}
use Rattle.g_run_tables.proofs.Kept.{all_branches}
use Rattle.g_run_tables.proofs.branches.branches_of.Goals as goal

pub returns : goal.returns
returns c =
    all_branches c.args.listed.now (drop c.loop-branch.branch-index c.args.listed.now) c.loop-branch.branches
    (drop_all c.loop-branch.branch-index c.args.listed.now c.loop-branch-test.false) c.loop-branch.invariant
