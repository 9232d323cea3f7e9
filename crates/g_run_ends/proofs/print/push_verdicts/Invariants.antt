use Rattle.std.proofs.Common.{◌≡◌, ◌++◌, drop}
use Rattle.g_run_ends.specs.Verdicts.{verdict_lines}
use Rattle.g_run_ends.proofs.print.push_verdicts.Given as goal

abbrev pub invariant-loop-verdict : goal.invariant-loop-verdict
invariant-loop-verdict l = l.out.items ++ verdict_lines (drop l.verdict-index l.verdicts) ≡ l.fn.out.items ++ verdict_lines l.verdicts
