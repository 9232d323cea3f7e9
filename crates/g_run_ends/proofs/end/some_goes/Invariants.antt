use Rattle.std.proofs.Common.{◌≡◌, drop}
use Rattle.std.specs.List.{list_any}
use Rattle.g_run_ends.proofs.end.some_goes.Given as goal

abbrev pub invariant-loop-verdict : goal.invariant-loop-verdict
invariant-loop-verdict l = list_any (λ v. v.goes) (drop l.verdict-index l.verdicts) ≡ list_any (λ v. v.goes) l.verdicts
