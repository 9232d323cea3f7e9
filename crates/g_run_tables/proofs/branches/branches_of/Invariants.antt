use Rattle.std.proofs.Common.{◌≡◌, ℕ, drop}
use Rattle.std.specs.Option.{option_or}
use Rattle.g_run_tables.specs.Told.{kept_cases, told_cases}
use Rattle.g_run_tables.proofs.branches.branches_of.Given as goal

abbrev pub invariant-loop-branch : goal.invariant-loop-branch
invariant-loop-branch l = (d : ℕ) → option_or (kept_cases l.branches d) (told_cases (drop l.branch-index l.listed) d) ≡ told_cases l.listed d
