use Rattle.std.proofs.Common.{◌≡◌, ℕ, List, drop}
use Rattle.std.specs.Option.{option_or}
use Rattle.g_infer.specs.Answer.{named_type as told_type}
use Rattle.g_vi_tables.specs.Types.{named_type}
use Rattle.g_run_tables.proofs.cases.case_scope.Given as goal

abbrev pub invariant-loop-named : goal.invariant-loop-named
invariant-loop-named l = (name : List ℕ) → option_or (named_type l.scope name) (told_type (drop l.named-index l.names) name) ≡ told_type l.names name
