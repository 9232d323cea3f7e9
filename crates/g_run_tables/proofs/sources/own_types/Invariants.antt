use Rattle.std.proofs.Common.{◌≡◌, ℕ, List, drop}
use Rattle.std.specs.Option.{option_or}
use Rattle.g_infer.specs.Answer.{source_type}
use Rattle.g_vi_tables.specs.Types.{own_type}
use Rattle.g_run_tables.proofs.sources.own_types.Given as goal

abbrev pub invariant-loop-source : goal.invariant-loop-source
invariant-loop-source l =
    (d : ℕ) (name : List ℕ) → option_or (own_type l.own d name) (source_type (drop l.source-index l.sources) d name) ≡ source_type l.sources d name
