use Rattle.std.proofs.Common.{◌≡◌, ℕ, List, map, drop}
use Rattle.std.specs.Option.{option_or}
use Rattle.g_wire_values.specs.Names.{named}
use Rattle.g_vi_tables.specs.Kept.{number_in}
use Rattle.g_vi_tables.specs.Sources.{seen}
use Rattle.g_vi_tables.specs.Tables.{names_at}
use Rattle.g_vi_tables.proofs.names.by_diagram.Given as goal

abbrev pub invariant-loop-source : goal.invariant-loop-source
invariant-loop-source l =
    (d : ℕ) (name : List ℕ) → option_or (named (names_at l.names d) name) (number_in l.places d name (map seen (drop l.source-index l.all))) ≡ number_in l.places d name (map seen l.all)
