use Rattle.std.proofs.Common.{◌≡◌, ◌++◌, List, drop}
use Rattle.g_frames.specs.Program.{FlatVi, in_spaces, kept_on}
use Rattle.g_program.specs.Tables.{AreAllTables}
use Rattle.g_program.proofs.kept.kept_of.Given as goal

abbrev pub invariant-loop-space : goal.invariant-loop-space
invariant-loop-space l =
    (flat : List FlatVi) → AreAllTables flat l.vis → l.kept.items ++ in_spaces (λ space vi e. kept_on space e e.kind) flat l.number (drop l.space-index l.spaces)
    ≡ in_spaces (λ space vi e. kept_on space e e.kind) flat 0 l.spaces
