use Rattle.std.proofs.Common.{◌≡◌, ◌++◌, List, drop}
use Rattle.g_frames.specs.Program.{FlatVi, cell_on, in_spaces}
use Rattle.g_program.specs.Tables.{AreAllTables}
use Rattle.g_program.proofs.cells.cells_of.Given as goal

abbrev pub invariant-loop-space : goal.invariant-loop-space
invariant-loop-space l =
    (flat : List FlatVi) → AreAllTables flat l.vis → l.cells.items ++ in_spaces (λ space vi e. cell_on vi.types space e e.kind) flat l.number (drop l.space-index l.spaces)
    ≡ in_spaces (λ space vi e. cell_on vi.types space e e.kind) flat 0 l.spaces
