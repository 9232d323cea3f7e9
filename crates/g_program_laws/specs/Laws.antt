-- A hierarchy is one program.
use Rattle.std.specs.Prelude.{◌≡◌, ℕ, List, []}
use Rattle.g_diagram.specs.declared.hierarchy.Hierarchy.{Hierarchy}
use Rattle.g_wires.specs.Breaks.{IsWiring}
use Rattle.g_frames.specs.Program.{Program, IsProgram}

-- where none of the rules on names and lines is broken: linked from a VI on, it has no two programs
abbrev pub ProgramsAreOne : Type 0
ProgramsAreOne =
    (h : Hierarchy) (name : List ℕ) → IsWiring h name [] → (main : ℕ) (p q : Program) → IsProgram h main p → IsProgram h main q → p ≡ q
