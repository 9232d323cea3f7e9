-- The program of a hierarchy in which nothing is broken is accepted.
use Rattle.std.specs.Prelude.{ℕ, List}
use Rattle.std.specs.List.{All}
use Rattle.g_diagram.specs.declared.hierarchy.Hierarchy.{Hierarchy}
use Rattle.g_hier.specs.Outlines.{number_of}
use Rattle.g_frames.specs.Program.{Program, IsProgram}
use Rattle.g_infer_laws.specs.OwnLines.{HasOwnLines}
use Rattle.g_listing_laws.specs.Spelled.{AreSpelled}
use Rattle.g_rules.specs.Checked.{IsUnbroken}
use Rattle.g_typed_states.specs.Accepted.{IsAccepted}

-- Where its types, numbers and lines are such as a listing can write
abbrev pub AreAccepted : Type 0
AreAccepted = (h : Hierarchy) (main : List ℕ) (p : Program) → AreSpelled h → All HasOwnLines h.vis → IsUnbroken h main → IsProgram h (number_of h.vis main) p → IsAccepted p
