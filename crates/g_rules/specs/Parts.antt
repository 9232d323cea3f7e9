-- Inner: what the rules tell that are looked at where none of the rules 1 to 14 is broken.
use Rattle.std.specs.Prelude.{ℕ, ◌≡◌, IsTrue, List}
use Rattle.g_diagram.specs.declared.hierarchy.Hierarchy.{Hierarchy}
use Rattle.g_diagram.specs.declared.place.Break.{Break}
use Rattle.g_hier.specs.Answer.{IsTooLarge}
use Rattle.g_hier.specs.Outlines.{number_of, outlines_of}
use Rattle.g_hier.specs.Recursion.{IsRecursion}
use Rattle.g_rules_breaks.specs.Breaks.{has_break}
use Rattle.g_rules.specs.Checked.{main_break}

-- a break of rule 19 or of rule 20
pub data LinkBreak (h : Hierarchy) (main : List ℕ) (b : Break) : Type 0 where
  recursion : IsRecursion (outlines_of h) b → LinkBreak h main b
  too_large : (count : ℕ) → IsTooLarge (outlines_of h) (number_of h.vis main) count → b ≡ main_break h main → LinkBreak h main b

-- in any order, exactly what is broken
pub record Tells (P : Break → Type 0) (bs : List Break) : Type 0 where
  pub only : (b : Break) → IsTrue (has_break bs b) → P b
  pub each : (b : Break) → P b → IsTrue (has_break bs b)
