-- All that is broken in a hierarchy, and what is known where nothing is.
use Rattle.std.specs.Prelude.{ℕ, ◌≡◌, ◌<◌, List, [], length}
use Rattle.g_diagram.specs.declared.hierarchy.Hierarchy.{Hierarchy}
use Rattle.g_diagram.specs.declared.place.Break.{Break}
use Rattle.g_typing.specs.Breaks.{TypeBreak}
use Rattle.g_hier.specs.Answer.{Links, IsTooLarge}
use Rattle.g_hier.specs.Outlines.{number_of, outlines_of}
use Rattle.g_hier.specs.Recursion.{IsRecursion}
use Rattle.g_infer.specs.Answer.{IsTyped}
use Rattle.g_rules_breaks.specs.Breaks.{ListsEach}
use Rattle.g_wires.specs.Breaks.{IsWiring, WiringBreak}
use Rattle.g_rules.specs.declared.check.Checked.{Checked}
use Rattle.g_rules.specs.declared.check.Checked.TheVariants.{Broken, Unbroken}

-- the break of rule 20, at the line 0 of MAIN
abbrev pub main_break : Hierarchy → (main : List ℕ) → Break
main_break h main = record { place = record { vi = number_of h.vis main; line = 0; operand = 0 }; rule = 20 }

-- What is broken: by the rules 1 to 14; where these are all kept, by those on types, by rule 19, and by rule 20.
pub data IsBreak (h : Hierarchy) (main : List ℕ) (b : Break) : Type 0 where
  wires : WiringBreak h main b → IsBreak h main b
  types : IsWiring h main [] → TypeBreak h b → IsBreak h main b
  recursion : IsWiring h main [] → IsRecursion (outlines_of h) b → IsBreak h main b
  too_large : IsWiring h main [] → (count : ℕ) → IsTooLarge (outlines_of h) (number_of h.vis main) count → b ≡ main_break h main → IsBreak h main b

-- nothing is broken: the types of wires, and what MAIN reaches
pub record IsUnbroken (h : Hierarchy) (main : List ℕ) : Type 0 where
  pub wired : IsWiring h main []
  pub none : (b : Break) → IsBreak h main b → ⊥

-- the list of all breaks, or what is found where there is none
abbrev pub IsChecked : Hierarchy → (main : List ℕ) → Checked → Type 0
IsChecked h main (Broken bs) = ListsEach (IsBreak h main) bs × (0 < length bs)
IsChecked h main (Unbroken typed linked) = IsUnbroken h main × (IsTyped h typed × Links (outlines_of h) (number_of h.vis main) linked)
