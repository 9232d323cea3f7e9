-- What is broken in a hierarchy, and the list of it.
use Rattle.std.specs.Prelude.{ℕ, ◌⊎◌, ◌+◌, IsTrue, List, [], ◌∷◌, ◌++◌, map, length}
use Rattle.g_diagram.specs.declared.place.Break.{Break}
use Rattle.g_diagram.specs.declared.hierarchy.Vi.{Vi}
use Rattle.g_diagram.specs.declared.hierarchy.Hierarchy.{Hierarchy}
use Rattle.g_diagram.specs.Lines.{entries_of}
use Rattle.g_diagram.specs.Ports.{Port, ports_of}
use Rattle.g_rules_breaks.specs.Breaks.{has_break, ListsEach}
use Rattle.g_rules_lines.specs.Spots.{break}
use Rattle.g_rules_lines.specs.Lists.{Known, known_of, lined_by}
use Rattle.g_rules_lines.specs.RepeatedNames.{renamed_vis}
use Rattle.g_rules_lines.specs.UnknownVis.{absent_main}
use Rattle.g_wires.specs.MissingSources.{unsourced}
use Rattle.g_wires.specs.SecondSources.{repeated}
use Rattle.g_wires.specs.UnusedSources.{unused}
use Rattle.g_wires.specs.Unwired.{unwired}
use Rattle.g_wires.specs.Cycles.{Cycles}

-- the breaks on names of one VI with these ports
abbrev pub named_in : List Port → (number : ℕ) → List Break
named_in ps number =
    map (break number 1) (unsourced ps) ++ (map (break number 2) (repeated ps) ++ (map (break number 3) (unused ps) ++ map (break number 4) (unwired ps)))

-- the breaks of one VI, but for those of rule 6
abbrev pub plain_in : (ports : Vi → List Port) → Known → (number : ℕ) → Vi → List Break
plain_in ports known number vi = named_in (ports vi) number ++ lined_by known number vi.panel (entries_of vi)

-- what stands at each VI, from one on
abbrev pub each_from : (ℕ → Vi → List Break) → (number : ℕ) → List Vi → List Break
each_from f number [] = []
each_from f number (vi ∷ more) = f number vi ++ each_from f (number + 1) more

-- the breaks of all VIs, but for those of rule 6
abbrev pub plain_breaks : (ports : Vi → List Port) → Known → List Vi → List Break
plain_breaks ports known vis = each_from (plain_in ports known) 0 vis ++ renamed_vis vis

-- what is broken, where VIs have these ports and this is known of the listing
abbrev pub BreaksBy : (ports : Vi → List Port) → Known → List Vi → (main : List ℕ) → Break → Type 0
BreaksBy ports known vis main b = IsTrue (has_break (plain_breaks ports known vis ++ absent_main known.arities (length vis) main) b) ⊎ Cycles ports vis b

-- what is broken of rules 1 to 14
abbrev pub WiringBreak : Hierarchy → (main : List ℕ) → Break → Type 0
WiringBreak h main b = BreaksBy (ports_of h.vis) (known_of h.vis) h.vis main b

-- what `wiring` gives
abbrev pub IsWiring : Hierarchy → (main : List ℕ) → List Break → Type 0
IsWiring h main bs = ListsEach (WiringBreak h main) bs
