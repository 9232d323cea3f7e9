-- Inner: what the checks of one VI say, which the list of all is put together from.
use Rattle.std.specs.Prelude.{ℕ, ◌≡◌, ◌⊎◌, ◌<◌, ◌^◌, Bool, true, ◌||◌, List, ◌++◌, length, All}
use Rattle.g_diagram.specs.declared.place.Break.{Break}
use Rattle.g_diagram.specs.declared.hierarchy.Vi.{Vi}
use Rattle.g_diagram.specs.Lines.{entries_of}
use Rattle.g_diagram.specs.Operands.{Freedom, control_lines, entries_lines}
use Rattle.g_diagram.specs.Ports.{Port, ports_in, has_wire}
use Rattle.g_diagram.specs.Leads.{Leads}
use Rattle.g_wires.specs.declared.coded.Coded.{Coded}
use Rattle.g_wires.specs.Cycles.{LeadsToItself}
use Rattle.g_rules_breaks.specs.Breaks.{has_break}
use Rattle.g_wires.specs.Breaks.{named_in}
use Rattle.g_wires.specs.Cycles.{Cycles}
use Rattle.g_wires.specs.Marks.{WireBelow, is_marked, coded_named, coded_wire}

-- the ports of a VI where these inputs of calls are free
abbrev pub ports_with : Freedom → Vi → List Port
ports_with free vi = ports_in (control_lines 1 vi.panel ++ entries_lines free (entries_of vi))

-- lists with the same breaks, whatever their order
abbrev pub SameBreaks : (bs cs : List Break) → Type 0
SameBreaks bs cs = (b : Break) → has_break bs b ≡ has_break cs b

-- breaks added to others
abbrev pub AddsBreaks : (added old new : List Break) → Type 0
AddsBreaks added old new = (b : Break) → has_break new b ≡ (has_break old b || has_break added b)

-- ports by numbers that say what these ports say
pub record IsCoding (ps : List Port) (cs : List Coded) (count : ℕ) : Type 0 where
  pub small : count < 2 ^ 63
  pub wires : All (WireBelow count) cs
  pub named : (vi : ℕ) → SameBreaks (coded_named vi cs) (named_in ps vi)
  pub steps : (a b : ℕ) → coded_wire cs a b ≡ has_wire ps a b

-- of each line, whether it leads to itself
pub record TellsLines (cs : List Coded) (marks : List Bool) : Type 0 where
  pub sound : (line : ℕ) → line < length marks → is_marked marks line ≡ true → Leads (coded_wire cs) line line
  pub below : (line : ℕ) → Leads (coded_wire cs) line line → line < length marks
  pub complete : (line : ℕ) → Leads (coded_wire cs) line line → is_marked marks line ≡ true

-- a break of rule 6 of one VI
pub record IsCycle (vi : ℕ) (ps : List Port) (b : Break) : Type 0 where
  pub at : b.place.vi ≡ vi
  pub leads : LeadsToItself ps b.place.line
  pub whole : b.place.operand ≡ 0
  pub rule : b.rule ≡ 6

-- the breaks of rule 6 of one VI, added to others
pub record AddsCycles (vi : ℕ) (ps : List Port) (old new : List Break) : Type 0 where
  pub only : (b : Break) → has_break new b ≡ true → (has_break old b ≡ true) ⊎ IsCycle vi ps b
  pub keeps : (b : Break) → has_break old b ≡ true → has_break new b ≡ true
  pub each : (b : Break) → IsCycle vi ps b → has_break new b ≡ true

-- the breaks of rule 6 of the first n VIs
pub record CyclesBelow (ports : Vi → List Port) (vis : List Vi) (n : ℕ) (bs : List Break) : Type 0 where
  pub only : (b : Break) → has_break bs b ≡ true → Cycles ports vis b
  pub each : (b : Break) → Cycles ports vis b → b.place.vi < n → has_break bs b ≡ true
