-- Rule 6: each node, by its line, from which wires lead to itself.
use Rattle.std.specs.Prelude.{ℕ, ◌≡◌, List, Some, slice_get}
use Rattle.g_diagram.specs.declared.place.Break.{Break}
use Rattle.g_diagram.specs.declared.hierarchy.Vi.{Vi}
use Rattle.g_diagram.specs.Ports.{Port, has_wire}
use Rattle.g_diagram.specs.Leads.{Leads}

abbrev pub LeadsToItself : List Port → (line : ℕ) → Type 0
LeadsToItself ps line = Leads (has_wire ps) line line

-- a break of it: the line itself
pub record Cycles (ports : Vi → List Port) (vis : List Vi) (b : Break) : Type 0 where
  pub vi : Vi
  pub stands : slice_get vis b.place.vi ≡ Some vi
  pub leads : LeadsToItself (ports vi) b.place.line
  pub whole : b.place.operand ≡ 0
  pub rule : b.rule ≡ 6
