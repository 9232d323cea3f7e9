-- The operands of a VI as one list of ports, each with its place and its diagram. Wires are names: a port's wire goes to the ports of its
-- diagram that have its name.
use Rattle.std.specs.Prelude.{ℕ, zero, suc, ◌+◌, ◌==◌, nat_lt, Bool, true, false, not, ◌&&◌, ◌||◌, List, [], ◌∷◌, ◌++◌, map, filter, if◌then◌else◌, Option, Some, None, is_some}
use Rattle.std.specs.List.{list_any}
use Rattle.std.specs.Str.{bytes_eq}
use Rattle.g_diagram.specs.declared.panel.PanelItem.{PanelItem}
use Rattle.g_diagram.specs.declared.panel.PanelItem.TheVariants.{Control, Indicator}
use Rattle.g_diagram.specs.declared.hierarchy.Vi.{Vi}
use Rattle.g_diagram.specs.Lines.{Wire, entries_of}
use Rattle.g_diagram.specs.Operands.{Side, Outside, Inside, Before, Operand, Line, Freedom, entries_lines, control_lines}

-- an operand in a diagram
pub record Port : Type 0 where
  pub line : ℕ
  pub operand : ℕ
  pub diagram : ℕ
  -- the node of that diagram that gives or takes it, or none at the diagram's border
  pub node : Option ℕ
  pub is_source : Bool
  pub is_free : Bool
  pub wire : Wire

abbrev pub port : Line → (operand : ℕ) → Operand → Option ℕ → (diagram : ℕ) → Port
port l k o node diagram =
    record { line = l.line; operand = k; diagram = diagram; node = node; is_source = o.is_source; is_free = o.is_free; wire = o.wire }

-- an operand stands once in each diagram of its side; outside it is the node's
abbrev pub ports_on : Side → Line → (operand : ℕ) → Operand → List Port
ports_on Outside l k o = port l k o (Some l.node) l.outside ∷ []
ports_on Inside l k o = map (port l k o None) l.inside
ports_on Before l k o = map (port l k o None) l.before

abbrev pub ports_from : Line → (operand : ℕ) → List Operand → List Port
ports_from l k [] = []
ports_from l k (o ∷ os) = ports_on o.side l k o ++ ports_from l (k + 1) os

abbrev pub ports_in : List Line → List Port
ports_in [] = []
ports_in (l ∷ ls) = ports_from l 1 l.operands ++ ports_in ls

-- the first VI of a name
abbrev pub first_vi : List Vi → (name : List ℕ) → Option Vi
first_vi [] name = None
first_vi (vi ∷ vis) name = if bytes_eq vi.name name then Some vi else first_vi vis name

-- whether each control is required
abbrev pub required_controls : List PanelItem → List Bool
required_controls [] = []
required_controls (Control name t required default out ∷ items) = required ∷ required_controls items
required_controls (Indicator name t w ∷ items) = required_controls items

-- whether the control of that number isn't required; one that isn't there is
abbrev pub is_optional : List Bool → ℕ → Bool
is_optional [] k = false
is_optional (required ∷ more) zero = not required
is_optional (required ∷ more) (suc k) = is_optional more k

abbrev pub is_free_in : Option Vi → ℕ → Bool
is_free_in None k = true
is_free_in (Some vi) k = is_optional (required_controls vi.panel) k

-- an input of a call is free where its control isn't required, and each input of a call of an unknown VI
abbrev pub freedom : List Vi → Freedom
freedom vis name = is_free_in (first_vi vis name)

-- the ports of a VI
abbrev pub ports_of : List Vi → Vi → List Port
ports_of vis vi = ports_in (control_lines 1 vi.panel ++ entries_lines (freedom vis) (entries_of vi))

abbrev pub sources : List Port → List Port
sources ps = filter (λ p. p.is_source) ps

abbrev pub consumers : List Port → List Port
consumers ps = filter (λ p. not p.is_source) ps

abbrev pub is_wired : Port → Bool
is_wired p = is_some p.wire

abbrev pub same_wire : Wire → Wire → Bool
same_wire None w = false
same_wire (Some a) None = false
same_wire (Some a) (Some b) = bytes_eq a b

-- two ports are joined where they stand in one diagram and have one name
abbrev pub are_joined : Port → Port → Bool
are_joined p q = (p.diagram == q.diagram) && same_wire p.wire q.wire

-- by line and operand
abbrev pub is_before : Port → Port → Bool
is_before p q = nat_lt p.line q.line || ((p.line == q.line) && nat_lt p.operand q.operand)

abbrev pub is_node : Option ℕ → ℕ → Bool
is_node None n = false
is_node (Some m) n = m == n

abbrev pub feeds : (a b : ℕ) → (source consumer : Port) → Bool
feeds a b s c = is_node s.node a && is_node c.node b && are_joined s c

-- a wire leads from node a to node b, which then stand in one diagram
abbrev pub has_wire : List Port → (a b : ℕ) → Bool
has_wire ps a b = list_any (λ s. list_any (feeds a b s) (consumers ps)) (sources ps)
