-- Inner: numbers of wires, and ports by them.
use Rattle.std.specs.Prelude.{ℕ, ◌≡◌, ◌<◌, List, Option, Some, None}
use Rattle.std.specs.Ordering.{ordering_then, nat_cmp}
use Rattle.std.specs.Cmp.Lexicographic.{slice_cmp}
use Rattle.std.specs.Option.{IsSome}
use Rattle.std.specs.BTreeMap.{BTreeMap, get_by, btree_map_len}
use denote.Ref.{Bor}
use Rattle.g_diagram_ports.specs.declared.port.Port.{Port}
use Rattle.g_wires.specs.declared.coded.Coded.{Coded}

abbrev pub Table : Type 0
Table = BTreeMap (ℕ × Bor (List ℕ)) ℕ

-- the number of a name in a diagram
abbrev pub number_at : Table → (diagram : ℕ) → (name : List ℕ) → Option ℕ
number_at m d name = get_by (λ k. ordering_then (nat_cmp d k.0) (slice_cmp nat_cmp name k.1.now)) m

abbrev pub number_of : Table → (diagram : ℕ) → Option (Bor (List ℕ)) → Option ℕ
number_of m d None = None
number_of m d (Some name) = number_at m d name.now

abbrev pub wire_at : Table → Port → Option ℕ
wire_at m p = number_of m p.diagram p.wire

abbrev pub code_by : Table → Port → Coded
code_by m p = record { line = p.line; operand = p.operand; node = p.node; is_source = p.is_source; is_free = p.is_free; wire = wire_at m p }

abbrev pub is_numbered : Table → (diagram : ℕ) → Option (Bor (List ℕ)) → Type 0
is_numbered m d None = Unit {0}
is_numbered m d (Some name) = IsSome (number_at m d name.now)

-- a port is unwired, or its wire has a number
abbrev pub has_wire_of : Table → Port → Type 0
has_wire_of m p = is_numbered m p.diagram p.wire

-- no two wires have one number, and numbers are below their count
pub record Numbers (m : Table) : Type 0 where
  pub below : (d : ℕ) (name : List ℕ) (v : ℕ) → number_at m d name ≡ Some v → v < btree_map_len m
  pub apart : (d e : ℕ) (name other : List ℕ) (v : ℕ) → number_at m d name ≡ Some v → number_at m e other ≡ Some v → (d ≡ e) × (name ≡ other)

abbrev pub IsBelow : ℕ → Option ℕ → Type 0
IsBelow n None = Unit {0}
IsBelow n (Some v) = v < n
