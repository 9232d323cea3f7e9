-- Names and diagrams in sets and maps.
use Rattle.std.specs.Prelude.{ℕ, Bool, List, if◌then◌else◌, Option, Some, None, ℤ}
use Rattle.std.specs.Ordering.{nat_cmp}
use Rattle.std.specs.Cmp.Lexicographic.{slice_cmp}
use Rattle.std.specs.Str.{bytes_eq}
use Rattle.std.specs.Option.{option_map, option_or}
use Rattle.std.specs.BTreeMap.{BTreeMap, get_by}
use Rattle.std.specs.BTreeSet.{BTreeSet, contains, contains_by}
use denote.Ref.{Bor}
use Rattle.g_diagram.specs.declared.hierarchy.Vi.{Vi}
use Rattle.g_types.specs.declared.ty.Ty.{Ty}
use Rattle.g_rules_lines.specs.declared.callees.Arity.{Arity}
use Rattle.g_rules_lines.specs.declared.queues.Queue.{Queue}
use Rattle.g_rules_lines.specs.Callees.{arity}
use Rattle.g_rules_lines.specs.Lists.{Known}

abbrev pub Names : Type 0
Names = BTreeSet (Bor (List ℕ))

abbrev pub has_name : Names → (name : List ℕ) → Bool
has_name s name = contains_by (λ k. slice_cmp nat_cmp name k.now) s

abbrev pub Table : Type 0
Table = BTreeMap (Bor (List ℕ)) Arity

abbrev pub seen_arity : Arity → ℕ × ℕ
seen_arity a = (a.controls, a.indicators)

-- how many controls and indicators the VI of a name has
abbrev pub arity_in : Table → (name : List ℕ) → Option (ℕ × ℕ)
arity_in m name = option_map seen_arity (get_by (λ k. slice_cmp nat_cmp name k.now) m)

-- the first VI of a name stays
abbrev pub arity_after : Option (ℕ × ℕ) → Vi → (name : List ℕ) → Option (ℕ × ℕ)
arity_after before vi name = option_or before (if bytes_eq vi.name name then Some (arity vi) else None)

abbrev pub QueueTable : Type 0
QueueTable = BTreeMap (Bor (List ℕ)) Queue

abbrev pub seen_queue : Queue → ℤ × Ty
seen_queue q = (q.size, q.item.now)

-- the size and the type of the queue of a name
abbrev pub queue_at : QueueTable → (name : List ℕ) → Option (ℤ × Ty)
queue_at m name = option_map seen_queue (get_by (λ k. slice_cmp nat_cmp name k.now) m)

-- the first queue of a name stays
abbrev pub queue_after : Option (ℤ × Ty) → (key name : List ℕ) → ℤ × Ty → Option (ℤ × Ty)
queue_after before key name q = option_or before (if bytes_eq key name then Some q else None)

abbrev pub has_diagram : BTreeSet ℕ → (diagram : ℕ) → Bool
has_diagram s d = contains nat_cmp s d

abbrev pub known_by : Table → QueueTable → Known
known_by m q = record { arities = arity_in m; queues = queue_at q }
