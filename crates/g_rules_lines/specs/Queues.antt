-- Rule 14: each `obtain` that differs in size or type from the first with its name, in the listing's order.
use Rattle.std.specs.Prelude.{ℕ, Bool, false, not, ◌&&◌, List, [], ◌∷◌, map, filter, if◌then◌else◌, Option, Some, None, ℤ}
use Rattle.std.specs.List.{list_any, flat_map}
use Rattle.std.specs.Option.{option_or}
use Rattle.std.specs.Ordering.{int_eq}
use Rattle.std.specs.Str.{bytes_eq}
use Rattle.g_types.specs.declared.ty.Ty.{Ty}
use Rattle.g_types.specs.Same.{same_type}
use Rattle.g_diagram.specs.declared.hierarchy.Vi.{Vi}
use Rattle.g_diagram.specs.Lines.{Entry, Kind, Const, Apply, Shows, Shared, Obtain, Read, Write, Call, Loop, Case, Sequence, InPlace, entries_of}
use Rattle.g_rules_lines.specs.Spots.{Spot, whole}

pub record Queue : Type 0 where
  pub name : List ℕ
  pub size : ℤ
  pub item : Ty

abbrev pub queue_in : Kind → List Queue
queue_in (Const t literal out) = []
queue_in (Apply op inputs outputs) = []
queue_in (Shows name t w) = []
queue_in (Shared op inputs outputs) = []
queue_in (Obtain queue size item out) = record { name = queue; size = size; item = item } ∷ []
queue_in (Read object out) = []
queue_in (Write object input) = []
queue_in (Call vi inputs outputs) = []
queue_in (Loop count stop iteration lines body) = []
queue_in (Case selector lines arms) = []
queue_in (Sequence parts) = []
queue_in (InPlace lines body finish) = []

abbrev pub queues_in : List Entry → List Queue
queues_in es = flat_map (λ e. queue_in e.kind) es

abbrev pub all_queues : List Vi → List Queue
all_queues vis = flat_map (λ vi. queues_in (entries_of vi)) vis

-- the size and the type of the first queue of a name
abbrev pub Queues : Type 0
Queues = List ℕ → Option (ℤ × Ty)

abbrev pub first_queue : List Queue → Queues
first_queue [] name = None
first_queue (q ∷ qs) name = option_or (if bytes_eq q.name name then Some (q.size, q.item) else None) (first_queue qs name)

abbrev pub differs : Option (ℤ × Ty) → ℤ → Ty → Bool
differs None size t = false
differs (Some q) size t = not (int_eq q.0 size && same_type q.1 t)

abbrev pub is_unequal : Queues → Kind → Bool
is_unequal known kind = list_any (λ q. differs (known q.name) q.size q.item) (queue_in kind)

abbrev pub unequal : Queues → List Entry → List Spot
unequal known es = map whole (filter (λ e. is_unequal known e.kind) es)
