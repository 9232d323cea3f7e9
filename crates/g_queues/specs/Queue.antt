-- What holds of every queue, and its references.
use Rattle.std.specs.Prelude.{ℕ, ℤ, Bool, true, false, List, [], Option, Some, None}
use Rattle.std.specs.List.{All}
use Rattle.g_types.specs.declared.ty.Ty.{Ty}
use Rattle.g_types.specs.declared.ty.Ty.TheVariants as ty
use Rattle.g_values.specs.declared.value.Value.{Value}
use Rattle.g_values.specs.declared.value.Value.TheVariants as value
use Rattle.g_values.specs.Spelled.{IsSpelled}
use Rattle.g_values.specs.Typed.{IsOfType}
use Rattle.g_shared.specs.Queues.{QueueState, IsSize}

-- items while the queue is live
abbrev pub held : (is_live : Bool) → List Value → Option (List Value)
held true items = Some items
held false items = None

-- the items, which are none where the queue isn't live
abbrev pub items_in : Option (List Value) → List Value
items_in None = []
items_in (Some items) = items

-- the reference with a serial
abbrev pub reference : QueueState → (serial : ℕ) → Value
reference q serial = value.Queue (record { elem = q.item; at = Some (record { object = q.object; serial = serial }) })

-- its items are proper values of its item type
pub record IsQueue (item : Ty) (size : ℤ) (items : Option (List Value)) : Type 0 where
  pub spelled : IsSpelled (ty.QueueRef item)
  pub bounded : IsSize size
  pub typed : All (IsOfType item) (items_in items)
