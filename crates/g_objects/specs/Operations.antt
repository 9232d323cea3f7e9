-- Operations on shared objects: when they can be done, and what is done, with a choice or without one.
use Rattle.std.specs.Prelude.{◌≡◌, ◌<◌, ℕ, true, List, Option, Some, None, is_some}
use Rattle.g_values.specs.declared.value.Value.{Value}
use Rattle.g_values.specs.Typed.{IsOfType}
use Rattle.g_shared.specs.declared.reply.Reply.{Reply}
use Rattle.g_shared.specs.Outcome.{Outcome}
use Rattle.g_shared.specs.Queues.{IsQueueOp}
use Rattle.g_shared.specs.Cells.{Body, IsRefOp}
use Rattle.g_frames.specs.Contents as content
use Rattle.g_frames.specs.Contents.{Content, object_step}
use Rattle.g_frames.specs.Effects.{no_body}
use Rattle.g_panels.specs.Panel.{WritesProper}
use Rattle.g_refs.specs.Cell.{value_for}
use Rattle.g_objects.specs.declared.operation.Operation.{Operation}
use Rattle.g_objects.specs.declared.operation.Operation.TheVariants.{OnPanel, OnQueue, OnCell, OnPool}

-- the operation as the machine speaks of it
abbrev pub operation_of : Operation → content.Operation
operation_of (OnPanel o) = content.OnPanel o
operation_of (OnQueue o) = content.OnQueue o
operation_of (OnCell o) = content.OnCell o
operation_of (OnPool o) = content.OnPool o

-- the reply and the object afterwards, where the operation can be done. The choice is the clone that a pool's enter takes
abbrev pub step : Content → Operation → (choice : ℕ) → Outcome Content
step c o choice = object_step c (operation_of o) choice no_body

-- an operation with values that its object can have. One of another kind than the object's can have any, since it isn't done
abbrev pub IsOperation : Content → Operation → Type 0
IsOperation (content.Panel s) (OnPanel o) = WritesProper o
IsOperation (content.Queue s) (OnQueue o) = IsQueueOp s.item o
IsOperation (content.Cell s) (OnCell o) = IsRefOp s.content o
IsOperation _ _ = Unit {0}

-- ---- with a choice or without one

-- what is done: with a choice that clone is given, without one the reply's
abbrev pub Gives : (choice : Option ℕ) → (old : Content) → Operation → Reply → (new : Content) → Type 0
Gives (Some k) old o reply new = step old o k ≡ Some (reply, new)
Gives None old o reply new = step old o reply.choice ≡ Some (reply, new)

-- what has to wait: with a choice for that clone, without one for each
abbrev pub Waits : (choice : Option ℕ) → Content → Operation → Type 0
Waits (Some k) c o = step c o k ≡ None
Waits None c o = (k : ℕ) → step c o k ≡ None

-- what needn't wait
abbrev pub CanGive : (choice : Option ℕ) → Content → Operation → Type 0
CanGive (Some k) c o = is_some (step c o k) ≡ true
CanGive None c o = (k : ℕ) × (is_some (step c o k) ≡ true)

-- a clone that is taken has a number below 64; no other operation takes one
abbrev pub IsClone : Operation → Reply → Type 0
IsClone (OnPool o) reply = reply.choice < 64
IsClone (OnPanel o) reply = Unit {0}
IsClone (OnQueue o) reply = Unit {0}
IsClone (OnCell o) reply = Unit {0}

-- ---- operations in place

-- what the body gets by a reference, where the object is a value that references name
abbrev pub given_to : Content → (serial : ℕ) → Option Value
given_to (content.Cell s) n = Some (value_for s n)
given_to _ n = None

-- the object is a value that references name, and takes this one
abbrev pub TakesPlace : Content → Value → Type 0
TakesPlace (content.Cell s) v = IsOfType s.content v
TakesPlace _ v = ⊥

-- the operation, with whatever body and inputs, whose body makes this value and these outputs of what it gets
abbrev pub Places : (old : Content) → (serial : ℕ) → Value → (outputs : List Value) → Reply → (new : Content) → Type 0
Places old n v outputs reply new =
    (given : Value) (inputs : List Value) (body : Body) → given_to old n ≡ Some given → body given inputs ≡ (v, outputs) →
    object_step old (content.InPlace n inputs) 0 body ≡ Some (reply, new)
