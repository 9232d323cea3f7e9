-- What an operation on a shared object gives and leaves.
use Rattle.std.specs.Prelude.{ℕ, List, Option, Some, pos}
use Rattle.g_types.specs.declared.rep.Rep.TheVariants.{I32}
use Rattle.g_values.specs.declared.value.Value.{Value}
use Rattle.g_values.specs.declared.value.Value.TheVariants as value
use Rattle.g_values.specs.Number.{num_of}
use Rattle.g_shared.specs.declared.reply.Reply.{Reply}

-- the reply, and the state of the object afterwards; none where the operation has to wait
abbrev pub Outcome : Type 0 → Type 0
Outcome S = Option (Reply × S)

abbrev pub reply_of : List Value → Reply
reply_of vs = record { values = vs; choice = 0 }

-- an operation that gives these values and leaves the object so
abbrev pub gives : {S : Type 0} → List Value → S → Outcome S
gives vs s = Some (reply_of vs, s)

-- a size or a code
abbrev pub count : ℕ → Value
count n = value.Num (num_of I32 (pos n))

-- the code of an operation: 0, and 1 where the reference isn't live
abbrev pub done : Value
done = count 0

abbrev pub not_live : Value
not_live = count 1
