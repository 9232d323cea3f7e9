-- The inputs that an operation takes, one after another, and the types that it gives.
use Rattle.std.specs.Prelude.{ℕ, Bool, true, false, List, [], ◌∷◌, ◌+◌, ◌&&◌, Option, Some, None, cond, nat_lt, nat_le, length}
use Rattle.std.specs.List.{list_all}
use Rattle.g_types.specs.declared.ty.Ty.{Ty}

-- No inputs go on from here. Or: the types that are given if there is no further input, and how it
-- goes on with a further one. Or: one to so many inputs, each of an allowed type.
pub data Row : Type 0 where
  Stops : Row
  Reads : Option (List Ty) → (Ty → Row) → Row
  Repeats : ℕ → (Ty → Bool) → (List Ty → List Ty) → Row

abbrev pub repeated : ℕ → (Ty → Bool) → (List Ty → List Ty) → List Ty → Option (List Ty)
repeated most allowed outs [] = None
repeated most allowed outs (t ∷ ts) = cond (nat_le (length (t ∷ ts)) most && list_all allowed (t ∷ ts)) (Some (outs (t ∷ ts))) None

-- the types that are given for the inputs
abbrev pub read : Row → List Ty → Option (List Ty)
read Stops ts = None
read (Reads outs next) [] = outs
read (Reads outs next) (t ∷ ts) = read (next t) ts
read (Repeats most allowed outs) ts = repeated most allowed outs ts

-- the first of repeated inputs, from k + 1 on, that is one too many, not allowed or missing
abbrev pub refused : ℕ → ℕ → (Ty → Bool) → List Ty → ℕ
refused k most allowed [] = k + 1
refused k most allowed (t ∷ ts) = cond (nat_lt k most && allowed t) (refused (k + 1) most allowed ts) (k + 1)

-- where k inputs stand before, the first input that no row goes on with, if there is no row: one
-- that is missing counts
abbrev pub place : ℕ → Row → List Ty → ℕ
place k Stops ts = k
place k (Reads outs next) [] = k + 1
place k (Reads outs next) (t ∷ ts) = place (k + 1) (next t) ts
place k (Repeats most allowed outs) ts = refused k (k + most) allowed ts

abbrev pub gives : List Ty → Row
gives outs = Reads (Some outs) (λ t. Stops)

abbrev pub another : (Ty → Row) → Row
another next = Reads None next

abbrev pub ends : Option (List Ty) → Row
ends None = Stops
ends (Some outs) = gives outs

abbrev pub given : Bool → Row → Row
given true row = row
given false row = Stops

-- one input, two and three, each of which has to be allowed after those before it
abbrev pub one : (Ty → Option (List Ty)) → Row
one outs = another (λ x. ends (outs x))

abbrev pub two : (Ty → Bool) → (Ty → Ty → Option (List Ty)) → Row
two first outs = another (λ x. given (first x) (another (λ y. ends (outs x y))))

abbrev pub three : (Ty → Bool) → (Ty → Ty → Bool) → (Ty → Ty → Ty → Option (List Ty)) → Row
three first second outs = another (λ x. given (first x) (another (λ y. given (second x y) (another (λ z. ends (outs x y z))))))
