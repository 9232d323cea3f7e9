-- What reading a whole input gives.
use Rattle.std.specs.Prelude.{◌≡◌, ℕ, ◌<◌, ◌≤◌, List, length, Option, Some, None, ⊤}
use Rattle.std.specs.Io.KnownBytes.{Consumes}

-- all that was left, where that is known
abbrev pub IsAllOf : List ℕ → Option (List ℕ) → Type 0
IsAllOf bytes None = ⊤
IsAllOf bytes (Some left) = left ≡ bytes

-- more was left than the limit, where that is known
abbrev pub IsLonger : Option (List ℕ) → ℕ → Type 0
IsLonger None limit = ⊤
IsLonger (Some left) limit = limit < length left

-- a front of some length was taken, where that is known
abbrev pub IsTaken : ℕ → Option (List ℕ) → Option (List ℕ) → Type 0
IsTaken n old new = (front : List ℕ) × (length front ≡ n) × Consumes old new front

-- a front no longer than the limit was taken, where that is known
abbrev pub IsTakenWithin : ℕ → Option (List ℕ) → Option (List ℕ) → Type 0
IsTakenWithin limit old new = (n : ℕ) × (n ≤ limit) × IsTaken n old new
