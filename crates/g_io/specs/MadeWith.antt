-- What a sink was made with.
use Rattle.std.specs.Prelude.{ℕ, List}

-- the numbers of the calls that fail, and the length of the room
pub record MadeWith : Type 0 where
  pub fails : List ℕ
  pub room : ℕ
