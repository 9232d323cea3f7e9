-- What a word names: the operation whose row has it.
use Rattle.std.specs.Prelude.{◌≡◌, ℕ, List, [], ◌∷◌, Option, Some, None, map, nat_le, if◌then◌else◌}
use Rattle.std.specs.Str.{bytes_eq}
use Rattle.g_values.specs.declared.primitive.Primitive.{Primitive}
use Rattle.g_values.specs.declared.primitive.Primitive.TheVariants as primitive
use Rattle.g_operations.specs.declared.shared.SharedOp.{SharedOp}
use Rattle.g_operations.specs.Rows.{OperationRow, primitive_row, shared_row}
use Rattle.g_listing_words.specs.declared.Operation.{Operation}
use Rattle.g_listing_words.specs.declared.Operation.TheVariants.{Apply, Get, Set, Shared}
use Rattle.g_listing_words.specs.declared.TheConstants.{OPERATIONS}

-- what a word means by a table
abbrev pub lookup : {A : Type 0} → List (List ℕ × A) → List ℕ → Option A
lookup [] w = None
lookup (row ∷ rows) w = if bytes_eq w row.0 then Some row.1 else lookup rows w

-- the row of `get` and `set` is the one of any element, but for its number
abbrev pub operation_row : Operation → OperationRow
operation_row (Apply p) = primitive_row p
operation_row Get = primitive_row (primitive.Get 0)
operation_row Set = primitive_row (primitive.Set 0)
operation_row (Shared o) = shared_row o

-- the words of these operations
abbrev pub words_of : List Operation → List (List ℕ × Operation)
words_of = map (λ o. ((operation_row o).word, o))

unfoldable pub operation_of : List ℕ → Option Operation
operation_of w = lookup (words_of OPERATIONS) w

abbrev pub in_version : ℕ → Option Operation → Option Operation
in_version v None = None
in_version v (Some o) = if nat_le (operation_row o).since v then Some o else None

-- the operation that a word names in listings of this version
abbrev pub operation_named : ℕ → List ℕ → Option Operation
operation_named v w = in_version v (operation_of w)

-- ---- none is forgotten

-- each operation's word names it
pub record AreNamed : Type 0 where
  pub primitives : (p : Primitive) → (primitive_row p).field ≡ None → operation_of (primitive_row p).word ≡ Some (Apply p)
  pub get : (k : ℕ) → operation_of (primitive_row (primitive.Get k)).word ≡ Some Get
  pub set : (k : ℕ) → operation_of (primitive_row (primitive.Set k)).word ≡ Some Set
  pub shared : (o : SharedOp) → operation_of (shared_row o).word ≡ Some (Shared o)
