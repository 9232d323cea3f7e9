-- The words that a listing writes for operations, clones and systems.
use Rattle.std.specs.Prelude.{ℕ, List, [], ◌∷◌, ◌++◌, Option, Some, None, codes}
use Rattle.std.specs.Fmt.{decimal}
use Rattle.g_values.specs.declared.primitive.Primitive.{Primitive}
use Rattle.g_operations.specs.declared.shared.SharedOp.{SharedOp}
use Rattle.g_operations.specs.Rows.{primitive_row, shared_row}
use Rattle.g_diagram.specs.declared.hierarchy.Clones.{Clones}
use Rattle.g_diagram.specs.declared.hierarchy.Clones.TheVariants.{NonReentrant, Preallocated, Pool}
use Rattle.g_diagram.specs.declared.hierarchy.System.{System}
use Rattle.g_diagram.specs.declared.hierarchy.System.TheVariants as system

-- the word of an operation, from its row
abbrev pub primitive_word : Primitive → List ℕ
primitive_word p = (primitive_row p).word

-- a space and a number, where there is one
abbrev pub number_text : Option ℕ → List ℕ
number_text None = []
number_text (Some n) = 32 ∷ decimal n

-- `get` and `set` are followed by the number of their element
abbrev pub primitive_text : Primitive → List ℕ
primitive_text p = primitive_word p ++ number_text (primitive_row p).field

abbrev pub shared_text : SharedOp → List ℕ
shared_text o = (shared_row o).word

abbrev pub clones_word : Clones → List ℕ
clones_word NonReentrant = codes "nonreentrant"
clones_word Preallocated = codes "preallocated"
clones_word (Pool n) = codes "pool"

abbrev pub pool_size : Clones → Option ℕ
pool_size (Pool n) = Some n
pool_size NonReentrant = None
pool_size Preallocated = None

-- `pool` is followed by the number of its data spaces
abbrev pub clones_text : Clones → List ℕ
clones_text clones = clones_word clones ++ number_text (pool_size clones)

abbrev pub system_text : System → List ℕ
system_text system.Ui = codes "ui"
system_text system.Standard = codes "standard"
system_text system.Instrument = codes "instrument"
system_text system.Daq = codes "daq"
system_text system.Other1 = codes "other1"
system_text system.Other2 = codes "other2"
system_text system.Same = codes "same"
