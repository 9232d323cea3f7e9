-- Why a text is refused.
use Rattle.std.specs.Prelude.{ℕ, List, ⊤}
use Rattle.g_types.specs.declared.ty.Ty.{Ty}
use Rattle.g_valtext.specs.declared.text.ValueRefused.{ValueRefused}
use Rattle.g_valtext.specs.declared.text.ValueRefused.TheVariants.{NotOfType, Memory}
use Rattle.g_valtext.specs.Spellings.{IsNotOfType}

-- it is no text of a value of the type, unless memory was wanting
abbrev pub IsCause : Ty → List ℕ → ValueRefused → Type 0
IsCause t text (NotOfType byte) = IsNotOfType t text byte
IsCause t text (Memory e) = ⊤

-- memory was wanting
abbrev pub IsMemory : ValueRefused → Type 0
IsMemory (NotOfType byte) = ⊥
IsMemory (Memory e) = ⊤
