-- What a panel needs of an operation.
use Rattle.g_values.specs.Proper.{IsProper}
use Rattle.g_shared.specs.declared.operations.PanelOp.{PanelOp}
use Rattle.g_shared.specs.declared.operations.PanelOp.TheVariants.{Enter, Leave, Read, Write}

-- a value that is written is proper; those of an opening are, as any list of values
abbrev pub WritesProper : PanelOp → Type 0
WritesProper (Enter vs) = Unit {0}
WritesProper Leave = Unit {0}
WritesProper (Read k) = Unit {0}
WritesProper (Write k v) = IsProper v
