-- Inner: that the reference which a node uses names an object, if it names any.
use Rattle.std.specs.Prelude.{ℕ, ◌+◌, List, map, Option, Some, None}
use Rattle.g_values.specs.declared.value.Value.{Value, out-Value}
use Rattle.g_values.specs.declared.value.Value.TheOpen.{Value-F}
use Rattle.g_diagram.specs.Lines.{Kind, Const, Apply, Shows, Shared, Obtain, Read, Write, Call, Loop, Case, Sequence, InPlace}
use Rattle.g_border.specs.Readers.{Reader, value_on}
use Rattle.g_border.specs.Lines.{Reference, reference_in}
use Rattle.g_frames.specs.Contents.{Content}
use Rattle.g_frames.specs.Operations.{input_at}
use Rattle.g_effects.specs.Needs.{NamesObject, NamesObjectIn}

abbrev pub NamesCell : List Content → Value-F Value → Type 0
NamesCell objects (Value-F.Cell c) = NamesObject objects c.at
NamesCell objects _ = Unit {0}

abbrev pub NamesPlace : List Content → Reader → Option Reference → Type 0
NamesPlace objects outer None = Unit {0}
NamesPlace objects outer (Some r) = NamesCell objects (out-Value (value_on outer r.from))

abbrev pub NamesOf : List Content → Reader → (line : ℕ) → Kind → Type 0
NamesOf objects outer l (Const t literal out) = Unit {0}
NamesOf objects outer l (Apply op inputs outputs) = Unit {0}
NamesOf objects outer l (Shows name t w) = Unit {0}
NamesOf objects outer l (Shared op inputs outputs) = NamesObjectIn objects (out-Value (input_at (map (value_on outer) inputs) 0))
NamesOf objects outer l (Obtain name size item out) = Unit {0}
NamesOf objects outer l (Read name out) = Unit {0}
NamesOf objects outer l (Write name w) = Unit {0}
NamesOf objects outer l (Call name inputs outputs) = Unit {0}
NamesOf objects outer l (Loop count stop i lines body) = Unit {0}
NamesOf objects outer l (Case w lines arms) = Unit {0}
NamesOf objects outer l (Sequence parts) = Unit {0}
NamesOf objects outer l (InPlace lines body finish) = NamesPlace objects outer (reference_in (l + 1) lines)
