-- The nodes of the table, as the definitions have them.
use Rattle.std.specs.Prelude.{map}
use Rattle.std.specs.Option.{option_map}
use Rattle.g_diagram.specs.Lines as lines
use Rattle.g_diagram_table.specs.declared.entry.Arm.{Arm}
use Rattle.g_diagram_table.specs.declared.entry.Part.{Part}
use Rattle.g_diagram_table.specs.declared.entry.Entry.{Entry}
use Rattle.g_diagram_table.specs.declared.entry.Kind.{Kind}
use Rattle.g_diagram_table.specs.declared.entry.Kind.TheVariants.{Const, Apply, Shows, Shared, Obtain, Read, Write, Call, Loop, Case, Sequence, InPlace}

abbrev pub seen_arm : Arm → lines.Arm
seen_arm a = record { selectors = a.selectors.now; gives = a.gives.now; body = a.body }

abbrev pub seen_part : Part → lines.Part
seen_part p = record { lines = p.lines.now; body = p.body }

abbrev pub seen_kind : Kind → lines.Kind
seen_kind (Const ty literal out) = lines.Const ty.now literal.now out.now
seen_kind (Apply op inputs outputs) = lines.Apply op inputs.now outputs.now
seen_kind (Shows name ty input) = lines.Shows name.now ty.now input.now
seen_kind (Shared op inputs outputs) = lines.Shared op inputs.now outputs.now
seen_kind (Obtain queue size item out) = lines.Obtain queue.now size item.now out.now
seen_kind (Read object out) = lines.Read object.now out.now
seen_kind (Write object input) = lines.Write object.now input.now
seen_kind (Call vi inputs outputs) = lines.Call vi.now inputs.now outputs.now
seen_kind (Loop count stop iteration borders body) =
    lines.Loop (option_map (λ w. w.now) count) (option_map (λ w. w.now) stop) iteration.now borders.now body
seen_kind (Case selector borders arms) = lines.Case selector.now borders.now (map seen_arm arms.items)
seen_kind (Sequence parts) = lines.Sequence (map seen_part parts.items)
seen_kind (InPlace borders body finish) = lines.InPlace borders.now body finish

abbrev pub seen : Entry → lines.Entry
seen e = lines.entry e.line e.diagram (seen_kind e.kind)
