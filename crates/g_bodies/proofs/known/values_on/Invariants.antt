use Rattle.std.proofs.Common.{◌≡◌, ◌++◌, map, drop}
use Rattle.g_border.specs.Readers.{value_on}
use Rattle.g_frames.specs.Program.{FlatVi}
use Rattle.g_vi_tables.specs.Tables.{IsViTable}
use Rattle.g_bodies.specs.Known.{known_in}
use Rattle.g_bodies.proofs.known.values_on.Given as goal

abbrev pub invariant-loop-wire : goal.invariant-loop-wire
invariant-loop-wire l =
    (vi : FlatVi) → IsViTable vi l.table
    → l.values.items ++ map (value_on (known_in vi l.known l.diagram)) (drop l.wire-index l.wires) ≡ map (value_on (known_in vi l.known l.diagram)) l.wires
