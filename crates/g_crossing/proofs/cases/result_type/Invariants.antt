use Rattle.std.proofs.Common.{◌≡◌, map, drop}
use Rattle.g_diagram_table.specs.Seen.{seen_arm}
use Rattle.g_frames.specs.Program.{FlatVi}
use Rattle.g_typing.specs.Typing as typing
use Rattle.g_vi_tables.specs.Tables.{IsViTable}
use Rattle.g_crossing.proofs.cases.result_type.Given as goal

abbrev pub invariant-loop-arm : goal.invariant-loop-arm
invariant-loop-arm l = (vi : FlatVi) → IsViTable vi l.table → typing.result_type vi.types l.k (map seen_arm (drop l.arm-index l.arms)) ≡ typing.result_type vi.types l.k (map seen_arm l.arms)
