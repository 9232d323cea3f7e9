use Rattle.std.proofs.Common.{◌≡◌, ◌++◌, map, drop}
use Rattle.g_frames.specs.Program.{FlatVi}
use Rattle.g_vi_tables.specs.Tables.{IsViTable}
use Rattle.g_start.specs.Sources.{sources_of}
use Rattle.g_start.proofs.sources.push_vi_sources.Given as goal

abbrev pub invariant-loop-diagram : goal.invariant-loop-diagram
invariant-loop-diagram l =
    (vi : FlatVi) → IsViTable vi l.table → l.sources.items ++ map (sources_of l.number vi) (drop l.diagram-index l.diagram-items) ≡ l.fn.sources.items ++ map (sources_of l.number vi) l.diagram-items
