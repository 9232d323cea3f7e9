use Rattle.std.proofs.Common.{◌≡◌}
use Rattle.g_frames.specs.Program.{FlatVi}
use Rattle.g_frames.specs.State.{sources_in, with_given}
use Rattle.g_vi_tables.specs.Tables.{IsViTable}
use Rattle.g_states.proofs.frames.give.Given as goal

abbrev pub invariant-loop-source : goal.invariant-loop-source
invariant-loop-source l =
    (flat : FlatVi) → IsViTable flat l.table → with_given (sources_in l.diagram flat.ports) l.values l.source-iterator.rest.items ≡ with_given (sources_in l.diagram flat.ports) l.fn.values l.fn.given
