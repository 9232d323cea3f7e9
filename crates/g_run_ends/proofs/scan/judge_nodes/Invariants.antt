use Rattle.std.proofs.Common.{◌≡◌, ◌++◌, map, drop}
use Rattle.g_diagram_table.specs.Seen.{seen}
use Rattle.g_frames.specs.Program.{FlatVi, Program}
use Rattle.g_frames.specs.Run.{nodes_from}
use Rattle.g_frames.specs.State.{reader_in}
use Rattle.g_program.specs.Tables.{IsTableOf}
use Rattle.g_wire_values.specs.Wires.{reader}
use Rattle.g_run_ends.specs.Verdicts.{judged}
use Rattle.g_run_ends.proofs.scan.judge_nodes.Given as goal

abbrev pub invariant-loop-at : goal.invariant-loop-at
invariant-loop-at l =
    (p : Program) → IsTableOf p l.tables → (vi : FlatVi) → reader l.wires ≡ reader_in vi l.frame
    → l.verdicts.items ++ map (judged p l.has_room l.state) (nodes_from l.number l.frame vi (map seen (drop l.at l.entries)) (drop l.at l.frame.nodes))
    ≡ l.fn.verdicts.items ++ map (judged p l.has_room l.state) (nodes_from l.number l.frame vi (map seen l.entries) l.frame.nodes)
