use Rattle.std.proofs.Common.{◌≡◌, ◌++◌, map, drop}
use Rattle.g_frames.specs.Program.{Program}
use Rattle.g_frames.specs.Run.{all_nodes, nodes_of_frames}
use Rattle.g_program.specs.Tables.{IsTableOf}
use Rattle.g_run_ends.specs.Verdicts.{judged}
use Rattle.g_run_ends.proofs.scan.judge_all.Given as goal

abbrev pub invariant-loop-number : goal.invariant-loop-number
invariant-loop-number l =
    (p : Program) → IsTableOf p l.tables
    → l.verdicts.items ++ map (judged p l.has_room l.state) (nodes_of_frames p l.number (drop l.number l.state.frames)) ≡ map (judged p l.has_room l.state) (all_nodes p l.state)
