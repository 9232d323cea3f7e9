use Rattle.std.proofs.Common.{◌++◌, List, Option, map, ap, ◌∙◌}
use Rattle.std.proofs.lemmas.Result.{on_ok_weaker}
use Rattle.g_values.specs.declared.value.Value.{Value}
use Rattle.g_diagram.specs.Lines.{Entry}
use Rattle.g_frames.specs.Program.{vi_at}
use Rattle.g_frames.specs.Run.{frame_nodes, nodes_from}
use Rattle.g_vi_tables.specs.Tables.{reader_at}
use Rattle.g_run_ends.specs.Verdicts.{judged}
use Rattle.g_run_ends.proofs.ScanLemmas.{framed}
use Rattle.g_run_ends.proofs.scan.judge_frame.Goals as goal

pub returns-in-Some : goal.returns-in-Some
returns-in-Some c =
    on_ok_weaker c.judge_nodes.result
    (λ h p are. framed (judged p c.args.has_room c.args.state.now) (vi_at p c.args.frame.now.vi) c.in-Some.table.now (frame_nodes c.args.number c.args.frame.now)
    c.args.verdicts.now.items c.judge_nodes.new.verdicts.items (c.in-Some.ensures p are)
    (λ vi is. h p are vi (c.wires-wires.ensures vi is ∙ ap (λ (vs : List (Option Value)). reader_at vi c.args.frame.now.diagram vs) c.as_slice.ensures)
    ∙ ap (λ (es : List Entry). c.args.verdicts.now.items ++ map (judged p c.args.has_room c.args.state.now) (nodes_from c.args.number c.args.frame.now vi es c.args.frame.now.nodes))
    (c.entries-entries.ensures vi is)))
    c.judge_nodes.ensures
