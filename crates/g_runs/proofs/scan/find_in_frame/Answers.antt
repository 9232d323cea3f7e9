use Rattle.std.proofs.Common.{map}
use Rattle.std.proofs.lemmas.Result.{IfOk-weaker}
use Rattle.g_diagram_table.specs.Seen.{seen}
use Rattle.g_frames.specs.Program.{vi_at}
use Rattle.g_runs.proofs.ScanLemmas.{in_frame}
use Rattle.g_runs.proofs.scan.find_in_frame.Goals as goal

pub returns : goal.returns
returns c =
    IfOk-weaker c.find_among.result _ _
    (λ found h p are. in_frame p c.args.has_room c.args.state.now c.args.number c.args.frame.now (vi_at p c.args.frame.now.vi) c.in-Some.table.now
    (map seen c.entries-entries.result.now) found (c.in-Some.ensures p are) (λ vi is. c.entries-entries.ensures vi is) (h p are))
    c.find_among.ensures
