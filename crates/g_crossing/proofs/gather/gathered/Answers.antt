use Rattle.std.proofs.Common.{◌∙◌}
use Rattle.g_crossing.proofs.OutsideLemmas.{gathered_frames}
use Rattle.g_crossing.proofs.gather.gathered.Goals as goal

pub returns-in_ok-array-in-Some : goal.returns-in_ok-array-in-Some
returns-in_ok-array-in-Some c =
    c.in_ok-array-in-Some.ensures ∙ gathered_frames c.args.ty c.in-Some.ty c.args.wire.now c.first.result.now c.args.inner.now c.in-Some.is c.first.ensures
