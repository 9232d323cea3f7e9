use Rattle.std.proofs.Common.{◌<◌, refl, arith}
use Rattle.g_hier.specs.declared.linked.CallLine.{CallLine}
use Rattle.g_hier.proofs.Names.{all_more, all_of}
use Rattle.g_hier.proofs.outlines.are_below.Goals as goal

pub loop-call-preserved : goal.loop-call-preserved
loop-call-preserved c = all_more (λ (d : CallLine). d.vi < c.args.count) c.args.calls.now c.loop-call.call-index (record { line = 0; vi = 0 }) (omega arith) c.loop-call.invariant (omega arith)

pub returns : goal.returns
returns c = (λ e. all_of (λ (d : CallLine). d.vi < c.args.count) c.args.calls.now c.loop-call.call-index (omega arith) c.loop-call.invariant, λ h. refl)
