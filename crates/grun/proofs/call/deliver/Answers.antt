-- proofs/call/deliver/Answers.antt
use Rattle.std.proofs.Common.{refl}
use Rattle.grun.specs.Call.{part}
use Rattle.grun.proofs.call.deliver.Goals as goal

pub returns-in-Err-clause-delivered : goal.returns-in-Err-clause-delivered
returns-in-Err-clause-delivered g c = part refl c.in-Err.ensures.cause c.in-Err.field-0.written c.in-Err.ensures.fewer c.in-Err.ensures.part
