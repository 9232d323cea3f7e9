use Rattle.std.proofs.Common.{ℕ, List, subst}
use Rattle.grun.specs.Answer.{reply}
use Rattle.grun.specs.Call.{Delivers, answered}
use Rattle.grun.proofs.call.grun_call.Goals as goal

pub returns-clause-ending : goal.returns-clause-ending
returns-clause-ending g c =
    answered (reply c.in-Ok.answer.status c.in-Ok.answer.text) c.in-Ok.ensures.answer
    (subst (λ (text : List ℕ). Delivers (g.K.Sink.held c.args.sink.now) (g.K.Sink.held c.deliver.new.sink) (g.K.Sink.faults c.args.sink.now) (g.K.Sink.faults c.deliver.new.sink) (reply c.in-Ok.answer.status text) c.deliver.result)
    c.as_slice.ensures c.deliver.ensures.delivered)
