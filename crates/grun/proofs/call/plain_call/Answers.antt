use Rattle.std.proofs.Common.{ℕ, List, map, subst}
use Rattle.std.specs.String.{string_bytes}
use Rattle.grun.specs.Answer.{reply}
use Rattle.grun.specs.Call.{Delivers, answered}
use Rattle.grun.proofs.Plain.{plain_found}
use Rattle.grun.proofs.call.plain_call.Goals as goal

pub returns-in-Ok-clause-ending : goal.returns-in-Ok-clause-ending
returns-in-Ok-clause-ending g c =
    answered (reply c.in-Ok.answer.status c.in-Ok.answer.text)
    (plain_found (map string_bytes c.args.words.now.items) _ _ _ c.in-Ok.answer.trace (reply c.in-Ok.answer.status c.in-Ok.answer.text) c.requires c.in-Ok.ensures.answer)
    (subst (λ (text : List ℕ). Delivers (g.K.Sink.held c.args.sink.now) (g.K.Sink.held c.deliver.new.sink) (g.K.Sink.faults c.args.sink.now) (g.K.Sink.faults c.deliver.new.sink) (reply c.in-Ok.answer.status text) c.deliver.result)
    c.as_slice.ensures c.deliver.ensures.delivered)
