use Rattle.std.proofs.Common.{ℕ, List, subst, ◌∙◌}
use Rattle.grun.specs.Answer.{reply}
use Rattle.grun.specs.Call.{Delivers, told}
use Rattle.grun.proofs.call.refuse_word.Goals as goal

pub returns-in-Ok-clause-refused : goal.returns-in-Ok-clause-refused
returns-in-Ok-clause-refused g c =
    told
    (subst (λ (text : List ℕ). Delivers (g.K.Sink.held c.args.sink.now) (g.K.Sink.held c.deliver.new.sink) (g.K.Sink.faults c.args.sink.now) (g.K.Sink.faults c.deliver.new.sink) (reply 1 text) c.deliver.result)
    (c.as_slice.ensures ∙ c.in-Ok.ensures) c.deliver.ensures.delivered)
