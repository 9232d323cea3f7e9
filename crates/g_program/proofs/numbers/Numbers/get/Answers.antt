use Rattle.std.proofs.Common.{◌∙◌}
use Rattle.std.specs.Prelude.{Some, None}
use Rattle.g_program.proofs.NumberLemmas.{place-found}
use Rattle.g_program.proofs.numbers.Numbers.get.Goals as goal

pub returns-in-Some : goal.returns-in-Some
returns-in-Some g c = λ keys are.
    place-found g.K.Ord.cmp c.args.self.now.count c.args.key keys (Some c.in-Some.number.now) are.count_is (c.in-Some.ensures.value ∙ are.numbers_are c.args.key)

pub returns-in-None : goal.returns-in-None
returns-in-None g c = λ keys are.
    place-found g.K.Ord.cmp c.args.self.now.count c.args.key keys None are.count_is (c.in-None.ensures.value ∙ are.numbers_are c.args.key)
