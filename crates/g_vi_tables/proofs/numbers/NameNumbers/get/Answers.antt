use Rattle.std.proofs.Common.{◌∙◌}
use Rattle.std.specs.Prelude.{Some, None}
use Rattle.g_vi_tables.proofs.NumberLemmas.{place-found}
use Rattle.g_vi_tables.proofs.numbers.NameNumbers.get.Goals as goal

pub returns-in-Some : goal.returns-in-Some
returns-in-Some c = λ names are.
    place-found c.args.self.now.count c.args.name.now names (Some c.in-Some.number.now) are.count_is (c.in-Some.ensures.value ∙ are.numbers_are c.args.name.now)

pub returns-in-None : goal.returns-in-None
returns-in-None c = λ names are.
    place-found c.args.self.now.count c.args.name.now names None are.count_is (c.in-None.ensures.value ∙ are.numbers_are c.args.name.now)
