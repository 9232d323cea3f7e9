use Rattle.std.proofs.Common.{ap, ◌∙◌}
use Rattle.g_wire_values.specs.Names.{named}
use Rattle.g_vi_tables.specs.Tables.{numbers_or_none}
use Rattle.g_vi_tables.proofs.table.ViTable.named_place.Goals as goal

pub returns-in-Some : goal.returns-in-Some
returns-in-Some c = λ vi is.
    c.find.ensures ∙ ap (λ o. named (numbers_or_none o) c.args.name.now) c.in-Some.ensures.value ∙ is.names_are c.args.diagram c.args.name.now

pub returns-in-None : goal.returns-in-None
returns-in-None c = λ vi is. ap (λ o. named (numbers_or_none o) c.args.name.now) c.in-None.ensures.value ∙ is.names_are c.args.diagram c.args.name.now
