use Rattle.std.proofs.Common.{◌∙◌, ap}
use Rattle.g_wire_values.specs.Names.{add_name}
use Rattle.g_vi_tables.specs.Tables.{numbers_or_none}
use Rattle.g_vi_tables.proofs.Growing.{names_more}
use Rattle.g_vi_tables.proofs.names.add_name.Goals as goal

pub returns : goal.returns
returns c =
    names_more c.args.names.now c.remove.new.self c.insert.new.self c.args.diagram c.add.new.self c.args.name.now c.args.place c.remove.ensures.updates.0 c.in_ok-insert.ensures.updates.0
    (c.in_ok-add.ensures ∙ ap (λ ns. add_name ns c.args.name.now c.args.place) (c.names_or_none-of_diagram.ensures ∙ ap numbers_or_none c.remove.ensures.value))
