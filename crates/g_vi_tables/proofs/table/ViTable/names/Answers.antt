use Rattle.std.proofs.Common.{ap, ◌∙◌}
use Rattle.g_wire_values.specs.Wires.{reader_by}
use Rattle.g_vi_tables.specs.Tables.{names_at, numbers_or_none}
use Rattle.g_vi_tables.proofs.PlaceLemmas.{reader_is, numbers_of}
use Rattle.g_vi_tables.proofs.table.ViTable.names.Goals as goal

pub returns : goal.returns
returns c = λ vi is values.
    ap (λ ns. reader_by ns values) (numbers_of c.get.result ∙ ap numbers_or_none c.get.ensures.value)
    ∙ reader_is vi c.args.diagram (names_at c.args.self.now.names c.args.diagram) (is.names_are c.args.diagram) values
