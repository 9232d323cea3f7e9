use Rattle.std.proofs.Common.{◌∙◌, ap}
use Rattle.g_vi_tables.specs.Tables.{reader_at}
use Rattle.g_here.proofs.here.Here.wires_in.Goals as goal

-- src/here.rt:39:5
pub returns : goal.returns
returns c h is = c.wires.ensures h.vi is.table_is ∙ ap (λ vs. reader_at h.vi c.args.frame.now.diagram vs) c.as_slice-values.ensures
