use Rattle.g_prims_laws.proofs.RowOutputs.{gives_row}
use Rattle.g_prims_laws.proofs.laws.row_laws.Goals as goal

-- src/laws.rt:7:1
pub returns : goal.returns
returns c = gives_row
