use Rattle.g_infer_laws.proofs.OwnGiven.{reads_own_lines}
use Rattle.g_infer_laws.proofs.own_lines_laws.Goals as goal

pub returns : goal.returns
returns c = reads_own_lines
