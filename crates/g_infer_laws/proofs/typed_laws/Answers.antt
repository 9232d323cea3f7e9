use Rattle.g_infer_laws.proofs.EachTyped.{each_wire_typed}
use Rattle.g_infer_laws.proofs.Laws.{each_read_wire_typed}
use Rattle.g_infer_laws.proofs.typed_laws.Goals as goal

pub returns-clause-each : goal.returns-clause-each
returns-clause-each c = each_wire_typed

pub returns-clause-read : goal.returns-clause-read
returns-clause-read c = each_read_wire_typed
