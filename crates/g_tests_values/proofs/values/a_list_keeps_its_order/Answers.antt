use Rattle.std.proofs.Common.{true}
use Rattle.g_values.proofs.ProperLemmas.{proper_bool, proper_num}
use Rattle.g_tests_values.proofs.values.a_list_keeps_its_order.Goals as goal

pub push-requires : goal.push-requires
push-requires g c = proper_bool true

pub push-requires-2 : goal.push-requires-2
push-requires-2 g c = proper_num c.wrapped.result
