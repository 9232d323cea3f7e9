use Rattle.g_prims_evaluation.proofs.InputLemmas.{in_order}
use Rattle.g_prims_evaluation.proofs.values.evaluate.Goals as goal

pub by_count-requires : goal.by_count-requires
by_count-requires c = record {
  bundle = c.in_default.not-Bundle;
  row = c.requires.row;
  order = in_order c.args.primitive.now c.args.ins.now c.requires.proper c.requires.row;
}
