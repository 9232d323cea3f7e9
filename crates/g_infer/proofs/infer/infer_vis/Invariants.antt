use Rattle.std.proofs.Common.{◌≡◌}
use Rattle.g_typing.specs.Typing.{called_panel}
use Rattle.g_infer.specs.Inferred.{Inferred}
use Rattle.g_infer.proofs.infer.infer_vis.Given as goal

abbrev pub invariant-loop-vi : goal.invariant-loop-vi
invariant-loop-vi l = record {
  number : l.number ≡ l.vi-index;
  inferred : Inferred (called_panel l.vis) l.vis l.vi-index l.found.vis.items l.found.breaks.items;
}
