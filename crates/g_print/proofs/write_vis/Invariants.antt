use Rattle.std.proofs.Common.{◌≡◌, ◌++◌, ℕ, List, drop}
use Rattle.g_diagram.specs.Text as spec
use Rattle.g_print.proofs.write_vis.Given as goal

abbrev pub invariant-loop-vi : goal.invariant-loop-vi
invariant-loop-vi l = (rest : List ℕ) → l.page ++ spec.vis_text (drop l.vi-index l.vis) rest ≡ l.fn.page ++ spec.vis_text l.vis rest
