use Rattle.std.proofs.Common.{◌≡◌, ◌||◌, ℕ, drop}
use Rattle.g_hier.specs.LinkOrder.{has_vi}
use Rattle.g_program.specs.Queues.{is_in}
use Rattle.g_program.proofs.queues.vis_among.Given as goal

abbrev pub invariant-loop-vi : goal.invariant-loop-vi
invariant-loop-vi l = (v : ℕ) → (is_in l.vis v || has_vi (drop l.vi-index l.order) v) ≡ has_vi l.order v
