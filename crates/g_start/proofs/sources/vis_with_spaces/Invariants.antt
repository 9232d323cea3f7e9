use Rattle.std.proofs.Common.{◌≡◌, ◌||◌, ◌==◌, ℕ, drop}
use Rattle.std.specs.List.{list_any}
use Rattle.g_program.specs.Queues.{is_in}
use Rattle.g_start.proofs.sources.vis_with_spaces.Given as goal

abbrev pub invariant-loop-space : goal.invariant-loop-space
invariant-loop-space l = (v : ℕ) → (is_in l.vis v || list_any (λ s. s.vi == v) (drop l.space-index l.spaces)) ≡ list_any (λ s. s.vi == v) l.spaces
