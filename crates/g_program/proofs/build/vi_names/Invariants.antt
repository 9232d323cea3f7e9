use Rattle.std.proofs.Common.{◌≡◌, ◌++◌, map, drop}
use Rattle.g_program.proofs.build.vi_names.Given as goal

abbrev pub invariant-loop-vi : goal.invariant-loop-vi
invariant-loop-vi l = map (λ n. n.now) l.names.items ++ map (λ vi. vi.name) (drop l.vi-index l.vis) ≡ map (λ vi. vi.name) l.vis
