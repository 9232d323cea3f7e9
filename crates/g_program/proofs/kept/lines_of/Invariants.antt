use Rattle.std.proofs.Common.{◌≡◌, map, take}
use Rattle.g_program.proofs.kept.lines_of.Given as goal

abbrev pub invariant-loop-register : goal.invariant-loop-register
invariant-loop-register l = l.lines.items ≡ map (λ k. (k.space, k.line)) (take l.register-index l.kept)
