use Rattle.std.proofs.Common.{◌≡◌}
use Rattle.g_frames.specs.Fire.{registers_after}
use Rattle.g_states.proofs.changes.write_registers.Given as goal

abbrev pub invariant-loop-number : goal.invariant-loop-number
invariant-loop-number l = registers_after l.kept.items l.number-iterator.rest.items ≡ registers_after l.fn.kept.items l.fn.keeps
