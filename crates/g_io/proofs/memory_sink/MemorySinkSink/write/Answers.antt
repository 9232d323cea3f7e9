use Rattle.std.proofs.Common.{rules, refl}
use Rattle.g_io.specs.Memory.{IsWriteFailing}
use Rattle.g_io.proofs.memory_sink.MemorySinkSink.write.Goals as goal
use Rattle.g_io.proofs.memory_sink.MemorySinkSink.write.Goals.{then-contains-via-then-contains, then-contains-via-else-contains+then-room-eq0}

pub returns-then-contains-clause-failing : goal.returns-then-contains-clause-failing
returns-then-contains-clause-failing c =
    let failing : IsWriteFailing c.args.self.now = elim c.then-contains.branch [
      | then-contains-via-then-contains w ↦ search rules
      | then-contains-via-else-contains+then-room-eq0 w ↦ search rules
    ] in
    (λ _. failing, λ _. refl)
