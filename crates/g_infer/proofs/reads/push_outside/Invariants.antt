use Rattle.std.proofs.Common.{◌≡◌, ◌++◌, drop, map}
use Rattle.g_typing.proofs.Local.{all_outside_reads}
use Rattle.g_infer.specs.Reads.{all_named, seen_read}
use Rattle.g_infer.proofs.reads.push_outside.Given as goal

abbrev pub invariant-loop-tunnel : goal.invariant-loop-tunnel
invariant-loop-tunnel l = map seen_read l.reads.items ++ all_named (all_outside_reads l.outer l.inner (drop l.tunnel-index l.lines)) ≡ map seen_read l.fn.reads.items ++ all_named (all_outside_reads l.outer l.inner l.lines)
