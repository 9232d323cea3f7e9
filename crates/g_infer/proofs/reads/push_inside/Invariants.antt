use Rattle.std.proofs.Common.{◌≡◌, ◌++◌, drop, map}
use Rattle.g_typing.proofs.Local.{all_inside_reads}
use Rattle.g_infer.specs.Reads.{all_named, seen_read}
use Rattle.g_infer.proofs.reads.push_inside.Given as goal

abbrev pub invariant-loop-tunnel : goal.invariant-loop-tunnel
invariant-loop-tunnel l = map seen_read l.reads.items ++ all_named (all_inside_reads l.outer l.before (drop l.tunnel-index l.lines)) ≡ map seen_read l.fn.reads.items ++ all_named (all_inside_reads l.outer l.before l.lines)
