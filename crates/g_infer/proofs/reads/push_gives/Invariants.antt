use Rattle.std.proofs.Common.{◌≡◌, ◌++◌, drop, map}
use Rattle.g_diagram_table.specs.Seen.{seen_arm}
use Rattle.g_typing.proofs.Local.{result_reads}
use Rattle.g_infer.specs.Reads.{all_named, seen_read}
use Rattle.g_infer.proofs.reads.push_gives.Given as goal

abbrev pub invariant-loop-arm : goal.invariant-loop-arm
invariant-loop-arm l = map seen_read l.reads.items ++ all_named (result_reads l.number (map seen_arm (drop l.arm-index l.arms))) ≡ map seen_read l.fn.reads.items ++ all_named (result_reads l.number (map seen_arm l.arms))
