use Rattle.std.proofs.Common.{◌≡◌, ℕ, drop, map}
use Rattle.std.specs.Prelude.{if◌then◌else◌, Some}
use Rattle.g_diagram_table.specs.Seen as table
use Rattle.g_diagram_ports.specs.Branches.{case_at}
use Rattle.g_diagram_ports.specs.Tunnels.{is_arm}
use Rattle.g_diagram_ports.proofs.branches.add_branches.Given as goal

abbrev pub invariant-loop-arm : goal.invariant-loop-arm
invariant-loop-arm l = (d : ℕ) →
    (if is_arm (map table.seen_arm (drop l.arm-index l.arms)) d then Some l.case else case_at l.branches d)
    ≡ (if is_arm (map table.seen_arm l.arms) d then Some l.case else case_at l.fn.branches d)
