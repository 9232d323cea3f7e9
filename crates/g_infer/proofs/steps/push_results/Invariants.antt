use Rattle.std.proofs.Common.{◌≡◌, ◌++◌, drop, map}
use Rattle.g_diagram_table.specs.Seen.{seen_arm}
use Rattle.g_infer.specs.Steps.{seen_step, results_forms}
use Rattle.g_infer.proofs.steps.push_results.Given as goal

abbrev pub invariant-loop-tunnel : goal.invariant-loop-tunnel
invariant-loop-tunnel l =
    map seen_step l.steps.items ++ results_forms l.outer l.number (map seen_arm l.arms) (drop l.tunnel-index l.lines)
    ≡ map seen_step l.fn.steps.items ++ results_forms l.outer 0 (map seen_arm l.arms) l.lines
