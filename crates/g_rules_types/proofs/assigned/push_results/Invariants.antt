use Rattle.std.proofs.Common.{◌≡◌, ◌++◌, drop, map}
use Rattle.g_diagram_table.specs.Seen.{seen_arm}
use Rattle.g_typing.specs.Assigned.{results_unlike}
use Rattle.g_rules_types.specs.Known.{types_of}
use Rattle.g_rules_types.proofs.assigned.push_results.Given as goal

abbrev pub invariant-loop-tunnel : goal.invariant-loop-tunnel
invariant-loop-tunnel l =
    l.places.items ++ results_unlike (types_of l.types) l.vi l.k (map seen_arm l.arms) (drop l.tunnel-index l.tunnels)
    ≡ l.fn.places.items ++ results_unlike (types_of l.types) l.vi 0 (map seen_arm l.arms) l.tunnels
