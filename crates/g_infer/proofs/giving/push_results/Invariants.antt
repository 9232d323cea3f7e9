use Rattle.std.proofs.Common.{◌≡◌, ◌++◌, drop, map}
use Rattle.g_diagram_table.specs.Seen.{seen_arm}
use Rattle.g_infer.specs.Given.{seen_given}
use Rattle.g_rules_types.specs.Known.{types_of}
use Rattle.g_typing.specs.Typing.{results_given}
use Rattle.g_infer.proofs.giving.push_results.Given as goal

abbrev pub invariant-loop-tunnel : goal.invariant-loop-tunnel
invariant-loop-tunnel l =
    map seen_given l.givens.items ++ results_given (types_of l.types) l.outside l.k (map seen_arm l.arms) (drop l.tunnel-index l.tunnels)
    ≡ map seen_given l.fn.givens.items ++ results_given (types_of l.types) l.outside 0 (map seen_arm l.arms) l.tunnels
