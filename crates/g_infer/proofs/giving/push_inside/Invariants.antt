use Rattle.std.proofs.Common.{◌≡◌, ◌++◌, drop, map}
use Rattle.g_typing.specs.Typing.{lines_inside}
use Rattle.g_infer.specs.Given.{seen_given}
use Rattle.g_rules_types.specs.Known.{types_of}
use Rattle.g_infer.proofs.giving.push_inside.Given as goal

abbrev pub invariant-loop-tunnel : goal.invariant-loop-tunnel
invariant-loop-tunnel l =
    map seen_given l.givens.items ++ lines_inside (types_of l.types) l.outside l.inside l.before (drop l.tunnel-index l.tunnels)
    ≡ map seen_given l.fn.givens.items ++ lines_inside (types_of l.types) l.outside l.inside l.before l.tunnels
