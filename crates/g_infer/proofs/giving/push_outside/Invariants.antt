use Rattle.std.proofs.Common.{◌≡◌, ◌++◌, drop, map}
use Rattle.g_typing.specs.Typing.{lines_outside}
use Rattle.g_infer.specs.Given.{seen_given}
use Rattle.g_rules_types.specs.Known.{types_of}
use Rattle.g_infer.proofs.giving.push_outside.Given as goal

abbrev pub invariant-loop-tunnel : goal.invariant-loop-tunnel
invariant-loop-tunnel l =
    map seen_given l.givens.items ++ lines_outside (types_of l.types) l.ok l.outside l.inside (drop l.tunnel-index l.tunnels)
    ≡ map seen_given l.fn.givens.items ++ lines_outside (types_of l.types) l.ok l.outside l.inside l.tunnels
