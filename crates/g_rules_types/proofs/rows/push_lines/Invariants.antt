use Rattle.std.proofs.Common.{◌≡◌, ◌++◌, drop}
use Rattle.g_typing.specs.Rows.{lines_miss}
use Rattle.g_rules_types.specs.Known.{types_of}
use Rattle.g_rules_types.proofs.rows.push_lines.Given as goal

abbrev pub invariant-loop-tunnel : goal.invariant-loop-tunnel
invariant-loop-tunnel l =
    l.places.items ++ lines_miss (types_of l.types) l.vi l.outside l.inside l.line (drop l.tunnel-index l.tunnels)
    ≡ l.fn.places.items ++ lines_miss (types_of l.types) l.vi l.outside l.inside l.first l.tunnels
