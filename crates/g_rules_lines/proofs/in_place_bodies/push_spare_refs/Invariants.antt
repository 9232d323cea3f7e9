use Rattle.std.proofs.Common.{◌≡◌, ◌++◌, map, drop}
use Rattle.g_rules_lines.specs.Spots.{break}
use Rattle.g_rules_lines.specs.InPlaceBodies as spec
use Rattle.g_rules_lines.proofs.in_place_bodies.push_spare_refs.Given as goal

abbrev pub invariant-loop-tunnel : goal.invariant-loop-tunnel
invariant-loop-tunnel l = l.breaks.items ++ map (break l.vi 12) (spec.spare_refs l.line l.allowed (drop l.tunnel-index l.lines)) ≡ l.fn.breaks.items ++ map (break l.vi 12) (spec.spare_refs l.first l.is_one_allowed l.lines)
