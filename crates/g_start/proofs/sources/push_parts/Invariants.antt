use Rattle.std.proofs.Common.{◌≡◌, ◌++◌, map, drop}
use Rattle.g_diagram_table.specs.Seen.{seen_part}
use Rattle.g_start.proofs.sources.push_parts.Given as goal

abbrev pub invariant-loop-part : goal.invariant-loop-part
invariant-loop-part l = l.diagrams.items ++ map (λ p. p.body) (map seen_part (drop l.part-index l.parts)) ≡ l.fn.diagrams.items ++ map (λ p. p.body) (map seen_part l.parts)
