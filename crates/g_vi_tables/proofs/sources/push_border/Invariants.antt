use Rattle.std.proofs.Common.{◌≡◌, ◌++◌, map, drop}
use Rattle.g_vi_tables.specs.Sources.{seen, border_all}
use Rattle.g_vi_tables.proofs.sources.push_border.Given as goal

abbrev pub invariant-loop-tunnel : goal.invariant-loop-tunnel
invariant-loop-tunnel l = map seen l.sources.items ++ border_all l.outside l.inside l.line (drop l.tunnel-index l.lines) ≡ map seen l.fn.sources.items ++ border_all l.outside l.inside l.first l.lines
