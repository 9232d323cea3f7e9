use Rattle.std.proofs.Common.{◌≡◌, ◌++◌, map, drop}
use Rattle.g_bodies.specs.Known.{found}
use Rattle.g_bodies.proofs.known.values_at.Given as goal

abbrev pub invariant-loop-source : goal.invariant-loop-source
invariant-loop-source l = l.values.items ++ map (found l.known) (drop l.source-index l.sources) ≡ map (found l.known) l.sources
