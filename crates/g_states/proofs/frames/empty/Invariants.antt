use Rattle.std.proofs.Common.{◌≡◌, ◌++◌, drop}
use Rattle.g_frames.specs.State.{no_values}
use Rattle.g_states.proofs.frames.empty.Given as goal

abbrev pub invariant-loop-source : goal.invariant-loop-source
invariant-loop-source l = l.values.items ++ no_values (drop l._source-index l.sources) ≡ no_values l.sources
