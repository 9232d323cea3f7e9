use Rattle.std.proofs.Common.{◌≡◌, ◌++◌, drop, map}
use Rattle.g_diagram_table.specs.Seen.{seen}
use Rattle.g_frames.specs.declared.state.Progress.TheVariants as progress
use Rattle.g_states.proofs.frames.idle.Given as goal

abbrev pub invariant-loop-entry : goal.invariant-loop-entry
invariant-loop-entry l = l.nodes.items ++ map (λ e. progress.Idle) (map seen (drop l._entry-index l.entries)) ≡ map (λ e. progress.Idle) (map seen l.entries)
