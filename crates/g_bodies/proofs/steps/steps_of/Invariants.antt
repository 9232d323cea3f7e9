use Rattle.std.proofs.Common.{◌≡◌, ◌++◌, ℕ, map, drop}
use Rattle.g_border.specs.Bodies as bodies
use Rattle.g_border.specs.Bodies.{Readers}
use Rattle.g_diagram_table.specs.Seen.{seen}
use Rattle.g_typing.specs.Types.{Types}
use Rattle.g_bodies.specs.Steps.{step_of, AllFit, NodesFit}
use Rattle.g_bodies.proofs.steps.steps_of.Given as goal

abbrev pub invariant-loop-entry : goal.invariant-loop-entry
invariant-loop-entry l = record {
  steps : (types : Types) → map (step_of types) l.steps.items ++ bodies.steps_of types (map seen (drop l.entry-index l.entries)) ≡ bodies.steps_of types (map seen l.entries);
  fits : (r : ℕ → Readers) → NodesFit r (map seen l.entries) → AllFit r l.steps.items × NodesFit r (map seen (drop l.entry-index l.entries));
}
