use Rattle.std.proofs.Common.{◌≡◌, ℕ, ◌||◌, drop}
use Rattle.g_graph.specs.Graph.{has}
use Rattle.g_rules_lines.specs.Names.{has_name}
use Rattle.g_infer.specs.Feeding.{reads_some}
use Rattle.g_infer.proofs.feeds.push_some.Given as goal

abbrev pub invariant-loop-reader : goal.invariant-loop-reader
invariant-loop-reader l =
    (b : ℕ) → (has l.row.items b || reads_some (has_name l.names) (drop l.reader-index l.readers) b) ≡ (has l.fn.row.items b || reads_some (has_name l.names) l.readers b)
