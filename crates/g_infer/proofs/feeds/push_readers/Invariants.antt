use Rattle.std.proofs.Common.{◌≡◌, ℕ, ◌||◌, drop, map}
use Rattle.g_graph.specs.Graph.{has}
use Rattle.g_infer.specs.Feeding.{leads_to}
use Rattle.g_infer.specs.Given.{seen_given}
use Rattle.g_infer.proofs.feeds.push_readers.Given as goal

abbrev pub invariant-loop-given : goal.invariant-loop-given
invariant-loop-given l =
    (b : ℕ) → (has l.row.items b || leads_to l.readers (map seen_given (drop l.given-index l.givens)) b) ≡ (has l.fn.row.items b || leads_to l.readers (map seen_given l.givens) b)
