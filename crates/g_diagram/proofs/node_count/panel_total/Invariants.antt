use Rattle.std.proofs.Common.{ℕ, length, drop}
use Rattle.g_diagram.specs.Lines.{panel_entries}
use Rattle.g_diagram.proofs.NodeTotals.{Counted}
use Rattle.g_diagram.proofs.node_count.panel_total.Given as goal

abbrev pub invariant-loop-item : goal.invariant-loop-item
invariant-loop-item l = (line : ℕ) → Counted l.total (λ at. panel_entries (drop l.item-index l.panel) at) (length (panel_entries l.panel line))
