use Rattle.std.proofs.Common.{◌≡◌, ◌++◌, ℕ, List, drop}
use Rattle.g_diagram.specs.Text as spec
use Rattle.g_print.proofs.panel.write_items.Given as goal

abbrev pub invariant-loop-item : goal.invariant-loop-item
invariant-loop-item l = (rest : List ℕ) → l.page ++ spec.items (drop l.item-index l.items) rest ≡ l.fn.page ++ spec.items l.items rest
