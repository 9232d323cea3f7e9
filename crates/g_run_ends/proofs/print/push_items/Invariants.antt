use Rattle.std.proofs.Common.{◌≡◌, ◌++◌, ℕ, List, drop}
use Rattle.g_frames.specs.Panels.{indicator_names}
use Rattle.g_frames.specs.Print.{indicator_lines}
use Rattle.g_run_ends.proofs.print.push_items.Given as goal

abbrev pub invariant-loop-item : goal.invariant-loop-item
invariant-loop-item l =
    (rest : List ℕ) → l.out.items ++ indicator_lines (indicator_names (drop l.item-index l.items)) (drop l.at l.values) rest ≡ l.fn.out.items ++ indicator_lines (indicator_names l.items) l.values rest
