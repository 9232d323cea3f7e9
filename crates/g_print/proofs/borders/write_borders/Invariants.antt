use Rattle.std.proofs.Common.{◌≡◌, ◌++◌, ℕ, List, drop}
use Rattle.g_diagram.specs.Text as spec
use Rattle.g_print.proofs.borders.write_borders.Given as goal

abbrev pub invariant-loop-line : goal.invariant-loop-line
invariant-loop-line l = (rest : List ℕ) → l.page ++ spec.borders (drop l.line-index l.lines) l.depth rest ≡ l.fn.page ++ spec.borders l.lines l.depth rest
