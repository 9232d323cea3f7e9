use Rattle.std.proofs.Common.{◌≡◌, ◌++◌, ℕ, List, drop, map}
use Rattle.g_diagram.specs.Text as spec
use Rattle.g_print.proofs.literals.+literal.Given as goal

abbrev pub invariant-write_literals-loop-i : goal.invariant-write_literals-loop-i
invariant-write_literals-loop-i l = (rest : List ℕ) → l.page ++ spec.after_comma (map spec.literal (drop l.i l.items)) rest ≡ l.fn.page ++ spec.listed (map spec.literal l.items) rest
