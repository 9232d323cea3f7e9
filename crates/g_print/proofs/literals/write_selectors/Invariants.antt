use Rattle.std.proofs.Common.{◌≡◌, ◌++◌, ℕ, List, drop, map}
use Rattle.g_diagram.specs.Text as spec
use Rattle.g_print.proofs.literals.write_selectors.Given as goal

abbrev pub invariant-loop-i : goal.invariant-loop-i
invariant-loop-i l = (rest : List ℕ) → l.page ++ spec.after_comma (map spec.selector_text (drop l.i l.selectors)) rest ≡ l.fn.page ++ spec.listed (map spec.selector_text l.selectors) rest
