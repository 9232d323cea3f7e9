use Rattle.std.proofs.Common.{◌≡◌, ◌++◌, ℕ, List, drop}
use Rattle.g_diagram.specs.Text as spec
use Rattle.g_print.proofs.page.Page.wires.Given as goal

abbrev pub invariant-loop-wire : goal.invariant-loop-wire
invariant-loop-wire l = (rest : List ℕ) → l.self ++ spec.wires (drop l.wire-index l.wires) rest ≡ l.fn.self ++ spec.wires l.wires rest
