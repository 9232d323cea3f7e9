use Rattle.std.proofs.Common.{◌≡◌, ◌≤◌, ◌*◌, ◌++◌, ℕ, List, length}
use Rattle.g_diagram.specs.Text as spec
use Rattle.g_print.proofs.page.Page.indent.Given as goal

abbrev pub invariant-loop-level : goal.invariant-loop-level
invariant-loop-level l = record {
  long : 2 * l._level ≤ length l.self-inside.bytes.items;
  text : (rest : List ℕ) → l.self-inside.bytes.items ++ rest ≡ l.fn.self ++ spec.indent l._level rest;
}
