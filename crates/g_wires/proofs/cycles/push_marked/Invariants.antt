use Rattle.std.proofs.Common.{◌≡◌, ◌++◌, drop}
use Rattle.g_wires.specs.Marks.{marked_from}
use Rattle.g_wires.proofs.cycles.push_marked.Given as goal

abbrev pub invariant-loop-mark : goal.invariant-loop-mark
invariant-loop-mark l = l.breaks.items ++ marked_from l.vi l.line (drop l.mark-index l.marks) ≡ l.fn.breaks.items ++ marked_from l.vi 0 l.marks
