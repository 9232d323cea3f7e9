use Rattle.std.proofs.Common.{◌≡◌, map, take}
use Rattle.g_program.proofs.cells.lines_of.Given as goal

abbrev pub invariant-loop-cell : goal.invariant-loop-cell
invariant-loop-cell l = l.lines.items ≡ map (λ c. (c.space, c.line)) (take l.cell-index l.cells)
