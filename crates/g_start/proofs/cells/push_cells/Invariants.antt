use Rattle.std.proofs.Common.{◌≡◌, ◌++◌, drop}
use Rattle.g_frames.specs.State.{first_cells}
use Rattle.g_start.proofs.cells.push_cells.Given as goal

abbrev pub invariant-loop-cell : goal.invariant-loop-cell
invariant-loop-cell l = l.objects.items ++ first_cells l.number (drop l.cell-index l.cells) ≡ l.fn.objects.items ++ first_cells l.first l.cells
