use Rattle.std.proofs.Common.{◌≡◌, ◌++◌, map, drop}
use Rattle.g_diagram.specs.Lines.{parts}
use Rattle.g_diagram.proofs.LineLemmas.{frame_lines}
use Rattle.g_diagram_table.specs.Seen.{seen_part}
use Rattle.g_diagram_table.proofs.table.parts_from.Given as goal

abbrev pub invariant-loop-frame : goal.invariant-loop-frame
invariant-loop-frame l = map seen_part l.parts.items ++ parts l.line (map frame_lines (drop l.frame-index l.frames)) ≡ parts l.first (map frame_lines l.frames)
