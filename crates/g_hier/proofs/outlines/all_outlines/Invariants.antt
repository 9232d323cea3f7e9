use Rattle.std.proofs.Common.{◌≡◌, map, take}
use Rattle.g_hier.specs.Outlines.{outline_of}
use Rattle.g_hier.proofs.outlines.all_outlines.Given as goal

abbrev pub invariant-loop-vi : goal.invariant-loop-vi
invariant-loop-vi l = l.all.items ≡ map (outline_of l.fn.vis) (take l.vi-index l.fn.vis)
