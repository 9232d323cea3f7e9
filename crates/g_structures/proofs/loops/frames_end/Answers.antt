use Rattle.std.proofs.Common.{arith, refl, sym}
use Rattle.g_border.specs.Lines.{leaving}
use Rattle.g_border.specs.Loops.{kept_registers}
use Rattle.g_frames.specs.Structures.{kept_at, readers_of}
use Rattle.g_structures.proofs.CrossingLemmas.{leaves}
use Rattle.g_structures.proofs.loops.frames_end.Goals as goal

pub returns : goal.returns
returns c h frames is inner =
    let first = c.in_ok-first.first in
    let all = readers_of h frames in
    let out = record (leaving h.outer all (h.vi.types c.args.body)) { kept = kept_at (kept_registers first c.args.lines.now) c.args.kept.now } in
    let left = leaves first c.args.lines.now _ h.vi h.outer all c.args.kept.now (sym (c.outer.ensures h is)) (sym inner) refl in
    let effect = c.in_ok-effect.ensures h out is is.table_is left in
    grind (arith, effect, c.in_ok-first.ensures)
