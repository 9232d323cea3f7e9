use Rattle.std.proofs.Common.{◌≡◌, ◌+◌, ◌-◌, ◌≤◌, length}
use Rattle.std.specs.Io.KnownBytes.{Consumes}
use Rattle.g_io.proofs.read.read_all.Given as goal

abbrev pub invariant-loop-piece : goal.invariant-loop-piece
invariant-loop-piece g l =
    let source = g.S.Source in
    record {
      later : source.faults l.fn.source ≤ source.faults l.source;
      read : Consumes (source.left l.fn.source) (source.left l.source) l.bytes.items;
      within : length l.bytes.items ≤ l.limit + 1;
      piece : length l.piece ≡ 4096;
    }

abbrev pub decreases-loop-piece : goal.decreases-loop-piece
decreases-loop-piece g l = l.limit + 1 - length l.bytes.items
