use Rattle.std.proofs.Common.{◌≡◌, ◌-◌, ◌≤◌, length, take}
use Rattle.std.specs.Io.KnownBytes.{Appends}
use Rattle.g_io.proofs.write.write_all_of.Given as goal

abbrev pub invariant-loop-written : goal.invariant-loop-written
invariant-loop-written g l =
    let sink = g.K.Sink in
    record {
      later : sink.faults l.fn.sink ≤ sink.faults l.sink;
      kept : sink.made_with l.sink ≡ sink.made_with l.fn.sink;
      wrote : Appends (sink.held l.fn.sink) (sink.held l.sink) (take l.written l.bytes);
      within : l.written ≤ length l.bytes;
    }

abbrev pub decreases-loop-written : goal.decreases-loop-written
decreases-loop-written g l = length l.bytes - l.written
