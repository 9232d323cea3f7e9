use Rattle.std.proofs.Common.{◌≡◌, ℕ, length, take}
use Rattle.std.specs.List.{list_any}
use Rattle.g_wires.specs.Marks.{gives, is_marked}
use Rattle.g_wires.proofs.missing_sources.mark_sources.Given as goal

abbrev pub invariant-loop-port : goal.invariant-loop-port
invariant-loop-port l = record {
  len : length l.marks.items ≡ l.count;
  told : (w : ℕ) → is_marked l.marks.items w ≡ list_any (gives w) (take l.port-index l.ports);
}
