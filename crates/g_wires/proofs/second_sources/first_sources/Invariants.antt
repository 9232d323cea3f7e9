use Rattle.std.proofs.Common.{◌≡◌, ℕ, length, take}
use Rattle.std.specs.List.{list_any}
use Rattle.g_wires.specs.declared.coded.Coded.{Coded}
use Rattle.g_wires.specs.Marks.{gives_before, first_at, stands_before}
use Rattle.g_wires.proofs.second_sources.first_sources.Given as goal

abbrev pub invariant-loop-port : goal.invariant-loop-port
invariant-loop-port l = record {
  len : length l.firsts.items ≡ l.count;
  told : (w : ℕ) → (c : Coded) → stands_before (first_at l.firsts.items w) c ≡ list_any (gives_before w c) (take l.port-index l.ports);
}
