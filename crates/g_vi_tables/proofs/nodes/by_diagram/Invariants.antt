use Rattle.std.proofs.Common.{◌≡◌, ◌++◌, ℕ, length, map}
use Rattle.std.specs.Vec.Iter.{into_iter_items, into_iter_len}
use Rattle.g_diagram.specs.Lines.{nodes_of}
use Rattle.g_diagram_table.specs.Seen.{seen}
use Rattle.g_vi_tables.specs.Kept.{AreNodePlaces}
use Rattle.g_vi_tables.specs.Tables.{nodes_at}
use Rattle.g_vi_tables.proofs.nodes.by_diagram.Given as goal

abbrev pub invariant-loop-entry : goal.invariant-loop-entry
invariant-loop-entry l = record {
  nodes : (d : ℕ) → map seen (nodes_at l.nodes d) ++ nodes_of d (map seen (into_iter_items l.entry-iterator)) ≡ nodes_of d (map seen (into_iter_items l.initial.entry-iterator));
  places : AreNodePlaces l.nodes l.places;
  len : into_iter_len l.entry-iterator ≡ length (into_iter_items l.entry-iterator);
}
