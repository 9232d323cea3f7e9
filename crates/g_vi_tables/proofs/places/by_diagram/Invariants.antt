use Rattle.std.proofs.Common.{◌≡◌, ◌++◌, ℕ, map, drop}
use Rattle.g_vi_tables.specs.Kept.{AreSourcePlaces}
use Rattle.g_vi_tables.specs.Sources.{seen, places_in}
use Rattle.g_vi_tables.specs.Tables.{sources_at}
use Rattle.g_vi_tables.proofs.places.by_diagram.Given as goal

abbrev pub invariant-loop-source : goal.invariant-loop-source
invariant-loop-source l = record {
  sources : (d : ℕ) → sources_at l.sources d ++ places_in d (map seen (drop l.source-index l.all)) ≡ places_in d (map seen l.all);
  places : AreSourcePlaces l.sources l.places;
}
