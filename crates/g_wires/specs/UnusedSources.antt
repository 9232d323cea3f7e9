-- Rule 3: each source whose name has no consumer in its diagram, but for a case's tunnel.
use Rattle.std.specs.Prelude.{Bool, not, ◌&&◌, List, map, filter}
use Rattle.std.specs.List.{list_any}
use Rattle.g_diagram.specs.Ports.{Port, sources, consumers, are_joined, is_wired}
use Rattle.g_rules_lines.specs.Spots.{Spot}
use Rattle.g_wires.specs.Spots.{spot}

abbrev pub lacks_consumer : List Port → Port → Bool
lacks_consumer ps s = is_wired s && (not s.is_free && not (list_any (λ c. are_joined s c) (consumers ps)))

abbrev pub unused : List Port → List Spot
unused ps = map spot (filter (lacks_consumer ps) (sources ps))
