-- Rule 1: each consumer whose name has no source in its diagram.
use Rattle.std.specs.Prelude.{Bool, not, ◌&&◌, List, map, filter}
use Rattle.std.specs.List.{list_any}
use Rattle.g_diagram.specs.Ports.{Port, sources, consumers, are_joined, is_wired}
use Rattle.g_rules_lines.specs.Spots.{Spot}
use Rattle.g_wires.specs.Spots.{spot}

abbrev pub lacks_source : List Port → Port → Bool
lacks_source ps c = is_wired c && not (list_any (λ s. are_joined s c) (sources ps))

abbrev pub unsourced : List Port → List Spot
unsourced ps = map spot (filter (lacks_source ps) (consumers ps))
