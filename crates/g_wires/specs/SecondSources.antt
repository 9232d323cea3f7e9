-- Rule 2: each source whose name has a source before it in its diagram.
use Rattle.std.specs.Prelude.{Bool, ◌&&◌, List, map, filter}
use Rattle.std.specs.List.{list_any}
use Rattle.g_diagram.specs.Ports.{Port, sources, are_joined, is_wired, is_before}
use Rattle.g_rules_lines.specs.Spots.{Spot}
use Rattle.g_wires.specs.Spots.{spot}

abbrev pub is_repeated : List Port → Port → Bool
is_repeated ps p = is_wired p && list_any (λ s. is_before s p && are_joined s p) (sources ps)

abbrev pub repeated : List Port → List Spot
repeated ps = map spot (filter (is_repeated ps) (sources ps))
