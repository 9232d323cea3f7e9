-- Rule 4: each unwired consumer that isn't free.
use Rattle.std.specs.Prelude.{Bool, not, ◌&&◌, List, map, filter}
use Rattle.g_diagram.specs.Ports.{Port, consumers, is_wired}
use Rattle.g_rules_lines.specs.Spots.{Spot}
use Rattle.g_wires.specs.Spots.{spot}

abbrev pub is_missing : Port → Bool
is_missing c = not (is_wired c) && not c.is_free

abbrev pub unwired : List Port → List Spot
unwired ps = map spot (filter is_missing (consumers ps))
