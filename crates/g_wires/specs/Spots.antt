-- The place of a port.
use Rattle.g_diagram.specs.Ports.{Port}
use Rattle.g_rules_lines.specs.Spots.{Spot}

abbrev pub spot : Port → Spot
spot p = record { line = p.line; operand = p.operand }
