-- Inner: lines that are results of a case.
use Rattle.std.specs.Prelude.{Bool, true, false}
use Rattle.g_diagram.specs.declared.node.Tunnel.{Tunnel}
use Rattle.g_diagram.specs.declared.node.Tunnel.TheVariants as tunnel

abbrev pub is_result : Tunnel → Bool
is_result (tunnel.Result w d) = true
is_result _ = false
