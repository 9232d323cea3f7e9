use Rattle.std.proofs.Common.{◌≡◌, ◌++◌, drop}
use Rattle.g_diagram.specs.Ports.{required_controls}
use Rattle.g_diagram_ports.proofs.callee.required_flags.Given as goal

abbrev pub invariant-loop-item : goal.invariant-loop-item
invariant-loop-item l = l.flags.items ++ required_controls (drop l.item-index l.panel) ≡ required_controls l.panel
