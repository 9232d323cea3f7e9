use Rattle.std.proofs.Common.{◌≡◌, ℕ, List, drop}
use Rattle.std.specs.Option.{option_or}
use Rattle.g_diagram.specs.Ports.{first_vi}
use Rattle.g_diagram_ports.specs.Callees.{required_in, flags_of}
use Rattle.g_diagram_ports.proofs.callee.callees.Given as goal

abbrev pub invariant-loop-vi : goal.invariant-loop-vi
invariant-loop-vi l = (name : List ℕ) → option_or (required_in l.callees name) (flags_of (first_vi (drop l.vi-index l.vis) name)) ≡ flags_of (first_vi l.vis name)
