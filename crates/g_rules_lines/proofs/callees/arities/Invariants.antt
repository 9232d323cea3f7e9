use Rattle.std.proofs.Common.{◌≡◌, ℕ, List, drop}
use Rattle.std.specs.Option.{option_or}
use Rattle.g_rules_lines.specs.Callees as spec
use Rattle.g_rules_lines.specs.Names.{arity_in}
use Rattle.g_rules_lines.proofs.callees.arities.Given as goal

abbrev pub invariant-loop-vi : goal.invariant-loop-vi
invariant-loop-vi l = (name : List ℕ) → option_or (arity_in l.known name) (spec.arities (drop l.vi-index l.vis) name) ≡ spec.arities l.vis name
