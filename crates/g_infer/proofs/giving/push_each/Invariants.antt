use Rattle.std.proofs.Common.{◌≡◌, ◌++◌, drop, map}
use Rattle.g_typing.specs.Typing.{given_each}
use Rattle.g_infer.specs.Given.{seen_given}
use Rattle.g_infer.proofs.giving.push_each.Given as goal

abbrev pub invariant-loop-k : goal.invariant-loop-k
invariant-loop-k l =
    map seen_given l.givens.items ++ given_each l.diagram (drop l.k l.wires) (drop l.k l.types) ≡ map seen_given l.fn.givens.items ++ given_each l.diagram l.wires l.types
