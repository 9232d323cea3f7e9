use Rattle.std.proofs.Common.{◌≡◌, ◌++◌, drop, map}
use Rattle.g_typing.specs.Breaks.{broken}
use Rattle.g_rules_types.proofs.passes.push_breaks.Given as goal

abbrev pub invariant-loop-place : goal.invariant-loop-place
invariant-loop-place l = l.breaks.items ++ map (broken l.rule) (drop l.place-index l.places) ≡ l.fn.breaks.items ++ map (broken l.rule) l.places
