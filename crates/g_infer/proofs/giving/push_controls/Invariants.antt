use Rattle.std.proofs.Common.{◌≡◌, ◌++◌, drop, map}
use Rattle.g_infer.specs.Given.{seen_given}
use Rattle.g_typing.specs.Typing.{controls_given}
use Rattle.g_infer.proofs.giving.push_controls.Given as goal

abbrev pub invariant-loop-item : goal.invariant-loop-item
invariant-loop-item l = map seen_given l.givens.items ++ controls_given (drop l.item-index l.panel) ≡ map seen_given l.fn.givens.items ++ controls_given l.panel
