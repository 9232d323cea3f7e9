use Rattle.std.proofs.Common.{◌≡◌, ◌++◌, drop}
use Rattle.g_typing.specs.Typing.{indicator_types}
use Rattle.g_infer.proofs.giving.indicator_types.Given as goal

abbrev pub invariant-loop-item : goal.invariant-loop-item
invariant-loop-item l = l.all.items ++ indicator_types (drop l.item-index l.panel) ≡ indicator_types l.panel
