use Rattle.std.proofs.Common.{◌≡◌, take}
use Rattle.std.specs.BTreeSet.{contains}
use Rattle.g_diagram.specs.declared.place.Break.{Break}
use Rattle.g_rules_breaks.specs.Breaks.{break_cmp, has_break}
use Rattle.g_rules_breaks.proofs.order.break_set.Given as goal

abbrev pub invariant-loop-item : goal.invariant-loop-item
invariant-loop-item l = (q : Break) → contains break_cmp l.set q ≡ has_break (take l.item-index l.breaks) q
