use Rattle.std.proofs.Common.{◌≡◌, ◌||◌, ◌++◌, List, take, drop}
use Rattle.g_diagram.specs.declared.node.Selector.{Selector}
use Rattle.g_rules_selectors.specs.Clashes.{clashes}
use Rattle.g_rules_selectors.specs.Taken.{Keeps}
use Rattle.g_rules_selectors.proofs.taken.take.Given as goal

abbrev pub invariant-loop-selector : goal.invariant-loop-selector
invariant-loop-selector l = record {
  keeps : (before : List Selector) → Keeps l.fn.taken before → Keeps l.taken (before ++ take l.selector-index l.selectors);
  clashes : (before : List Selector) → Keeps l.fn.taken before → (l.clashes || clashes (before ++ take l.selector-index l.selectors) (drop l.selector-index l.selectors)) ≡ clashes before l.selectors;
}
