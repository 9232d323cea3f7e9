use Rattle.std.proofs.Common.{◌≡◌, ◌++◌, [], map, take, drop}
use Rattle.g_diagram_table.specs.Seen as table
use Rattle.g_rules_selectors.specs.Taken.{Keeps}
use Rattle.g_rules_lines.specs.Spots.{break}
use Rattle.g_rules_lines.specs.CaseValues as spec
use Rattle.g_rules_lines.proofs.ClashLemmas.{selectors_of}
use Rattle.g_rules_lines.proofs.case_values.push_arms.Given as goal

abbrev pub invariant-loop-arm : goal.invariant-loop-arm
invariant-loop-arm l = record {
  taken : Keeps l.taken (selectors_of (map table.seen_arm (take l.arm-index l.arms)));
  told : l.breaks.items ++ map (break l.vi 10) (spec.arm_clashes (selectors_of (map table.seen_arm (take l.arm-index l.arms))) (map table.seen_arm (drop l.arm-index l.arms)))
      ≡ l.fn.breaks.items ++ map (break l.vi 10) (spec.arm_clashes [] (map table.seen_arm l.arms));
}
