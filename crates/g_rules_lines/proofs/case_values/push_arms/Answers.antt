use Rattle.std.proofs.Common.{◌++◌, [], map, take}
use Rattle.g_diagram_table.specs.Seen as table
use Rattle.g_rules_lines.specs.Spots.{break}
use Rattle.g_rules_lines.specs.CaseValues as spec
use Rattle.g_rules_lines.proofs.ClashLemmas.{selectors_of, keeps_more, clash_more}
use Rattle.g_rules_lines.proofs.case_values.push_arms.Goals as goal

pub loop-arm-preserved : goal.loop-arm-preserved
loop-arm-preserved c =
    let before = selectors_of (map table.seen_arm (take c.loop-arm.arm-index c.args.arms.now)) in
    record {
      taken = keeps_more c.args.arms.now c.loop-arm.arm-index c.arm-item.result c.take.new.taken c.loop-arm-test.true c.arm-item.is
          (c.in_ok-clashes.ensures.keeps before c.loop-arm.invariant.taken);
      told = clash_more (break c.args.vi 10) c.args.arms.now c.loop-arm.arm-index c.arm-item.result c.in_ok-clashes.clashes c.loop-arm.breaks.items c.push_clash.new.breaks.items
          (c.args.breaks.now.items ++ map (break c.args.vi 10) (spec.arm_clashes [] (map table.seen_arm c.args.arms.now))) c.loop-arm-test.true c.arm-item.is
          (c.in_ok-clashes.ensures.value before c.loop-arm.invariant.taken) c.in_ok-push_clash.ensures c.loop-arm.invariant.told;
    }
