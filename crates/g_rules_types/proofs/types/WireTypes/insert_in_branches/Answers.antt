use Rattle.std.proofs.Common.{◌≡◌, length, map, arith}
use Rattle.g_diagram_table.specs.Seen.{seen_arm}
use Rattle.g_rules_types.specs.declared.types.WireTypes.{WireTypes}
use Rattle.g_rules_types.specs.Known.{cases_of, own_type}
use Rattle.g_rules_types.proofs.Kept.{case_kept, still_indexed}
use Rattle.g_rules_types.proofs.types.WireTypes.insert_in_branches.Goals as goal

pub returns-clause-types : goal.returns-clause-types
returns-clause-types c = λ d name.
    let old : WireTypes = c.args.self.now in
    let number : c.len-number.result ≡ length old.cases.items = omega (arith, c.len-number.ensures, old.cases.ok.0) in
    case_kept (own_type old d name) old.cases.items c.push.new.self.items c.args.scope c.len-number.result d (map seen_arm c.args.arms.now) (cases_of old.branches d)
    (cases_of c.add_branches.new.branches d) name number c.in_ok-push.ensures.items (c.in_ok-add_branches.ensures d) (c.requires d)

pub returns-clause-indexed : goal.returns-clause-indexed
returns-clause-indexed c = λ d.
    let old : WireTypes = c.args.self.now in
    let number : c.len-number.result ≡ length old.cases.items = omega (arith, c.len-number.ensures, old.cases.ok.0) in
    still_indexed old.cases.items c.push.new.self.items c.args.scope c.len-number.result d (map seen_arm c.args.arms.now) (cases_of old.branches d)
    (cases_of c.add_branches.new.branches d) number c.in_ok-push.ensures.items (c.in_ok-add_branches.ensures d) (c.requires d)
