use Rattle.std.proofs.Common.{map}
use Rattle.g_diagram_table.specs.Seen.{seen_arm}
use Rattle.g_rules_types.specs.Known.{types_of}
use Rattle.g_infer.proofs.Branching.{branches_added}
use Rattle.g_infer.proofs.walk.take_branches.Goals as goal

pub returns-clause-adds : goal.returns-clause-adds
returns-clause-adds c =
    branches_added (types_of c.args.types.now) (types_of c.insert_in_branches.new.self) c.args.outer c.args.lines.now (map seen_arm c.args.arms.now) c.in_ok-scope.scope c.in_ok-scope.ensures
    c.in_ok-insert_in_branches.ensures.types c.requires.fresh
