use Rattle.std.proofs.Common.{ℕ, ◌||◌, List, map, ap, ◌∙◌}
use Rattle.g_diagram_table.specs.Seen.{seen_arm}
use Rattle.g_graph.specs.Graph.{has}
use Rattle.g_rules_lines.specs.Names.{has_name}
use Rattle.g_infer.specs.Feeding.{branch_leads}
use Rattle.g_infer.proofs.Branching.{branches_lead}
use Rattle.g_infer.proofs.feeds.row_by_branch.Goals as goal

pub returns : goal.returns
returns c = λ called objects b.
    c.in_ok-push_in_branches.ensures b
    ∙ ap (λ (xs : List ℕ). has xs b || branch_leads (has_name c.in_ok-names.names) c.args.readers.now.by_diagram (map seen_arm c.args.arms.now) b) c.new-row.ensures.items
    ∙ branches_lead c.args.readers.now c.requires (has_name c.in_ok-names.names) c.args.outer c.args.lines.now c.in_ok-names.ensures (map seen_arm c.args.arms.now) b
