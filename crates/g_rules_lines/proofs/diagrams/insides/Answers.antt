use Rattle.std.proofs.Common.{map, ◌∙◌}
use Rattle.g_diagram_table.specs.Seen as table
use Rattle.g_rules_lines.specs.InPlaceBodies as spec
use Rattle.g_rules_lines.specs.Names.{has_diagram}
use Rattle.g_rules_lines.proofs.DiagramLemmas.{none_gathered, gathered_more}
use Rattle.g_rules_lines.proofs.diagrams.insides.Goals as goal

pub loop-entry-init : goal.loop-entry-init
loop-entry-init c = none_gathered spec.is_inside (map table.seen c.args.entries.now) (has_diagram c.no_diagrams-diagrams.result) c.no_diagrams-diagrams.ensures

pub loop-entry-preserved : goal.loop-entry-preserved
loop-entry-preserved c = λ d.
    gathered_more spec.is_inside c.args.entries.now c.loop-entry.entry-index c.entry-item.result c.is_inside-looks.result (has_diagram c.loop-entry.diagrams) (has_diagram c.add_if.new.diagrams)
    c.loop-entry-test.true c.entry-item.is c.is_inside-looks.ensures c.in_ok-add_if.ensures d ∙ c.loop-entry.invariant d
