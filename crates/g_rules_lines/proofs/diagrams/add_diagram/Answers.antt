use Rattle.g_rules_lines.proofs.DiagramLemmas.{diagram_added}
use Rattle.g_rules_lines.proofs.diagrams.add_diagram.Goals as goal

pub returns : goal.returns
returns c = λ d. diagram_added c.args.diagrams.now c.insert.new.self c.args.diagram c.in_ok-_is_new.ensures.updates d
