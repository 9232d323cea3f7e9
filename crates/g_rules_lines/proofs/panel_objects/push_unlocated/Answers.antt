use Rattle.std.proofs.Common.{◌≡◌, ◌++◌, ℕ, Bool, List, map, ap, ◌∙◌}
use Rattle.g_diagram_table.specs.Seen as table
use Rattle.g_rules_lines.specs.Spots.{break}
use Rattle.g_rules_lines.specs.PanelObjects.{unlocated, names_object}
use Rattle.g_rules_lines.specs.Names.{has_name}
use Rattle.g_rules_lines.proofs.panel_objects.push_unlocated.Goals as goal

pub returns : goal.returns
returns c =
    let same : has_name c.in_ok-names.names ≡ names_object c.args.panel.now = λ i name. c.in_ok-names.ensures name i in
    c.in_ok-push_unnamed.ensures ∙ ap (λ (f : List ℕ → Bool). c.args.breaks.now.items ++ map (break c.args.vi 8) (unlocated f (map table.seen c.args.entries.now))) same
