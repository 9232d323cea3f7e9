-- The breaks on the lines of one VI.
use Rattle.std.specs.Prelude.{ℕ, List, ◌++◌, map}
use Rattle.g_diagram.specs.declared.place.Break.{Break}
use Rattle.g_diagram.specs.declared.hierarchy.Vi.{Vi}
use Rattle.g_diagram.specs.declared.panel.PanelItem.{PanelItem}
use Rattle.g_diagram.specs.Lines.{Entry}
use Rattle.g_rules_lines.specs.Spots.{break}
use Rattle.g_rules_lines.specs.Callees.{Arities, arities}
use Rattle.g_rules_lines.specs.Arity.{miscounted}
use Rattle.g_rules_lines.specs.RepeatedNames.{renamed_items}
use Rattle.g_rules_lines.specs.PanelObjects.{names_object, unlocated}
use Rattle.g_rules_lines.specs.UnknownVis.{uncalled}
use Rattle.g_rules_lines.specs.CaseValues.{reselected}
use Rattle.g_rules_lines.specs.CaseResults.{resultless}
use Rattle.g_rules_lines.specs.InPlaceBodies.{misplaced}
use Rattle.g_rules_lines.specs.LoopCounts.{countless}
use Rattle.g_rules_lines.specs.Queues.{Queues, first_queue, all_queues, unequal}

-- what the rules on one VI need to know of the whole listing
pub record Known : Type 0 where
  pub arities : Arities
  pub queues : Queues

abbrev pub known_of : List Vi → Known
known_of vis = record { arities = arities vis; queues = first_queue (all_queues vis) }

-- the breaks on what the lines of one VI with these nodes name and call
abbrev pub called_by : Arities → (number : ℕ) → List PanelItem → List Entry → List Break
called_by known number panel es =
    map (break number 5) (miscounted known es)
    ++ (renamed_items number panel ++ (map (break number 8) (unlocated (names_object panel) es) ++ map (break number 9) (uncalled known es)))

-- those on its structures and queues
abbrev pub structured_by : Queues → (number : ℕ) → List Entry → List Break
structured_by queues number es =
    map (break number 10) (reselected es)
    ++ (map (break number 11) (resultless es)
    ++ (map (break number 12) (misplaced es) ++ (map (break number 13) (countless es) ++ map (break number 14) (unequal queues es))))

-- the breaks on the lines of one VI with these nodes
abbrev pub lined_by : Known → (number : ℕ) → List PanelItem → List Entry → List Break
lined_by known number panel es = called_by known.arities number panel es ++ structured_by known.queues number es
