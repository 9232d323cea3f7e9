use Rattle.std.proofs.Common.{◌≡◌, ◌++◌, ℕ, List, [], take, drop}
use Rattle.std.specs.List.{list_any}
use Rattle.std.specs.Str.{bytes_eq}
use Rattle.g_rules_lines.specs.Spots.{break, spot_at}
use Rattle.g_rules_lines.specs.PanelObjects.{panel_name}
use Rattle.g_rules_lines.specs.RepeatedNames.{named_again}
use Rattle.g_rules_lines.specs.Names.{has_name}
use Rattle.g_rules_lines.proofs.repeated_names.push_panel_repeats.Given as goal

abbrev pub invariant-loop-item : goal.invariant-loop-item
invariant-loop-item l = record {
  names : (name : List ℕ) → has_name l.names name ≡ list_any (λ y. bytes_eq (panel_name y) name) (take l.item-index l.panel);
  told : l.breaks.items ++ named_again panel_name (λ line. break l.vi 7 (spot_at line 0)) l.line (take l.item-index l.panel) (drop l.item-index l.panel)
      ≡ l.fn.breaks.items ++ named_again panel_name (λ line. break l.vi 7 (spot_at line 0)) 1 [] l.panel;
}
