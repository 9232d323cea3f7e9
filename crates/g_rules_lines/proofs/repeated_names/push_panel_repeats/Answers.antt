use Rattle.std.proofs.Common.{◌++◌, ℕ, [], ap, ◌∙◌}
use Rattle.g_diagram.specs.declared.panel.PanelItem.{PanelItem}
use Rattle.g_diagram.specs.declared.place.Break.{Break}
use Rattle.g_rules_lines.specs.Spots.{break, spot_at}
use Rattle.g_rules_lines.specs.PanelObjects.{panel_name}
use Rattle.g_rules_lines.specs.RepeatedNames.{named_again}
use Rattle.g_rules_lines.specs.Names.{has_name}
use Rattle.g_rules_lines.proofs.RepeatLemmas.{again_more, names_more}
use Rattle.g_rules_lines.proofs.repeated_names.push_panel_repeats.Goals as goal

pub loop-item-preserved : goal.loop-item-preserved
loop-item-preserved c =
    let told : ℕ → Break = λ line. break c.args.vi 7 (spot_at line 0) in
    let item : PanelItem = c.item-item.result in
    record {
      names = names_more panel_name c.args.panel.now c.loop-item.item-index item c.panel_name-name.result.now c.loop-item.names c.add_name.new.names
          c.loop-item-test.true c.item-item.is c.panel_name-name.ensures c.in_ok-add_name.ensures c.loop-item.invariant.names;
      told = again_more panel_name told c.args.panel.now c.loop-item.item-index item c.loop-item.line c.in_ok-line.line c.is_among.result c.loop-item.breaks.items c.push_repeat.new.breaks.items
          (c.args.breaks.now.items ++ named_again panel_name told 1 [] c.args.panel.now) c.loop-item-test.true c.item-item.is c.in_ok-line.ensures
          (c.is_among.ensures ∙ ap (has_name c.loop-item.names) c.panel_name-name.ensures ∙ c.loop-item.invariant.names (panel_name item)) c.in_ok-push_repeat.ensures c.loop-item.invariant.told;
    }
