use Rattle.std.proofs.Common.{◌++◌, ℕ, List, [], refl, ◌∙◌}
use Rattle.g_diagram.specs.declared.hierarchy.Vi.{Vi}
use Rattle.g_diagram.specs.declared.place.Break.{Break}
use Rattle.g_rules_lines.specs.Spots.{break, spot_at}
use Rattle.g_rules_lines.specs.RepeatedNames.{named_again}
use Rattle.g_rules_lines.proofs.RepeatLemmas.{again_more, names_more}
use Rattle.g_rules_lines.proofs.repeated_names.push_vi_repeats.Goals as goal

pub loop-vi-preserved : goal.loop-vi-preserved
loop-vi-preserved c =
    let told : ℕ → Break = λ number. break number 7 (spot_at 0 0) in
    let name : Vi → List ℕ = λ v. v.name in
    let vi : Vi = c.vi-item.result in
    record {
      names = names_more name c.args.vis.now c.loop-vi.vi-index vi vi.name c.loop-vi.names c.add_name.new.names c.loop-vi-test.true c.vi-item.is refl c.in_ok-add_name.ensures c.loop-vi.invariant.names;
      told = again_more name told c.args.vis.now c.loop-vi.vi-index vi c.loop-vi.number c.in_ok-number.number c.is_among.result c.loop-vi.breaks.items c.push_repeat.new.breaks.items
          (c.args.breaks.now.items ++ named_again name told 0 [] c.args.vis.now) c.loop-vi-test.true c.vi-item.is c.in_ok-number.ensures
          (c.is_among.ensures ∙ c.loop-vi.invariant.names vi.name) c.in_ok-push_repeat.ensures c.loop-vi.invariant.told;
    }
