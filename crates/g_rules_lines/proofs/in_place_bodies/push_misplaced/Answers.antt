use Rattle.std.proofs.Common.{◌≡◌, ◌++◌, List, map, append_assoc, sym, ap, ◌∙◌}
use Rattle.std.proofs.lemmas.List.{map-append}
use Rattle.g_diagram.specs.Lines as lines
use Rattle.g_diagram.specs.declared.place.Break.{Break}
use Rattle.g_diagram_table.specs.Seen as table
use Rattle.g_rules_lines.specs.Spots.{break}
use Rattle.g_rules_lines.specs.InPlaceBodies.{Diagrams, bodies, insides, strangers, all_spare_refs}
use Rattle.g_rules_lines.specs.Names.{has_diagram}
use Rattle.g_rules_lines.proofs.in_place_bodies.push_misplaced.Goals as goal

pub returns : goal.returns
returns c =
    let es : List lines.Entry = map table.seen c.args.entries.now in
    let old : List Break = c.args.breaks.now.items in
    let two : has_diagram c.in_ok-insides.insides ≡ insides es = λ i d. c.in_ok-insides.ensures d i in
    let one : has_diagram c.in_ok-bodies.bodies ≡ bodies es = λ i d. c.in_ok-bodies.ensures d i in
    c.in_ok-push_all_spare_refs.ensures
    ∙ ap (λ (ds : Diagrams). c.push_strangers.new.breaks.items ++ map (break c.args.vi 12) (all_spare_refs ds es)) two
    ∙ ap (λ (bs : List Break). bs ++ map (break c.args.vi 12) (all_spare_refs (insides es) es)) (c.in_ok-push_strangers.ensures ∙ ap (λ (ds : Diagrams). old ++ map (break c.args.vi 12) (strangers ds es)) one)
    ∙ append_assoc old (map (break c.args.vi 12) (strangers (bodies es) es)) (map (break c.args.vi 12) (all_spare_refs (insides es) es))
    ∙ ap (λ (bs : List Break). old ++ bs) (sym (map-append (break c.args.vi 12) (strangers (bodies es) es) (all_spare_refs (insides es) es)))
