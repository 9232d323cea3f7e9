use Rattle.std.proofs.Common.{◌++◌, List, map, refl}
use Rattle.g_diagram_table.specs.declared.entry.Entry.{Entry}
use Rattle.g_diagram_table.specs.Seen as table
use Rattle.g_rules_lines.specs.Spots.{break, Spot}
use Rattle.g_rules_lines.specs.InPlaceBodies.{Diagrams, kind_spare_refs, all_spare_refs}
use Rattle.g_rules_lines.specs.Names.{has_diagram}
use Rattle.g_rules_lines.proofs.Steps.{told_more}
use Rattle.g_rules_lines.proofs.in_place_bodies.push_all_spare_refs.Goals as goal

pub loop-entry-preserved : goal.loop-entry-preserved
loop-entry-preserved c =
    let ds : Diagrams = has_diagram c.args.diagrams.now in
    let f : Entry → List Spot = λ e. kind_spare_refs e.line (ds e.diagram) (table.seen_kind e.kind) in
    let F : List Entry → List Spot = λ es. all_spare_refs ds (map table.seen es) in
    told_more (break c.args.vi 12) f F c.args.entries.now c.loop-entry.entry-index c.entry-item.result c.loop-entry.breaks.items c.push_entry.new.breaks.items
    (c.args.breaks.now.items ++ map (break c.args.vi 12) (F c.args.entries.now)) c.loop-entry-test.true c.entry-item.is refl c.in_ok-push_entry.ensures c.loop-entry.invariant
