use Rattle.std.proofs.Common.{ℕ, ◌+◌, List, [], ◌∷◌, ◌++◌, map, drop, ap, sym, ◌∙◌}
use Rattle.g_diagram.specs.Lines as lines
use Rattle.g_diagram.specs.Operands.{border, border_lines, parts_lines}
use Rattle.g_diagram.specs.Ports.{ports_in}
use Rattle.g_diagram_table.specs.declared.entry.Part.{Part}
use Rattle.g_diagram_table.specs.Seen as table
use Rattle.g_diagram_ports.specs.Seen.{seen}
use Rattle.g_diagram_ports.proofs.Lines.{ports_append, one_more}
use Rattle.g_diagram_ports.proofs.ports.push_parts.Goals as goal

pub loop-part-preserved : goal.loop-part-preserved
loop-part-preserved c =
    let p : Part = c.part-item.result in
    let e : lines.Entry = table.seen c.args.entry.now in
    let ps : List Part = c.args.parts.now in
    let i : ℕ = c.loop-part.part-index in
    one_more (λ (ps : List Part). ports_in (parts_lines e c.loop-part.before.items (map table.seen_part ps))) (λ (ps : List Part). ports_in (parts_lines e c.in_ok-before.before.items (map table.seen_part ps)))
    (ports_in (border_lines e (p.body ∷ []) c.loop-part.before.items border (p.body + 1) p.lines.now)) ps i p (map seen c.loop-part.ports.items) (map seen c.push_part.new.ports.items)
    (map seen c.args.ports.now.items ++ ports_in (parts_lines e [] (map table.seen_part ps)))
    c.loop-part-test.true c.part-item.is
    (c.in_ok-push_part.ensures ∙ ap (λ bs. map seen c.loop-part.ports.items ++ ports_in (border_lines e (p.body ∷ []) bs border (p.body + 1) p.lines.now)) c.as_slice.ensures.value)
    (ports_append (border_lines e (p.body ∷ []) c.loop-part.before.items border (p.body + 1) p.lines.now) (parts_lines e (p.body ∷ []) (map table.seen_part (drop (i + 1) ps)))
    ∙ ap (λ bs. ports_in (border_lines e (p.body ∷ []) c.loop-part.before.items border (p.body + 1) p.lines.now) ++ ports_in (parts_lines e bs (map table.seen_part (drop (i + 1) ps)))) (sym c.in_ok-before.ensures.items))
    c.loop-part.invariant
