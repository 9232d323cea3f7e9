use Rattle.std.proofs.Common.{ℕ, ◌+◌, List, [], ◌++◌, map, ap, sym, ◌∙◌, append_assoc}
use Rattle.g_diagram.specs.Lines as lines
use Rattle.g_diagram.specs.Operands.{Line, border_lines, give_line}
use Rattle.g_diagram.specs.Ports.{Port, ports_in}
use Rattle.g_diagram_table.specs.Seen as table
use Rattle.g_diagram_ports.specs.Seen.{seen}
use Rattle.g_diagram_ports.specs.Tunnels.{outer_border}
use Rattle.g_diagram_ports.proofs.Lines.{ports_append}
use Rattle.g_diagram_ports.proofs.ports.push_case.Goals as goal

pub returns : goal.returns
returns c =
    let e : lines.Entry = table.seen c.args.entry.now in
    let bodies : List ℕ = map (λ (a : lines.Arm). a.body) (map table.seen_arm c.args.arms.now) in
    let borders : List Line = border_lines e bodies [] outer_border (c.args.entry.now.line + 1) c.args.lines.now in
    let gives : List Line = map (give_line e) (map table.seen_arm c.args.arms.now) in
    let old : List Port = map seen c.args.ports.now.items in
    c.in_ok-push_gives.ensures
    ∙ ap (λ ps. ps ++ ports_in gives) (c.in_ok-push_border.ensures
    ∙ ap (λ is. old ++ ports_in (border_lines e is [] outer_border c.in_ok-next.field-0 c.args.lines.now)) (c.as_slice.ensures.value ∙ c.in_ok-bodies.ensures)
    ∙ ap (λ l. old ++ ports_in (border_lines e bodies [] outer_border l c.args.lines.now)) c.in_ok-next.ensures)
    ∙ append_assoc old (ports_in borders) (ports_in gives)
    ∙ ap (λ ps. old ++ ps) (sym (ports_append borders gives))
