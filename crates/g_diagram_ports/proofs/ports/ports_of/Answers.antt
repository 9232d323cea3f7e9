use Rattle.std.proofs.Common.{◌≡◌, List, ◌++◌, map, ap, sym, ◌∙◌, subst}
use Rattle.std.proofs.lemmas.List.{map-append}
use Rattle.g_diagram.specs.declared.hierarchy.Vi.{Vi}
use Rattle.g_diagram.specs.Lines as lines
use Rattle.g_diagram.specs.Operands.{Freedom, control_lines, entries_lines}
use Rattle.g_diagram.specs.Ports.{Port, ports_in}
use Rattle.g_diagram_table.specs.Seen as table
use Rattle.g_diagram_ports.specs.Branches.{look_in}
use Rattle.g_diagram_ports.specs.Callees.{freedom_by}
use Rattle.g_diagram_ports.specs.Seen.{seen}
use Rattle.g_diagram_ports.specs.Standing.{StandFor}
use Rattle.g_diagram_ports.specs.Tunnels.{LookUp, all_first_tunnels, all_looked_up, kept_ports, look_after, nowhere, outer_ports}
use Rattle.g_diagram_ports.proofs.Stands.{stand_for}
use Rattle.g_diagram_ports.proofs.ports.ports_of.Goals as goal

pub returns : goal.returns
returns c =
    let es : List lines.Entry = map table.seen c.args.entries.now in
    let free : Freedom = freedom_by c.args.callees.now in
    let vi : Vi = c.args.vi.now in
    let own : List Port = outer_ports free vi es in
    let look : look_in c.in_ok-known.known ≡ look_after nowhere es = λ i d name. c.in_ok-known.ensures.look d name i in
    let given : map seen c.push_all_looked_up.new.ports.items ≡ all_first_tunnels es ++ all_looked_up (look_after nowhere es) own =
    c.in_ok-push_all_looked_up.ensures
    ∙ ap (λ ps. ps ++ all_looked_up (look_in c.in_ok-known.known) (map seen c.as_slice.result.now)) (c.in_ok-push_all_first.ensures ∙ ap (λ ps. map seen ps ++ all_first_tunnels es) c.new-given.ensures.items)
    ∙ ap (λ (l : LookUp). all_first_tunnels es ++ all_looked_up l (map seen c.as_slice.result.now)) look
    ∙ ap (λ ps. all_first_tunnels es ++ all_looked_up (look_after nowhere es) ps) (ap (map seen) c.as_slice.ensures.value ∙ c.in_ok-ports.ensures) in
    let whole : map seen c.extend_from_slice.new.self.items ≡ kept_ports free vi es =
    ap (map seen) c.in_ok-extend_from_slice.ensures.items
    ∙ map-append seen c.in_ok-ports.ports.items c.as_slice-2.result.now
    ∙ ap (λ ps. ps ++ map seen c.as_slice-2.result.now) c.in_ok-ports.ensures
    ∙ ap (λ ps. own ++ ps) (ap (map seen) c.as_slice-2.ensures.value ∙ given) in
    let P : List Port → Type 0 = StandFor (ports_in (control_lines 1 vi.panel ++ entries_lines free es)) in
    subst P (sym whole) (stand_for free vi es c.in_ok-known.ensures.own)
