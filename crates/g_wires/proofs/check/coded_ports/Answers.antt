use Rattle.std.proofs.Common.{List, ◌++◌, map, ap, ◌∙◌, subst}
use Rattle.std.specs.Prelude.{All}
use Rattle.g_diagram.specs.Lines as lines
use Rattle.g_diagram.specs.Operands.{control_lines, entries_lines}
use Rattle.g_diagram.specs.Ports.{ports_in}
use Rattle.g_diagram_ports.specs.declared.port.Port.{Port}
use Rattle.g_diagram_ports.specs.Callees.{freedom_by}
use Rattle.g_diagram_ports.specs.Seen.{seen}
use Rattle.g_diagram_ports.specs.Standing.{StandFor}
use Rattle.g_wires.specs.Coding.{code_by, has_wire_of}
use Rattle.g_wires.specs.Checked.{ports_with}
use Rattle.g_wires.proofs.Codings.{is_coding}
use Rattle.g_wires.proofs.check.coded_ports.Goals as goal

pub returns : goal.returns
returns c =
    let P : List Port → Type 0 = All (has_wire_of c.in_ok-numbers.numbers) in
    let Q : List lines.Entry → Type 0 =
    λ es. StandFor (ports_in (control_lines 1 c.args.vi.now.panel ++ entries_lines (freedom_by c.args.callees.now) es)) (map seen c.in_ok-ports.ports.items) in
    is_coding c.in_ok-numbers.numbers c.in_ok-ports.ports.items (ports_with (freedom_by c.args.callees.now) c.args.vi.now) c.in_ok-coded.coded.items c.len.result
    c.in_ok-numbers.ensures.numbers (subst P c.as_slice.ensures.value c.in_ok-numbers.ensures.all) c.len.ensures.len c.len.ensures.small
    (c.in_ok-coded.ensures ∙ ap (map (code_by c.in_ok-numbers.numbers)) c.as_slice-2.ensures.value)
    (subst Q c.requires c.in_ok-ports.ensures)
