use Rattle.std.proofs.Common.{◌≡◌, List, map, ap, ◌∙◌}
use Rattle.g_diagram.specs.Lines.{Entry, entries_of}
use Rattle.g_diagram_table.specs.Seen.{seen}
use Rattle.g_infer.specs.Answer.{types_in}
use Rattle.g_rules_types.specs.Panels.{callees_in, objects_in}
use Rattle.g_infer.proofs.InferLemmas.{objects_same, typable_at, typing_at, breaks_at}
use Rattle.g_infer.proofs.infer.infer_vi.Goals as goal

pub infer_wires-requires-clause-objects : goal.infer_wires-requires-clause-objects
infer_wires-requires-clause-objects c = objects_same (objects_in c.in_ok-objects.objects) c.as_slice-panel.result.now c.in_ok-objects.ensures

pub infer_wires-requires-clause-typable : goal.infer_wires-requires-clause-typable
infer_wires-requires-clause-typable c =
    let es : List Entry = map seen c.as_slice.result.now in
    let same : es ≡ entries_of c.args.vi.now = ap (map seen) c.as_slice.ensures.value ∙ c.in_ok-entries.ensures in
    typable_at (callees_in c.args.panels.now) c.as_slice-panel.result.now c.args.vi.now.panel es (entries_of c.args.vi.now) c.as_slice-panel.ensures same c.requires

pub returns : goal.returns
returns c =
    let es : List Entry = map seen c.as_slice.result.now in
    let same : es ≡ entries_of c.args.vi.now = ap (map seen) c.as_slice.ensures.value ∙ c.in_ok-entries.ensures in
    record {
      typing = typing_at (callees_in c.args.panels.now) c.as_slice-panel.result.now c.args.vi.now.panel es (entries_of c.args.vi.now) (types_in c.in_ok-found.found) c.as_slice-panel.ensures same
          c.in_ok-found.ensures.typing;
      breaks = breaks_at (callees_in c.args.panels.now) c.as_slice-panel.result.now c.args.vi.now.panel es (entries_of c.args.vi.now) (types_in c.in_ok-found.found) c.args.number c.args.breaks.now.items
          c.infer_wires.new.breaks.items c.as_slice-panel.ensures same c.in_ok-found.ensures.breaks;
    }
