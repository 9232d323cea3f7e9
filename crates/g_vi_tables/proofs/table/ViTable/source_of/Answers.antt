use Rattle.std.proofs.Common.{List, ap, sym, ◌∙◌}
use Rattle.std.specs.Prelude.{slice_get}
use Rattle.std.specs.Option.{option_and_then}
use Rattle.g_border.specs.declared.place.WireSource.{WireSource}
use Rattle.g_frames.specs.State.{sources_in}
use Rattle.g_vi_tables.proofs.PlaceLemmas.{source_by}
use Rattle.g_vi_tables.proofs.table.ViTable.source_of.Goals as goal

pub returns-in-Some : goal.returns-in-Some
returns-in-Some c = λ vi is.
    let qs : List WireSource = sources_in c.args.diagram vi.ports in
    sym c.source_at.ensures ∙ ap (λ (xs : List WireSource). slice_get xs c.in-Some.place) (c.sources.ensures vi is)
    ∙ ap (option_and_then (slice_get qs)) (sym c.in-Some.is ∙ c.named_place.ensures vi is) ∙ source_by vi.ports c.args.diagram c.args.name.now

pub returns-in-None : goal.returns-in-None
returns-in-None c = λ vi is.
    let qs : List WireSource = sources_in c.args.diagram vi.ports in
    ap (option_and_then (slice_get qs)) (sym c.in-None.is ∙ c.named_place.ensures vi is) ∙ source_by vi.ports c.args.diagram c.args.name.now
