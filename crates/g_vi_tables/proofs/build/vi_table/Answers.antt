use Rattle.std.proofs.Common.{◌≡◌, ℕ, ◌+◌, List, ◌++◌, length, map, refl, sym, ap, ◌∙◌, subst}
use Rattle.std.specs.Option.{option_and_then}
use Rattle.g_diagram.specs.declared.hierarchy.Vi.{Vi}
use Rattle.g_diagram.specs.declared.panel.PanelItem.{PanelItem}
use Rattle.g_diagram.specs.Lines as lines
use Rattle.g_diagram.specs.Lines.{count_of, entries_of, lines_of, nodes_of}
use Rattle.g_diagram.specs.Ports.{Port, ports_of}
use Rattle.g_diagram_table.specs.Seen as node
use Rattle.g_border.specs.declared.place.WireSource.{WireSource}
use Rattle.g_frames.specs.Panels.{control_names, indicator_names}
use Rattle.g_frames.specs.State.{sources_in}
use Rattle.g_typing.specs.Typing.{panel_type}
use Rattle.g_vi_tables.specs.Kept.{number_in}
use Rattle.g_vi_tables.specs.Numbers.{AreNumbers}
use Rattle.g_vi_tables.specs.Places.{node_place, source_place}
use Rattle.g_vi_tables.specs.Sources.{SourceIn, seen, sources_of, places_in, first_named}
use Rattle.g_vi_tables.specs.Tables.{sources_at, nodes_at}
use Rattle.g_vi_tables.proofs.Inside.{rising}
use Rattle.g_vi_tables.proofs.Lines.{Rises, vi_rises}
use Rattle.g_vi_tables.proofs.PlaceLemmas.{numbered}
use Rattle.g_vi_tables.proofs.SourceLemmas.{places_of, named_of}
use Rattle.g_vi_tables.proofs.build.vi_table.Goals as goal

pub returns : goal.returns
returns c = λ vis.
    let vi : Vi = c.args.vi.now in
    let es : List lines.Entry = entries_of vi in
    let ps : List Port = ports_of vis vi in
    let ss : List SourceIn = sources_of vi.panel es in
    let all : map seen c.in_ok-found.found.items ≡ ss =
    c.in_ok-found.ensures ∙ ap (λ xs. sources_of vi.panel (map node.seen xs)) c.as_slice.ensures.value ∙ ap (sources_of vi.panel) c.in_ok-entries.ensures in
    let high : ℕ = (1 + length vi.panel) + count_of (map lines_of vi.top.nodes) in
    let nodes : (d : ℕ) → map node.seen (nodes_at c.in_ok-kept.kept.nodes d) ≡ nodes_of d es = λ d. c.in_ok-kept.ensures.nodes d ∙ ap (nodes_of d) c.in_ok-table.ensures in
    let placed : (d : ℕ) → sources_at c.in_ok-placed.placed.sources d ≡ places_in d ss =
    λ d. c.in_ok-placed.ensures.sources d ∙ ap (λ xs. places_in d (map seen xs)) c.as_slice-2.ensures.value ∙ ap (places_in d) all in
    let sources : (d : ℕ) → sources_at c.in_ok-placed.placed.sources d ≡ sources_in d ps = λ d. placed d ∙ sym (places_of vis vi d) in
    record {
      name_is = refl;
      clones_are = refl;
      panel_is = refl;
      entries_are = c.in_ok-entries.ensures;
      lines_rise = rising 1 high c.in_ok-entries.entries.items (subst (Rises 1 high) (sym c.in_ok-entries.ensures) (vi_rises vi));
      nodes_are = nodes;
      node_places_are = λ d l. c.in_ok-kept.ensures.places d l ∙ ap (node_place l) (nodes d);
      sources_are = sources;
      source_places_are = λ d p. c.in_ok-placed.ensures.places d p ∙ ap (source_place p) (sources d);
      names_are = λ d name.
          c.in_ok-names.ensures d name ∙ ap (λ xs. number_in c.in_ok-placed.placed.places d name (map seen xs)) c.as_slice-3.ensures.value
          ∙ ap (number_in c.in_ok-placed.placed.places d name) all
          ∙ numbered c.in_ok-placed.placed.places d name ss (λ p. c.in_ok-placed.ensures.places d p ∙ ap (source_place p) (placed d))
          ∙ ap (λ (qs : List WireSource). option_and_then (λ p. source_place p qs) (first_named d name ss)) (sym (places_of vis vi d))
          ∙ ap (option_and_then (λ p. source_place p (sources_in d ps))) (sym (named_of vis vi d name));
      cells_are = subst (λ (items : List PanelItem). AreNumbers (control_names items ++ indicator_names items) c.in_ok-cells_of.field-0) c.as_slice-panel.ensures c.in_ok-cells_of.ensures;
      objects_are = λ name. c.in_ok-objects_of.ensures name ∙ ap (λ (items : List PanelItem). panel_type items name) c.as_slice-panel.ensures;
      types_are = λ d name. refl;
    }
