-- Inner: what is kept of a VI by diagram, while it is built.
use Rattle.std.specs.Prelude.{ℕ, ◌≡◌, List, map, Option}
use Rattle.std.specs.Option.{option_map, unwrap_or}
use Rattle.g_diagram_table.specs.Seen as node
use Rattle.g_border.specs.declared.place.WireSource.{WireSource}
use Rattle.g_vi_tables.specs.Places.{node_place, source_place}
use Rattle.g_vi_tables.specs.Sources.{SourceIn, first_named}
use Rattle.g_vi_tables.specs.Tables.{Nodes, NodePlaces, Sources, SourcePlaces, nodes_at, node_place_in, sources_at, source_place_in}

-- the places of nodes are those among the nodes of their diagrams
abbrev pub AreNodePlaces : Nodes → NodePlaces → Type 0
AreNodePlaces nodes places = (d l : ℕ) → node_place_in places d l ≡ node_place l (map node.seen (nodes_at nodes d))

abbrev pub AreSourcePlaces : Sources → SourcePlaces → Type 0
AreSourcePlaces sources places = (d : ℕ) (p : WireSource) → source_place_in places d p ≡ source_place p (sources_at sources d)

-- the place of the first source of a name in a diagram
abbrev pub number_in : SourcePlaces → (diagram : ℕ) → (name : List ℕ) → List SourceIn → Option ℕ
number_in places d name ss = option_map (λ p. unwrap_or (source_place_in places d p) 0) (first_named d name ss)
