-- The look-ups of one VI. A table is that of a VI as the firing machine sees it where each look-up finds what the definitions have.
use Rattle.std.specs.Prelude.{ℕ, ◌≡◌, List, [], ◌++◌, map, Option, Some, None, Vec}
use Rattle.std.specs.Ordering.{ordering_then, nat_cmp}
use Rattle.std.specs.Option.{option_and_then}
use Rattle.std.specs.List.Sorted.{IsNonDecreasingBy}
use Rattle.std.specs.BTreeMap.{BTreeMap, get_by}
use Rattle.std.specs.declared.alloc.Global.{Global}
use Rattle.g_values.specs.declared.value.Value.{Value}
use Rattle.g_diagram_table.specs.declared.entry.Entry.{Entry}
use Rattle.g_diagram_table.specs.Seen.{seen}
use Rattle.g_border.specs.declared.place.WireSource.{WireSource}
use Rattle.g_border.specs.Readers.{Reader, source_of}
use Rattle.g_wire_values.specs.Names.{Numbers, named}
use Rattle.g_typing.specs.Typing.{panel_type}
use Rattle.g_frames.specs.Panels.{control_names, indicator_names}
use Rattle.g_frames.specs.Program.{FlatVi}
use Rattle.g_frames.specs.State.{sources_in, nodes_in, value_at}
use Rattle.g_vi_tables.specs.declared.table.ViTable.{ViTable}
use Rattle.g_vi_tables.specs.Numbers.{AreNumbers}
use Rattle.g_vi_tables.specs.Places.{node_place, source_place}
use Rattle.g_vi_tables.specs.Types.{named_type, types_of}

-- the values on the wires of a diagram, by the values of its sources
abbrev pub reader_at : FlatVi → (diagram : ℕ) → List (Option Value) → Reader
reader_at vi d values name = option_and_then (value_at (sources_in d vi.ports) values) (source_of vi.ports d name)

-- ---- what is kept

abbrev pub items_or_none : {A : Type 0} → Option (Vec A Global) → List A
items_or_none None = []
items_or_none (Some v) = v.items

-- the nodes of a diagram
abbrev pub Nodes : Type 0
Nodes = BTreeMap ℕ (Vec Entry Global)

abbrev pub nodes_at : Nodes → (diagram : ℕ) → List Entry
nodes_at m d = items_or_none (get_by (nat_cmp d) m)

-- the place of the node on a line among those of its diagram
abbrev pub NodePlaces : Type 0
NodePlaces = BTreeMap (ℕ × ℕ) ℕ

abbrev pub node_place_in : NodePlaces → (diagram line : ℕ) → Option ℕ
node_place_in m d l = get_by (λ k. ordering_then (nat_cmp d k.0) (nat_cmp l k.1)) m

-- the sources of a diagram
abbrev pub Sources : Type 0
Sources = BTreeMap ℕ (Vec WireSource Global)

abbrev pub sources_at : Sources → (diagram : ℕ) → List WireSource
sources_at m d = items_or_none (get_by (nat_cmp d) m)

-- the place of a source among those of its diagram
abbrev pub SourcePlaces : Type 0
SourcePlaces = BTreeMap (ℕ × WireSource) ℕ

abbrev pub source_place_in : SourcePlaces → (diagram : ℕ) → WireSource → Option ℕ
source_place_in m d p = get_by (λ k. ordering_then (nat_cmp d k.0) (ordering_then (nat_cmp p.line k.1.line) (nat_cmp p.operand k.1.operand))) m

-- the places of the named sources of a diagram
abbrev pub Names : Type 0
Names = BTreeMap ℕ Numbers

abbrev pub numbers_or_none : Option Numbers → Numbers
numbers_or_none None = []
numbers_or_none (Some names) = names

abbrev pub names_at : Names → (diagram : ℕ) → Numbers
names_at m d = numbers_or_none (get_by (nat_cmp d) m)

-- ---- a table and its VI

pub record IsViTable (vi : FlatVi) (t : ViTable) : Type 0 where
  pub name_is : t.vi.now.name ≡ vi.name
  pub clones_are : t.vi.now.clones ≡ vi.clones
  pub panel_is : t.vi.now.panel ≡ vi.panel
  pub entries_are : map seen t.entries.items ≡ vi.entries
  pub lines_rise : IsNonDecreasingBy (λ e. e.line) t.entries.items
  pub nodes_are : (d : ℕ) → map seen (nodes_at t.nodes d) ≡ nodes_in vi d
  pub node_places_are : (d l : ℕ) → node_place_in t.node_places d l ≡ node_place l (nodes_in vi d)
  pub sources_are : (d : ℕ) → sources_at t.sources d ≡ sources_in d vi.ports
  pub source_places_are : (d : ℕ) (p : WireSource) → source_place_in t.source_places d p ≡ source_place p (sources_in d vi.ports)
  pub names_are : (d : ℕ) (name : List ℕ) → named (names_at t.names d) name ≡ option_and_then (λ p. source_place p (sources_in d vi.ports)) (source_of vi.ports d name)
  pub cells_are : AreNumbers (control_names vi.panel ++ indicator_names vi.panel) t.cells
  pub objects_are : (name : List ℕ) → named_type t.objects name ≡ panel_type vi.panel name
  pub types_are : (d : ℕ) (name : List ℕ) → types_of t.types d name ≡ vi.types d name
