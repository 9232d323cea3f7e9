-- The places of a VI at which values come to wires, and the types of the names that have their sources there.
use Rattle.std.specs.Prelude.{ℕ, ◌+◌, ◌≡◌, ◌⊎◌, List, [], ◌∷◌, ◌++◌, Option, Some}
use Rattle.g_types.specs.declared.ty.Ty.{Ty}
use Rattle.g_diagram.specs.declared.node.Tunnel.{Tunnel}
use Rattle.g_diagram.specs.declared.panel.PanelItem.{PanelItem}
use Rattle.g_diagram.specs.declared.panel.PanelItem.TheVariants.{Control, Indicator}
use Rattle.g_diagram.specs.Lines.{Entry}
use Rattle.g_diagram.specs.Operands.{Side, Outside, border}
use Rattle.g_border.specs.declared.place.WireSource.{WireSource}
use Rattle.g_border.specs.Readers.{source_of, sources_on, place_all, node_lines, lines_sources}
use Rattle.g_frames.specs.Program.{FlatVi}
use Rattle.g_frames.specs.State.{nodes_in}

-- x is an element of a list
pub data Among {A : Type 0} (x : A) : List A → Type 0 where
  first : {xs : List A} → Among x (x ∷ xs)
  later : {y : A} {xs : List A} → Among x xs → Among x (y ∷ xs)

-- ---- the types of names by the places of their sources

-- each name that has its source at a place, whatever the diagram, is of this type, or has none
abbrev pub HasTypeAt : FlatVi → WireSource → Option Ty → Type 0
HasTypeAt vi w t = (d : ℕ) (name : List ℕ) → source_of vi.ports d name ≡ Some w → vi.types d name ≡ t

-- no name has its source at a place
abbrev pub IsUnnamed : FlatVi → WireSource → Type 0
IsUnnamed vi w = (d : ℕ) (name : List ℕ) → source_of vi.ports d name ≡ Some w → ⊥

-- the names at places have these types in order, and there is no name at a further place
abbrev pub HaveTypes : FlatVi → List WireSource → List (Option Ty) → Type 0
HaveTypes vi [] ts = Unit {0}
HaveTypes vi (w ∷ ws) [] = IsUnnamed vi w × HaveTypes vi ws []
HaveTypes vi (w ∷ ws) (t ∷ ts) = HasTypeAt vi w t × HaveTypes vi ws ts

-- ---- the places of lines

-- the sources of a node in its own diagram
abbrev pub node_places : Entry → List WireSource
node_places e = lines_sources Outside (node_lines e)

-- those of a border line on a side, and of lines from one on
abbrev pub line_places : Side → (line : ℕ) → Tunnel → List WireSource
line_places side l t = place_all l (sources_on side 1 (border t))

abbrev pub lines_places : Side → (line : ℕ) → List Tunnel → List WireSource
lines_places side l [] = []
lines_places side l (t ∷ ts) = line_places side l t ++ lines_places side (l + 1) ts

-- those of the controls of a panel, from a line on
abbrev pub control_places : (line : ℕ) → List PanelItem → List WireSource
control_places l [] = []
control_places l (Control name t required given out ∷ items) = record { line = l; operand = 1 } ∷ control_places (l + 1) items
control_places l (Indicator name t w ∷ items) = control_places (l + 1) items

-- ---- where the names of a diagram have their sources

-- a place is a source of a node of the diagram
pub record IsNodePlace (vi : FlatVi) (diagram : ℕ) (w : WireSource) : Type 0 where
  pub node : Entry
  pub stands : Among node (nodes_in vi diagram)
  pub gives : Among w (node_places node)

-- each name of a diagram has its source at one of the places to which the opening of a frame gives values, or at a node of the diagram
abbrev pub IsSupplied : FlatVi → (diagram : ℕ) → (opening : List WireSource) → Type 0
IsSupplied vi d opening = (name : List ℕ) (w : WireSource) → source_of vi.ports d name ≡ Some w → Among w opening ⊎ IsNodePlace vi d w
