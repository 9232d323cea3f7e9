-- What is broken of rules 15 to 18.
use Rattle.std.specs.Prelude.{ℕ, ◌≡◌, List, ◌++◌, map, Some, slice_get}
use Rattle.std.specs.List.{Contains}
use Rattle.g_diagram.specs.declared.place.Break.{Break}
use Rattle.g_diagram.specs.declared.place.Place.{Place}
use Rattle.g_diagram.specs.declared.panel.PanelItem.{PanelItem}
use Rattle.g_diagram.specs.declared.hierarchy.Vi.{Vi}
use Rattle.g_diagram.specs.declared.hierarchy.Hierarchy.{Hierarchy}
use Rattle.g_diagram.specs.Lines.{Entry, entries_of}
use Rattle.g_typing.specs.Types.{Types}
use Rattle.g_typing.specs.Rows.{rowless}
use Rattle.g_typing.specs.Typing.{Callees, Objects, IsTyping, panel_type, called_panel}
use Rattle.g_typing.specs.Literals.{mistaken}
use Rattle.g_typing.specs.Assigned.{unassignable}
use Rattle.g_typing.specs.Selected.{unselected}

abbrev pub broken : (rule : ℕ) → Place → Break
broken rule p = record { place = p; rule = rule }

-- those of VI v with this panel and these nodes, whose wires have these types, by what calls and local variables mean
abbrev pub breaks_by : Callees → Objects → (panel : List PanelItem) → (types : Types) → (v : ℕ) → List Entry → List Break
breaks_by called objects panel types v es =
    map (broken 15) (mistaken types v panel es)
    ++ (map (broken 16) (rowless types v es) ++ (map (broken 17) (unassignable called objects types v es) ++ map (broken 18) (unselected types v es)))

-- a local variable means an object of the panel
abbrev pub breaks_with : Callees → (panel : List PanelItem) → (types : Types) → (v : ℕ) → List Entry → List Break
breaks_with called panel types v es = breaks_by called (panel_type panel) panel types v es

-- a break of a VI, by a typing of it
pub record TypeBreak (h : Hierarchy) (b : Break) : Type 0 where
  pub vi : Vi
  pub stands : slice_get h.vis b.place.vi ≡ Some vi
  pub types : Types
  pub typing : IsTyping h.vis vi types
  pub is_broken : Contains (breaks_with (called_panel h.vis) vi.panel types b.place.vi (entries_of vi)) b
