-- Inner: the inputs of a call by the panel of the VI that it calls.
use Rattle.std.specs.Prelude.{ℕ, ◌+◌, List, [], ◌++◌, Option, Some, None}
use Rattle.g_types.specs.declared.ty.Ty.{Ty}
use Rattle.g_diagram.specs.declared.place.Place.{Place}
use Rattle.g_diagram.specs.declared.panel.PanelItem.{PanelItem}
use Rattle.g_diagram.specs.declared.panel.PanelItem.TheVariants.{Control, Indicator}
use Rattle.g_diagram.specs.Lines.{Wire}
use Rattle.g_typing.specs.Types.{Types, place, wire_type, wire_at}
use Rattle.g_typing.specs.Assigned.{unlike}

-- input k, if it goes to this object
abbrev pub item_unlike : Types → (vi line diagram k : ℕ) → List Wire → PanelItem → List Place
item_unlike types v l d k ws (Control name t required default out) = unlike (wire_type types d (wire_at ws k)) (Some t) (place v l (k + 1))
item_unlike types v l d k ws (Indicator name t input) = []

-- the number of the input after it
abbrev pub next_input : PanelItem → (k : ℕ) → ℕ
next_input (Control name t required default out) k = k + 1
next_input (Indicator name t input) k = k

-- types before those that follow, where all are known
abbrev pub after : List Ty → Option (List Ty) → Option (List Ty)
after ts None = None
after ts (Some us) = Some (ts ++ us)
