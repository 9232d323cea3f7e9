-- What calls and local variables mean, as it is kept.
use Rattle.std.specs.Prelude.{ℕ, List, [], Option, Some, None}
use Rattle.std.specs.Ordering.{nat_cmp}
use Rattle.std.specs.Cmp.Lexicographic.{slice_cmp}
use Rattle.std.specs.Option.{option_map}
use Rattle.std.specs.BTreeMap.{BTreeMap, get_by}
use denote.Ref.{Bor}
use Rattle.g_types.specs.declared.ty.Ty.{Ty}
use Rattle.g_diagram.specs.declared.panel.PanelItem.{PanelItem}
use Rattle.g_typing.specs.Typing.{Callees, Objects}

abbrev pub found : {V : Type 0} → BTreeMap (Bor (List ℕ)) V → (name : List ℕ) → Option V
found m name = get_by (λ k. slice_cmp nat_cmp name k.now) m

-- the panel of the VI of a name
abbrev pub panel_in : BTreeMap (Bor (List ℕ)) (Bor (List PanelItem)) → (name : List ℕ) → Option (List PanelItem)
panel_in m name = option_map (λ panel. panel.now) (found m name)

abbrev pub or_nothing : Option (List PanelItem) → List PanelItem
or_nothing None = []
or_nothing (Some panel) = panel

abbrev pub callees_in : BTreeMap (Bor (List ℕ)) (Bor (List PanelItem)) → Callees
callees_in m name = or_nothing (panel_in m name)

-- the type of the panel object of a name
abbrev pub objects_in : BTreeMap (Bor (List ℕ)) (Bor Ty) → Objects
objects_in m name = option_map (λ t. t.now) (found m name)
