-- Rule 15: literals and selectors that aren't values of their type.
use Rattle.std.specs.Prelude.{ℕ, ℤ, ◌+◌, Bool, true, false, ◌&&◌, ◌||◌, List, [], ◌∷◌, ◌++◌, length, if◌then◌else◌, Option, Some, None, nat_le}
use Rattle.std.specs.List.{list_all}
use Rattle.g_types.specs.declared.ty.Ty.{Ty, out-Ty}
use Rattle.g_types.specs.declared.ty.Ty.TheOpen.{Ty-F}
use Rattle.g_types.specs.Ty.{is_num}
use Rattle.g_values.specs.Proper.{most}
use Rattle.g_prims_definitions.specs.Kinds.{is_bool, is_str}
use Rattle.g_diagram.specs.declared.place.Place.{Place}
use Rattle.g_diagram.specs.declared.panel.Lit.{Lit, fold-Lit}
use Rattle.g_diagram.specs.declared.panel.Lit.TheOpen.{Lit-F}
use Rattle.g_diagram.specs.declared.panel.PanelItem.{PanelItem}
use Rattle.g_diagram.specs.declared.panel.PanelItem.TheVariants.{Control, Indicator}
use Rattle.g_diagram.specs.declared.node.Selector.{Selector}
use Rattle.g_diagram.specs.declared.node.Selector.TheVariants as selector
use Rattle.g_rules_cases.specs.Held.{is_in_range}
use Rattle.g_diagram.specs.Lines.{Arm, Entry, Kind, Const, Apply, Shows, Shared, Obtain, Read, Write, Call, Loop, Case, Sequence, InPlace}
use Rattle.g_typing.specs.Types.{Types, place, wire_type}

-- literals

abbrev pub is_number_of : ℤ → Ty-F Ty → Bool
is_number_of n (Ty-F.Num r) = is_in_range r n
is_number_of n _ = false

abbrev pub is_short : {A : Type 0} → List A → Bool
is_short xs = nat_le (length xs) most

abbrev pub is_reference_at : Ty-F Ty → Bool
is_reference_at (Ty-F.QueueRef t) = true
is_reference_at (Ty-F.ValueRef t) = true
is_reference_at _ = false

-- each of some literals, by its test, is a value of one type
abbrev pub are_values_of : List (Ty → Bool) → Ty → Bool
are_values_of fs t = list_all (λ f. f t) fs

abbrev pub is_array_of : List (Ty → Bool) → Ty-F Ty → Bool
is_array_of fs (Ty-F.Arr t) = is_short fs && are_values_of fs t
is_array_of fs _ = false

-- each is a value of its own type
abbrev pub are_each : List (Ty → Bool) → List Ty → Bool
are_each [] [] = true
are_each (f ∷ fs) (t ∷ ts) = f t && are_each fs ts
are_each _ _ = false

abbrev pub is_cluster_of : List (Ty → Bool) → Ty-F Ty → Bool
is_cluster_of fs (Ty-F.Cluster ts) = are_each fs ts
is_cluster_of fs _ = false

abbrev pub literal_step : Lit-F (Ty → Bool) → Ty → Bool
literal_step (Lit-F.Number n) t = is_number_of n (out-Ty t)
literal_step (Lit-F.Truth b) t = is_bool t
literal_step (Lit-F.Text s) t = is_str t && is_short s
literal_step Lit-F.Null t = is_reference_at (out-Ty t)
literal_step (Lit-F.Array fs) t = is_array_of fs (out-Ty t)
literal_step (Lit-F.Cluster fs) t = is_cluster_of fs (out-Ty t)

-- whether a literal is a value of the type
abbrev pub is_value_of : Lit → Ty → Bool
is_value_of = fold-Lit (Ty → Bool) literal_step

abbrev pub is_default_of : Option Lit → Ty → Bool
is_default_of None t = true
is_default_of (Some literal) t = is_value_of literal t

-- selectors

-- the types that a case may select on
abbrev pub may_select : Ty → Bool
may_select t = is_num t || (is_bool t || is_str t)

-- whether a selector is of the type: a range where both its ends are, and `default` always
abbrev pub selects_at : Ty-F Ty → Selector → Bool
selects_at (Ty-F.Num r) (selector.Number n) = is_in_range r n
selects_at (Ty-F.Num r) (selector.Range low high) = is_in_range r low && is_in_range r high
selects_at Ty-F.Bool (selector.Truth b) = true
selects_at Ty-F.Str (selector.Text s) = is_short s
selects_at _ selector.Default = true
selects_at _ _ = false

abbrev pub selects : Ty → Selector → Bool
selects t s = selects_at (out-Ty t) s

abbrev pub arms_mistake : (vi : ℕ) → Ty → List Arm → List Place
arms_mistake v t [] = []
arms_mistake v t (arm ∷ arms) = (if list_all (selects t) arm.selectors then [] else place v arm.body 0 ∷ []) ++ arms_mistake v t arms

-- nothing is said where the selector's type is unknown or not allowed
abbrev pub if_selecting : Option Ty → (Ty → List Place) → List Place
if_selecting None f = []
if_selecting (Some t) f = if may_select t then f t else []

-- nodes and panels

abbrev pub kind_mistakes : Types → (vi line diagram : ℕ) → Kind → List Place
kind_mistakes types v l d (Const t literal out) = if is_value_of literal t then [] else place v l 0 ∷ []
kind_mistakes types v l d (Case selector lines arms) = if_selecting (wire_type types d selector) (λ t. arms_mistake v t arms)
kind_mistakes types v l d (Apply p inputs outputs) = []
kind_mistakes types v l d (Shows name t input) = []
kind_mistakes types v l d (Shared op inputs outputs) = []
kind_mistakes types v l d (Obtain queue size item out) = []
kind_mistakes types v l d (Read object out) = []
kind_mistakes types v l d (Write object input) = []
kind_mistakes types v l d (Call name inputs outputs) = []
kind_mistakes types v l d (Loop count stop iteration lines body) = []
kind_mistakes types v l d (Sequence parts) = []
kind_mistakes types v l d (InPlace lines body finish) = []

abbrev pub nodes_mistake : Types → (vi : ℕ) → List Entry → List Place
nodes_mistake types v [] = []
nodes_mistake types v (e ∷ es) = kind_mistakes types v e.line e.diagram e.kind ++ nodes_mistake types v es

abbrev pub item_mistakes : (vi line : ℕ) → PanelItem → List Place
item_mistakes v l (Control name t required default out) = if is_default_of default t then [] else place v l 0 ∷ []
item_mistakes v l (Indicator name t input) = []

abbrev pub panel_mistakes : (vi line : ℕ) → List PanelItem → List Place
panel_mistakes v l [] = []
panel_mistakes v l (item ∷ items) = item_mistakes v l item ++ panel_mistakes v (l + 1) items

-- 15: all such places of a VI
abbrev pub mistaken : Types → (vi : ℕ) → List PanelItem → List Entry → List Place
mistaken types v panel es = panel_mistakes v 1 panel ++ nodes_mistake types v es
