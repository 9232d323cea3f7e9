-- Rule 8: each `read` or `write` that names no panel object of its VI.
use Rattle.std.specs.Prelude.{ℕ, Bool, false, not, List, map, filter}
use Rattle.std.specs.List.{list_any}
use Rattle.std.specs.Str.{bytes_eq}
use Rattle.g_diagram.specs.declared.panel.PanelItem.{PanelItem}
use Rattle.g_diagram.specs.declared.panel.PanelItem.TheVariants.{Control, Indicator}
use Rattle.g_diagram.specs.Lines.{Entry, Kind, Const, Apply, Shows, Shared, Obtain, Read, Write, Call, Loop, Case, Sequence, InPlace}
use Rattle.g_rules_lines.specs.Spots.{Spot, whole}

abbrev pub panel_name : PanelItem → List ℕ
panel_name (Control name t required default out) = name
panel_name (Indicator name t input) = name

abbrev pub names_object : List PanelItem → (name : List ℕ) → Bool
names_object items name = list_any (λ item. bytes_eq (panel_name item) name) items

-- by a test of the names of panel objects
abbrev pub names_no_object : (List ℕ → Bool) → Kind → Bool
names_no_object stands (Const t literal out) = false
names_no_object stands (Apply op inputs outputs) = false
names_no_object stands (Shows name t w) = false
names_no_object stands (Shared op inputs outputs) = false
names_no_object stands (Obtain queue size item out) = false
names_no_object stands (Read object out) = not (stands object)
names_no_object stands (Write object input) = not (stands object)
names_no_object stands (Call vi inputs outputs) = false
names_no_object stands (Loop count stop iteration lines body) = false
names_no_object stands (Case selector lines arms) = false
names_no_object stands (Sequence parts) = false
names_no_object stands (InPlace lines body finish) = false

abbrev pub unlocated : (List ℕ → Bool) → List Entry → List Spot
unlocated stands es = map whole (filter (λ e. names_no_object stands e.kind) es)
