-- What calls mean: the first VI of a name, with its numbers of controls and indicators.
use Rattle.std.specs.Prelude.{ℕ, Bool, true, false, not, List, filter, length, Option}
use Rattle.std.specs.Option.{option_map}
use Rattle.g_diagram.specs.declared.panel.PanelItem.{PanelItem}
use Rattle.g_diagram.specs.declared.panel.PanelItem.TheVariants.{Control, Indicator}
use Rattle.g_diagram.specs.declared.hierarchy.Vi.{Vi}
use Rattle.g_diagram.specs.Ports.{first_vi}

abbrev pub is_control : PanelItem → Bool
is_control (Control name t required default out) = true
is_control (Indicator name t input) = false

abbrev pub control_count : List PanelItem → ℕ
control_count items = length (filter is_control items)

abbrev pub indicator_count : List PanelItem → ℕ
indicator_count items = length (filter (λ item. not (is_control item)) items)

-- how many controls and indicators the first VI of a name has
abbrev pub Arities : Type 0
Arities = List ℕ → Option (ℕ × ℕ)

abbrev pub arity : Vi → ℕ × ℕ
arity vi = (control_count vi.panel, indicator_count vi.panel)

abbrev pub arities : List Vi → Arities
arities vis name = option_map arity (first_vi vis name)
