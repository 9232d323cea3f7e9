-- The cells of a panel, and what a call sets its controls to.
use Rattle.std.specs.Prelude.{ℕ, suc, ◌+◌, List, [], ◌∷◌, ◌++◌, Option, Some, None, if◌then◌else◌}
use Rattle.std.specs.Option.{option_map_or}
use Rattle.std.specs.Str.{bytes_eq}
use Rattle.g_types.specs.declared.ty.Ty.{Ty}
use Rattle.g_values.specs.declared.value.Value.{Value}
use Rattle.g_values.specs.Coerce.{coerced}
use Rattle.g_values.specs.Default.{default}
use Rattle.g_literals.specs.Values.{literal_value}
use Rattle.g_diagram.specs.declared.panel.Lit.{Lit}
use Rattle.g_diagram.specs.declared.panel.PanelItem.{PanelItem}
use Rattle.g_diagram.specs.declared.panel.PanelItem.TheVariants.{Control, Indicator}
use Rattle.g_diagram.specs.Lines.{Wire}
use Rattle.g_border.specs.Readers.{Reader, value_on, Given}

abbrev pub control_names : List PanelItem → List (List ℕ)
control_names [] = []
control_names (Control name t required given out ∷ items) = name ∷ control_names items
control_names (Indicator name t input ∷ items) = control_names items

abbrev pub indicator_names : List PanelItem → List (List ℕ)
indicator_names [] = []
indicator_names (Control name t required given out ∷ items) = indicator_names items
indicator_names (Indicator name t input ∷ items) = name ∷ indicator_names items

abbrev pub place_of : (name : List ℕ) → List (List ℕ) → ℕ
place_of name [] = 0
place_of name (n ∷ ns) = if bytes_eq n name then 0 else suc (place_of name ns)

-- the number of the cell of a panel object: the controls stand before the indicators
abbrev pub cell_number : List PanelItem → (name : List ℕ) → ℕ
cell_number items name = place_of name (control_names items ++ indicator_names items)

-- a control that nothing sets has its written literal, else its type's default
abbrev pub default_of : Option Lit → Ty → Value
default_of given t = option_map_or (λ literal. literal_value literal t) given (default t)

abbrev pub control_defaults : List PanelItem → List Value
control_defaults [] = []
control_defaults (Control name t required given out ∷ items) = default_of given t ∷ control_defaults items
control_defaults (Indicator name t input ∷ items) = control_defaults items

abbrev pub indicator_defaults : List PanelItem → List Value
indicator_defaults [] = []
indicator_defaults (Control name t required given out ∷ items) = indicator_defaults items
indicator_defaults (Indicator name t input ∷ items) = default t ∷ indicator_defaults items

abbrev pub argument : Reader → Wire → Option Lit → Ty → Value
argument r None given t = default_of given t
argument r (Some name) given t = coerced (value_on r (Some name)) t

-- what a call sets the controls to: its inputs coerced to their types, and the default where an input is unwired
abbrev pub arguments : Reader → (inputs : List Wire) → List PanelItem → List Value
arguments r inputs [] = []
arguments r [] (Control name t required given out ∷ items) = default_of given t ∷ arguments r [] items
arguments r (w ∷ ws) (Control name t required given out ∷ items) = argument r w given t ∷ arguments r ws items
arguments r inputs (Indicator name t input ∷ items) = arguments r inputs items

-- values of the controls, in listing order, at the operands of their lines, from a line on
abbrev pub controls_given : (line : ℕ) → List PanelItem → List Value → Given
controls_given l [] vs = []
controls_given l (Control name t required given out ∷ items) [] = []
controls_given l (Control name t required given out ∷ items) (v ∷ vs) = (record { line = l; operand = 1 }, v) ∷ controls_given (l + 1) items vs
controls_given l (Indicator name t input ∷ items) vs = controls_given (l + 1) items vs
