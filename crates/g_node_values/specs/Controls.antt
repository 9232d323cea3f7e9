-- Inner: what a call sets a control to, and the places of controls, as the code goes through a panel.
use Rattle.std.specs.Prelude.{ℕ, ◌+◌, List, [], ◌∷◌, Option, Some, None}
use Rattle.g_types.specs.declared.ty.Ty.{Ty}
use Rattle.g_values.specs.declared.value.Value.{Value}
use Rattle.g_diagram.specs.declared.panel.Lit.{Lit}
use Rattle.g_diagram.specs.declared.panel.PanelItem.{PanelItem}
use Rattle.g_diagram.specs.declared.panel.PanelItem.TheVariants.{Control, Indicator}
use Rattle.g_diagram.specs.Lines.{Wire}
use Rattle.g_border.specs.declared.place.WireSource.{WireSource}
use Rattle.g_border.specs.Readers.{Reader}
use Rattle.g_frames.specs.Panels.{default_of, argument}
use Rattle.g_node_values.specs.Outputs.{place}

-- by its input, if a call has one for it
abbrev pub argument_at : Reader → Option Wire → Option Lit → Ty → Value
argument_at r None given t = default_of given t
argument_at r (Some w) given t = argument r w given t

-- the operands of the controls, from a line on
abbrev pub control_places : (line : ℕ) → List PanelItem → List WireSource
control_places l [] = []
control_places l (Control name t required given out ∷ items) = place l 1 ∷ control_places (l + 1) items
control_places l (Indicator name t input ∷ items) = control_places (l + 1) items
