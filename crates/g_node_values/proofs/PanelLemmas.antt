-- The controls of a panel, one after another.
use Rattle.std.proofs.Common.{◌≡◌, ℕ, zero, suc, ◌+◌, Bool, List, [], ◌∷◌, drop, refl, ap, ◌∙◌, arith}
use Rattle.std.specs.Prelude.{Option, slice_get}
use Rattle.g_types.specs.declared.ty.Ty.{Ty}
use Rattle.g_values.specs.declared.value.Value.{Value}
use Rattle.g_diagram.specs.declared.panel.Lit.{Lit}
use Rattle.g_diagram.specs.declared.panel.PanelItem.{PanelItem}
use Rattle.g_diagram.specs.declared.panel.PanelItem.TheVariants.{Control, Indicator}
use Rattle.g_diagram.specs.Lines.{Wire}
use Rattle.g_border.specs.Readers.{Reader, Given, paired}
use Rattle.g_frames.specs.Panels.{arguments, controls_given}
use Rattle.g_node_values.specs.Controls.{argument_at, control_places}
use Rattle.g_node_values.specs.Outputs.{place}

takes : (r : Reader) (ws : List Wire) (k : ℕ) (name : List ℕ) (t : Ty) (required : Bool) (given : Option Lit) (out : Wire) (items : List PanelItem)
    → arguments r (drop k ws) (Control name t required given out ∷ items) ≡ argument_at r (slice_get ws k) given t ∷ arguments r (drop (suc k) ws) items
takes r [] zero name t required given out items = refl
takes r [] (suc k) name t required given out items = refl
takes r (w ∷ ws) zero name t required given out items = refl
takes r (w ∷ ws) (suc k) name t required given out items = takes r ws k name t required given out items

-- a control takes the next input, if there is one
pub next_argument : (r : Reader) (ws : List Wire) (k : ℕ) (name : List ℕ) (t : Ty) (required : Bool) (given : Option Lit) (out : Wire) (items : List PanelItem)
    → arguments r (drop k ws) (Control name t required given out ∷ items) ≡ argument_at r (slice_get ws k) given t ∷ arguments r (drop (k + 1) ws) items
next_argument r ws k name t required given out items =
    let after : suc k ≡ k + 1 = omega arith in
    takes r ws k name t required given out items ∙ ap (λ (n : ℕ). argument_at r (slice_get ws k) given t ∷ arguments r (drop n ws) items) after

-- values of the controls are values at their places
pub at_places : (l : ℕ) (items : List PanelItem) (vs : List Value) → paired (control_places l items) vs ≡ controls_given l items vs
at_places l [] vs = refl
at_places l (Control name t required given out ∷ items) [] = refl
at_places l (Control name t required given out ∷ items) (v ∷ vs) = ap (λ (given : Given). (place l 1, v) ∷ given) (at_places (l + 1) items vs)
at_places l (Indicator name t input ∷ items) vs = at_places (l + 1) items vs
