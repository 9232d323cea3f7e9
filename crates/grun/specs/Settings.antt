-- What settings say of controls: each names a control that no setting before it named, and spells a value of its type; a control that none
-- names has the literal that stands on its line, or the default of its type.
use Rattle.std.specs.Prelude.{◌≡◌, ℕ, List, [], ◌∷◌, ◌++◌, bytes_eq, Option, Some, None, if◌then◌else◌}
use Rattle.g_types.specs.declared.ty.Ty.{Ty}
use Rattle.g_values.specs.declared.value.Value.{Value}
use Rattle.g_valtext.specs.Spellings.{IsSpelling}
use Rattle.g_diagram.specs.declared.panel.PanelItem.{PanelItem}
use Rattle.g_diagram.specs.declared.panel.PanelItem.TheVariants.{Control, Indicator}
use Rattle.g_line.specs.declared.forms.Setting.{Setting}
use Rattle.g_frames.specs.Panels.{default_of}

-- something for each of some names
abbrev pub Named : Type 0 → Type 0
Named A = List (List ℕ × A)

-- what stands first for a name
abbrev pub find : {A : Type 0} → List ℕ → Named A → Option A
find name [] = None
find name (e ∷ es) = if bytes_eq name e.0 then Some e.1 else find name es

-- the controls with their types, in listing order
abbrev pub controls : List PanelItem → Named Ty
controls [] = []
controls (Control name t required given out ∷ items) = (name, t) ∷ controls items
controls (Indicator name t input ∷ items) = controls items

-- the setting names a control, and its text spells this value of the control's type
pub record IsValueFor (cs : Named Ty) (s : Setting) (v : Value) : Type 0 where
  pub type : Ty
  pub named : find s.name cs ≡ Some type
  pub spelled : IsSpelling type s.text v

-- these settings give these values, where others gave some before: each names a control that none before it names, and spells a value for it
abbrev pub Give : Named Ty → (before : Named Value) → List Setting → Named Value → Type 0
Give cs before [] values = before ≡ values
Give cs before (s ∷ ss) values = (v : Value) × IsValueFor cs s v × (find s.name before ≡ None) × Give cs (before ++ (s.name, v) ∷ []) ss values

-- the first wrong setting: those before it give values, and with it they give none
pub record IsWrongSetting (cs : Named Ty) (settings : List Setting) (s : Setting) : Type 0 where
  pub before : List Setting
  pub after : List Setting
  pub split : settings ≡ before ++ s ∷ after
  pub values : Named Value
  pub right : Give cs [] before values
  pub wrong : (others : Named Value) → Give cs [] (before ++ s ∷ []) others → ⊥

-- a control that no setting names has the value of its own
abbrev pub value_or : (own : Value) → Option Value → Value
value_or own None = own
value_or own (Some v) = v

abbrev pub item_values : Named Value → PanelItem → List Value
item_values values (Control name t required literal out) = value_or (default_of literal t) (find name values) ∷ []
item_values values (Indicator name t input) = []

-- the values of the controls, in listing order
abbrev pub control_values : List PanelItem → Named Value → List Value
control_values [] values = []
control_values (item ∷ items) values = item_values values item ++ control_values items values
