-- The inputs of a call, and the branches of a case, one after another.
use Rattle.std.proofs.Common.{◌≡◌, ℕ, zero, suc, ◌+◌, List, [], ◌∷◌, ◌++◌, drop, refl, ap, sym, append_assoc, add-one, true, false}
use Rattle.std.proofs.lemmas.List.{append-nil}
use Rattle.std.specs.Prelude.{Option, Some, None, is_some}
use Rattle.g_types.specs.declared.ty.Ty.{Ty}
use Rattle.g_diagram.specs.declared.panel.PanelItem.{PanelItem}
use Rattle.g_diagram.specs.declared.panel.PanelItem.TheVariants.{Control, Indicator}
use Rattle.g_diagram.specs.Lines.{Wire}
use Rattle.g_typing.specs.Types.{Types, place, wire_type, wire_at, both}
use Rattle.g_typing.specs.Typing.{control_types, type_or_next}
use Rattle.g_typing.specs.Assigned.{unlike, inputs_unlike}
use Rattle.g_rules_types.specs.Calls.{item_unlike, next_input, after}

-- the input k and the further ones; one that isn't there is unwired
inputs_step : (types : Types) (v l d o : ℕ) (k : ℕ) (ws : List Wire) (t : Ty) (ts : List Ty)
    → inputs_unlike types v l d o (drop k ws) (t ∷ ts) ≡ unlike (wire_type types d (wire_at ws k)) (Some t) (place v l o) ++ inputs_unlike types v l d (o + 1) (drop (suc k) ws) ts
inputs_step types v l d o zero [] t [] = refl
inputs_step types v l d o zero [] t (u ∷ ts) = refl
inputs_step types v l d o zero (w ∷ ws) t ts = refl
inputs_step types v l d o (suc k) [] t [] = refl
inputs_step types v l d o (suc k) [] t (u ∷ ts) = refl
inputs_step types v l d o (suc k) (w ∷ ws) t ts = inputs_step types v l d o k ws t ts

pub item_step : (types : Types) (v l d k : ℕ) (ws : List Wire) (item : PanelItem) (items : List PanelItem)
    → inputs_unlike types v l d (k + 1) (drop k ws) (control_types (item ∷ items))
    ≡ item_unlike types v l d k ws item ++ inputs_unlike types v l d (next_input item k + 1) (drop (next_input item k) ws) (control_types items)
item_step types v l d k ws (Control name t required default out) items = rw add-one (inputs_step types v l d (suc k) k ws t (control_types items))
item_step types v l d k ws (Indicator name t input) items = refl

pub no_control : (types : Types) (v l d o : ℕ) (ws : List Wire) → inputs_unlike types v l d o ws [] ≡ []
no_control types v l d o [] = refl
no_control types v l d o (w ∷ ws) = refl

pub wired_next : (types : Types) (b : ℕ) (w : Wire) (rest : Option Ty) → is_some w ≡ true → type_or_next types b w rest ≡ wire_type types b w
wired_next types b (Some name) rest e = refl
wired_next types b None rest e = cc

pub unwired_next : (types : Types) (b : ℕ) (w : Wire) (rest : Option Ty) → is_some w ≡ false → type_or_next types b w rest ≡ rest
unwired_next types b (Some name) rest e = cc
unwired_next types b None rest e = refl

pub after_one : (ts : List Ty) (t : Ty) (more : Option (List Ty)) → after ts (both (Some t) more) ≡ after (ts ++ t ∷ []) more
after_one ts t None = refl
after_one ts t (Some us) = ap Some (sym (append_assoc ts (t ∷ []) us))

pub after_unknown : (ts : List Ty) (more : Option (List Ty)) → after ts (both None more) ≡ None
after_unknown ts more = refl

pub after_none : (ts : List Ty) → after ts (Some []) ≡ Some ts
after_none ts = ap Some (append-nil ts)

pub before_all : (more : Option (List Ty)) → after [] more ≡ more
before_all None = refl
before_all (Some us) = refl
