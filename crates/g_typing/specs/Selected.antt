-- Rule 18: cases on a type that none may select on, and cases that leave some value of their selector's type without a branch.
use Rattle.std.specs.Prelude.{ℕ, ◌⊎◌, Bool, true, false, List, [], ◌∷◌, ◌++◌, if◌then◌else◌}
use Rattle.std.proofs.Common.{inl, inr}
use Rattle.g_types.specs.declared.ty.Ty.{Ty}
use Rattle.g_diagram.specs.declared.place.Place.{Place}
use Rattle.g_diagram.specs.declared.node.Selector.{Selector}
use Rattle.g_diagram.specs.Lines.{Arm, Entry, Kind, Const, Apply, Shows, Shared, Obtain, Read, Write, Call, Loop, Case, Sequence, InPlace}
use Rattle.g_typing.specs.Types.{Types, place, wire_type}
use Rattle.g_typing.specs.Rows.{unless}
use Rattle.g_typing.specs.Literals.{may_select, if_selecting}
use Rattle.g_rules_cases.proofs.Deciding.{unheld_or_none}

abbrev pub selectors_of : List Arm → List Selector
selectors_of [] = []
selectors_of (arm ∷ arms) = arm.selectors ++ selectors_of arms

abbrev pub is_no : {A : Type 0} → A ⊎ (A → ⊥) → Bool
is_no (inl a) = false
is_no (inr none) = true

-- whether each value of the type has a branch
abbrev pub is_complete : List Selector → Ty → Bool
is_complete ss t = is_no (unheld_or_none t ss)

abbrev pub uncovered : (vi line : ℕ) → List Selector → Ty → List Place
uncovered v l ss t = if is_complete ss t then [] else place v l 0 ∷ []

abbrev pub kind_unselected : Types → (vi line diagram : ℕ) → Kind → List Place
kind_unselected types v l d (Case selector lines arms) =
    unless (wire_type types d selector) may_select (place v l 1) ++ if_selecting (wire_type types d selector) (uncovered v l (selectors_of arms))
kind_unselected types v l d (Const t literal out) = []
kind_unselected types v l d (Apply p inputs outputs) = []
kind_unselected types v l d (Shows name t input) = []
kind_unselected types v l d (Shared op inputs outputs) = []
kind_unselected types v l d (Obtain queue size item out) = []
kind_unselected types v l d (Read object out) = []
kind_unselected types v l d (Write object input) = []
kind_unselected types v l d (Call name inputs outputs) = []
kind_unselected types v l d (Loop count stop iteration lines body) = []
kind_unselected types v l d (Sequence parts) = []
kind_unselected types v l d (InPlace lines body finish) = []

-- 18: all such places of a VI with these nodes
abbrev pub unselected : Types → (vi : ℕ) → List Entry → List Place
unselected types v [] = []
unselected types v (e ∷ es) = kind_unselected types v e.line e.diagram e.kind ++ unselected types v es
