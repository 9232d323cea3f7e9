-- Typings and breaks of cases by their selectors, computed.
use Rattle.std.proofs.Common.{◌≡◌, refl, List, [], ◌∷◌, true, false}
use Rattle.std.specs.Prelude.{ℕ, pos, negsuc, None, codes}
use Rattle.g_types.specs.declared.rep.Rep.TheVariants.{I8, U8}
use Rattle.g_types.specs.declared.ty.Ty.TheVariants as ty
use Rattle.g_diagram.specs.declared.panel.PanelItem.{PanelItem}
use Rattle.g_diagram.specs.declared.panel.PanelItem.TheVariants.{Control}
use Rattle.g_diagram.specs.declared.node.Selector.TheVariants as selector
use Rattle.g_diagram.specs.declared.node.Selector.{Selector}
use Rattle.g_diagram.specs.Lines.{Wire, Arm, Entry, entry, Case}
use Rattle.g_typing.specs.Typing.{Given}
use Rattle.g_typing.proofs.Listings.{i32, w, known, gives, breaks, at, everything}

abbrev arm : List Selector → List Wire → ℕ → Arm
arm selectors gives body = record { selectors = selectors; gives = gives; body = body }

-- control a i8 -> a; case a; when -128..-1; when 0..126, 127; end
abbrev all_numbers_panel : List PanelItem
all_numbers_panel =
    Control (codes "a") (ty.Num I8) false None (w (codes "a")) ∷
    []

abbrev all_numbers : List Entry
all_numbers =
    entry 2 0 (Case (w (codes "a")) [] ((arm ((selector.Range (negsuc 127) (negsuc 0)) ∷ []) [] 3) ∷ (arm ((selector.Range (pos 0) (pos 126)) ∷ (selector.Number (pos 127)) ∷ []) [] 4) ∷ [])) ∷
    []

abbrev all_numbers_types : List Given
all_numbers_types =
    known 0 (codes "a") (ty.Num I8) ∷
    []

all_numbers_typed : gives [] all_numbers_panel all_numbers all_numbers_types ≡ all_numbers_types
unfolding everything
all_numbers_typed = refl

all_numbers_breaks : breaks [] all_numbers_panel all_numbers all_numbers_types ≡ []
unfolding everything
all_numbers_breaks = refl

-- control a i8 -> a; case a; when -128..-1; when 1..127; end
abbrev one_number_left_panel : List PanelItem
one_number_left_panel =
    Control (codes "a") (ty.Num I8) false None (w (codes "a")) ∷
    []

abbrev one_number_left : List Entry
one_number_left =
    entry 2 0 (Case (w (codes "a")) [] ((arm ((selector.Range (negsuc 127) (negsuc 0)) ∷ []) [] 3) ∷ (arm ((selector.Range (pos 1) (pos 127)) ∷ []) [] 4) ∷ [])) ∷
    []

abbrev one_number_left_types : List Given
one_number_left_types =
    known 0 (codes "a") (ty.Num I8) ∷
    []

one_number_left_typed : gives [] one_number_left_panel one_number_left one_number_left_types ≡ one_number_left_types
unfolding everything
one_number_left_typed = refl

one_number_left_breaks : breaks [] one_number_left_panel one_number_left one_number_left_types ≡ at 2 0 18 ∷ []
unfolding everything
one_number_left_breaks = refl

-- control a i8 -> a; case a; when -127..127; end
abbrev least_left_panel : List PanelItem
least_left_panel =
    Control (codes "a") (ty.Num I8) false None (w (codes "a")) ∷
    []

abbrev least_left : List Entry
least_left =
    entry 2 0 (Case (w (codes "a")) [] ((arm ((selector.Range (negsuc 126) (pos 127)) ∷ []) [] 3) ∷ [])) ∷
    []

abbrev least_left_types : List Given
least_left_types =
    known 0 (codes "a") (ty.Num I8) ∷
    []

least_left_typed : gives [] least_left_panel least_left least_left_types ≡ least_left_types
unfolding everything
least_left_typed = refl

least_left_breaks : breaks [] least_left_panel least_left least_left_types ≡ at 2 0 18 ∷ []
unfolding everything
least_left_breaks = refl

-- control a u8 -> a; case a; when 0..300; end. What is out of range still covers what it can
abbrev past_the_type_panel : List PanelItem
past_the_type_panel =
    Control (codes "a") (ty.Num U8) false None (w (codes "a")) ∷
    []

abbrev past_the_type : List Entry
past_the_type =
    entry 2 0 (Case (w (codes "a")) [] ((arm ((selector.Range (pos 0) (pos 300)) ∷ []) [] 3) ∷ [])) ∷
    []

abbrev past_the_type_types : List Given
past_the_type_types =
    known 0 (codes "a") (ty.Num U8) ∷
    []

past_the_type_typed : gives [] past_the_type_panel past_the_type past_the_type_types ≡ past_the_type_types
unfolding everything
past_the_type_typed = refl

past_the_type_breaks : breaks [] past_the_type_panel past_the_type past_the_type_types ≡ at 3 0 15 ∷ []
unfolding everything
past_the_type_breaks = refl

-- control a i8 -> a; case a; when TRUE; when 0..200; when 5; when default; end
abbrev other_selectors_panel : List PanelItem
other_selectors_panel =
    Control (codes "a") (ty.Num I8) false None (w (codes "a")) ∷
    []

abbrev other_selectors : List Entry
other_selectors =
    entry 2 0 (Case (w (codes "a")) [] ((arm ((selector.Truth true) ∷ []) [] 3) ∷ (arm ((selector.Range (pos 0) (pos 200)) ∷ []) [] 4) ∷ (arm ((selector.Number (pos 5)) ∷ []) [] 5) ∷ (arm (selector.Default ∷ []) [] 6) ∷ [])) ∷
    []

abbrev other_selectors_types : List Given
other_selectors_types =
    known 0 (codes "a") (ty.Num I8) ∷
    []

other_selectors_typed : gives [] other_selectors_panel other_selectors other_selectors_types ≡ other_selectors_types
unfolding everything
other_selectors_typed = refl

other_selectors_breaks : breaks [] other_selectors_panel other_selectors other_selectors_types ≡ at 3 0 15 ∷ at 4 0 15 ∷ []
unfolding everything
other_selectors_breaks = refl

-- control a bool -> a; case a; when TRUE, FALSE; end
abbrev both_truths_panel : List PanelItem
both_truths_panel =
    Control (codes "a") ty.Bool false None (w (codes "a")) ∷
    []

abbrev both_truths : List Entry
both_truths =
    entry 2 0 (Case (w (codes "a")) [] ((arm ((selector.Truth true) ∷ (selector.Truth false) ∷ []) [] 3) ∷ [])) ∷
    []

abbrev both_truths_types : List Given
both_truths_types =
    known 0 (codes "a") ty.Bool ∷
    []

both_truths_typed : gives [] both_truths_panel both_truths both_truths_types ≡ both_truths_types
unfolding everything
both_truths_typed = refl

both_truths_breaks : breaks [] both_truths_panel both_truths both_truths_types ≡ []
unfolding everything
both_truths_breaks = refl

-- control a bool -> a; case a; when TRUE; end
abbrev one_truth_panel : List PanelItem
one_truth_panel =
    Control (codes "a") ty.Bool false None (w (codes "a")) ∷
    []

abbrev one_truth : List Entry
one_truth =
    entry 2 0 (Case (w (codes "a")) [] ((arm ((selector.Truth true) ∷ []) [] 3) ∷ [])) ∷
    []

abbrev one_truth_types : List Given
one_truth_types =
    known 0 (codes "a") ty.Bool ∷
    []

one_truth_typed : gives [] one_truth_panel one_truth one_truth_types ≡ one_truth_types
unfolding everything
one_truth_typed = refl

one_truth_breaks : breaks [] one_truth_panel one_truth one_truth_types ≡ at 2 0 18 ∷ []
unfolding everything
one_truth_breaks = refl

-- control a str -> a; case a; when "x"; end
abbrev texts_panel : List PanelItem
texts_panel =
    Control (codes "a") ty.Str false None (w (codes "a")) ∷
    []

abbrev texts : List Entry
texts =
    entry 2 0 (Case (w (codes "a")) [] ((arm ((selector.Text (120 ∷ [])) ∷ []) [] 3) ∷ [])) ∷
    []

abbrev texts_types : List Given
texts_types =
    known 0 (codes "a") ty.Str ∷
    []

texts_typed : gives [] texts_panel texts texts_types ≡ texts_types
unfolding everything
texts_typed = refl

texts_breaks : breaks [] texts_panel texts texts_types ≡ at 2 0 18 ∷ []
unfolding everything
texts_breaks = refl

-- control a str -> a; case a; when "x"; when default; end
abbrev texts_or_default_panel : List PanelItem
texts_or_default_panel =
    Control (codes "a") ty.Str false None (w (codes "a")) ∷
    []

abbrev texts_or_default : List Entry
texts_or_default =
    entry 2 0 (Case (w (codes "a")) [] ((arm ((selector.Text (120 ∷ [])) ∷ []) [] 3) ∷ (arm (selector.Default ∷ []) [] 4) ∷ [])) ∷
    []

abbrev texts_or_default_types : List Given
texts_or_default_types =
    known 0 (codes "a") ty.Str ∷
    []

texts_or_default_typed : gives [] texts_or_default_panel texts_or_default texts_or_default_types ≡ texts_or_default_types
unfolding everything
texts_or_default_typed = refl

texts_or_default_breaks : breaks [] texts_or_default_panel texts_or_default texts_or_default_types ≡ []
unfolding everything
texts_or_default_breaks = refl

-- control a [i32] -> a; case a; when 1; end. Of its selectors nothing is said
abbrev no_selector_panel : List PanelItem
no_selector_panel =
    Control (codes "a") (ty.Arr i32) false None (w (codes "a")) ∷
    []

abbrev no_selector : List Entry
no_selector =
    entry 2 0 (Case (w (codes "a")) [] ((arm ((selector.Number (pos 1)) ∷ []) [] 3) ∷ [])) ∷
    []

abbrev no_selector_types : List Given
no_selector_types =
    known 0 (codes "a") (ty.Arr i32) ∷
    []

no_selector_typed : gives [] no_selector_panel no_selector no_selector_types ≡ no_selector_types
unfolding everything
no_selector_typed = refl

no_selector_breaks : breaks [] no_selector_panel no_selector no_selector_types ≡ at 2 1 18 ∷ []
unfolding everything
no_selector_breaks = refl
