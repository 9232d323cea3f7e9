-- The cells of a panel whose names differ have the types of its objects.
use Rattle.std.proofs.Common.{◌≡◌, ◌⊎◌, inl, inr, ⊎_elim, ℕ, suc, ◌+◌, Bool, true, false, cond, ◌||◌, List, [], ◌∷◌, ◌++◌, map, Some, None, refl, ap, sym, ◌∙◌, subst}
use Rattle.std.specs.Prelude.{slice_get, if◌then◌else◌}
use Rattle.std.specs.List.{list_any}
use Rattle.std.specs.Str.{bytes_eq}
use Rattle.std.proofs.lemmas.Bool.{false≢true}
use Rattle.std.proofs.lemmas.List.{map-append}
use Rattle.std.proofs.lemmas.List.Folds.{list_any-append}
use Rattle.std.proofs.lemmas.Slice.Eq.{bytes_eq-Decides}
use Rattle.g_types.specs.declared.ty.Ty.{Ty}
use Rattle.g_diagram.specs.declared.panel.PanelItem.{PanelItem}
use Rattle.g_diagram.specs.declared.panel.PanelItem.TheVariants.{Control, Indicator}
use Rattle.g_diagram.specs.Lines.{Entry, Shows, panel_entries}
use Rattle.g_typing.specs.Typing.{panel_type, control_types, indicator_types}
use Rattle.g_rules_lines.specs.PanelObjects.{panel_name}
use Rattle.g_rules_lines.specs.RepeatedNames.{named_again}
use Rattle.g_frames.specs.Panels.{control_names, indicator_names, place_of}
use Rattle.g_typed_states.specs.Lines.{cell_type}
use Rattle.g_accepted.proofs.Facts.{IsIn, in_left, in_right, in_either, nil_left, nil_right, some_same, none_some}

-- ---- names that are used once

module _ {X B : Type 0} (name : X → List ℕ) (told : ℕ → B) where
  first_false : (a b : Bool) → (a || b) ≡ false → a ≡ false
  first_false true b e = e
  first_false false b e = refl

  second_false : (a b : Bool) → (a || b) ≡ false → b ≡ false
  second_false true b e = absurd (cc e)
  second_false false b e = e

  untold : (b : Bool) (n : ℕ) → (if b then told n ∷ [] else []) ≡ [] → b ≡ false
  untold true n e = absurd (cc e)
  untold false n e = refl

  -- none of some items has the name of one before
  apart : (n : ℕ) (before xs : List X) → named_again name told n before xs ≡ [] → (x : X) → IsIn x xs → list_any (λ y. bytes_eq (name y) (name x)) before ≡ false
  apart n before [] e x is = absurd is
  apart n before (y ∷ xs) e x (inl same) =
      subst (λ (z : X). list_any (λ w. bytes_eq (name w) (name z)) before ≡ false) same
      (untold (list_any (λ w. bytes_eq (name w) (name y)) before) n
      (nil_left (if list_any (λ w. bytes_eq (name w) (name y)) before then told n ∷ [] else []) (named_again name told (n + 1) (before ++ y ∷ []) xs) e))
  apart n before (y ∷ xs) e x (inr is) =
      let more = apart (n + 1) (before ++ y ∷ []) xs (nil_right (if list_any (λ w. bytes_eq (name w) (name y)) before then told n ∷ [] else []) (named_again name told (n + 1) (before ++ y ∷ []) xs) e) x is in
      first_false (list_any (λ w. bytes_eq (name w) (name x)) before) (list_any (λ w. bytes_eq (name w) (name x)) (y ∷ []))
      (sym (list_any-append (λ w. bytes_eq (name w) (name x)) before (y ∷ [])) ∙ more)

  differs : (n : ℕ) (before xs : List X) (y x : X) → named_again name told n (before ++ y ∷ []) xs ≡ [] → IsIn x xs → bytes_eq (name y) (name x) ≡ false
  differs n before xs y x e is =
      let more = apart n (before ++ y ∷ []) xs e x is in
      first_false (bytes_eq (name y) (name x)) false
      (second_false (list_any (λ w. bytes_eq (name w) (name x)) before) (list_any (λ w. bytes_eq (name w) (name x)) (y ∷ []))
      (sym (list_any-append (λ w. bytes_eq (name w) (name x)) before (y ∷ [])) ∙ more))

  -- two items of one name are one
  pub one_of_name : (n : ℕ) (before xs : List X) → named_again name told n before xs ≡ [] → (x y : X) → IsIn x xs → IsIn y xs → name x ≡ name y → x ≡ y
  one_of_name n before [] e x y is also same = absurd is
  one_of_name n before (z ∷ xs) e x y (inl f) (inl g) same = sym f ∙ g
  one_of_name n before (z ∷ xs) e x y (inl f) (inr also) same =
      let rest = nil_right (if list_any (λ w. bytes_eq (name w) (name z)) before then told n ∷ [] else []) (named_again name told (n + 1) (before ++ z ∷ []) xs) e in
      let no_match = differs (n + 1) before xs z y rest also in
      let t : bytes_eq (name z) (name y) ≡ true = (bytes_eq-Decides (name z) (name y)).1 (ap name f ∙ same) in
      absurd (false≢true (sym no_match ∙ t))
  one_of_name n before (z ∷ xs) e x y (inr is) (inl g) same =
      let rest = nil_right (if list_any (λ w. bytes_eq (name w) (name z)) before then told n ∷ [] else []) (named_again name told (n + 1) (before ++ z ∷ []) xs) e in
      let no_match = differs (n + 1) before xs z x rest is in
      let t : bytes_eq (name z) (name x) ≡ true = (bytes_eq-Decides (name z) (name x)).1 (ap name g ∙ sym same) in
      absurd (false≢true (sym no_match ∙ t))
  one_of_name n before (z ∷ xs) e x y (inr is) (inr also) same =
      one_of_name (n + 1) (before ++ z ∷ []) xs (nil_right (if list_any (λ w. bytes_eq (name w) (name z)) before then told n ∷ [] else []) (named_again name told (n + 1) (before ++ z ∷ []) xs) e) x y is also same

-- ---- cells

abbrev pub type_in : PanelItem → Ty
type_in (Control name t required default out) = t
type_in (Indicator name t w) = t

abbrev controls_in : List PanelItem → List PanelItem
controls_in [] = []
controls_in (Control name t required default out ∷ items) = Control name t required default out ∷ controls_in items
controls_in (Indicator name t w ∷ items) = controls_in items

abbrev indicators_in : List PanelItem → List PanelItem
indicators_in [] = []
indicators_in (Control name t required default out ∷ items) = indicators_in items
indicators_in (Indicator name t w ∷ items) = Indicator name t w ∷ indicators_in items

control_names_are : (items : List PanelItem) → control_names items ≡ map panel_name (controls_in items)
control_names_are [] = refl
control_names_are (Control name t required default out ∷ items) = ap (λ ns. name ∷ ns) (control_names_are items)
control_names_are (Indicator name t w ∷ items) = control_names_are items

indicator_names_are : (items : List PanelItem) → indicator_names items ≡ map panel_name (indicators_in items)
indicator_names_are [] = refl
indicator_names_are (Control name t required default out ∷ items) = indicator_names_are items
indicator_names_are (Indicator name t w ∷ items) = ap (λ ns. name ∷ ns) (indicator_names_are items)

control_types_are : (items : List PanelItem) → control_types items ≡ map type_in (controls_in items)
control_types_are [] = refl
control_types_are (Control name t required default out ∷ items) = ap (λ ts. t ∷ ts) (control_types_are items)
control_types_are (Indicator name t w ∷ items) = control_types_are items

indicator_types_are : (items : List PanelItem) → indicator_types items ≡ map type_in (indicators_in items)
indicator_types_are [] = refl
indicator_types_are (Control name t required default out ∷ items) = indicator_types_are items
indicator_types_are (Indicator name t w ∷ items) = ap (λ ts. t ∷ ts) (indicator_types_are items)

of_controls : (items : List PanelItem) (x : PanelItem) → IsIn x (controls_in items) → IsIn x items
of_controls [] x is = absurd is
of_controls (Control name t required default out ∷ items) x (inl same) = inl same
of_controls (Control name t required default out ∷ items) x (inr is) = inr (of_controls items x is)
of_controls (Indicator name t w ∷ items) x is = inr (of_controls items x is)

of_indicators : (items : List PanelItem) (x : PanelItem) → IsIn x (indicators_in items) → IsIn x items
of_indicators [] x is = absurd is
of_indicators (Control name t required default out ∷ items) x is = inr (of_indicators items x is)
of_indicators (Indicator name t w ∷ items) x (inl same) = inl same
of_indicators (Indicator name t w ∷ items) x (inr is) = inr (of_indicators items x is)

in_one : (items : List PanelItem) (x : PanelItem) → IsIn x items → IsIn x (controls_in items) ⊎ IsIn x (indicators_in items)
in_one [] x is = absurd is
in_one (Control name t required default out ∷ items) x (inl same) = inl (inl same)
in_one (Control name t required default out ∷ items) x (inr is) = ⊎_elim (λ a. inl (inr a)) inr (in_one items x is)
in_one (Indicator name t w ∷ items) x (inl same) = inr (inl same)
in_one (Indicator name t w ∷ items) x (inr is) = ⊎_elim inl (λ a. inr (inr a)) (in_one items x is)

-- the type of the first item of a name, where each item of the name has it
at_place : (name : List ℕ) (t : Ty) (xs : List PanelItem) → ((x : PanelItem) → IsIn x xs → panel_name x ≡ name → type_in x ≡ t) → (y : PanelItem) → IsIn y xs → panel_name y ≡ name
    → slice_get (map type_in xs) (place_of name (map panel_name xs)) ≡ Some t
at_place name t [] typed y is named = absurd is
at_place name t (x ∷ xs) typed y is named = by (bytes_eq (panel_name x) name) refl is (at_place name t xs (λ z i. typed z (inr i)) y)
  where
    by : (b : Bool) → bytes_eq (panel_name x) name ≡ b → (x ≡ y) ⊎ IsIn y xs → (IsIn y xs → panel_name y ≡ name → slice_get (map type_in xs) (place_of name (map panel_name xs)) ≡ Some t)
        → slice_get (type_in x ∷ map type_in xs) (if b then 0 else suc (place_of name (map panel_name xs))) ≡ Some t
    by true e i more = ap Some (typed x (inl refl) ((bytes_eq-Decides (panel_name x) name).0 e))
    by false e (inl same) more = absurd (false≢true (sym e ∙ (bytes_eq-Decides (panel_name x) name).1 (ap panel_name same ∙ named)))
    by false e (inr i) more = more i named

-- the cell of an object
pub cell_of_item : (items : List PanelItem) → ((x y : PanelItem) → IsIn x items → IsIn y items → panel_name x ≡ panel_name y → x ≡ y) → (y : PanelItem) → IsIn y items
    → cell_type items (panel_name y) ≡ Some (type_in y)
cell_of_item items once y is =
    let xs : List PanelItem = controls_in items ++ indicators_in items in
    let names : control_names items ++ indicator_names items ≡ map panel_name xs =
    ap (λ ns. ns ++ indicator_names items) (control_names_are items) ∙ (ap (λ ns. map panel_name (controls_in items) ++ ns) (indicator_names_are items) ∙ sym (map-append panel_name (controls_in items) (indicators_in items))) in
    let types : control_types items ++ indicator_types items ≡ map type_in xs =
    ap (λ ts. ts ++ indicator_types items) (control_types_are items) ∙ (ap (λ ts. map type_in (controls_in items) ++ ts) (indicator_types_are items) ∙ sym (map-append type_in (controls_in items) (indicators_in items))) in
    let among : (x : PanelItem) → IsIn x xs → IsIn x items = λ x i. ⊎_elim (of_controls items x) (of_indicators items x) (in_either x (controls_in items) (indicators_in items) i) in
    ap (λ ts. slice_get ts (place_of (panel_name y) (control_names items ++ indicator_names items))) types
    ∙ (ap (λ ns. slice_get (map type_in xs) (place_of (panel_name y) ns)) names
    ∙ at_place (panel_name y) (type_in y) xs (λ x i same. ap type_in (once x y (among x i) is same)) y
    (⊎_elim (in_left y (controls_in items) (indicators_in items)) (in_right y (controls_in items) (indicators_in items)) (in_one items y is)) refl)

-- the first object of a name
pub typed_item : (items : List PanelItem) (name : List ℕ) (t : Ty) → panel_type items name ≡ Some t → (x : PanelItem) × IsIn x items × (panel_name x ≡ name) × (type_in x ≡ t)
typed_item [] name t e = absurd (none_some t e)
typed_item (Control other u required default out ∷ items) name t e = by (bytes_eq other name) refl e (typed_item items name t)
  where
    by : (b : Bool) → bytes_eq other name ≡ b → cond b (Some u) (panel_type items name) ≡ Some t → (panel_type items name ≡ Some t → (x : PanelItem) × IsIn x items × (panel_name x ≡ name) × (type_in x ≡ t))
        → (x : PanelItem) × IsIn x (Control other u required default out ∷ items) × (panel_name x ≡ name) × (type_in x ≡ t)
    by true s e more = (Control other u required default out, inl refl, (bytes_eq-Decides other name).0 s, some_same u t e)
    by false s e more = let r = more e in (r.0, inr r.1, r.2, r.3)
typed_item (Indicator other u w ∷ items) name t e = by (bytes_eq other name) refl e (typed_item items name t)
  where
    by : (b : Bool) → bytes_eq other name ≡ b → cond b (Some u) (panel_type items name) ≡ Some t → (panel_type items name ≡ Some t → (x : PanelItem) × IsIn x items × (panel_name x ≡ name) × (type_in x ≡ t))
        → (x : PanelItem) × IsIn x (Indicator other u w ∷ items) × (panel_name x ≡ name) × (type_in x ≡ t)
    by true s e more = (Indicator other u w, inl refl, (bytes_eq-Decides other name).0 s, some_same u t e)
    by false s e more = let r = more e in (r.0, inr r.1, r.2, r.3)

-- a node that shows is an indicator of the panel, and wired
pub shown_item : (items : List PanelItem) (l : ℕ) (e : Entry) → IsIn e (panel_entries items l) → (name : List ℕ) × (t : Ty) × (n : List ℕ) × IsIn (Indicator name t (Some n)) items × (e.kind ≡ Shows name t (Some n))
shown_item [] l e is = absurd is
shown_item (Indicator name t (Some n) ∷ items) l e (inl same) = (name, t, n, inl refl, ap (λ (x : Entry). x.kind) (sym same))
shown_item (Indicator name t (Some n) ∷ items) l e (inr is) = let r = shown_item items (l + 1) e is in (r.0, r.1, r.2, inr r.3, r.4)
shown_item (Indicator name t None ∷ items) l e is = let r = shown_item items (l + 1) e is in (r.0, r.1, r.2, inr r.3, r.4)
shown_item (Control name t required default out ∷ items) l e is = let r = shown_item items (l + 1) e is in (r.0, r.1, r.2, inr r.3, r.4)
