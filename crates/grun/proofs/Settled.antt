-- What settings have to be for a run.
use Rattle.std.proofs.Common.{cond, ◌≡◌, ℕ, ◌+◌, Bool, Option, Some, None, true, false, List, [], ◌∷◌, ◌++◌, map, refl, ap, sym, ◌∙◌, subst, arith}
use Rattle.std.specs.Prelude.{bytes_eq, slice_get, Contains, if◌then◌else◌}
use Rattle.std.specs.List.{All}
use Rattle.std.proofs.lemmas.List.Elements.{All-nil, All-cons, All-head, All-tail, All-append}
use Rattle.std.proofs.lemmas.Option.{get_or_from_slice_get, slice_get_within}
use Rattle.std.proofs.lemmas.Slice.Eq.{bytes_eq-Decides}
use Rattle.g_types.specs.declared.ty.Ty.{Ty}
use Rattle.g_values.specs.declared.value.Value.{Value}
use Rattle.g_values.specs.Proper.{IsProper}
use Rattle.g_values.specs.Spelled.{IsSpelled}
use Rattle.g_values.specs.Typed.{IsOfType}
use Rattle.g_values.specs.Value.{type_of}
use Rattle.g_values.proofs.DefaultValues.{type-default, proper-default}
use Rattle.g_diagram.specs.declared.hierarchy.Hierarchy.{Hierarchy}
use Rattle.g_diagram.specs.declared.hierarchy.Vi.{Vi}
use Rattle.g_diagram.specs.declared.panel.Lit.{Lit}
use Rattle.g_diagram.specs.declared.panel.PanelItem.{PanelItem}
use Rattle.g_diagram.specs.declared.panel.PanelItem.TheVariants.{Control, Indicator}
use Rattle.g_diagram.specs.declared.place.Break.{Break}
use Rattle.g_diagram.specs.declared.place.Place.{Place}
use Rattle.g_diagram.specs.Lines.{entries_of}
use Rattle.g_frames.specs.Panels.{default_of}
use Rattle.g_reference_laws.specs.References.{references_of}
use Rattle.g_reference_laws.proofs.Plain.{defaults_hold_none}
use Rattle.g_reference_laws.proofs.PlainLiterals.{literals_hold_none}
use Rattle.g_infer.specs.Answer.{types_in, HasTyping, IsTyped}
use Rattle.g_infer.specs.declared.typed.Typed.{Typed}
use Rattle.g_infer.specs.declared.typed.ViTypes.{ViTypes}
use Rattle.g_hier.specs.declared.linked.Linked.{Linked}
use Rattle.g_valtext.specs.Spellings.{tokens}
use Rattle.g_valtext.proofs.Kept.{typed, proper, refers_to_nothing}
use Rattle.g_line.specs.declared.forms.Setting.{Setting}
use Rattle.g_literals.proofs.TypedValues.{typed_literal}
use Rattle.g_prims_laws.specs.Laws.{AreOfTypes}
use Rattle.g_listing_laws.specs.Spelled.{IsItemSpelled, IsViSpelled}
use Rattle.g_typing.specs.Assigned.{unassignable}
use Rattle.g_typing.specs.Breaks.{TypeBreak, broken, breaks_with}
use Rattle.g_typing.specs.Literals.{is_default_of, item_mistakes, panel_mistakes, nodes_mistake, mistaken}
use Rattle.g_typing.specs.Rows.{rowless}
use Rattle.g_typing.specs.Selected.{unselected}
use Rattle.g_typing.specs.Types.{Types, place}
use Rattle.g_typing.specs.Typing.{control_types, called_panel, panel_type, IsTyping}
use Rattle.grun.specs.Ready.{IsReady, AreSettled}
use Rattle.grun.specs.Settings.{Named, find, IsValueFor, Give, value_or, controls, control_values}
use Rattle.grun.proofs.Finding.{or_else, find-append}
use Rattle.grun.proofs.NamesApart.{AreFirst, left_empty, right_empty, names_apart}
use Rattle.grun.proofs.Giving.{value_type}
use Rattle.grun.proofs.Unreferred.{refers_nowhere}

-- ---- what settings give

-- what is found for a control's name is a proper value of the control's type, and no reference but null stands in it
abbrev IsKept : Ty → Value → Type 0
IsKept t v = IsOfType t v × (references_of v ≡ [])

abbrev AreKept : Named Ty → Named Value → Type 0
AreKept cs vs = (name : List ℕ) (v : Value) → find name vs ≡ Some v → (t : Ty) → find name cs ≡ Some t → IsKept t v

abbrev CanBeSpelled : Named Ty → Type 0
CanBeSpelled cs = (name : List ℕ) (t : Ty) → find name cs ≡ Some t → IsSpelled t

types_spelled : (panel : List PanelItem) → All IsItemSpelled panel → CanBeSpelled (controls panel)
types_spelled [] all name t e = absurd cc
types_spelled (Control other u required own out ∷ items) all name t e =
    by (bytes_eq name other) e (All-head IsItemSpelled (Control other u required own out) items all)
    (types_spelled items (All-tail IsItemSpelled (Control other u required own out) items all) name t)
  where
    by : (b : Bool) → cond b (Some u) (find name (controls items)) ≡ Some t → IsSpelled u → (find name (controls items) ≡ Some t → IsSpelled t) → IsSpelled t
    by true e spelled more = let is : u ≡ t = cc in subst IsSpelled is spelled
    by false e spelled more = more e
types_spelled (Indicator other u input ∷ items) all name t e = types_spelled items (All-tail IsItemSpelled (Indicator other u input) items all) name t e

setting_kept : (cs : Named Ty) → CanBeSpelled cs → (s : Setting) (v : Value) → IsValueFor cs s v → (t : Ty) → find s.name cs ≡ Some t → IsKept t v
setting_kept cs all s v value t at =
    let spells = value_type cs s t v at value in
    (record { proper = proper t (tokens s.text) v spells (all s.name t at); of_type = typed t (tokens s.text) v spells }, refers_nowhere v (refers_to_nothing t (tokens s.text) v spells))

one_more : (cs : Named Ty) (vs : Named Value) → AreKept cs vs → (key : List ℕ) (w : Value) → ((t : Ty) → find key cs ≡ Some t → IsKept t w) → AreKept cs (vs ++ (key, w) ∷ [])
one_more cs vs all key w kept name v e t at = by (find name vs) refl (bytes_eq name key) refl (sym (find-append name vs ((key, w) ∷ [])) ∙ e)
  where
    by : (o : Option Value) → find name vs ≡ o → (b : Bool) → bytes_eq name key ≡ b → or_else (find name vs) (cond b (Some w) None) ≡ Some v → IsKept t v
    by (Some u) p b q e = let is : Some u ≡ Some v = ap (λ o. or_else o (cond b (Some w) None)) (sym p) ∙ e in all name v (p ∙ is) t at
    by None p true q e =
        let is : Some w ≡ Some v = ap (λ o. or_else o (Some w)) (sym p) ∙ e in
        let same : w ≡ v = cc in
        let named : name ≡ key = (bytes_eq-Decides name key).0 q in
        subst (IsKept t) same (kept t (ap (λ n. find n cs) (sym named) ∙ at))
    by None p false q e = let is : None ≡ Some v = ap (λ o. or_else o None) (sym p) ∙ e in absurd cc

right_kept : (cs : Named Ty) → CanBeSpelled cs → (before : Named Value) → AreKept cs before → (ss : List Setting) (vs : Named Value) → Give cs before ss vs → AreKept cs vs
right_kept cs all before are [] vs g = subst (AreKept cs) g are
right_kept cs all before are (s ∷ ss) vs g =
    right_kept cs all (before ++ (s.name, g.0) ∷ []) (one_more cs before are s.name g.0 (setting_kept cs all s g.0 g.1)) ss vs g.3

none_kept : (cs : Named Ty) → AreKept cs []
none_kept cs name v e t at = absurd cc

-- ---- the values of controls

own_kept : (t : Ty) (literal : Option Lit) → IsSpelled t → is_default_of literal t ≡ true → IsKept t (default_of literal t)
own_kept t None spelled right = (record { proper = proper-default t spelled; of_type = type-default t }, defaults_hold_none t)
own_kept t (Some literal) spelled right = (typed_literal literal t right spelled, literals_hold_none literal t)

one_kept : (cs : Named Ty) (vs : Named Value) → AreKept cs vs → (name : List ℕ) (t : Ty) (own : Value) → find name cs ≡ Some t → IsKept t own → IsKept t (value_or own (find name vs))
one_kept cs vs are name t own at kept = by (find name vs) refl
  where
    by : (o : Option Value) → find name vs ≡ o → IsKept t (value_or own o)
    by None p = kept
    by (Some v) p = are name v p t at

abbrev AreKeptOf : List Ty → List Value → Type 0
AreKeptOf ts vs = AreOfTypes ts vs × All (λ v. references_of v ≡ []) vs

one_before : (t : Ty) (v : Value) (ts : List Ty) (vs : List Value) → IsKept t v → AreKeptOf ts vs → AreKeptOf (t ∷ ts) (v ∷ vs)
one_before t v ts vs first more = (
  record {
    proper = All-cons IsProper v vs first.0.proper more.0.proper;
    of_types = ap (λ u. u ∷ map type_of vs) first.0.of_type ∙ ap (λ us. t ∷ us) more.0.of_types;
  },
  All-cons (λ v. references_of v ≡ []) v vs first.1 more.1,
)

is_right : (b : Bool) (v l : ℕ) → (if b then [] else place v l 0 ∷ []) ≡ [] → b ≡ true
is_right true v l e = refl
is_right false v l e = absurd cc

values_right : (cs : Named Ty) (vs : Named Value) → AreKept cs vs → (panel items : List PanelItem) → cs ≡ controls panel → AreFirst panel items → All IsItemSpelled items
    → (v l : ℕ) → panel_mistakes v l items ≡ [] → AreKeptOf (control_types items) (control_values items vs)
values_right cs vs are panel [] same first all v l right = (record { proper = All-nil IsProper; of_types = refl }, All-nil (λ v. references_of v ≡ []))
values_right cs vs are panel (Control name t required literal out ∷ items) same first all v l right =
    let item = Control name t required literal out in
    let here = item_mistakes v l item in
    let rest = panel_mistakes v (l + 1) items in
    one_before t (value_or (default_of literal t) (find name vs)) (control_types items) (control_values items vs)
    (one_kept cs vs are name t (default_of literal t) (ap (find name) same ∙ first.0)
    (own_kept t literal (All-head IsItemSpelled item items all) (is_right (is_default_of literal t) v l (left_empty here rest right))))
    (values_right cs vs are panel items same first.1 (All-tail IsItemSpelled item items all) v (l + 1) (right_empty here rest right))
values_right cs vs are panel (Indicator name t input ∷ items) same first all v l right =
    values_right cs vs are panel items same first.1 (All-tail IsItemSpelled (Indicator name t input) items all) v (l + 1) right

-- the values are proper and of the controls' types, where the types can be spelled, names differ and literals are values of their types
pub panel_right : (panel : List PanelItem) → AreFirst panel panel → All IsItemSpelled panel → (v : ℕ) → panel_mistakes v 1 panel ≡ []
    → (settings : List Setting) (vs : Named Value) → Give (controls panel) [] settings vs → AreKeptOf (control_types panel) (control_values panel vs)
panel_right panel first all v right settings vs e =
    let cs = controls panel in
    values_right cs vs (right_kept cs (types_spelled panel all) [] (none_kept cs) settings vs e) panel panel refl first all v 1 right

-- ---- where no rule is broken, literals are values of their types

-- mistakes of a panel are told of its VI
mistakes_of : (v l : ℕ) (items : List PanelItem) → All (λ (p : Place). p.vi ≡ v) (panel_mistakes v l items)
mistakes_of v l [] = All-nil (λ (p : Place). p.vi ≡ v)
mistakes_of v l (item ∷ items) = All-append (λ (p : Place). p.vi ≡ v) (item_mistakes v l item) (panel_mistakes v (l + 1) items) (here item) (mistakes_of v (l + 1) items)
  where
    one : (b : Bool) → All (λ (p : Place). p.vi ≡ v) (if b then [] else place v l 0 ∷ [])
    one true = All-nil (λ (p : Place). p.vi ≡ v)
    one false = All-cons (λ (p : Place). p.vi ≡ v) (place v l 0) [] refl (All-nil (λ (p : Place). p.vi ≡ v))

    here : (item : PanelItem) → All (λ (p : Place). p.vi ≡ v) (item_mistakes v l item)
    here (Control name t required literal out) = one (is_default_of literal t)
    here (Indicator name t input) = All-nil (λ (p : Place). p.vi ≡ v)

-- the breaks of rules 16 to 18 of a VI
abbrev other_breaks : Hierarchy → Types → (number : ℕ) → Vi → List Break
other_breaks h types number vi =
    map (broken 16) (rowless types number (entries_of vi))
    ++ (map (broken 17) (unassignable (called_panel h.vis) (panel_type vi.panel) types number (entries_of vi)) ++ map (broken 18) (unselected types number (entries_of vi)))

told_first : (p : Place) (ps all : List Place) (others : List Break) → all ≡ p ∷ ps → Contains (map (broken 15) all ++ others) (broken 15 p)
told_first p ps all others e = subst (λ xs. Contains (map (broken 15) xs ++ others) (broken 15 p)) (sym e) (0, omega arith, refl)

no_mistake : (h : Hierarchy) (number : ℕ) (vi : Vi) → slice_get h.vis number ≡ Some vi → (types : Types) → IsTyping h.vis vi types → ((b : Break) → TypeBreak h b → ⊥)
    → (ps more : List Place) → All (λ (p : Place). p.vi ≡ number) ps → mistaken types number vi.panel (entries_of vi) ≡ ps ++ more → ps ≡ []
no_mistake h number vi stands types typing none [] more all e = refl
no_mistake h number vi stands types typing none (p ∷ ps) more all e =
    let same : p.vi ≡ number = All-head (λ (p : Place). p.vi ≡ number) p ps all in
    absurd (none (broken 15 p) (record {
      vi = vi;
      stands = ap (slice_get h.vis) same ∙ stands;
      types = types;
      typing = typing;
      is_broken = subst (λ n. Contains (breaks_with (called_panel h.vis) vi.panel types n (entries_of vi)) (broken 15 p)) (sym same)
          (told_first p (ps ++ more) (mistaken types number vi.panel (entries_of vi)) (other_breaks h types number vi) e);
    }))

right_literals : (h : Hierarchy) (typed : Typed) → IsTyped h typed → (number : ℕ) (vi : Vi) → slice_get h.vis number ≡ Some vi → panel_mistakes number 1 vi.panel ≡ []
right_literals h typed types number vi stands = by (slice_get typed.vis number) (types.each number vi stands)
  where
    by : (o : Option ViTypes) → HasTyping h.vis vi o → panel_mistakes number 1 vi.panel ≡ []
    by None none = absurd none
    by (Some found) is =
        no_mistake h number vi stands (types_in found) is.typing types.unbroken (panel_mistakes number 1 vi.panel)
        (nodes_mistake (types_in found) number (entries_of vi)) (mistakes_of number 1 vi.panel) refl

pub controls_right : (h : Hierarchy) (main : List ℕ) (typed : Typed) (linked : Linked) → IsReady h main typed linked → (vi : Vi) → slice_get h.vis linked.main ≡ Some vi → (settings : List Setting) (vs : Named Value)
    → Give (controls vi.panel) [] settings vs → AreSettled vi (control_values vi.panel vs)
controls_right h main typed linked ready vi stands settings vs e =
    let number = linked.main in
    let spelled : IsViSpelled vi = subst IsViSpelled (get_or_from_slice_get h.vis number vi vi stands) (ready.spelled number vi (slice_get_within h.vis number vi stands)) in
    let right = panel_right vi.panel (names_apart h main ready.unbroken.wired number vi stands) spelled.panel number (right_literals h typed ready.types number vi stands) settings vs e in
    record { of_types = right.0; none = right.1 }

-- the same of whatever VI stands there
pub controls_settled : (h : Hierarchy) (main : List ℕ) (typed : Typed) (linked : Linked) → IsReady h main typed linked → (vi : Vi) → slice_get h.vis linked.main ≡ Some vi → (settings : List Setting) (vs : Named Value)
    → Give (controls vi.panel) [] settings vs → (other : Vi) → slice_get h.vis linked.main ≡ Some other → AreSettled other (control_values vi.panel vs)
controls_settled h main typed linked ready vi stands settings vs e other at =
    let same : Some vi ≡ Some other = sym stands ∙ at in
    let is : vi ≡ other = cc in
    subst (λ (v : Vi). AreSettled v (control_values vi.panel vs)) is (controls_right h main typed linked ready vi stands settings vs e)
