-- Where no rule on names and lines is broken, a VI's panel objects have names of their own.
use Rattle.std.proofs.Common.{◌≡◌, ℕ, ◌+◌, zero, suc, Bool, true, false, ◌||◌, List, [], ◌∷◌, ◌++◌, map, length, refl, ap, sym, ◌∙◌, subst, append_assoc, arith}
use Rattle.std.proofs.Common.{inl}
use Rattle.std.specs.Prelude.{Some, None, slice_get, bytes_eq, if◌then◌else◌}
use Rattle.std.specs.List.{list_any}
use Rattle.std.specs.Ordering.{is_eq}
use Rattle.std.proofs.lemmas.List.Folds.{list_any-append}
use Rattle.std.proofs.lemmas.Slice.Eq.{bytes_eq-Decides}
use Rattle.g_diagram.specs.declared.place.Break.{Break}
use Rattle.g_diagram.specs.declared.panel.PanelItem.{PanelItem}
use Rattle.g_diagram.specs.declared.panel.PanelItem.TheVariants.{Control, Indicator}
use Rattle.g_diagram.specs.declared.hierarchy.Vi.{Vi}
use Rattle.g_diagram.specs.declared.hierarchy.Hierarchy.{Hierarchy}
use Rattle.g_diagram.specs.Lines.{entries_of}
use Rattle.g_diagram.specs.Ports.{ports_of}
use Rattle.g_rules_lines.specs.Arity.{miscounted}
use Rattle.g_rules_lines.specs.Lists.{known_of, called_by, lined_by, structured_by}
use Rattle.g_rules_lines.specs.PanelObjects.{panel_name}
use Rattle.g_rules_lines.specs.RepeatedNames.{named_again, renamed_items, renamed_vis}
use Rattle.g_rules_lines.specs.UnknownVis.{absent_main}
use Rattle.g_rules_lines.specs.Spots.{break}
use Rattle.g_rules_breaks.specs.Breaks.{break_cmp, has_break}
use Rattle.g_wires.specs.Breaks.{named_in, plain_in, each_from, plain_breaks, IsWiring}
use Rattle.g_rules_breaks.proofs.Ordered.{none_in, none_held}
use Rattle.grun.specs.Settings.{find, controls}
use Rattle.grun.proofs.Finding.{find-append}

-- ---- lists of breaks that are empty

pub left_empty : {A : Type 0} (xs ys : List A) → xs ++ ys ≡ [] → xs ≡ []
left_empty [] ys e = refl
left_empty (x ∷ xs) ys e = absurd cc

pub right_empty : {A : Type 0} (xs ys : List A) → xs ++ ys ≡ [] → ys ≡ []
right_empty [] ys e = e
right_empty (x ∷ xs) ys e = absurd cc

none_plain : (h : Hierarchy) (main : List ℕ) → IsWiring h main [] → plain_breaks (ports_of h.vis) (known_of h.vis) h.vis ≡ []
none_plain h main wired =
    let all = plain_breaks (ports_of h.vis) (known_of h.vis) h.vis in
    let last = absent_main (known_of h.vis).arities (length h.vis) main in
    none_in all (λ b has. none_held b (wired.each b (inl (list_any-append (λ c. is_eq (break_cmp b c)) all last ∙ ap (λ v. v || has_break last b) has))))

each_none : (f : ℕ → Vi → List Break) (n : ℕ) (vis : List Vi) (k : ℕ) (vi : Vi) → each_from f n vis ≡ [] → slice_get vis k ≡ Some vi → f (n + k) vi ≡ []
each_none f n [] k vi e at = absurd cc
each_none f n (x ∷ xs) zero vi e at =
    let is : x ≡ vi = cc in
    let same : n + 0 ≡ n = omega arith in
    ap (λ m. f m vi) same ∙ ap (f n) (sym is) ∙ left_empty (f n x) (each_from f (n + 1) xs) e
each_none f n (x ∷ xs) (suc k) vi e at =
    let same : n + suc k ≡ (n + 1) + k = omega arith in
    ap (λ m. f m vi) same ∙ each_none f (n + 1) xs k vi (right_empty (f n x) (each_from f (n + 1) xs) e) at

-- of each VI
pub none_at : (h : Hierarchy) (main : List ℕ) → IsWiring h main [] → (k : ℕ) (vi : Vi) → slice_get h.vis k ≡ Some vi → plain_in (ports_of h.vis) (known_of h.vis) k vi ≡ []
none_at h main wired k vi at =
    let f = plain_in (ports_of h.vis) (known_of h.vis) in
    let same : k ≡ 0 + k = omega arith in
    ap (λ n. f n vi) same ∙ each_none f 0 h.vis k vi (left_empty (each_from f 0 h.vis) (renamed_vis h.vis) (none_plain h main wired)) at

pub none_renamed : (h : Hierarchy) (main : List ℕ) → IsWiring h main [] → (k : ℕ) (vi : Vi) → slice_get h.vis k ≡ Some vi → renamed_items k vi.panel ≡ []
none_renamed h main wired k vi at =
    let known = known_of h.vis in
    let es = entries_of vi in
    let lined = right_empty (named_in (ports_of h.vis vi) k) (lined_by known k vi.panel es) (none_at h main wired k vi at) in
    let called = left_empty (called_by known.arities k vi.panel es) (structured_by known.queues k es) lined in
    left_empty (renamed_items k vi.panel) _ (right_empty (map (break k 5) (miscounted known.arities es)) _ called)

-- ---- the first control of a name

names : List ℕ → List PanelItem → Bool
names name items = list_any (λ y. bytes_eq (panel_name y) name) items

not_named : (name other : List ℕ) → bytes_eq other name ≡ false → bytes_eq name other ≡ false
not_named name other e = by (bytes_eq name other) refl
  where
    by : (b : Bool) → bytes_eq name other ≡ b → b ≡ false
    by false p = refl
    by true p =
        let same : name ≡ other = (bytes_eq-Decides name other).0 p in
        let is : bytes_eq other name ≡ true = (bytes_eq-Decides other name).1 (sym same) in
        let wrong : true ≡ false = sym is ∙ e in absurd cc

or_false : (a b : Bool) → (a || b) ≡ false → (a ≡ false) × (b ≡ false)
or_false true b e = absurd cc
or_false false b e = (refl, e)

unfound : (name : List ℕ) (items : List PanelItem) → names name items ≡ false → find name (controls items) ≡ None
unfolding names
unfound name [] e = refl
unfound name (Control other t required given out ∷ items) e =
    let parts = or_false (bytes_eq other name) (list_any (λ y. bytes_eq (panel_name y) name) items) e in
    rw (not_named name other parts.0) (unfound name items parts.1)
unfound name (Indicator other t input ∷ items) e =
    let parts = or_false (bytes_eq other name) (list_any (λ y. bytes_eq (panel_name y) name) items) e in
    unfound name items parts.1

-- a control is the first of its name
abbrev pub IsFirst : (panel : List PanelItem) → PanelItem → Type 0
IsFirst panel (Control name t required given out) = find name (controls panel) ≡ Some t
IsFirst panel (Indicator name t input) = Unit {0}

abbrev pub AreFirst : (panel items : List PanelItem) → Type 0
AreFirst panel [] = Unit {0}
AreFirst panel (item ∷ items) = IsFirst panel item × AreFirst panel items

controls-append : (xs ys : List PanelItem) → controls (xs ++ ys) ≡ controls xs ++ controls ys
controls-append [] ys = refl
controls-append (Control name t required given out ∷ xs) ys = ap (λ cs. (name, t) ∷ cs) (controls-append xs ys)
controls-append (Indicator name t input ∷ xs) ys = controls-append xs ys

is_first : (before items : List PanelItem) (item : PanelItem) → names (panel_name item) before ≡ false → IsFirst (before ++ item ∷ items) item
is_first before items (Control name t required given out) e =
    let here : bytes_eq name name ≡ true = (bytes_eq-Decides name name).1 refl in
    ap (find name) (controls-append before (Control name t required given out ∷ items))
    ∙ find-append name (controls before) ((name, t) ∷ controls items) ∙ rw (unfound name before e, here) refl
is_first before items (Indicator name t input) e = tt

not_told : {B : Type 0} (b : Bool) (x : B) → (if b then x ∷ [] else []) ≡ [] → b ≡ false
not_told true x e = absurd cc
not_told false x e = refl

all_first : {B : Type 0} (told : ℕ → B) (n : ℕ) (before items : List PanelItem) → named_again panel_name told n before items ≡ [] → AreFirst (before ++ items) items
unfolding names
all_first told n before [] e = tt
all_first told n before (item ∷ items) e =
    let again = list_any (λ y. bytes_eq (panel_name y) (panel_name item)) before in
    let here = if again then told n ∷ [] else [] in
    let more = named_again panel_name told (n + 1) (before ++ item ∷ []) items in (
      is_first before items item (not_told again (told n) (left_empty here more e)),
      subst (λ panel. AreFirst panel items) (append_assoc before (item ∷ []) items) (all_first told (n + 1) (before ++ item ∷ []) items (right_empty here more e)),
    )

pub names_apart : (h : Hierarchy) (main : List ℕ) → IsWiring h main [] → (k : ℕ) (vi : Vi) → slice_get h.vis k ≡ Some vi → AreFirst vi.panel vi.panel
names_apart h main wired k vi at = all_first _ 1 [] vi.panel (none_renamed h main wired k vi at)
