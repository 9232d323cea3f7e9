-- Where the types of a VI's wires break none of the rules on types, no node has a place that breaks one.
use Rattle.std.proofs.Common.{◌≡◌, ℕ, zero, suc, ◌+◌, Bool, true, false, List, [], ◌∷◌, ◌++◌, map, length, Option, Some, None, refl, ap, arith}
use Rattle.std.specs.Prelude.{if◌then◌else◌, slice_get}
use Rattle.std.specs.List.{AllByRecursion, Contains, list_all}
use Rattle.std.proofs.lemmas.List.Elements.{Contains-append_left, Contains-append_right}
use Rattle.g_types.specs.declared.ty.Ty.{Ty}
use Rattle.g_types.specs.Ty.{is_num}
use Rattle.g_values.specs.declared.primitive.Primitive.{Primitive}
use Rattle.g_operations.specs.declared.shared.SharedOp.{SharedOp}
use Rattle.g_operations.specs.declared.shared.SharedOp.TheVariants as shared
use Rattle.g_prims_definitions.specs.Kinds.{is_assignable, is_bool, part}
use Rattle.g_prims_definitions.specs.Rows.{row_of, is_shallow, is_element}
use Rattle.g_diagram.specs.declared.place.Break.{Break}
use Rattle.g_diagram.specs.declared.place.Place.{Place}
use Rattle.g_diagram.specs.declared.hierarchy.Hierarchy.{Hierarchy}
use Rattle.g_diagram.specs.declared.hierarchy.Vi.{Vi}
use Rattle.g_diagram.specs.declared.node.Selector.{Selector}
use Rattle.g_diagram.specs.declared.node.Tunnel.{Tunnel}
use Rattle.g_diagram.specs.declared.node.Tunnel.TheVariants as line
use Rattle.g_diagram.specs.declared.panel.PanelItem.{PanelItem}
use Rattle.g_diagram.specs.declared.panel.PanelItem.TheVariants.{Control, Indicator}
use Rattle.g_diagram.specs.Lines.{Wire, Arm, Entry, Kind, Const, Apply, Shows, Shared, Obtain, Write, Call, Loop, Case, InPlace, entries_of}
use Rattle.g_typing.specs.Types.{Types, place, wire_type, wire_types, wire_at, or_unwired, then_type, element, queued, referred}
use Rattle.g_typing.specs.Typing.{Callees, Objects, IsTyping, called_panel, panel_type, is_result, result_type, next_result, control_types}
use Rattle.g_typing.specs.Rows.{unless, may_be, has_elements, names_value, has_part, outputs_fit, row_misses, primitive_misses, fits_shared, line_misses, lines_miss, stop_operand, kind_misses, entry_misses, rowless}
use Rattle.g_typing.specs.Literals.{is_value_of, is_default_of, may_select, selects, arms_mistake, if_selecting, kind_mistakes, nodes_mistake, item_mistakes, panel_mistakes, mistaken}
use Rattle.g_typing.specs.Assigned.{unlike, inputs_unlike, line_unlike, lines_unlike, gives_unlike, result_unlike, results_unlike, shared_unlike, kind_unlike, unassignable}
use Rattle.g_typing.specs.Selected.{selectors_of, is_complete, uncovered, kind_unselected, unselected}
use Rattle.g_typing.specs.Breaks.{broken, breaks_with, TypeBreak}

-- places of one VI
abbrev AreAt : (vi : ℕ) → List Place → Type 0
AreAt v ps = AllByRecursion (λ p. p.vi ≡ v) ps

none_at : (v : ℕ) → AreAt v []
none_at v = tt

one_at : (v l k : ℕ) → AreAt v (place v l k ∷ [])
one_at v l k = (refl, tt)

both_at : (v : ℕ) (xs ys : List Place) → AreAt v xs → AreAt v ys → AreAt v (xs ++ ys)
both_at v [] ys h g = g
both_at v (x ∷ xs) ys h g = (h.0, both_at v xs ys h.1 g)

if_at : (v l k : ℕ) (b : Bool) → AreAt v (if b then [] else place v l k ∷ [])
if_at v l k true = tt
if_at v l k false = (refl, tt)

unless_at : (v l k : ℕ) (t : Option Ty) (kind : Ty → Bool) → AreAt v (unless t kind (place v l k))
unless_at v l k t kind = if_at v l k (may_be t kind)

unlike_at : (v l k : ℕ) (t u : Option Ty) → AreAt v (unlike t u (place v l k))
unlike_at v l k None u = tt
unlike_at v l k (Some t) None = tt
unlike_at v l k (Some t) (Some u) = if_at v l k (is_assignable t u)

module _ (M : Types) (v : ℕ) where
  -- ---- rows

  line_misses_at : (d b l : ℕ) (t : Tunnel) → AreAt v (line_misses M v d b l t)
  line_misses_at d b l (line.Index array inner) = unless_at v l 1 (wire_type M d array) has_elements
  line_misses_at d b l (line.Gather inner outer) = unless_at v l 1 (wire_type M b inner) is_element
  line_misses_at d b l (line.Ref reference inner next same code) = unless_at v l 1 (wire_type M d reference) names_value
  line_misses_at d b l (line.Element array index inner next outer) =
      both_at v (unless (wire_type M d array) has_elements (place v l 1)) (unless (wire_type M d index) is_num (place v l 2))
      (unless_at v l 1 (wire_type M d array) has_elements) (unless_at v l 2 (wire_type M d index) is_num)
  line_misses_at d b l (line.Field k cluster inner next outer) = unless_at v l 1 (wire_type M d cluster) (has_part k)
  line_misses_at d b l _ = tt

  lines_miss_at : (d b l : ℕ) (ts : List Tunnel) → AreAt v (lines_miss M v d b l ts)
  lines_miss_at d b l [] = tt
  lines_miss_at d b l (t ∷ ts) = both_at v (line_misses M v d b l t) (lines_miss M v d b (l + 1) ts) (line_misses_at d b l t) (lines_miss_at d b (l + 1) ts)

  row_misses_at : (l n : ℕ) (p : Primitive) (ts : List Ty) (o : Option (List Ty)) → AreAt v (row_misses v l p n ts o)
  row_misses_at l n p ts None = (refl, tt)
  row_misses_at l n p ts (Some given) = if_at v l 1 (outputs_fit p n (length given))

  primitive_misses_at : (l n : ℕ) (p : Primitive) (o : Option (List Ty)) → AreAt v (primitive_misses v l p n o)
  primitive_misses_at l n p None = tt
  primitive_misses_at l n p (Some ts) = row_misses_at l n p ts (row_of p ts)

  misses_at : (l d : ℕ) (k : Kind) → AreAt v (kind_misses M v l d k)
  misses_at l d (Apply p inputs outputs) = primitive_misses_at l (length outputs) p (wire_types M d inputs)
  misses_at l d (Shared op inputs outputs) = unless_at v l 1 (wire_type M d (wire_at inputs 0)) (fits_shared op)
  misses_at l d (Obtain queue size item out) = if_at v l 0 (is_shallow item)
  misses_at l d (Loop count stop iteration lines body) =
      both_at v (unless (wire_type M d (or_unwired count)) is_num (place v l 1)) (unless (wire_type M body (or_unwired stop)) is_bool (place v l (stop_operand count)) ++ lines_miss M v d body (l + 1) lines)
      (unless_at v l 1 (wire_type M d (or_unwired count)) is_num)
      (both_at v (unless (wire_type M body (or_unwired stop)) is_bool (place v l (stop_operand count))) (lines_miss M v d body (l + 1) lines)
      (unless_at v l (stop_operand count) (wire_type M body (or_unwired stop)) is_bool) (lines_miss_at d body (l + 1) lines))
  misses_at l d (InPlace lines body finish) = lines_miss_at d body (l + 1) lines
  misses_at l d _ = tt

  -- ---- assignable types

  inputs_unlike_at : (l d k : ℕ) (ws : List Wire) (ts : List Ty) → AreAt v (inputs_unlike M v l d k ws ts)
  inputs_unlike_at l d k [] ts = tt
  inputs_unlike_at l d k (w ∷ ws) [] = tt
  inputs_unlike_at l d k (w ∷ ws) (t ∷ ts) =
      both_at v (unlike (wire_type M d w) (Some t) (place v l k)) (inputs_unlike M v l d (k + 1) ws ts) (unlike_at v l k (wire_type M d w) (Some t)) (inputs_unlike_at l d (k + 1) ws ts)

  line_unlike_at : (d b l : ℕ) (t : Tunnel) → AreAt v (line_unlike M v d b l t)
  line_unlike_at d b l (line.Register initial inner next last) = unlike_at v l 3 (wire_type M b next) (wire_type M d initial)
  line_unlike_at d b l (line.Kept t inner next last) = unlike_at v l 3 (wire_type M b next) (Some t)
  line_unlike_at d b l (line.Ref reference inner next same code) = unlike_at v l 3 (wire_type M b next) (then_type (wire_type M d reference) referred)
  line_unlike_at d b l (line.Element array index inner next outer) = unlike_at v l 4 (wire_type M b next) (then_type (wire_type M d array) element)
  line_unlike_at d b l (line.Field k cluster inner next outer) = unlike_at v l 3 (wire_type M b next) (then_type (wire_type M d cluster) (part k))
  line_unlike_at d b l _ = tt

  lines_unlike_at : (d b l : ℕ) (ts : List Tunnel) → AreAt v (lines_unlike M v d b l ts)
  lines_unlike_at d b l [] = tt
  lines_unlike_at d b l (t ∷ ts) = both_at v (line_unlike M v d b l t) (lines_unlike M v d b (l + 1) ts) (line_unlike_at d b l t) (lines_unlike_at d b (l + 1) ts)

  gives_unlike_at : (k : ℕ) (t : Option Ty) (arms : List Arm) → AreAt v (gives_unlike M v k t arms)
  gives_unlike_at k t [] = tt
  gives_unlike_at k t (arm ∷ arms) =
      both_at v (unlike (wire_type M arm.body (wire_at arm.gives k)) t (place v (arm.body + 1) (k + 1))) (gives_unlike M v k t arms)
      (unlike_at v (arm.body + 1) (k + 1) (wire_type M arm.body (wire_at arm.gives k)) t) (gives_unlike_at k t arms)

  result_unlike_at : (k : ℕ) (arms : List Arm) (b : Bool) → AreAt v (if b then gives_unlike M v k (result_type M k arms) arms else [])
  result_unlike_at k arms true = gives_unlike_at k (result_type M k arms) arms
  result_unlike_at k arms false = tt

  results_unlike_at : (k : ℕ) (arms : List Arm) (ts : List Tunnel) → AreAt v (results_unlike M v k arms ts)
  results_unlike_at k arms [] = tt
  results_unlike_at k arms (t ∷ ts) =
      both_at v (result_unlike M v k arms t) (results_unlike M v (next_result t k) arms ts) (result_unlike_at k arms (is_result t)) (results_unlike_at (next_result t k) arms ts)

  shared_unlike_at : (l d : ℕ) (op : SharedOp) (inputs : List Wire) → AreAt v (shared_unlike M v l d op inputs)
  shared_unlike_at l d shared.Enqueue inputs = unlike_at v l 2 (wire_type M d (wire_at inputs 1)) (then_type (wire_type M d (wire_at inputs 0)) queued)
  shared_unlike_at l d _ inputs = tt

  unlike_kind_at : (called : Callees) (objects : Objects) (l d : ℕ) (k : Kind) → AreAt v (kind_unlike called objects M v l d k)
  unlike_kind_at called objects l d (Shows name t input) = unlike_at v l 1 (wire_type M d input) (Some t)
  unlike_kind_at called objects l d (Write object input) = unlike_at v l 1 (wire_type M d input) (objects object)
  unlike_kind_at called objects l d (Call name inputs outputs) = inputs_unlike_at l d 1 inputs (control_types (called name))
  unlike_kind_at called objects l d (Shared op inputs outputs) = shared_unlike_at l d op inputs
  unlike_kind_at called objects l d (Loop count stop iteration lines body) = lines_unlike_at d body (l + 1) lines
  unlike_kind_at called objects l d (Case selector lines arms) = results_unlike_at 0 arms lines
  unlike_kind_at called objects l d (InPlace lines body finish) = lines_unlike_at d body (l + 1) lines
  unlike_kind_at called objects l d _ = tt

  -- ---- literals and selectors

  arms_mistake_at : (t : Ty) (arms : List Arm) → AreAt v (arms_mistake v t arms)
  arms_mistake_at t [] = tt
  arms_mistake_at t (arm ∷ arms) =
      both_at v (if list_all (selects t) arm.selectors then [] else place v arm.body 0 ∷ []) (arms_mistake v t arms) (if_at v arm.body 0 (list_all (selects t) arm.selectors)) (arms_mistake_at t arms)

  selecting_at : (o : Option Ty) (f : Ty → List Place) → ((t : Ty) → AreAt v (f t)) → AreAt v (if_selecting o f)
  selecting_at None f h = tt
  selecting_at (Some t) f h = by (may_select t)
    where
      by : (b : Bool) → AreAt v (if b then f t else [])
      by true = h t
      by false = tt

  mistakes_at : (l d : ℕ) (k : Kind) → AreAt v (kind_mistakes M v l d k)
  mistakes_at l d (Const t literal out) = if_at v l 0 (is_value_of literal t)
  mistakes_at l d (Case selector lines arms) = selecting_at (wire_type M d selector) (λ t. arms_mistake v t arms) (λ t. arms_mistake_at t arms)
  mistakes_at l d _ = tt

  uncovered_at : (l : ℕ) (ss : List Selector) (t : Ty) → AreAt v (uncovered v l ss t)
  uncovered_at l ss t = if_at v l 0 (is_complete ss t)

  unselected_at : (l d : ℕ) (k : Kind) → AreAt v (kind_unselected M v l d k)
  unselected_at l d (Case selector lines arms) =
      both_at v (unless (wire_type M d selector) may_select (place v l 1)) (if_selecting (wire_type M d selector) (uncovered v l (selectors_of arms)))
      (unless_at v l 1 (wire_type M d selector) may_select)
      (selecting_at (wire_type M d selector) (uncovered v l (selectors_of arms)) (uncovered_at l (selectors_of arms)))
  unselected_at l d _ = tt

  item_at : (l : ℕ) (item : PanelItem) → AreAt v (item_mistakes v l item)
  item_at l (Control name t required default out) = if_at v l 0 (is_default_of default t)
  item_at l (Indicator name t input) = tt

  panel_at : (l : ℕ) (items : List PanelItem) → AreAt v (panel_mistakes v l items)
  panel_at l [] = tt
  panel_at l (item ∷ items) = both_at v (item_mistakes v l item) (panel_mistakes v (l + 1) items) (item_at l item) (panel_at (l + 1) items)

-- ---- no place is told

-- none of some places of a VI is told
abbrev pub NoPlace : (vi : ℕ) → List Place → Type 0
NoPlace v ps = (l o : ℕ) → Contains ps (place v l o) → ⊥

no_front : (v : ℕ) (xs ys : List Place) → NoPlace v (xs ++ ys) → NoPlace v xs
no_front v xs ys none l o is = none l o (Contains-append_left xs ys (place v l o) is)

no_back : (v : ℕ) (xs ys : List Place) → NoPlace v (xs ++ ys) → NoPlace v ys
no_back v xs ys none l o is = none l o (Contains-append_right xs ys (place v l o) is)

nothing_told : (v : ℕ) (ps : List Place) → AreAt v ps → NoPlace v ps → ps ≡ []
nothing_told v [] at none = refl
nothing_told v (p ∷ ps) at none = absurd (none p.line p.operand (0, omega arith, whole v p at.0))
  where
    whole : (v : ℕ) (p : Place) → p.vi ≡ v → p ≡ place v p.line p.operand
    whole v p e = ap (λ x. place x p.line p.operand) e

-- what a node has of it
abbrev pub NodeTells : (told : (line diagram : ℕ) → Kind → List Place) → List Entry → Type 0
NodeTells told es = AllByRecursion (λ e. told e.line e.diagram e.kind ≡ []) es

all_rows : (M : Types) (v : ℕ) (es : List Entry) → NoPlace v (rowless M v es) → NodeTells (kind_misses M v) es
all_rows M v [] none = tt
all_rows M v (e ∷ es) none = (
  nothing_told v (entry_misses M v e) (misses_at M v e.line e.diagram e.kind) (no_front v (entry_misses M v e) (rowless M v es) none),
  all_rows M v es (no_back v (entry_misses M v e) (rowless M v es) none),
)

all_like : (called : Callees) (objects : Objects) (M : Types) (v : ℕ) (es : List Entry) → NoPlace v (unassignable called objects M v es) → NodeTells (kind_unlike called objects M v) es
all_like called objects M v [] none = tt
all_like called objects M v (e ∷ es) none =
    let here : List Place = kind_unlike called objects M v e.line e.diagram e.kind in (
      nothing_told v here (unlike_kind_at M v called objects e.line e.diagram e.kind) (no_front v here (unassignable called objects M v es) none),
      all_like called objects M v es (no_back v here (unassignable called objects M v es) none),
    )

all_literals : (M : Types) (v : ℕ) (es : List Entry) → NoPlace v (nodes_mistake M v es) → NodeTells (kind_mistakes M v) es
all_literals M v [] none = tt
all_literals M v (e ∷ es) none =
    let here : List Place = kind_mistakes M v e.line e.diagram e.kind in
    (nothing_told v here (mistakes_at M v e.line e.diagram e.kind) (no_front v here (nodes_mistake M v es) none), all_literals M v es (no_back v here (nodes_mistake M v es) none))

all_selected : (M : Types) (v : ℕ) (es : List Entry) → NoPlace v (unselected M v es) → NodeTells (kind_unselected M v) es
all_selected M v [] none = tt
all_selected M v (e ∷ es) none =
    let here : List Place = kind_unselected M v e.line e.diagram e.kind in
    (nothing_told v here (unselected_at M v e.line e.diagram e.kind) (no_front v here (unselected M v es) none), all_selected M v es (no_back v here (unselected M v es) none))

mapped_in : {A B : Type 0} (f : A → B) (xs : List A) (x : A) → Contains xs x → Contains (map f xs) (f x)
mapped_in f [] x c = absurd (let less = c.1 in omega (arith, less))
mapped_in f (y ∷ xs) x (zero, less, is) = (0, omega arith, ap f is)
mapped_in f (y ∷ xs) x (suc k, less, is) =
    let c = mapped_in f xs x (k, omega (arith, less), is) in
    let below = c.1 in
    (suc c.0, omega (arith, below), c.2)

-- what a VI's types break of the rules on types
pub record IsSound (vis : List Vi) (v : ℕ) (vi : Vi) (M : Types) : Type 0 where
  pub panel : panel_mistakes v 1 vi.panel ≡ []
  pub literals : NodeTells (kind_mistakes M v) (entries_of vi)
  pub rows : NodeTells (kind_misses M v) (entries_of vi)
  pub like : NodeTells (kind_unlike (called_panel vis) (panel_type vi.panel) M v) (entries_of vi)
  pub selected : NodeTells (kind_unselected M v) (entries_of vi)

pub sound : (h : Hierarchy) → ((b : Break) → TypeBreak h b → ⊥) → (v : ℕ) (vi : Vi) → slice_get h.vis v ≡ Some vi → (M : Types) → IsTyping h.vis vi M → IsSound h.vis v vi M
sound h unbroken v vi stands M typing =
    let es : List Entry = entries_of vi in
    let called : Callees = called_panel h.vis in
    let objects : Objects = panel_type vi.panel in
    let mistakes : List Place = mistaken M v vi.panel es in
    let rows : List Place = rowless M v es in
    let likes : List Place = unassignable called objects M v es in
    let left : List Place = unselected M v es in
    let told : (rule l o : ℕ) → Contains (breaks_with called vi.panel M v es) (broken rule (place v l o)) → ⊥ =
    λ rule l o is. unbroken (broken rule (place v l o)) (record { vi = vi; stands = stands; types = M; typing = typing; is_broken = is }) in
    let no_mistake : NoPlace v mistakes =
    λ l o is. told 15 l o (Contains-append_left (map (broken 15) mistakes) _ (broken 15 (place v l o)) (mapped_in (broken 15) mistakes (place v l o) is)) in
    let no_row : NoPlace v rows =
    λ l o is. told 16 l o
    (Contains-append_right (map (broken 15) mistakes) _ (broken 16 (place v l o))
    (Contains-append_left (map (broken 16) rows) _ (broken 16 (place v l o)) (mapped_in (broken 16) rows (place v l o) is))) in
    let no_like : NoPlace v likes =
    λ l o is. told 17 l o
    (Contains-append_right (map (broken 15) mistakes) _ (broken 17 (place v l o))
    (Contains-append_right (map (broken 16) rows) _ (broken 17 (place v l o))
    (Contains-append_left (map (broken 17) likes) (map (broken 18) left) (broken 17 (place v l o)) (mapped_in (broken 17) likes (place v l o) is)))) in
    let no_left : NoPlace v left =
    λ l o is. told 18 l o
    (Contains-append_right (map (broken 15) mistakes) _ (broken 18 (place v l o))
    (Contains-append_right (map (broken 16) rows) _ (broken 18 (place v l o))
    (Contains-append_right (map (broken 17) likes) (map (broken 18) left) (broken 18 (place v l o)) (mapped_in (broken 18) left (place v l o) is)))) in
    record {
      panel = nothing_told v (panel_mistakes v 1 vi.panel) (panel_at M v 1 vi.panel) (no_front v (panel_mistakes v 1 vi.panel) (nodes_mistake M v es) no_mistake);
      literals = all_literals M v es (no_back v (panel_mistakes v 1 vi.panel) (nodes_mistake M v es) no_mistake);
      rows = all_rows M v es no_row;
      like = all_like called objects M v es no_like;
      selected = all_selected M v es no_left;
    }
