-- What is told of a VI by its types stands in that VI.
use Rattle.std.proofs.Common.{◌≡◌, ℕ, ◌+◌, Bool, true, false, List, [], ◌∷◌, ◌++◌, map, length, refl}
use Rattle.std.specs.Prelude.{Option, Some, None, if◌then◌else◌}
use Rattle.std.specs.List.{AllByRecursion, Contains, list_all}
use Rattle.std.proofs.lemmas.List.Elements.{All-from_recursion, All-contains}
use Rattle.g_types.specs.declared.ty.Ty.{Ty}
use Rattle.g_types.specs.Ty.{is_num}
use Rattle.g_values.specs.declared.primitive.Primitive.{Primitive}
use Rattle.g_prims_definitions.specs.Kinds.{is_assignable, is_bool, part}
use Rattle.g_prims_definitions.specs.Rows.{row_of, is_shallow, is_element}
use Rattle.g_diagram.specs.declared.place.Break.{Break}
use Rattle.g_diagram.specs.declared.place.Place.{Place}
use Rattle.g_operations.specs.declared.shared.SharedOp.{SharedOp}
use Rattle.g_operations.specs.declared.shared.SharedOp.TheVariants as shared
use Rattle.g_diagram.specs.declared.node.Tunnel.{Tunnel}
use Rattle.g_diagram.specs.declared.node.Tunnel.TheVariants as line
use Rattle.g_diagram.specs.declared.panel.PanelItem.{PanelItem}
use Rattle.g_diagram.specs.declared.panel.PanelItem.TheVariants.{Control, Indicator}
use Rattle.g_diagram.specs.Lines.{Wire, Arm, Kind, Entry, Const, Apply, Shows, Shared, Obtain, Read, Write, Call, Loop, Case, Sequence, InPlace}
use Rattle.g_typing.specs.Types.{Types, place, wire_type, wire_types, or_unwired, wire_at, then_type, element, queued, referred}
use Rattle.g_typing.specs.Typing.{Callees, Objects, control_types, result_type, next_result}
use Rattle.g_typing.specs.Literals.{is_value_of, is_default_of, may_select, selects, if_selecting, arms_mistake, kind_mistakes, nodes_mistake, item_mistakes, panel_mistakes, mistaken}
use Rattle.g_typing.specs.Rows.{may_be, has_elements, has_part, names_value, fits_shared, outputs_fit, unless, stop_operand, row_misses, primitive_misses, line_misses, lines_miss, kind_misses, rowless}
use Rattle.g_typing.specs.Assigned.{unlike, inputs_unlike, line_unlike, lines_unlike, gives_unlike, result_unlike, results_unlike, shared_unlike, kind_unlike, unassignable}
use Rattle.g_typing.specs.Selected.{selectors_of, is_complete, uncovered, kind_unselected, unselected}
use Rattle.g_typing.specs.Breaks.{broken, breaks_by}

-- places of VI v
abbrev AreIn : (v : ℕ) → List Place → Type 0
AreIn v ps = AllByRecursion (λ (p : Place). p.vi ≡ v) ps

both : (v : ℕ) (ps qs : List Place) → AreIn v ps → AreIn v qs → AreIn v (ps ++ qs)
both v [] qs h k = k
both v (p ∷ ps) qs h k = (h.0, both v ps qs h.1 k)

tested : (v l o : ℕ) (b : Bool) → AreIn v (if b then [] else place v l o ∷ [])
tested v l o true = tt
tested v l o false = (refl, tt)

where_true : (v : ℕ) (b : Bool) (ps : List Place) → AreIn v ps → AreIn v (if b then ps else [])
where_true v true ps h = h
where_true v false ps h = tt

selecting : (v : ℕ) (t : Option Ty) (f : Ty → List Place) → ((u : Ty) → AreIn v (f u)) → AreIn v (if_selecting t f)
selecting v None f h = tt
selecting v (Some u) f h = where_true v (may_select u) (f u) (h u)

-- rule 15

arms_in : (v : ℕ) (t : Ty) (arms : List Arm) → AreIn v (arms_mistake v t arms)
arms_in v t [] = tt
arms_in v t (arm ∷ arms) =
    both v (if list_all (selects t) arm.selectors then [] else place v arm.body 0 ∷ []) (arms_mistake v t arms) (tested v arm.body 0 (list_all (selects t) arm.selectors)) (arms_in v t arms)

mistakes_in : (M : Types) (v l d : ℕ) (k : Kind) → AreIn v (kind_mistakes M v l d k)
mistakes_in M v l d (Const t literal out) = tested v l 0 (is_value_of literal t)
mistakes_in M v l d (Apply p inputs outputs) = tt
mistakes_in M v l d (Shows name t input) = tt
mistakes_in M v l d (Shared op inputs outputs) = tt
mistakes_in M v l d (Obtain queue size item out) = tt
mistakes_in M v l d (Read object out) = tt
mistakes_in M v l d (Write object input) = tt
mistakes_in M v l d (Call name inputs outputs) = tt
mistakes_in M v l d (Loop count stop iteration ts body) = tt
mistakes_in M v l d (Case selector ts arms) = selecting v (wire_type M d selector) (λ t. arms_mistake v t arms) (λ t. arms_in v t arms)
mistakes_in M v l d (Sequence parts) = tt
mistakes_in M v l d (InPlace ts body finish) = tt

nodes_in : (M : Types) (v : ℕ) (es : List Entry) → AreIn v (nodes_mistake M v es)
nodes_in M v [] = tt
nodes_in M v (e ∷ es) = both v (kind_mistakes M v e.line e.diagram e.kind) (nodes_mistake M v es) (mistakes_in M v e.line e.diagram e.kind) (nodes_in M v es)

item_in : (v l : ℕ) (item : PanelItem) → AreIn v (item_mistakes v l item)
item_in v l (Control name t required default out) = tested v l 0 (is_default_of default t)
item_in v l (Indicator name t input) = tt

panel_in : (v l : ℕ) (items : List PanelItem) → AreIn v (panel_mistakes v l items)
panel_in v l [] = tt
panel_in v l (item ∷ items) = both v (item_mistakes v l item) (panel_mistakes v (l + 1) items) (item_in v l item) (panel_in v (l + 1) items)

-- rule 16

row_in : (v l : ℕ) (p : Primitive) (n : ℕ) (ts : List Ty) (given : Option (List Ty)) → AreIn v (row_misses v l p n ts given)
row_in v l p n ts None = (refl, tt)
row_in v l p n ts (Some given) = tested v l 1 (outputs_fit p n (length given))

primitive_in : (v l : ℕ) (p : Primitive) (n : ℕ) (ts : Option (List Ty)) → AreIn v (primitive_misses v l p n ts)
primitive_in v l p n None = tt
primitive_in v l p n (Some ts) = row_in v l p n ts (row_of p ts)

miss_in : (M : Types) (v d b l : ℕ) (t : Tunnel) → AreIn v (line_misses M v d b l t)
miss_in M v d b l (line.Tunnel outer inner) = tt
miss_in M v d b l (line.Register initial inner next last) = tt
miss_in M v d b l (line.Kept t inner next last) = tt
miss_in M v d b l (line.Last inner outer) = tt
miss_in M v d b l (line.Gather inner outer) = tested v l 1 (may_be (wire_type M b inner) is_element)
miss_in M v d b l (line.Index array inner) = tested v l 1 (may_be (wire_type M d array) has_elements)
miss_in M v d b l (line.Result outer default) = tt
miss_in M v d b l (line.Carry earlier inner) = tt
miss_in M v d b l (line.Ref reference inner next same code) = tested v l 1 (may_be (wire_type M d reference) names_value)
miss_in M v d b l (line.Element array index inner next outer) =
    both v (unless (wire_type M d array) has_elements (place v l 1)) (unless (wire_type M d index) is_num (place v l 2)) (tested v l 1 (may_be (wire_type M d array) has_elements)) (tested v l 2 (may_be (wire_type M d index) is_num))
miss_in M v d b l (line.Field k cluster inner next outer) = tested v l 1 (may_be (wire_type M d cluster) (has_part k))

lines_in : (M : Types) (v d b l : ℕ) (ts : List Tunnel) → AreIn v (lines_miss M v d b l ts)
lines_in M v d b l [] = tt
lines_in M v d b l (t ∷ ts) = both v (line_misses M v d b l t) (lines_miss M v d b (l + 1) ts) (miss_in M v d b l t) (lines_in M v d b (l + 1) ts)

misses_in : (M : Types) (v l d : ℕ) (k : Kind) → AreIn v (kind_misses M v l d k)
misses_in M v l d (Const t literal out) = tt
misses_in M v l d (Apply p inputs outputs) = primitive_in v l p (length outputs) (wire_types M d inputs)
misses_in M v l d (Shows name t input) = tt
misses_in M v l d (Shared op inputs outputs) = tested v l 1 (may_be (wire_type M d (wire_at inputs 0)) (fits_shared op))
misses_in M v l d (Obtain queue size item out) = tested v l 0 (is_shallow item)
misses_in M v l d (Read object out) = tt
misses_in M v l d (Write object input) = tt
misses_in M v l d (Call name inputs outputs) = tt
misses_in M v l d (Loop count stop iteration ts body) =
    both v (unless (wire_type M d (or_unwired count)) is_num (place v l 1))
    (unless (wire_type M body (or_unwired stop)) is_bool (place v l (stop_operand count)) ++ lines_miss M v d body (l + 1) ts)
    (tested v l 1 (may_be (wire_type M d (or_unwired count)) is_num))
    (both v (unless (wire_type M body (or_unwired stop)) is_bool (place v l (stop_operand count))) (lines_miss M v d body (l + 1) ts)
    (tested v l (stop_operand count) (may_be (wire_type M body (or_unwired stop)) is_bool)) (lines_in M v d body (l + 1) ts))
misses_in M v l d (Case selector ts arms) = tt
misses_in M v l d (Sequence parts) = tt
misses_in M v l d (InPlace ts body finish) = lines_in M v d body (l + 1) ts

rowless_in : (M : Types) (v : ℕ) (es : List Entry) → AreIn v (rowless M v es)
rowless_in M v [] = tt
rowless_in M v (e ∷ es) = both v (kind_misses M v e.line e.diagram e.kind) (rowless M v es) (misses_in M v e.line e.diagram e.kind) (rowless_in M v es)

-- rule 17

unlike_in : (v l o : ℕ) (t u : Option Ty) → AreIn v (unlike t u (place v l o))
unlike_in v l o None u = tt
unlike_in v l o (Some t) None = tt
unlike_in v l o (Some t) (Some u) = tested v l o (is_assignable t u)

inputs_in : (M : Types) (v l d k : ℕ) (ws : List Wire) (ts : List Ty) → AreIn v (inputs_unlike M v l d k ws ts)
inputs_in M v l d k [] ts = tt
inputs_in M v l d k (w ∷ ws) [] = tt
inputs_in M v l d k (w ∷ ws) (t ∷ ts) =
    both v (unlike (wire_type M d w) (Some t) (place v l k)) (inputs_unlike M v l d (k + 1) ws ts) (unlike_in v l k (wire_type M d w) (Some t)) (inputs_in M v l d (k + 1) ws ts)

new_in : (M : Types) (v d b l : ℕ) (t : Tunnel) → AreIn v (line_unlike M v d b l t)
new_in M v d b l (line.Tunnel outer inner) = tt
new_in M v d b l (line.Register initial inner next last) = unlike_in v l 3 (wire_type M b next) (wire_type M d initial)
new_in M v d b l (line.Kept t inner next last) = unlike_in v l 3 (wire_type M b next) (Some t)
new_in M v d b l (line.Last inner outer) = tt
new_in M v d b l (line.Gather inner outer) = tt
new_in M v d b l (line.Index array inner) = tt
new_in M v d b l (line.Result outer default) = tt
new_in M v d b l (line.Carry earlier inner) = tt
new_in M v d b l (line.Ref reference inner next same code) = unlike_in v l 3 (wire_type M b next) (then_type (wire_type M d reference) referred)
new_in M v d b l (line.Element array index inner next outer) = unlike_in v l 4 (wire_type M b next) (then_type (wire_type M d array) element)
new_in M v d b l (line.Field k cluster inner next outer) = unlike_in v l 3 (wire_type M b next) (then_type (wire_type M d cluster) (part k))

news_in : (M : Types) (v d b l : ℕ) (ts : List Tunnel) → AreIn v (lines_unlike M v d b l ts)
news_in M v d b l [] = tt
news_in M v d b l (t ∷ ts) = both v (line_unlike M v d b l t) (lines_unlike M v d b (l + 1) ts) (new_in M v d b l t) (news_in M v d b (l + 1) ts)

gives_in : (M : Types) (v k : ℕ) (t : Option Ty) (arms : List Arm) → AreIn v (gives_unlike M v k t arms)
gives_in M v k t [] = tt
gives_in M v k t (arm ∷ arms) =
    both v (unlike (wire_type M arm.body (wire_at arm.gives k)) t (place v (arm.body + 1) (k + 1))) (gives_unlike M v k t arms)
    (unlike_in v (arm.body + 1) (k + 1) (wire_type M arm.body (wire_at arm.gives k)) t) (gives_in M v k t arms)

result_in : (M : Types) (v k : ℕ) (arms : List Arm) (t : Tunnel) → AreIn v (result_unlike M v k arms t)
result_in M v k arms (line.Tunnel outer inner) = tt
result_in M v k arms (line.Register initial inner next last) = tt
result_in M v k arms (line.Kept t inner next last) = tt
result_in M v k arms (line.Last inner outer) = tt
result_in M v k arms (line.Gather inner outer) = tt
result_in M v k arms (line.Index array inner) = tt
result_in M v k arms (line.Result outer default) = gives_in M v k (result_type M k arms) arms
result_in M v k arms (line.Carry earlier inner) = tt
result_in M v k arms (line.Ref reference inner next same code) = tt
result_in M v k arms (line.Element array index inner next outer) = tt
result_in M v k arms (line.Field j cluster inner next outer) = tt

results_in : (M : Types) (v k : ℕ) (arms : List Arm) (ts : List Tunnel) → AreIn v (results_unlike M v k arms ts)
results_in M v k arms [] = tt
results_in M v k arms (t ∷ ts) =
    both v (result_unlike M v k arms t) (results_unlike M v (next_result t k) arms ts) (result_in M v k arms t) (results_in M v (next_result t k) arms ts)

shared_in : (M : Types) (v l d : ℕ) (op : SharedOp) (ws : List Wire) → AreIn v (shared_unlike M v l d op ws)
shared_in M v l d shared.Enqueue ws = unlike_in v l 2 (wire_type M d (wire_at ws 1)) (then_type (wire_type M d (wire_at ws 0)) queued)
shared_in M v l d shared.Dequeue ws = tt
shared_in M v l d shared.Release ws = tt
shared_in M v l d shared.Size ws = tt
shared_in M v l d shared.NewRef ws = tt
shared_in M v l d shared.DelRef ws = tt

unlikes_in : (called : Callees) (objects : Objects) (M : Types) (v l d : ℕ) (k : Kind) → AreIn v (kind_unlike called objects M v l d k)
unlikes_in called objects M v l d (Const t literal out) = tt
unlikes_in called objects M v l d (Apply p inputs outputs) = tt
unlikes_in called objects M v l d (Shows name t input) = unlike_in v l 1 (wire_type M d input) (Some t)
unlikes_in called objects M v l d (Shared op inputs outputs) = shared_in M v l d op inputs
unlikes_in called objects M v l d (Obtain queue size item out) = tt
unlikes_in called objects M v l d (Read object out) = tt
unlikes_in called objects M v l d (Write object input) = unlike_in v l 1 (wire_type M d input) (objects object)
unlikes_in called objects M v l d (Call name inputs outputs) = inputs_in M v l d 1 inputs (control_types (called name))
unlikes_in called objects M v l d (Loop count stop iteration ts body) = news_in M v d body (l + 1) ts
unlikes_in called objects M v l d (Case selector ts arms) = results_in M v 0 arms ts
unlikes_in called objects M v l d (Sequence parts) = tt
unlikes_in called objects M v l d (InPlace ts body finish) = news_in M v d body (l + 1) ts

unassignable_in : (called : Callees) (objects : Objects) (M : Types) (v : ℕ) (es : List Entry) → AreIn v (unassignable called objects M v es)
unassignable_in called objects M v [] = tt
unassignable_in called objects M v (e ∷ es) =
    both v (kind_unlike called objects M v e.line e.diagram e.kind) (unassignable called objects M v es) (unlikes_in called objects M v e.line e.diagram e.kind) (unassignable_in called objects M v es)

-- rule 18

selections_in : (M : Types) (v l d : ℕ) (k : Kind) → AreIn v (kind_unselected M v l d k)
selections_in M v l d (Const t literal out) = tt
selections_in M v l d (Apply p inputs outputs) = tt
selections_in M v l d (Shows name t input) = tt
selections_in M v l d (Shared op inputs outputs) = tt
selections_in M v l d (Obtain queue size item out) = tt
selections_in M v l d (Read object out) = tt
selections_in M v l d (Write object input) = tt
selections_in M v l d (Call name inputs outputs) = tt
selections_in M v l d (Loop count stop iteration ts body) = tt
selections_in M v l d (Case selector ts arms) =
    both v (unless (wire_type M d selector) may_select (place v l 1)) (if_selecting (wire_type M d selector) (uncovered v l (selectors_of arms))) (tested v l 1 (may_be (wire_type M d selector) may_select))
    (selecting v (wire_type M d selector) (uncovered v l (selectors_of arms)) (λ t. tested v l 0 (is_complete (selectors_of arms) t)))
selections_in M v l d (Sequence parts) = tt
selections_in M v l d (InPlace ts body finish) = tt

unselected_in : (M : Types) (v : ℕ) (es : List Entry) → AreIn v (unselected M v es)
unselected_in M v [] = tt
unselected_in M v (e ∷ es) = both v (kind_unselected M v e.line e.diagram e.kind) (unselected M v es) (selections_in M v e.line e.diagram e.kind) (unselected_in M v es)

-- all rules

abbrev BreaksIn : (v : ℕ) → List Break → Type 0
BreaksIn v bs = AllByRecursion (λ (b : Break). b.place.vi ≡ v) bs

rule_in : (v rule : ℕ) (ps : List Place) → AreIn v ps → BreaksIn v (map (broken rule) ps)
rule_in v rule [] h = tt
rule_in v rule (p ∷ ps) h = (h.0, rule_in v rule ps h.1)

rules_both : (v : ℕ) (bs cs : List Break) → BreaksIn v bs → BreaksIn v cs → BreaksIn v (bs ++ cs)
rules_both v [] cs h k = k
rules_both v (b ∷ bs) cs h k = (h.0, rules_both v bs cs h.1 k)

breaks_in : (called : Callees) (objects : Objects) (panel : List PanelItem) (M : Types) (v : ℕ) (es : List Entry) → BreaksIn v (breaks_by called objects panel M v es)
breaks_in called objects panel M v es =
    let mistakes : AreIn v (mistaken M v panel es) = both v (panel_mistakes v 1 panel) (nodes_mistake M v es) (panel_in v 1 panel) (nodes_in M v es) in
    let first : List Break = map (broken 15) (mistaken M v panel es) in
    let second : List Break = map (broken 16) (rowless M v es) in
    let third : List Break = map (broken 17) (unassignable called objects M v es) in
    let fourth : List Break = map (broken 18) (unselected M v es) in
    rules_both v first (second ++ (third ++ fourth)) (rule_in v 15 (mistaken M v panel es) mistakes)
    (rules_both v second (third ++ fourth) (rule_in v 16 (rowless M v es) (rowless_in M v es))
    (rules_both v third fourth (rule_in v 17 (unassignable called objects M v es) (unassignable_in called objects M v es)) (rule_in v 18 (unselected M v es) (unselected_in M v es))))

-- a break that is told of VI v stands there
pub told_in : (called : Callees) (objects : Objects) (panel : List PanelItem) (M : Types) (v : ℕ) (es : List Entry) (b : Break) → Contains (breaks_by called objects panel M v es) b → b.place.vi ≡ v
told_in called objects panel M v es b h =
    All-contains (λ (c : Break). c.place.vi ≡ v) (breaks_by called objects panel M v es) b (All-from_recursion (λ (c : Break). c.place.vi ≡ v) (breaks_by called objects panel M v es) (breaks_in called objects panel M v es)) h
