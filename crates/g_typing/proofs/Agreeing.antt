-- Where rules 15 to 18 are broken follows from the types at the operands that they read, so agreeing types give the same breaks.
use Rattle.std.proofs.Common.{◌≡◌, ℕ, ◌+◌, List, [], ◌∷◌, ◌++◌, map, refl, ap, ◌∙◌}
use Rattle.std.specs.Prelude.{Option, Some}
use Rattle.g_types.specs.declared.ty.Ty.{Ty}
use Rattle.g_prims_definitions.specs.Kinds.{part}
use Rattle.g_diagram.specs.declared.place.Place.{Place}
use Rattle.g_diagram.specs.declared.panel.PanelItem.{PanelItem}
use Rattle.g_operations.specs.declared.shared.SharedOp.{SharedOp}
use Rattle.g_operations.specs.declared.shared.SharedOp.TheVariants as shared
use Rattle.g_diagram.specs.declared.node.Tunnel.{Tunnel}
use Rattle.g_diagram.specs.declared.node.Tunnel.TheVariants as line
use Rattle.g_diagram.specs.Lines.{Wire, Arm, Entry, Kind, Const, Apply, Shows, Shared, Obtain, Read, Write, Call, Loop, Case, Sequence, InPlace}
use Rattle.g_typing.specs.Types.{Types, place, wire_type, wire_at, then_type, element, queued, referred}
use Rattle.g_typing.specs.Rows.{unless, kind_misses, rowless}
use Rattle.g_typing.specs.Typing.{Callees, Objects, result_type, next_result, control_types}
use Rattle.g_typing.specs.Literals.{if_selecting, may_select, arms_mistake, kind_mistakes, nodes_mistake, panel_mistakes}
use Rattle.g_typing.specs.Assigned.{unlike, inputs_unlike, line_unlike, lines_unlike, gives_unlike, result_unlike, results_unlike, shared_unlike, kind_unlike, unassignable}
use Rattle.g_typing.specs.Selected.{selectors_of, uncovered, kind_unselected, unselected}
use Rattle.g_typing.specs.Breaks.{broken, breaks_by}
use Rattle.g_typing.proofs.Unique.{SameReads}
use Rattle.g_typing.proofs.Local.{same_left, same_right, at_diagram, result_reads, result_type-local, kind_reads, kind_misses-local}

-- rule 17 at a border line
abbrev pub unlike_reads : (d b : ℕ) → Tunnel → List (ℕ × Wire)
unlike_reads d b (line.Register initial inner next last) = (b, next) ∷ (d, initial) ∷ []
unlike_reads d b (line.Kept t inner next last) = (b, next) ∷ []
unlike_reads d b (line.Ref reference inner next same code) = (b, next) ∷ (d, reference) ∷ []
unlike_reads d b (line.Element array index inner next outer) = (b, next) ∷ (d, array) ∷ []
unlike_reads d b (line.Field k cluster inner next outer) = (b, next) ∷ (d, cluster) ∷ []
unlike_reads d b _ = []

line_unlike-local : (M T : Types) (v d b l : ℕ) (t : Tunnel) → SameReads M T (unlike_reads d b t) → line_unlike M v d b l t ≡ line_unlike T v d b l t
line_unlike-local M T v d b l (line.Tunnel outer inner) h = refl
line_unlike-local M T v d b l (line.Register initial inner next last) h =
    ap (λ o. unlike o (wire_type M d initial) (place v l 3)) h.0 ∙ ap (λ o. unlike (wire_type T b next) o (place v l 3)) h.1.0
line_unlike-local M T v d b l (line.Kept t inner next last) h = ap (λ o. unlike o (Some t) (place v l 3)) h.0
line_unlike-local M T v d b l (line.Last inner outer) h = refl
line_unlike-local M T v d b l (line.Gather inner outer) h = refl
line_unlike-local M T v d b l (line.Index array inner) h = refl
line_unlike-local M T v d b l (line.Result outer default) h = refl
line_unlike-local M T v d b l (line.Carry earlier inner) h = refl
line_unlike-local M T v d b l (line.Ref reference inner next same code) h =
    ap (λ o. unlike o (then_type (wire_type M d reference) referred) (place v l 3)) h.0
    ∙ ap (λ o. unlike (wire_type T b next) (then_type o referred) (place v l 3)) h.1.0
line_unlike-local M T v d b l (line.Element array index inner next outer) h =
    ap (λ o. unlike o (then_type (wire_type M d array) element) (place v l 4)) h.0
    ∙ ap (λ o. unlike (wire_type T b next) (then_type o element) (place v l 4)) h.1.0
line_unlike-local M T v d b l (line.Field k cluster inner next outer) h =
    ap (λ o. unlike o (then_type (wire_type M d cluster) (part k)) (place v l 3)) h.0
    ∙ ap (λ o. unlike (wire_type T b next) (then_type o (part k)) (place v l 3)) h.1.0

abbrev pub all_unlike_reads : (d b : ℕ) → List Tunnel → List (ℕ × Wire)
all_unlike_reads d b [] = []
all_unlike_reads d b (t ∷ ts) = unlike_reads d b t ++ all_unlike_reads d b ts

lines_unlike-local : (M T : Types) (v d b l : ℕ) (ts : List Tunnel) → SameReads M T (all_unlike_reads d b ts) → lines_unlike M v d b l ts ≡ lines_unlike T v d b l ts
lines_unlike-local M T v d b l [] h = refl
lines_unlike-local M T v d b l (t ∷ ts) h =
    ap (λ ps. ps ++ lines_unlike M v d b (l + 1) ts) (line_unlike-local M T v d b l t (same_left M T (unlike_reads d b t) (all_unlike_reads d b ts) h))
    ∙ ap (λ ps. line_unlike T v d b l t ++ ps) (lines_unlike-local M T v d b (l + 1) ts (same_right M T (unlike_reads d b t) (all_unlike_reads d b ts) h))

inputs_unlike-local : (M T : Types) (v l d k : ℕ) (ws : List Wire) (ts : List Ty) → SameReads M T (at_diagram d ws) → inputs_unlike M v l d k ws ts ≡ inputs_unlike T v l d k ws ts
inputs_unlike-local M T v l d k [] ts h = refl
inputs_unlike-local M T v l d k (w ∷ ws) [] h = refl
inputs_unlike-local M T v l d k (w ∷ ws) (t ∷ ts) h =
    ap (λ o. unlike o (Some t) (place v l k) ++ inputs_unlike M v l d (k + 1) ws ts) h.0
    ∙ ap (λ ps. unlike (wire_type T d w) (Some t) (place v l k) ++ ps) (inputs_unlike-local M T v l d (k + 1) ws ts h.1)

gives_unlike-local : (M T : Types) (v k : ℕ) (t : Option Ty) (arms : List Arm) → SameReads M T (result_reads k arms) → gives_unlike M v k t arms ≡ gives_unlike T v k t arms
gives_unlike-local M T v k t [] h = refl
gives_unlike-local M T v k t (arm ∷ arms) h =
    ap (λ o. unlike o t (place v (arm.body + 1) (k + 1)) ++ gives_unlike M v k t arms) h.0
    ∙ ap (λ ps. unlike (wire_type T arm.body (wire_at arm.gives k)) t (place v (arm.body + 1) (k + 1)) ++ ps) (gives_unlike-local M T v k t arms h.1)

abbrev pub one_result_reads : (k : ℕ) → List Arm → Tunnel → List (ℕ × Wire)
one_result_reads k arms (line.Result outer default) = result_reads k arms
one_result_reads k arms _ = []

abbrev pub all_result_reads : (k : ℕ) → List Arm → List Tunnel → List (ℕ × Wire)
all_result_reads k arms [] = []
all_result_reads k arms (t ∷ ts) = one_result_reads k arms t ++ all_result_reads (next_result t k) arms ts

result_unlike-local : (M T : Types) (v k : ℕ) (arms : List Arm) (t : Tunnel) → SameReads M T (one_result_reads k arms t) → result_unlike M v k arms t ≡ result_unlike T v k arms t
result_unlike-local M T v k arms (line.Result outer default) h =
    ap (λ o. gives_unlike M v k o arms) (result_type-local M T k arms h) ∙ gives_unlike-local M T v k (result_type T k arms) arms h
result_unlike-local M T v k arms (line.Tunnel outer inner) h = refl
result_unlike-local M T v k arms (line.Register initial inner next last) h = refl
result_unlike-local M T v k arms (line.Kept t inner next last) h = refl
result_unlike-local M T v k arms (line.Last inner outer) h = refl
result_unlike-local M T v k arms (line.Gather inner outer) h = refl
result_unlike-local M T v k arms (line.Index array inner) h = refl
result_unlike-local M T v k arms (line.Carry earlier inner) h = refl
result_unlike-local M T v k arms (line.Ref reference inner next same code) h = refl
result_unlike-local M T v k arms (line.Element array index inner next outer) h = refl
result_unlike-local M T v k arms (line.Field n cluster inner next outer) h = refl

results_unlike-local : (M T : Types) (v k : ℕ) (arms : List Arm) (ts : List Tunnel) → SameReads M T (all_result_reads k arms ts) → results_unlike M v k arms ts ≡ results_unlike T v k arms ts
results_unlike-local M T v k arms [] h = refl
results_unlike-local M T v k arms (t ∷ ts) h =
    ap (λ ps. ps ++ results_unlike M v (next_result t k) arms ts)
    (result_unlike-local M T v k arms t (same_left M T (one_result_reads k arms t) (all_result_reads (next_result t k) arms ts) h))
    ∙ ap (λ ps. result_unlike T v k arms t ++ ps)
    (results_unlike-local M T v (next_result t k) arms ts (same_right M T (one_result_reads k arms t) (all_result_reads (next_result t k) arms ts) h))

shared_unlike-local : (M T : Types) (v l d : ℕ) (op : SharedOp) (inputs : List Wire) → SameReads M T ((d, wire_at inputs 0) ∷ (d, wire_at inputs 1) ∷ [])
    → shared_unlike M v l d op inputs ≡ shared_unlike T v l d op inputs
shared_unlike-local M T v l d shared.Enqueue inputs h =
    ap (λ o. unlike o (then_type (wire_type M d (wire_at inputs 0)) queued) (place v l 2)) h.1.0
    ∙ ap (λ o. unlike (wire_type T d (wire_at inputs 1)) (then_type o queued) (place v l 2)) h.0
shared_unlike-local M T v l d shared.Dequeue inputs h = refl
shared_unlike-local M T v l d shared.Release inputs h = refl
shared_unlike-local M T v l d shared.Size inputs h = refl
shared_unlike-local M T v l d shared.NewRef inputs h = refl
shared_unlike-local M T v l d shared.DelRef inputs h = refl

-- what rule 17 reads of a node
abbrev pub assigned_reads : (d : ℕ) → Kind → List (ℕ × Wire)
assigned_reads d (Shows name t input) = (d, input) ∷ []
assigned_reads d (Write object input) = (d, input) ∷ []
assigned_reads d (Call name inputs outputs) = at_diagram d inputs
assigned_reads d (Shared op inputs outputs) = (d, wire_at inputs 0) ∷ (d, wire_at inputs 1) ∷ []
assigned_reads d (Loop count stop iteration lines body) = all_unlike_reads d body lines
assigned_reads d (Case selector lines arms) = all_result_reads 0 arms lines
assigned_reads d (InPlace lines body finish) = all_unlike_reads d body lines
assigned_reads d _ = []

kind_unlike-local : (called : Callees) (objects : Objects) (M T : Types) (v l d : ℕ) (k : Kind) → SameReads M T (assigned_reads d k)
    → kind_unlike called objects M v l d k ≡ kind_unlike called objects T v l d k
kind_unlike-local called objects M T v l d (Const t literal out) h = refl
kind_unlike-local called objects M T v l d (Apply p inputs outputs) h = refl
kind_unlike-local called objects M T v l d (Shows name t input) h = ap (λ o. unlike o (Some t) (place v l 1)) h.0
kind_unlike-local called objects M T v l d (Shared op inputs outputs) h = shared_unlike-local M T v l d op inputs h
kind_unlike-local called objects M T v l d (Obtain queue size item out) h = refl
kind_unlike-local called objects M T v l d (Read object out) h = refl
kind_unlike-local called objects M T v l d (Write object input) h = ap (λ o. unlike o (objects object) (place v l 1)) h.0
kind_unlike-local called objects M T v l d (Call name inputs outputs) h = inputs_unlike-local M T v l d 1 inputs (control_types (called name)) h
kind_unlike-local called objects M T v l d (Loop count stop iteration lines body) h = lines_unlike-local M T v d body (l + 1) lines h
kind_unlike-local called objects M T v l d (Case selector lines arms) h = results_unlike-local M T v 0 arms lines h
kind_unlike-local called objects M T v l d (Sequence parts) h = refl
kind_unlike-local called objects M T v l d (InPlace lines body finish) h = lines_unlike-local M T v d body (l + 1) lines h

-- what rules 15 and 18 read of a node
abbrev pub selected_reads : (d : ℕ) → Kind → List (ℕ × Wire)
selected_reads d (Case selector lines arms) = (d, selector) ∷ []
selected_reads d _ = []

kind_mistakes-local : (M T : Types) (v l d : ℕ) (k : Kind) → SameReads M T (selected_reads d k) → kind_mistakes M v l d k ≡ kind_mistakes T v l d k
kind_mistakes-local M T v l d (Const t literal out) h = refl
kind_mistakes-local M T v l d (Apply p inputs outputs) h = refl
kind_mistakes-local M T v l d (Shows name t input) h = refl
kind_mistakes-local M T v l d (Shared op inputs outputs) h = refl
kind_mistakes-local M T v l d (Obtain queue size item out) h = refl
kind_mistakes-local M T v l d (Read object out) h = refl
kind_mistakes-local M T v l d (Write object input) h = refl
kind_mistakes-local M T v l d (Call name inputs outputs) h = refl
kind_mistakes-local M T v l d (Loop count stop iteration lines body) h = refl
kind_mistakes-local M T v l d (Case selector lines arms) h = ap (λ o. if_selecting o (λ t. arms_mistake v t arms)) h.0
kind_mistakes-local M T v l d (Sequence parts) h = refl
kind_mistakes-local M T v l d (InPlace lines body finish) h = refl

kind_unselected-local : (M T : Types) (v l d : ℕ) (k : Kind) → SameReads M T (selected_reads d k) → kind_unselected M v l d k ≡ kind_unselected T v l d k
kind_unselected-local M T v l d (Const t literal out) h = refl
kind_unselected-local M T v l d (Apply p inputs outputs) h = refl
kind_unselected-local M T v l d (Shows name t input) h = refl
kind_unselected-local M T v l d (Shared op inputs outputs) h = refl
kind_unselected-local M T v l d (Obtain queue size item out) h = refl
kind_unselected-local M T v l d (Read object out) h = refl
kind_unselected-local M T v l d (Write object input) h = refl
kind_unselected-local M T v l d (Call name inputs outputs) h = refl
kind_unselected-local M T v l d (Loop count stop iteration lines body) h = refl
kind_unselected-local M T v l d (Case selector lines arms) h =
    ap (λ o. unless o may_select (place v l 1) ++ if_selecting o (uncovered v l (selectors_of arms))) h.0
kind_unselected-local M T v l d (Sequence parts) h = refl
kind_unselected-local M T v l d (InPlace lines body finish) h = refl

-- what the rules read of a node
abbrev pub node_reads : (d : ℕ) → Kind → List (ℕ × Wire)
node_reads d k = selected_reads d k ++ (kind_reads d k ++ assigned_reads d k)

abbrev pub nodes_reads : List Entry → List (ℕ × Wire)
nodes_reads [] = []
nodes_reads (e ∷ es) = node_reads e.diagram e.kind ++ nodes_reads es

reads_selected : (M T : Types) (d : ℕ) (k : Kind) → SameReads M T (node_reads d k) → SameReads M T (selected_reads d k)
reads_selected M T d k h = same_left M T (selected_reads d k) (kind_reads d k ++ assigned_reads d k) h

reads_kind : (M T : Types) (d : ℕ) (k : Kind) → SameReads M T (node_reads d k) → SameReads M T (kind_reads d k)
reads_kind M T d k h = same_left M T (kind_reads d k) (assigned_reads d k) (same_right M T (selected_reads d k) (kind_reads d k ++ assigned_reads d k) h)

reads_assigned : (M T : Types) (d : ℕ) (k : Kind) → SameReads M T (node_reads d k) → SameReads M T (assigned_reads d k)
reads_assigned M T d k h = same_right M T (kind_reads d k) (assigned_reads d k) (same_right M T (selected_reads d k) (kind_reads d k ++ assigned_reads d k) h)

reads_first : (M T : Types) (e : Entry) (es : List Entry) → SameReads M T (nodes_reads (e ∷ es)) → SameReads M T (node_reads e.diagram e.kind)
reads_first M T e es h = same_left M T (node_reads e.diagram e.kind) (nodes_reads es) h

reads_rest : (M T : Types) (e : Entry) (es : List Entry) → SameReads M T (nodes_reads (e ∷ es)) → SameReads M T (nodes_reads es)
reads_rest M T e es h = same_right M T (node_reads e.diagram e.kind) (nodes_reads es) h

two : (a b c d : List Place) → a ≡ b → c ≡ d → a ++ c ≡ b ++ d
two a b c d e f = ap (λ ps. ps ++ c) e ∙ ap (λ ps. b ++ ps) f

nodes_mistake-local : (M T : Types) (v : ℕ) (es : List Entry) → SameReads M T (nodes_reads es) → nodes_mistake M v es ≡ nodes_mistake T v es
nodes_mistake-local M T v [] h = refl
nodes_mistake-local M T v (e ∷ es) h =
    two (kind_mistakes M v e.line e.diagram e.kind) (kind_mistakes T v e.line e.diagram e.kind) (nodes_mistake M v es) (nodes_mistake T v es)
    (kind_mistakes-local M T v e.line e.diagram e.kind (reads_selected M T e.diagram e.kind (reads_first M T e es h))) (nodes_mistake-local M T v es (reads_rest M T e es h))

rowless-local : (M T : Types) (v : ℕ) (es : List Entry) → SameReads M T (nodes_reads es) → rowless M v es ≡ rowless T v es
rowless-local M T v [] h = refl
rowless-local M T v (e ∷ es) h =
    two (kind_misses M v e.line e.diagram e.kind) (kind_misses T v e.line e.diagram e.kind) (rowless M v es) (rowless T v es)
    (kind_misses-local M T v e.line e.diagram e.kind (reads_kind M T e.diagram e.kind (reads_first M T e es h))) (rowless-local M T v es (reads_rest M T e es h))

unassignable-local : (called : Callees) (objects : Objects) (M T : Types) (v : ℕ) (es : List Entry) → SameReads M T (nodes_reads es)
    → unassignable called objects M v es ≡ unassignable called objects T v es
unassignable-local called objects M T v [] h = refl
unassignable-local called objects M T v (e ∷ es) h =
    two (kind_unlike called objects M v e.line e.diagram e.kind) (kind_unlike called objects T v e.line e.diagram e.kind) (unassignable called objects M v es) (unassignable called objects T v es)
    (kind_unlike-local called objects M T v e.line e.diagram e.kind (reads_assigned M T e.diagram e.kind (reads_first M T e es h)))
    (unassignable-local called objects M T v es (reads_rest M T e es h))

unselected-local : (M T : Types) (v : ℕ) (es : List Entry) → SameReads M T (nodes_reads es) → unselected M v es ≡ unselected T v es
unselected-local M T v [] h = refl
unselected-local M T v (e ∷ es) h =
    two (kind_unselected M v e.line e.diagram e.kind) (kind_unselected T v e.line e.diagram e.kind) (unselected M v es) (unselected T v es)
    (kind_unselected-local M T v e.line e.diagram e.kind (reads_selected M T e.diagram e.kind (reads_first M T e es h))) (unselected-local M T v es (reads_rest M T e es h))

-- types that agree at all that the nodes read give the same breaks
pub breaks-local : (called : Callees) (objects : Objects) (panel : List PanelItem) (M T : Types) (v : ℕ) (es : List Entry) → SameReads M T (nodes_reads es)
    → breaks_by called objects panel M v es ≡ breaks_by called objects panel T v es
breaks-local called objects panel M T v es h =
    ap (λ ps. map (broken 15) (panel_mistakes v 1 panel ++ ps) ++ (map (broken 16) (rowless M v es) ++ (map (broken 17) (unassignable called objects M v es) ++ map (broken 18) (unselected M v es))))
    (nodes_mistake-local M T v es h)
    ∙ ap (λ ps. map (broken 15) (panel_mistakes v 1 panel ++ nodes_mistake T v es) ++ (map (broken 16) ps ++ (map (broken 17) (unassignable called objects M v es) ++ map (broken 18) (unselected M v es))))
    (rowless-local M T v es h)
    ∙ ap (λ ps. map (broken 15) (panel_mistakes v 1 panel ++ nodes_mistake T v es) ++ (map (broken 16) (rowless T v es) ++ (map (broken 17) ps ++ map (broken 18) (unselected M v es))))
    (unassignable-local called objects M T v es h)
    ∙ ap (λ ps. map (broken 15) (panel_mistakes v 1 panel ++ nodes_mistake T v es) ++ (map (broken 16) (rowless T v es) ++ (map (broken 17) (unassignable called objects T v es) ++ map (broken 18) ps)))
    (unselected-local M T v es h)
