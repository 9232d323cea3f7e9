-- The effect of a node's next firing is that of the plan of its kind, where the reference that it uses names an object.
use Rattle.std.proofs.Common.{◌≡◌, ℕ, ◌+◌, true, List, [], map, refl, ap, ◌∙◌}
use Rattle.std.specs.Prelude.{Option, Some, None, is_some, slice_get}
use Rattle.std.specs.Option.{option_map, option_and_then, unwrap_or}
use Rattle.g_types.specs.declared.ty.Ty.{Ty}
use Rattle.g_values.specs.declared.value.Live.{Live}
use Rattle.g_values.specs.declared.value.Value.{Value, out-Value}
use Rattle.g_values.specs.declared.value.Value.TheOpen.{Value-F}
use Rattle.g_values.specs.Default.{default}
use Rattle.g_diagram.specs.declared.node.Tunnel.{Tunnel}
use Rattle.g_diagram.specs.Lines.{Wire, Entry, Kind, Const, Apply, Shows, Shared, Obtain, Read, Write, Call, Loop, Case, Sequence, InPlace}
use Rattle.g_shared.specs.Outcome.{Outcome}
use Rattle.g_shared.specs.Cells.{CellState, Body, live_value, in_place}
use Rattle.g_border.specs.Readers.{value_on}
use Rattle.g_border.specs.Lines.{Reference, reference_in}
use Rattle.g_frames.specs.declared.state.Progress.{Progress}
use Rattle.g_frames.specs.Contents as content
use Rattle.g_frames.specs.Contents.{Content, as_content, object_step}
use Rattle.g_frames.specs.Program.{FlatVi, vi_at, numbered}
use Rattle.g_frames.specs.Effects.{Here, next_frame, after_step}
use Rattle.g_frames.specs.Operations.{no_cell}
use Rattle.g_frames.specs.Calls.{call_effect}
use Rattle.g_frames.specs.InPlace.{place_body, place_done, place_effect, by_place, item_at}
use Rattle.g_frames.specs.Fire.{effect}
use Rattle.g_objects.specs.Operations.{given_to}
use Rattle.g_effects.specs.declared.effect.Effect.{Effect}
use Rattle.g_effects.specs.Effects.{seen}
use Rattle.g_effects.specs.declared.plan.Plan.{Plan}
use Rattle.g_effects.specs.declared.plan.Plan.TheVariants as plan
use Rattle.g_effects.specs.declared.plan.Request.{Request}
use Rattle.g_effects.specs.Needs.{Needs, NamesObject, FitsPlaceOf, FitsPlaceBy, FitsPlace}
use Rattle.g_firing.specs.Names.{NamesCell, NamesPlace, NamesOf}
use Rattle.g_effects.specs.Turns.{loop_plan, case_plan, sequence_plan}
use Rattle.g_effects.specs.Requests.{requested, planned, placement, call_plan}
use Rattle.g_effects.specs.Kinds.{live_place, place_by, place_at, place_plan, kind_plan}
use Rattle.g_effects.proofs.TurnLemmas.{loop_is, case_is, sequence_is}
use Rattle.g_effects.proofs.RequestLemmas.{call_is, shared_is}

effect_through : (h : Here) (e : Entry) (p : Progress) (m : Option Effect) →
    option_and_then (planned h e p) (option_map plan.Effect m) ≡ option_map (seen p (next_frame h)) m
effect_through h e p None = refl
effect_through h e p (Some x) = refl

request_through : (h : Here) (e : Entry) (p : Progress) (m : Option Request) →
    option_and_then (planned h e p) (option_map plan.Request m) ≡ option_and_then (requested h e p) m
request_through h e p None = refl
request_through h e p (Some q) = refl

called_is : (h : Here) (e : Entry) (inputs : List Wire) (choice : Option ℕ) (p : Progress) (v : ℕ) (m : Option FlatVi) → vi_at h.program v ≡ m →
    option_and_then (planned h e p) (option_and_then (λ called. option_map plan.Request (call_plan h e.line inputs choice p v called.panel called.clones)) m)
    ≡ option_and_then (call_effect h e inputs choice p v) m
called_is h e inputs choice p v None is = refl
called_is h e inputs choice p v (Some called) is =
    request_through h e p (call_plan h e.line inputs choice p v called.panel called.clones) ∙ call_is h e inputs choice p v called is

-- ---- structures in place

-- only what the body makes of the value that it gets counts
same_made : (s : CellState) (body : Body) (m : Option Value) →
    in_place s [] (λ v vs. ((body (unwrap_or m (default s.content)) []).0, (body (unwrap_or m (default s.content)) []).1)) m ≡ in_place s [] body m
same_made s body None = refl
same_made s body (Some v) = refl

placed_is : (h : Here) (e : Entry) (lines : List Tunnel) (body finish : ℕ) (r : Reference) (t : Ty) (l : Live) (m : Option Content) → is_some m ≡ true →
    option_and_then (λ (v : Value). after_step (Some l.object) (place_done h e lines r)
    (option_and_then (λ c. object_step c (content.InPlace l.serial []) 0 (λ w ws. ((place_body h e lines body finish r.next t v []).0, (place_body h e lines body finish r.next t v []).1))) m))
    (option_and_then (λ c. given_to c l.serial) m)
    ≡ after_step (Some l.object) (place_done h e lines r) (object_step (unwrap_or m (no_cell t)) (content.InPlace l.serial []) 0 (place_body h e lines body finish r.next t))
placed_is h e lines body finish r t l None names = absurd cc
placed_is h e lines body finish r t l (Some (content.Panel s)) names = refl
placed_is h e lines body finish r t l (Some (content.Queue s)) names = refl
placed_is h e lines body finish r t l (Some (content.Pool s)) names = refl
placed_is h e lines body finish r t l (Some (content.Cell s)) names =
    ap (λ (o : Outcome CellState). after_step (Some l.object) (place_done h e lines r) (as_content content.Cell o))
    (same_made s (place_body h e lines body finish r.next t) (live_value s l.serial))

through : {A : Type 0} (f : Plan → Option A) (g : Value → Plan) (m : Option Value) → option_and_then f (option_map g m) ≡ option_and_then (λ v. f (g v)) m
through f g None = refl
through f g (Some v) = refl

live_placed_is : (h : Here) (e : Entry) (p : Progress) (lines : List Tunnel) (body finish : ℕ) (r : Reference) (t : Ty) (l : Live) → NamesObject h.objects (Some l) →
    option_and_then (planned h e p) (live_place h e lines body finish r t l) ≡ by_place h e lines body finish r t (Some l)
live_placed_is h e p lines body finish r t l names =
    through (planned h e p) (λ v. plan.Placement (placement h e lines body finish r t l v)) (option_and_then (λ c. given_to c l.serial) (slice_get h.objects l.object))
    ∙ placed_is h e lines body finish r t l (slice_get h.objects l.object) names

placed_by_is : (h : Here) (e : Entry) (p : Progress) (lines : List Tunnel) (body finish : ℕ) (r : Reference) (t : Ty) (at : Option Live) → NamesObject h.objects at →
    option_and_then (planned h e p) (place_by h e lines body finish r t at) ≡ by_place h e lines body finish r t at
placed_by_is h e p lines body finish r t None names = refl
placed_by_is h e p lines body finish r t (Some l) names = live_placed_is h e p lines body finish r t l names

placed_at_is : (h : Here) (e : Entry) (p : Progress) (lines : List Tunnel) (body finish : ℕ) (r : Reference) (v : Value-F Value) → NamesCell h.objects v →
    option_and_then (planned h e p) (place_at h e lines body finish r v) ≡ option_and_then (λ i. by_place h e lines body finish r i.0 i.1) (item_at v)
placed_at_is h e p lines body finish r (Value-F.Num x) names = refl
placed_at_is h e p lines body finish r (Value-F.Bool b) names = refl
placed_at_is h e p lines body finish r (Value-F.Str s) names = refl
placed_at_is h e p lines body finish r (Value-F.Nums xs) names = refl
placed_at_is h e p lines body finish r (Value-F.Arr xs) names = refl
placed_at_is h e p lines body finish r (Value-F.Cluster ws) names = refl
placed_at_is h e p lines body finish r (Value-F.Queue q) names = refl
placed_at_is h e p lines body finish r (Value-F.Cell c) names = placed_by_is h e p lines body finish r c.elem c.at names

place_is : (h : Here) (e : Entry) (p : Progress) (lines : List Tunnel) (body finish : ℕ) (m : Option Reference) → NamesPlace h.objects h.outer m →
    option_and_then (planned h e p) (place_plan h e lines body finish m) ≡ place_effect h e lines body finish m
place_is h e p lines body finish None names = refl
place_is h e p lines body finish (Some r) names = placed_at_is h e p lines body finish r (out-Value (value_on h.outer r.from)) names

-- ---- all kinds

pub plan_is : (h : Here) (e : Entry) (choice : Option ℕ) (k : Kind) (p : Progress) → NamesOf h.objects h.outer e.line k →
    option_and_then (planned h e p) (kind_plan h e choice k p) ≡ effect h e choice k p
plan_is h e None (Const t literal out) p names = refl
plan_is h e None (Apply op inputs outputs) p names = refl
plan_is h e None (Shows name t w) p names = refl
plan_is h e None (Shared op inputs outputs) p names = shared_is h e p op (map (value_on h.outer) inputs) names
plan_is h e None (Obtain name size item out) p names = refl
plan_is h e None (Read name out) p names = refl
plan_is h e None (Write name w) p names = refl
plan_is h e choice (Call name inputs outputs) p names =
    called_is h e inputs choice p (numbered h.program.vis name) (vi_at h.program (numbered h.program.vis name)) refl
plan_is h e None (Loop count stop i lines body) p names =
    effect_through h e p (loop_plan h e.line count stop i lines body p) ∙ loop_is h e count stop i lines body p
plan_is h e None (Case w lines arms) p names = effect_through h e p (case_plan h e.line w lines arms p) ∙ case_is h e w lines arms p
plan_is h e None (Sequence parts) p names = effect_through h e p (sequence_plan h parts p) ∙ sequence_is h parts p
plan_is h e None (InPlace lines body finish) p names = place_is h e p lines body finish (reference_in (e.line + 1) lines) names
plan_is h e (Some k) (Const t literal out) p names = refl
plan_is h e (Some k) (Apply op inputs outputs) p names = refl
plan_is h e (Some k) (Shows name t w) p names = refl
plan_is h e (Some k) (Shared op inputs outputs) p names = refl
plan_is h e (Some k) (Obtain name size item out) p names = refl
plan_is h e (Some k) (Read name out) p names = refl
plan_is h e (Some k) (Write name w) p names = refl
plan_is h e (Some k) (Loop count stop i lines body) p names = refl
plan_is h e (Some k) (Case w lines arms) p names = refl
plan_is h e (Some k) (Sequence parts) p names = refl
plan_is h e (Some k) (InPlace lines body finish) p names = refl

-- ---- what a firing needs has it

at_names : (h : Here) (e : Entry) (lines : List Tunnel) (body finish : ℕ) (r : Reference) (t : Ty) (at : Option Live) →
    ((l : Live) → at ≡ Some l → FitsPlaceOf h e lines body finish r t l) → NamesObject h.objects at
at_names h e lines body finish r t None fits = tt
at_names h e lines body finish r t (Some l) fits = let f : FitsPlaceOf h e lines body finish r t l = fits l refl in f.names

cell_names : (h : Here) (e : Entry) (lines : List Tunnel) (body finish : ℕ) (r : Reference) (v : Value-F Value) → FitsPlaceBy h e lines body finish r v → NamesCell h.objects v
cell_names h e lines body finish r (Value-F.Num x) fits = tt
cell_names h e lines body finish r (Value-F.Bool b) fits = tt
cell_names h e lines body finish r (Value-F.Str s) fits = tt
cell_names h e lines body finish r (Value-F.Nums xs) fits = tt
cell_names h e lines body finish r (Value-F.Arr xs) fits = tt
cell_names h e lines body finish r (Value-F.Cluster ws) fits = tt
cell_names h e lines body finish r (Value-F.Queue q) fits = tt
cell_names h e lines body finish r (Value-F.Cell c) fits = at_names h e lines body finish r c.elem c.at fits

place_names : (h : Here) (e : Entry) (lines : List Tunnel) (body finish : ℕ) (m : Option Reference) → FitsPlace h e lines body finish m → NamesPlace h.objects h.outer m
place_names h e lines body finish None fits = tt
place_names h e lines body finish (Some r) fits = cell_names h e lines body finish r (out-Value (value_on h.outer r.from)) fits

pub names_of : (h : Here) (e : Entry) (k : Kind) → Needs h e k → NamesOf h.objects h.outer e.line k
names_of h e (Const t literal out) needs = tt
names_of h e (Apply op inputs outputs) needs = tt
names_of h e (Shows name t w) needs = tt
names_of h e (Shared op inputs outputs) needs = needs.names
names_of h e (Obtain name size item out) needs = tt
names_of h e (Read name out) needs = tt
names_of h e (Write name w) needs = tt
names_of h e (Call name inputs outputs) needs = tt
names_of h e (Loop count stop i lines body) needs = tt
names_of h e (Case w lines arms) needs = tt
names_of h e (Sequence parts) needs = tt
names_of h e (InPlace lines body finish) needs = place_names h e lines body finish (reference_in (e.line + 1) lines) needs
