-- Where a node stands, and what its firing does by its plan.
use Rattle.std.proofs.Common.{◌≡◌, ℕ, zero, suc, Bool, true, false, ◌+◌, List, [], ◌∷◌, map, refl, sym, ap, subst, ◌∙◌}
use Rattle.std.specs.Prelude.{◌==◌, ◌&&◌, not, Option, Some, None, slice_get, if◌then◌else◌}
use Rattle.std.specs.Option.{option_map, option_and_then, option_map_or}
use Rattle.g_values.specs.declared.value.Value.{Value}
use Rattle.g_values.specs.declared.primitive.Primitive.{Primitive}
use Rattle.g_prims_definitions.specs.Conditions.{HasRow}
use Rattle.g_diagram.specs.declared.node.Tunnel.{Tunnel}
use Rattle.g_diagram.specs.Lines.{Wire, Entry, InPlace}
use Rattle.g_diagram_table.specs.declared.entry.Entry.{Entry as Coded}
use Rattle.g_diagram_table.specs.Seen.{seen}
use Rattle.g_border.specs.Readers.{Reader, value_on}
use Rattle.g_border.specs.Lines.{reference_in}
use Rattle.g_frames.specs.declared.firing.Firing.{Firing}
use Rattle.g_frames.specs.declared.state.Frame.{Frame}
use Rattle.g_frames.specs.declared.state.Progress.{Progress}
use Rattle.g_frames.specs.declared.state.Progress.TheVariants as progress
use Rattle.g_frames.specs.Program.{FlatVi, Program, vi_at}
use Rattle.g_frames.specs.State.{FireState, is_done, nodes_in}
use Rattle.g_frames.specs.Effects as effects
use Rattle.g_frames.specs.Effects.{guard}
use Rattle.g_frames.specs.Fire.{here, has_inputs, effect, node_effect, node_on, effect_in, effect_with}
use Rattle.g_vi_tables.specs.declared.table.ViTable.{ViTable}
use Rattle.g_vi_tables.specs.Places.{node_place}
use Rattle.g_vi_tables.specs.Tables.{IsViTable}
use Rattle.g_program.specs.Tables.{AreTables, IsTableOf}
use Rattle.g_effects.specs.declared.plan.Plan.{Plan}
use Rattle.g_effects.specs.Requests.{planned}
use Rattle.g_effects.specs.Kinds.{kind_plan}
use Rattle.g_effects.specs.Needs.{Needs, FitsPrimitive, FitsPlace}
use Rattle.g_effects.specs.Laws.{NeedsFit, PlanFits}
use Rattle.g_states.specs.States.{progress_in, progress_at}
use Rattle.g_needs.specs.Bodies.{PlaceNeeds}
use Rattle.g_needs.specs.Firings.{NodeNeeds, HasNeeds}
use Rattle.g_here.specs.declared.here.Here.{Here}
use Rattle.g_here.specs.Here.{IsHere}
use Rattle.g_firing.specs.Names.{NamesOf}
use Rattle.g_firing.specs.Plans.{PlansWith}
use Rattle.g_firing.proofs.PlanLemmas.{plan_is, names_of}

-- ---- nodes by their places

abbrev both : Option Entry → Option Progress → Option (Entry × Progress)
both m n = option_and_then (λ e. option_map (λ q. (e, q)) n) m

no_progress : (m : Option Entry) → both m None ≡ None
no_progress None = refl
no_progress (Some e) = refl

abbrev at_place : List Entry → List Progress → Option ℕ → Option (Entry × Progress)
at_place es ps m = option_and_then (λ k. both (slice_get es k) (slice_get ps k)) m

nothing_at : (es : List Entry) (m : Option ℕ) → at_place es [] m ≡ None
nothing_at es None = refl
nothing_at es (Some k) = no_progress (slice_get es k)

later : (e : Entry) (es : List Entry) (q : Progress) (ps : List Progress) (m : Option ℕ) → at_place (e ∷ es) (q ∷ ps) (option_map suc m) ≡ at_place es ps m
later e es q ps None = refl
later e es q ps (Some k) = refl

beside : (here : Bool) (e : Entry) (es : List Entry) (q : Progress) (ps : List Progress) (m : Option ℕ) (n : Option (Entry × Progress)) → at_place es ps m ≡ n →
    at_place (e ∷ es) (q ∷ ps) (if here then Some 0 else option_map suc m) ≡ (if here then Some (e, q) else n)
beside true e es q ps m n is = refl
beside false e es q ps m n is = later e es q ps m ∙ is

placed_on : (l : ℕ) (es : List Entry) (ps : List Progress) → at_place es ps (node_place l es) ≡ node_on l es ps
placed_on l [] ps = refl
placed_on l (e ∷ es) [] = nothing_at (e ∷ es) (node_place l (e ∷ es))
placed_on l (e ∷ es) (q ∷ ps) = beside (e.line == l) e es q ps (node_place l es) (node_on l es ps) (placed_on l es ps)

pub no_place : (l : ℕ) (es : List Entry) (ps : List Progress) → None ≡ node_place l es → None ≡ node_on l es ps
no_place l es ps is = ap (at_place es ps) is ∙ placed_on l es ps

pub no_entry : (l : ℕ) (es : List Entry) (ps : List Progress) (k : ℕ) → Some k ≡ node_place l es → slice_get es k ≡ None → None ≡ node_on l es ps
no_entry l es ps k is none = sym (ap (λ m. both m (slice_get ps k)) none) ∙ (ap (at_place es ps) is ∙ placed_on l es ps)

pub no_node : (l : ℕ) (es : List Entry) (ps : List Progress) (k : ℕ) → Some k ≡ node_place l es → slice_get ps k ≡ None → None ≡ node_on l es ps
no_node l es ps k is none = sym (ap (both (slice_get es k)) none ∙ no_progress (slice_get es k)) ∙ (ap (at_place es ps) is ∙ placed_on l es ps)

pub node_is : (l : ℕ) (es : List Entry) (ps : List Progress) (k : ℕ) (e : Entry) (q : Progress) → Some k ≡ node_place l es → slice_get es k ≡ Some e → slice_get ps k ≡ Some q →
    Some (e, q) ≡ node_on l es ps
node_is l es ps k e q is entry node =
    sym (ap (λ m. both m (slice_get ps k)) entry ∙ ap (both (Some e)) node) ∙ (ap (at_place es ps) is ∙ placed_on l es ps)

-- ---- nodes that are ready

and_false : (b : Bool) → b && false ≡ false
and_false true = refl
and_false false = refl

pub done_none : (h : effects.Here) (choice : Option ℕ) (e : Entry) (q : Progress) → is_done q ≡ true → None ≡ node_effect h choice e q
done_none h choice e q done = sym (ap (λ b. guard (not b && has_inputs h.outer e) (effect h e choice e.kind q)) done)

pub waits_none : (h : effects.Here) (outer : Reader) (choice : Option ℕ) (e : Entry) (q : Progress) → outer ≡ h.outer → has_inputs outer e ≡ false → None ≡ node_effect h choice e q
waits_none h outer choice e q same waits =
    sym (ap (λ b. guard (not (is_done q) && b) (effect h e choice e.kind q)) (ap (λ r. has_inputs r e) (sym same) ∙ waits)
    ∙ ap (λ b. guard b (effect h e choice e.kind q)) (and_false (not (is_done q))))

pub ready_is : (h : effects.Here) (outer : Reader) (choice : Option ℕ) (e : Entry) (q : Progress) → outer ≡ h.outer → is_done q ≡ false → has_inputs outer e ≡ true →
    node_effect h choice e q ≡ effect h e choice e.kind q
ready_is h outer choice e q same going has =
    ap (λ b. guard (not b && has_inputs h.outer e) (effect h e choice e.kind q)) going
    ∙ ap (λ b. guard b (effect h e choice e.kind q)) (ap (λ r. has_inputs r e) (sym same) ∙ has)

-- in one state, whatever program's the tables are
pub planned_here : (c : Here) (g h : effects.Here) (outer : Reader) (choice : Option ℕ) (e : Entry) (q : Progress) (m : Option Plan) → IsHere c g → IsHere c h → NodeNeeds g e →
    outer ≡ g.outer → outer ≡ h.outer → is_done q ≡ false → has_inputs outer e ≡ true → m ≡ kind_plan h e choice e.kind q →
    option_and_then (planned h e q) m ≡ node_effect h choice e q
planned_here c g h outer choice e q m at_g at_h needs same_g same_h going has is =
    ap (option_and_then (planned h e q)) is
    ∙ (plan_is h e choice e.kind q
    (subst (λ r. NamesOf h.objects r e.line e.kind) (sym same_g ∙ same_h)
    (subst (λ os. NamesOf os g.outer e.line e.kind) (at_g.objects_are ∙ sym at_h.objects_are) (names_of g e e.kind needs.kind)))
    ∙ sym (ready_is h outer choice e q same_h going has))

-- ---- the node of a firing

pub no_frame : (p : Program) (room : Bool) (s : FireState) (x : Firing) → slice_get s.frames x.frame ≡ None → effect_with p room s x ≡ None
no_frame p room s x none = ap (option_and_then (λ f. option_and_then (effect_in p room s x f) (vi_at p f.vi))) none

in_frame : (p : Program) (room : Bool) (s : FireState) (x : Firing) (f : Frame) → slice_get s.frames x.frame ≡ Some f →
    effect_with p room s x ≡ option_and_then (effect_in p room s x f) (vi_at p f.vi)
in_frame p room s x f is = ap (option_and_then (λ f. option_and_then (effect_in p room s x f) (vi_at p f.vi))) is

no_table : (m : Option FlatVi) → AreTables m None → m ≡ None
no_table None are = refl
no_table (Some vi) are = absurd are

pub no_vi : (p : Program) (room : Bool) (s : FireState) (x : Firing) (f : Frame) → slice_get s.frames x.frame ≡ Some f → AreTables (vi_at p f.vi) None → effect_with p room s x ≡ None
no_vi p room s x f is are = in_frame p room s x f is ∙ ap (option_and_then (effect_in p room s x f)) (no_table (vi_at p f.vi) are)

pub table_vi : (m : Option FlatVi) (t : ViTable) → AreTables m (Some t) → (vi : FlatVi) × ((m ≡ Some vi) × IsViTable vi t)
table_vi None t are = absurd are
table_vi (Some vi) t are = (vi, (refl, are))

pub stands_in : (p : Program) (c : Here) (vi : FlatVi) → IsTableOf p c.tables.now → vi_at p c.frame.now.vi ≡ Some vi → IsViTable vi c.table.now →
    IsHere c (here p c.has_room c.state.now c.frame.now vi)
stands_in p c vi tables is table = record {
  tables_are = tables;
  frames_are = refl;
  objects_are = refl;
  kept_are = refl;
  room_is = refl;
  frame_is = refl;
  vi_is = is;
  table_is = table;
  outer_is = refl;
}

pub needs_here : (p : Program) (c : Here) (frame line : ℕ) (e : Entry) (q : Progress) → IsTableOf p c.tables.now → HasNeeds p c.state.now frame line →
    slice_get c.state.now.frames frame ≡ Some c.frame.now → AreTables (vi_at p c.frame.now.vi) (Some c.table.now) →
    ((vi : FlatVi) → IsViTable vi c.table.now → Some (e, q) ≡ node_on line (nodes_in vi c.frame.now.diagram) c.frame.now.nodes) →
    (h : effects.Here) × (IsHere c h × (has_inputs h.outer e ≡ true → NodeNeeds h e))
needs_here p c frame line e q tables needs frame_is are node_is =
    let t = table_vi (vi_at p c.frame.now.vi) c.table.now are in (
      here p c.has_room c.state.now c.frame.now t.0,
      (stands_in p c t.0 tables t.1.0 t.1.1, needs c.has_room c.frame.now t.0 e q frame_is t.1.0 (sym (node_is t.0 t.1.1))),
    )

in_vi : (p : Program) (room : Bool) (s : FireState) (x : Firing) (f : Frame) (vi : FlatVi) → slice_get s.frames x.frame ≡ Some f → vi_at p f.vi ≡ Some vi →
    effect_with p room s x ≡ effect_in p room s x f vi
in_vi p room s x f vi frame_is vi_is = in_frame p room s x f frame_is ∙ ap (option_and_then (effect_in p room s x f)) vi_is

pub effect_at : (p : Program) (room : Bool) (s : FireState) (x : Firing) (f : Frame) (vi : FlatVi) (e : Entry) (q : Progress) → slice_get s.frames x.frame ≡ Some f →
    vi_at p f.vi ≡ Some vi → node_on x.node (nodes_in vi f.diagram) f.nodes ≡ Some (e, q) → effect_with p room s x ≡ node_effect (here p room s f vi) x.choice e q
effect_at p room s x f vi e q frame_is vi_is node_is =
    in_vi p room s x f vi frame_is vi_is ∙ ap (option_and_then (λ n. node_effect (here p room s f vi) x.choice n.0 n.1)) node_is

pub progress_is : (p : Program) (fs : List Frame) (x : Firing) (f : Frame) (vi : FlatVi) (e : Entry) (q : Progress) → slice_get fs x.frame ≡ Some f →
    vi_at p f.vi ≡ Some vi → node_on x.node (nodes_in vi f.diagram) f.nodes ≡ Some (e, q) → progress_at p fs x ≡ q
progress_is p fs x f vi e q frame_is vi_is node_is =
    ap (λ m. option_map_or (λ f. option_map_or (progress_in x.node f) (vi_at p f.vi) progress.Idle) m progress.Idle) frame_is
    ∙ (ap (λ m. option_map_or (progress_in x.node f) m progress.Idle) vi_is ∙ ap (λ m. option_map_or (λ n. n.1) m progress.Idle) node_is)

pub no_node_here : (p : Program) (room : Bool) (s : FireState) (x : Firing) (f : Frame) (t : ViTable) → slice_get s.frames x.frame ≡ Some f →
    AreTables (vi_at p f.vi) (Some t) → ((vi : FlatVi) → IsViTable vi t → None ≡ node_on x.node (nodes_in vi f.diagram) f.nodes) → effect_with p room s x ≡ None
no_node_here p room s x f t frame_is are none =
    let v = table_vi (vi_at p f.vi) t are in
    in_vi p room s x f v.0 frame_is v.1.0 ∙ ap (option_and_then (λ n. node_effect (here p room s f v.0) x.choice n.0 n.1)) (sym (none v.0 v.1.1))

pub no_plan_here : (p : Program) (c : Here) (x : Firing) (e : Entry) (q : Progress) → IsTableOf p c.tables.now →
    slice_get c.state.now.frames x.frame ≡ Some c.frame.now → AreTables (vi_at p c.frame.now.vi) (Some c.table.now) →
    ((vi : FlatVi) → IsViTable vi c.table.now → Some (e, q) ≡ node_on x.node (nodes_in vi c.frame.now.diagram) c.frame.now.nodes) →
    ((h : effects.Here) → IsHere c h → None ≡ node_effect h x.choice e q) → effect_with p c.has_room c.state.now x ≡ None
no_plan_here p c x e q tables frame_is are node_is none =
    let t = table_vi (vi_at p c.frame.now.vi) c.table.now are in
    effect_at p c.has_room c.state.now x c.frame.now t.0 e q frame_is t.1.0 (sym (node_is t.0 t.1.1))
    ∙ sym (none (here p c.has_room c.state.now c.frame.now t.0) (stands_in p c t.0 tables t.1.0 t.1.1))

pub plan_here : (p : Program) (c : Here) (x : Firing) (e : Entry) (q : Progress) (plan : Plan) → IsTableOf p c.tables.now →
    slice_get c.state.now.frames x.frame ≡ Some c.frame.now → AreTables (vi_at p c.frame.now.vi) (Some c.table.now) →
    ((vi : FlatVi) → IsViTable vi c.table.now → Some (e, q) ≡ node_on x.node (nodes_in vi c.frame.now.diagram) c.frame.now.nodes) →
    ((h : effects.Here) → IsHere c h → planned h e q plan ≡ node_effect h x.choice e q) → PlansWith p c.has_room c.state.now x e plan
plan_here p c x e q plan tables frame_is are node_is is =
    let t = table_vi (vi_at p c.frame.now.vi) c.table.now are in
    record {
      frame = c.frame.now;
      vi = t.0;
      frame_is = frame_is;
      vi_is = t.1.0;
      effect_is =
          effect_at p c.has_room c.state.now x c.frame.now t.0 e q frame_is t.1.0 (sym (node_is t.0 t.1.1))
          ∙ (sym (is (here p c.has_room c.state.now c.frame.now t.0) (stands_in p c t.0 tables t.1.0 t.1.1))
          ∙ ap (λ z. planned (here p c.has_room c.state.now c.frame.now t.0) e z plan)
          (sym (progress_is p c.state.now.frames x c.frame.now t.0 e q frame_is t.1.0 (sym (node_is t.0 t.1.1)))));
    }

-- ---- what the code has

get_seen : (es : List Coded) (k : ℕ) → slice_get (map seen es) k ≡ option_map seen (slice_get es k)
get_seen [] k = refl
get_seen (e ∷ es) zero = refl
get_seen (e ∷ es) (suc k) = get_seen es k

pub entries_get : (coded : List Coded) (es : List Entry) (k : ℕ) (m : Option Coded) → map seen coded ≡ es → slice_get coded k ≡ m → slice_get es k ≡ option_map seen m
entries_get coded es k m are is = sym (ap (λ z. slice_get z k) are) ∙ (get_seen coded k ∙ ap (option_map seen) is)

pub place_needs : (h : effects.Here) (e : Entry) (lines : List Tunnel) (body finish : ℕ) → e.kind ≡ InPlace lines body finish → NodeNeeds h e →
    FitsPlace h e lines body finish (reference_in (e.line + 1) lines) × PlaceNeeds h e lines body finish
place_needs h e lines body finish is needs = (subst (λ k. Needs h e k) is needs.kind, needs.body lines body finish is)

pub row_is : (op : Primitive) (r s : Reader) (inputs : List Wire) (vs ws : List Value) → FitsPrimitive op (map (value_on s) inputs) → r ≡ s → ws ≡ map (value_on r) inputs → vs ≡ ws →
    HasRow op vs
row_is op r s inputs vs ws fits same is vs_are =
    let f : FitsPrimitive op (map (value_on s) inputs) = fits in
    subst (λ z. HasRow op z) (sym (vs_are ∙ (is ∙ ap (λ r. map (value_on r) inputs) same))) f.row

pub fits_here : (c : Here) (h : effects.Here) (e : Entry) (choice : Option ℕ) (q : Progress) (m : Option Plan) → NeedsFit → IsHere c h → NodeNeeds h e →
    m ≡ kind_plan h e choice e.kind q → PlanFits c.state.now.objects m
fits_here c h e choice q m law at needs is =
    subst (λ os. PlanFits os m) at.objects_are (subst (λ z. PlanFits h.objects z) (sym is) (law h e choice e.kind q needs.kind))
