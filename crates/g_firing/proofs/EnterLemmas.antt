-- Firings with a clone.
use Rattle.std.proofs.Common.{◌≡◌, ℕ, Bool, true, false, List, refl, sym, ap, subst, ◌∙◌}
use Rattle.std.specs.Prelude.{nat_lt, Option, Some, None, is_some, slice_get}
use Rattle.std.specs.Option.{option_map, option_and_then, option_map_or}
use Rattle.g_diagram.specs.declared.hierarchy.Clones.{Clones}
use Rattle.g_diagram.specs.declared.hierarchy.Clones.TheVariants.{NonReentrant, Preallocated, Pool}
use Rattle.g_diagram.specs.Lines.{Wire, Entry, Kind, Const, Apply, Shows, Shared, Obtain, Read, Write, Call, Loop, Case, Sequence, InPlace}
use Rattle.g_border.specs.Readers.{Reader}
use Rattle.g_frames.specs.declared.firing.Firing.{Firing}
use Rattle.g_frames.specs.declared.state.Frame.{Frame}
use Rattle.g_frames.specs.declared.state.Progress.{Progress}
use Rattle.g_frames.specs.declared.state.Progress.TheVariants as progress
use Rattle.g_frames.specs.Program.{FlatVi, Program, vi_at, numbered}
use Rattle.g_frames.specs.State.{FireState, is_done, nodes_in}
use Rattle.g_frames.specs.Effects as effects
use Rattle.g_frames.specs.Effects.{guard}
use Rattle.g_frames.specs.Fire.{here, has_inputs, effect, node_effect, node_on, effect_with, effect_of, can_fire, applied, fire}
use Rattle.g_frames.specs.Run.{firing}
use Rattle.g_program.specs.Tables.{AreTables, IsTableOf}
use Rattle.g_vi_tables.specs.Tables.{IsViTable}
use Rattle.g_effects.specs.declared.plan.Plan.TheVariants as plan
use Rattle.g_effects.specs.Requests.{call_plan, planned, requested}
use Rattle.g_effects.specs.Kinds.{named_plan}
use Rattle.g_states.specs.States.{progress_at}
use Rattle.g_here.specs.declared.here.Here.{Here}
use Rattle.g_here.specs.Here.{IsHere}
use Rattle.g_plans.specs.Plans.{EntersAny}
use Rattle.g_firing.specs.Enters.{enter, pool_of, call_enters, entered, EntersWith}
use Rattle.g_firing.specs.Firings.{FiresNode}
use Rattle.g_firing.proofs.PlanLemmas.{plan_is}
use Rattle.g_firing.proofs.StandingLemmas.{ready_is, table_vi, stands_in, effect_at, progress_is}

abbrev tried : effects.Here → Entry → Progress → (clone : ℕ) → Option ℕ → Option effects.Effect
tried h e q k m = option_and_then (λ o. requested h e q (enter o k)) m

by_clones : (h : effects.Here) (e : Entry) (inputs : List Wire) (k v : ℕ) (called : FlatVi) (clones : Clones) →
    tried h e progress.Idle k (pool_of h v clones) ≡ option_and_then (planned h e progress.Idle) (option_map plan.Request (call_plan h e.line inputs (Some k) progress.Idle v called.panel clones))
by_clones h e inputs k v called NonReentrant = refl
by_clones h e inputs k v called Preallocated = refl
by_clones h e inputs k v called (Pool n) = refl

by_vi : (h : effects.Here) (e : Entry) (inputs : List Wire) (k v : ℕ) (m : Option FlatVi) →
    tried h e progress.Idle k (option_and_then (λ called. pool_of h v called.clones) m)
    ≡ option_and_then (planned h e progress.Idle) (option_and_then (λ called. option_map plan.Request (call_plan h e.line inputs (Some k) progress.Idle v called.panel called.clones)) m)
by_vi h e inputs k v None = refl
by_vi h e inputs k v (Some called) = by_clones h e inputs k v called called.clones

no_vi_plan : (h : effects.Here) (e : Entry) (q : Progress) (m : Option FlatVi) → None ≡ option_and_then (planned h e q) (option_and_then (λ (called : FlatVi). None) m)
no_vi_plan h e q None = refl
no_vi_plan h e q (Some called) = refl

by_progress : (h : effects.Here) (e : Entry) (name : List ℕ) (inputs : List Wire) (k : ℕ) (q : Progress) →
    tried h e q k (call_enters h (numbered h.program.vis name) q) ≡ option_and_then (planned h e q) (named_plan h e name inputs (Some k) q)
by_progress h e name inputs k progress.Idle = by_vi h e inputs k (numbered h.program.vis name) (vi_at h.program (numbered h.program.vis name))
by_progress h e name inputs k progress.Done = no_vi_plan h e progress.Done (vi_at h.program (numbered h.program.vis name))
by_progress h e name inputs k (progress.Loop vs ks ended) = no_vi_plan h e (progress.Loop vs ks ended) (vi_at h.program (numbered h.program.vis name))
by_progress h e name inputs k (progress.Case n ended) = no_vi_plan h e (progress.Case n ended) (vi_at h.program (numbered h.program.vis name))
by_progress h e name inputs k (progress.Sequence ks ended) = no_vi_plan h e (progress.Sequence ks ended) (vi_at h.program (numbered h.program.vis name))
by_progress h e name inputs k (progress.Call clone stage) = no_vi_plan h e (progress.Call clone stage) (vi_at h.program (numbered h.program.vis name))

entered_is : (h : effects.Here) (e : Entry) (k : ℕ) (kind : Kind) (q : Progress) → tried h e q k (entered h kind q) ≡ effect h e (Some k) kind q
entered_is h e k (Const t literal out) q = refl
entered_is h e k (Apply op inputs outputs) q = refl
entered_is h e k (Shows name t w) q = refl
entered_is h e k (Shared op inputs outputs) q = refl
entered_is h e k (Obtain name size item out) q = refl
entered_is h e k (Read name out) q = refl
entered_is h e k (Write name w) q = refl
entered_is h e k (Call name inputs outputs) q = by_progress h e name inputs k q ∙ plan_is h e (Some k) (Call name inputs outputs) q tt
entered_is h e k (Loop count stop i lines body) q = refl
entered_is h e k (Case w lines arms) q = refl
entered_is h e k (Sequence parts) q = refl
entered_is h e k (InPlace lines body finish) q = refl

pub enters_here : (h : effects.Here) (outer : Reader) (e : Entry) (q : Progress) (k : ℕ) (m : Option ℕ) → outer ≡ h.outer → is_done q ≡ false → has_inputs outer e ≡ true →
    m ≡ entered h e.kind q → option_and_then (λ o. requested h e q (enter o k)) m ≡ node_effect h (Some k) e q
enters_here h outer e q k m same going has is =
    ap (tried h e q k) is ∙ (entered_is h e k e.kind q ∙ sym (ready_is h outer (Some k) e q same going has))

pub enters_plan : (p : Program) (c : Here) (x : Firing) (e : Entry) (q : Progress) (o : ℕ) → IsTableOf p c.tables.now →
    slice_get c.state.now.frames x.frame ≡ Some c.frame.now → AreTables (vi_at p c.frame.now.vi) (Some c.table.now) →
    ((vi : FlatVi) → IsViTable vi c.table.now → Some (e, q) ≡ node_on x.node (nodes_in vi c.frame.now.diagram) c.frame.now.nodes) →
    ((h : effects.Here) → IsHere c h → (k : ℕ) → requested h e q (enter o k) ≡ node_effect h (Some k) e q) → EntersWith p c.has_room c.state.now x e o
enters_plan p c x e q o tables frame_is are node_is is =
    let t = table_vi (vi_at p c.frame.now.vi) c.table.now are in
    record {
      frame = c.frame.now;
      vi = t.0;
      effect_is = λ k.
          effect_at p c.has_room c.state.now (firing x.frame x.node (Some k)) c.frame.now t.0 e q frame_is t.1.0 (sym (node_is t.0 t.1.1))
          ∙ (sym (is (here p c.has_room c.state.now c.frame.now t.0) (stands_in p c t.0 tables t.1.0 t.1.1) k)
          ∙ ap (λ z. requested (here p c.has_room c.state.now c.frame.now t.0) e z (enter o k))
          (sym (progress_is p c.state.now.frames x c.frame.now t.0 e q frame_is t.1.0 (sym (node_is t.0 t.1.1)))));
    }

-- ---- what the node did

cannot : (p : Program) (s : FireState) (x : Firing) → x.choice ≡ None → can_fire p s x ≡ false → ((k : ℕ) → can_fire p s (firing x.frame x.node (Some k)) ≡ false) →
    (choice : Option ℕ) → can_fire p s (firing x.frame x.node choice) ≡ false
cannot p s x plain is none None = ap (λ c. can_fire p s (firing x.frame x.node c)) (sym plain) ∙ is
cannot p s x plain is none (Some k) = none k

pub no_clone : (p : Program) (room : Bool) (s : FireState) (x : Firing) → room ≡ nat_lt s.begun s.limit → x.choice ≡ None → can_fire p s x ≡ false →
    ((k : ℕ) → effect_with p room s (firing x.frame x.node (Some k)) ≡ None) → FiresNode p s x.frame x.node None s
no_clone p room s x room_is plain is none =
    (cannot p s x plain is (λ k. ap is_some (ap (λ r. effect_with p r s (firing x.frame x.node (Some k))) (sym room_is) ∙ none k)), refl)

pub no_entry : (p : Program) (room : Bool) (s new : FireState) (x : Firing) (e : Entry) (o : ℕ) → room ≡ nat_lt s.begun s.limit → x.choice ≡ None → can_fire p s x ≡ false →
    EntersWith p room s x e o →
    ((f : Frame) (vi : FlatVi) → EntersAny p s x (λ k. requested (here p room s f vi) e (progress_at p s.frames x) (enter o k)) None new) → FiresNode p s x.frame x.node None new
no_entry p room s new x e o room_is plain is enters out =
    let w : EntersWith p room s x e o = enters in
    let any = out w.frame w.vi in
    (cannot p s x plain is (λ k. ap is_some (ap (λ r. effect_with p r s (firing x.frame x.node (Some k))) (sym room_is) ∙ (w.effect_is k ∙ any.0 k))), any.1)

pub clone_entered : (p : Program) (room : Bool) (s new : FireState) (x : Firing) (e : Entry) (o k : ℕ) → room ≡ nat_lt s.begun s.limit → EntersWith p room s x e o →
    ((f : Frame) (vi : FlatVi) → EntersAny p s x (λ k. requested (here p room s f vi) e (progress_at p s.frames x) (enter o k)) (Some k) new) →
    FiresNode p s x.frame x.node (Some (firing x.frame x.node (Some k))) new
clone_entered p room s new x e o k room_is enters out =
    let w : EntersWith p room s x e o = enters in
    let any = out w.frame w.vi in
    let is = ap (λ r. effect_with p r s (firing x.frame x.node (Some k))) (sym room_is) ∙ (w.effect_is k ∙ any.1.0) in
    (refl, (refl, (ap is_some is, any.1.1 ∙ sym (ap (λ m. option_map_or (applied p s (firing x.frame x.node (Some k))) m s) is))))

stays_by : (f : effects.Effect → FireState) (s : FireState) (m : Option effects.Effect) → is_some m ≡ false → option_map_or f m s ≡ s
stays_by f s None is = refl
stays_by f s (Some e) is = absurd cc

pub unfired : (p : Program) (s mid new : FireState) (x : Firing) (b : Bool) (frame line : ℕ) (fired : Option Firing) → b ≡ can_fire p s x → b ≡ false → mid ≡ fire p s x →
    (can_fire p mid x ≡ false → FiresNode p mid frame line fired new) → FiresNode p s frame line fired new
unfired p s mid new x b frame line fired can is mid_is then =
    let stays = mid_is ∙ stays_by (applied p s x) s (effect_of p s x) (sym can ∙ is) in
    subst (λ z. FiresNode p z frame line fired new) stays (then (ap (λ z. can_fire p z x) stays ∙ (sym can ∙ is)))
