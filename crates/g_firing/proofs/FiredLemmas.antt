-- Plans that are done, or can be.
use Rattle.std.proofs.Common.{◌≡◌, Bool, false, List, [], refl, sym, ap, ◌∙◌}
use Rattle.std.specs.Prelude.{nat_lt, Option, Some, None, is_some, slice_get}
use Rattle.std.specs.Option.{option_map, option_and_then, option_map_or}
use Rattle.g_diagram.specs.Lines.{Entry}
use Rattle.g_frames.specs.declared.firing.Firing.{Firing}
use Rattle.g_frames.specs.declared.state.Frame.{Frame}
use Rattle.g_frames.specs.declared.state.Progress.{Progress}
use Rattle.g_frames.specs.Contents as content
use Rattle.g_frames.specs.Contents.{Content, object_step}
use Rattle.g_frames.specs.Program.{FlatVi, Program, vi_at}
use Rattle.g_frames.specs.State.{FireState}
use Rattle.g_frames.specs.Effects as effects
use Rattle.g_frames.specs.Fire.{here, effect_with, effect_of, can_fire, applied, fire}
use Rattle.g_objects.specs.Operations.{step}
use Rattle.g_effects.specs.declared.plan.Plan.{Plan}
use Rattle.g_effects.specs.declared.plan.Placement.{Placement}
use Rattle.g_effects.specs.declared.plan.Request.{Request}
use Rattle.g_effects.specs.Requests.{planned, requested, placed}
use Rattle.g_states.specs.States.{progress_at}
use Rattle.g_plans.specs.Plans.{CarriesOut}
use Rattle.g_firing.specs.Plans.{PlansWith}

carried_by : (p : Program) (s : FireState) (x : Firing) (done : Bool) (new : FireState) (m : Option effects.Effect) → effect_of p s x ≡ m → CarriesOut p s x m done new →
    (done ≡ can_fire p s x) × (new ≡ fire p s x)
carried_by p s x done new None is out = (out.0 ∙ sym (ap is_some is), out.1 ∙ sym (ap (λ m. option_map_or (applied p s x) m s) is))
carried_by p s x done new (Some e) is out = (out.0 ∙ sym (ap is_some is), out.1 ∙ sym (ap (λ m. option_map_or (applied p s x) m s) is))

pub carried : (p : Program) (room : Bool) (s new : FireState) (x : Firing) (e : Entry) (q : Plan) (done : Bool) → room ≡ nat_lt s.begun s.limit → PlansWith p room s x e q →
    ((f : Frame) (vi : FlatVi) → slice_get s.frames x.frame ≡ Some f → vi_at p f.vi ≡ Some vi →
    CarriesOut p s x (planned (here p room s f vi) e (progress_at p s.frames x) q) done new) →
    (done ≡ can_fire p s x) × (new ≡ fire p s x)
carried p room s new x e q done room_is plan out =
    let w : PlansWith p room s x e q = plan in
    carried_by p s x done new (planned (here p room s w.frame w.vi) e (progress_at p s.frames x) q)
    (ap (λ r. effect_with p r s x) (sym room_is) ∙ w.effect_is) (out w.frame w.vi w.frame_is w.vi_is)

pub not_carried : (p : Program) (room : Bool) (s : FireState) (x : Firing) → room ≡ nat_lt s.begun s.limit → effect_with p room s x ≡ None →
    (false ≡ can_fire p s x) × (s ≡ fire p s x)
not_carried p room s x room_is none = carried_by p s x false s None (ap (λ r. effect_with p r s x) (sym room_is) ∙ none) (refl, refl)

some_of : {A B : Type 0} (f : A → B) (m : Option A) → is_some m ≡ is_some (option_map f m)
some_of f None = refl
some_of f (Some x) = refl

pub request_can : (h : effects.Here) (e : Entry) (q : Progress) (r : Request) (os : List Content) (m : Option Content) → h.objects ≡ os → slice_get os r.object ≡ m →
    is_some (option_and_then (λ c. step c r.operation r.choice) m) ≡ is_some (requested h e q r)
request_can h e q r os m same is =
    ap (λ m. is_some (option_and_then (λ c. step c r.operation r.choice) m)) (sym (ap (λ os. slice_get os r.object) same ∙ is))
    ∙ some_of _ (option_and_then (λ c. step c r.operation r.choice) (slice_get h.objects r.object))

pub place_can : (h : effects.Here) (q : Progress) (r : Placement) (os : List Content) (m : Option Content) → h.objects ≡ os → slice_get os r.object ≡ m →
    is_some (option_and_then (λ c. object_step c (content.InPlace r.serial []) 0 (λ v vs. (r.value, r.outputs))) m) ≡ is_some (placed h q r)
place_can h q r os m same is =
    ap (λ m. is_some (option_and_then (λ c. object_step c (content.InPlace r.serial []) 0 (λ v vs. (r.value, r.outputs))) m)) (sym (ap (λ os. slice_get os r.object) same ∙ is))
    ∙ some_of _ (option_and_then (λ c. object_step c (content.InPlace r.serial []) 0 (λ v vs. (r.value, r.outputs))) (slice_get h.objects r.object))

pub plan_can : (p : Program) (room : Bool) (s : FireState) (x : Firing) (e : Entry) (q : Plan) (can : Bool) → PlansWith p room s x e q →
    ((h : effects.Here) (e : Entry) (g : Progress) → h.objects ≡ s.objects → can ≡ is_some (planned h e g q)) → can ≡ is_some (effect_with p room s x)
plan_can p room s x e q can plan is =
    let w : PlansWith p room s x e q = plan in
    is (here p room s w.frame w.vi) e (progress_at p s.frames x) refl ∙ sym (ap is_some w.effect_is)
