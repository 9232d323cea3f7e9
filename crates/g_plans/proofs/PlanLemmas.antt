-- Operations and the effects that follow them are those of plans.
use Rattle.std.proofs.Common.{◌≡◌, ℕ, Bool, List, [], length, true, false, refl, sym, ap, subst, ◌∙◌}
use Rattle.std.specs.Prelude.{Option, Some, None, slice_get}
use Rattle.std.specs.Option.{option_and_then}
use Rattle.g_values.specs.declared.value.Value.{Value}
use Rattle.g_shared.specs.declared.reply.Reply.{Reply}
use Rattle.g_shared.specs.declared.operations.PoolOp.TheVariants as pool
use Rattle.g_shared.specs.Outcome.{Outcome}
use Rattle.g_refs.specs.Cell.{value_for}
use Rattle.g_diagram.specs.Lines.{Entry}
use Rattle.g_frames.specs.declared.firing.Firing.{Firing}
use Rattle.g_frames.specs.declared.state.Frame.{Frame}
use Rattle.g_frames.specs.Contents as content
use Rattle.g_frames.specs.Contents.{Content, object_step}
use Rattle.g_frames.specs.Program.{FlatVi, Program}
use Rattle.g_frames.specs.State.{FireState}
use Rattle.g_frames.specs.Effects.{after_step, no_body}
use Rattle.g_frames.specs.Fire.{here, applied}
use Rattle.g_objects.specs.declared.operation.Operation.TheVariants as operation
use Rattle.g_objects.specs.Operations.{operation_of, TakesPlace, given_to}
use Rattle.g_effects.specs.declared.effect.Effect.{Effect}
use Rattle.g_effects.specs.declared.plan.Request.{Request}
use Rattle.g_effects.specs.declared.plan.Placement.{Placement}
use Rattle.g_effects.specs.declared.plan.Plan.{Plan}
use Rattle.g_effects.specs.declared.plan.Then.TheVariants as follow
use Rattle.g_effects.specs.Effects.{seen}
use Rattle.g_effects.specs.Laws.{FitsPlacement}
use Rattle.g_effects.specs.Requests.{after, after_place, requested, placed, planned, request}
use Rattle.g_states.specs.States.{progress_at, with_object, GivesAt, WaitsAt, PlacesAt}
use Rattle.g_plans.specs.Plans.{CarriesOut, EntersAny}

-- the state after an effect that changes no object
abbrev applied_to : Program → FireState → Firing → Effect → FireState
applied_to p s x e = applied p s x (seen (progress_at p s.frames x) (length s.frames) e)

-- of the object of a number, where it is known
read : (objects : List Content) (k : ℕ) (c : Content) (f : Content → Outcome Content) (r : Reply × Content) → slice_get objects k ≡ Some c → f c ≡ Some r →
    option_and_then f (slice_get objects k) ≡ Some r
read objects k c f r is gives = ap (option_and_then f) is ∙ gives

never : (m : Option Content) (f : Content → Outcome Content) → ((c : Content) → m ≡ Some c → f c ≡ None) → option_and_then f m ≡ None
never None f waits = refl
never (Some c) f waits = waits c refl

-- what an operation that was done changes, with the effect that follows
done_is : (p : Program) (s mid new : FireState) (x : Firing) (k : ℕ) (c changed : Content) (f : Content → Outcome Content) (reply : Reply) (effect : Reply → Effect) →
    slice_get s.objects k ≡ Some c → f c ≡ Some (reply, changed) → mid ≡ with_object s k changed → new ≡ applied_to p mid x (effect reply) →
    CarriesOut p s x (after_step (Some k) (λ r. seen (progress_at p s.frames x) (length s.frames) (effect r)) (option_and_then f (slice_get s.objects k))) true new
done_is p s mid new x k c changed f reply effect is gives mid_is new_is =
    subst (λ o. CarriesOut p s x (after_step (Some k) (λ r. seen (progress_at p s.frames x) (length s.frames) (effect r)) o) true new)
    (sym (read s.objects k c f (reply, changed) is gives))
    (refl, new_is ∙ ap (λ m. applied_to p m x (effect reply)) mid_is)

-- ---- requests

pub asked : (p : Program) (room : Bool) (f : Frame) (vi : FlatVi) (s mid new : FireState) (x : Firing) (e : Entry) (q : Request) (reply : Reply) →
    GivesAt (Some q.choice) s q.object q.operation reply mid → new ≡ applied_to p mid x (after (here p room s f vi) e q.follow reply) →
    CarriesOut p s x (requested (here p room s f vi) e (progress_at p s.frames x) q) true new
asked p room f vi s mid new x e q reply g is =
    done_is p s mid new x q.object g.before g.content (λ c. object_step c (operation_of q.operation) q.choice no_body) reply
    (λ r. after (here p room s f vi) e q.follow r) g.before_is g.gives g.new_is is

pub waited : (p : Program) (room : Bool) (f : Frame) (vi : FlatVi) (s new : FireState) (x : Firing) (e : Entry) (q : Request) →
    WaitsAt (Some q.choice) s q.object q.operation → new ≡ s → CarriesOut p s x (requested (here p room s f vi) e (progress_at p s.frames x) q) false new
waited p room f vi s new x e q waits is =
    subst (λ o. CarriesOut p s x (after_step (Some q.object) (λ r. seen (progress_at p s.frames x) (length s.frames) (after (here p room s f vi) e q.follow r)) o) false new)
    (sym (never (slice_get s.objects q.object) (λ c. object_step c (operation_of q.operation) q.choice no_body) waits))
    (refl, is)

-- ---- enters

pub entered : (p : Program) (room : Bool) (f : Frame) (vi : FlatVi) (s mid new : FireState) (x : Firing) (e : Entry) (k : ℕ) (reply : Reply) →
    GivesAt None s k (operation.OnPool pool.Enter) reply mid → new ≡ applied_to p mid x (after (here p room s f vi) e follow.CallEnters reply) →
    EntersAny p s x (λ clone. requested (here p room s f vi) e (progress_at p s.frames x) (request k (operation.OnPool pool.Enter) clone follow.CallEnters)) (Some reply.choice) new
entered p room f vi s mid new x e k reply g is = (
  record (seen (progress_at p s.frames x) (length s.frames) (after (here p room s f vi) e follow.CallEnters reply)) { changes = Some (k, g.content) },
  (
    ap (after_step (Some k) (λ r. seen (progress_at p s.frames x) (length s.frames) (after (here p room s f vi) e follow.CallEnters r)))
        (read s.objects k g.before (λ c. object_step c (content.OnPool pool.Enter) reply.choice no_body) (reply, g.content) g.before_is g.gives),
    is ∙ ap (λ m. applied_to p m x (after (here p room s f vi) e follow.CallEnters reply)) g.new_is,
  ),
)

pub none_entered : (p : Program) (room : Bool) (f : Frame) (vi : FlatVi) (s new : FireState) (x : Firing) (e : Entry) (k : ℕ) →
    WaitsAt None s k (operation.OnPool pool.Enter) → new ≡ s →
    EntersAny p s x (λ clone. requested (here p room s f vi) e (progress_at p s.frames x) (request k (operation.OnPool pool.Enter) clone follow.CallEnters)) None new
none_entered p room f vi s new x e k waits is = (
  λ clone. ap (after_step (Some k) (λ r. seen (progress_at p s.frames x) (length s.frames) (after (here p room s f vi) e follow.CallEnters r)))
      (never (slice_get s.objects k) (λ c. object_step c (content.OnPool pool.Enter) clone no_body) (λ c at. waits c at clone)),
  is,
)

-- ---- bodies in place

same_content : (a b : Content) (m : Option Content) → m ≡ Some a → m ≡ Some b → a ≡ b
same_content a b m e f = cc

given_of : (c : Content) (n : ℕ) (v : Value) → TakesPlace c v → (given : Value) × (given_to c n ≡ Some given)
given_of (content.Panel s) n v takes = absurd takes
given_of (content.Queue s) n v takes = absurd takes
given_of (content.Cell s) n v takes = (value_for s n, refl)
given_of (content.Pool s) n v takes = absurd takes

pub put : (p : Program) (room : Bool) (f : Frame) (vi : FlatVi) (s mid new : FireState) (x : Firing) (q : Placement) (reply : Reply) →
    FitsPlacement s.objects q → PlacesAt s q.object q.serial q.value q.outputs reply mid → new ≡ applied_to p mid x (after_place q reply) →
    CarriesOut p s x (placed (here p room s f vi) (progress_at p s.frames x) q) true new
put p room f vi s mid new x q reply fit g is =
    let takes : TakesPlace g.before q.value = subst (λ c. TakesPlace c q.value) (same_content fit.content g.before (slice_get s.objects q.object) fit.is g.before_is) fit.takes in
    let given : (given : Value) × (given_to g.before q.serial ≡ Some given) = given_of g.before q.serial q.value takes in
    done_is p s mid new x q.object g.before g.content (λ c. object_step c (content.InPlace q.serial []) 0 (λ v vs. (q.value, q.outputs))) reply
    (λ r. after_place q r) g.before_is (g.places given.0 [] (λ v vs. (q.value, q.outputs)) given.1 refl) g.new_is is

-- ---- plans

-- a plan of one form, for a node that is seen so
pub of_plan : (p : Program) (room : Bool) (f : Frame) (vi : FlatVi) (s new : FireState) (x : Firing) (e seen_e : Entry) (m n : Plan) (done : Bool) → m ≡ n → e ≡ seen_e →
    CarriesOut p s x (planned (here p room s f vi) seen_e (progress_at p s.frames x) n) done new → CarriesOut p s x (planned (here p room s f vi) e (progress_at p s.frames x) m) done new
of_plan p room f vi s new x e seen_e m n done is e_is does =
    subst (λ k. CarriesOut p s x (planned (here p room s f vi) e (progress_at p s.frames x) k) done new) (sym is)
    (subst (λ k. CarriesOut p s x (planned (here p room s f vi) k (progress_at p s.frames x) n) done new) (sym e_is) does)
