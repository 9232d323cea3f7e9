-- A firing keeps a state typed.
use Rattle.std.proofs.Common.{◌≡◌, ◌⊎◌, inl, inr, ⊎_elim, Bool, true, false, ℕ, zero, suc, ◌+◌, List, [], ◌∷◌, ◌++◌, map, length, Option, Some, None, arith, refl, ap, sym, ◌∙◌, subst}
use Rattle.std.specs.Prelude.{slice_get, slice_set, nat_lt, not}
use Rattle.std.specs.Option.{option_map, option_and_then, option_map_or, option_to_list}
use Rattle.g_types.specs.declared.ty.Ty.{Ty}
use Rattle.g_values.specs.declared.value.Value.{Value}
use Rattle.g_diagram.specs.Lines.{Entry, Kind, Const, Apply, Shows, Shared, Obtain, Read, Write, Call, Loop, Case, Sequence, InPlace}
use Rattle.g_frames.specs.declared.firing.Firing.{Firing}
use Rattle.g_frames.specs.declared.firing.FrameNode.{FrameNode}
use Rattle.g_frames.specs.declared.program.KeptPlace.{KeptPlace}
use Rattle.g_frames.specs.declared.state.Progress.{Progress}
use Rattle.g_frames.specs.declared.state.Frame.{Frame}
use Rattle.g_frames.specs.Contents.{Content}
use Rattle.g_frames.specs.Program.{FlatVi, Program, vi_at}
use Rattle.g_frames.specs.State.{FireState, Opening, is_done, nodes_in, reader_in, opened}
use Rattle.g_frames.specs.Effects.{Effect, guard, Here}
use Rattle.g_frames.specs.Fire.{effect, is_ready, has_inputs, node_effect, node_on, here, effect_in, effect_with, effect_of, fired_in, fired_frame, opened_frame, objects_after, registers_after, applied, fire}
use Rattle.g_frames.specs.Laws.{Continues}
use Rattle.g_frames.proofs.RunLemmas.{some_is, frames_stay}
use Rattle.g_typed_states.specs.Places.{Among, first, later}
use Rattle.g_typed_states.specs.Accepted.{AcceptsKind, HasInSpace, IsAccepted}
use Rattle.g_typed_states.specs.Typed.{shapes, IsTypedValue, AreTyped, AreTypedObjects, IsTypedProgress, IsTypedFrame, IsTypedState}
use Rattle.g_typed_states.proofs.Lists.{and_right, none_is, no_place, among_cases}
use Rattle.g_typed_states.proofs.Inputs.{TakesOf}
use Rattle.g_typed_states.proofs.Objects.{object_set, values_set, mapped_at, at_back}
use Rattle.g_typed_states.proofs.Frames.{Extends, frame_still, node_among, fired_frame_typed, IsFitOpening, opened_typed}
use Rattle.g_typed_states.proofs.Fits.{OpenedIn, IsFit, Fits, fires, Fires, accepts, in_space}
use Rattle.g_typed_states.proofs.Simple.{const_fit, apply_fit, shows_fit, local_fit, read_fit, obtain_fit, shared_fit}
use Rattle.g_typed_states.proofs.Structures.{loop_fit, case_fit, sequence_fit}
use Rattle.g_typed_states.proofs.Calls.{call_fit}
use Rattle.g_typed_states.proofs.PlaceEffects.{place_fit}

-- ---- all kinds of nodes

module _ (p : Program) (s : FireState) (f : Frame) (frame : IsTypedFrame p s.frames f) (e : Entry) (q : Progress) (fires_now : Fires p s f frame e q) (room : Bool) where
  abbrev h : Here
  h = here p room s f frame.vi

  kind_fit : (choice : Option ℕ) (kind : Kind) → e.kind ≡ kind → AcceptsKind p frame.vi e kind → HasInSpace p f.space frame.vi.types e kind → TakesOf (reader_in frame.vi f) e kind
      → IsTypedProgress p s.frames f.vi frame.vi e kind q → Fits p s f frame.vi e q (effect h e choice kind q)
  kind_fit choice (Const t literal out) is accepts space taken moves = const_fit p s f frame e q fires_now room t literal choice accepts
  kind_fit choice (Apply op inputs outputs) is accepts space taken moves = apply_fit p s f frame e q fires_now room op inputs outputs choice accepts taken
  kind_fit choice (Shows name t w) is accepts space taken moves = shows_fit p s f frame e q fires_now room name t w choice is accepts taken
  kind_fit choice (Shared op inputs outputs) is accepts space taken moves = shared_fit p s f frame e q fires_now room inputs outputs op choice accepts taken space
  kind_fit choice (Obtain name size item out) is accepts space taken moves = obtain_fit p s f frame e q fires_now room name item choice accepts space
  kind_fit choice (Read name out) is accepts space taken moves = read_fit p s f frame e q fires_now room name choice accepts
  kind_fit choice (Write name w) is accepts space taken moves = local_fit p s f frame e q fires_now room name w choice is accepts taken
  kind_fit choice (Call name inputs outputs) is accepts space taken moves = call_fit p s f frame e q fires_now room name inputs outputs is accepts taken choice space
  kind_fit choice (Loop count stop i lines body) is accepts space taken moves = loop_fit p s f frame e q fires_now room count stop i lines body is accepts taken space choice moves
  kind_fit choice (Case selector lines arms) is accepts space taken moves = case_fit p s f frame e q fires_now room selector lines arms is accepts taken choice moves
  kind_fit choice (Sequence parts) is accepts space taken moves = sequence_fit p s f frame e q fires_now room parts is accepts taken choice moves
  kind_fit choice (InPlace lines body finish) is accepts space taken moves = place_fit p s f frame e q fires_now room lines body finish is accepts taken choice

  pub effect_fit : (choice : Option ℕ) → Fits p s f frame.vi e q (effect h e choice e.kind q)
  effect_fit choice =
      kind_fit choice e.kind refl (accepts p s f frame e q fires_now) (in_space p s f frame e q fires_now) fires_now.taken fires_now.node.progress_typed

-- ---- the firing of a state

-- the node that fires, and its effect
pub record Fired (p : Program) (s : FireState) (x : Firing) (eff : Effect) : Type 0 where
  pub f : Frame
  pub at : slice_get s.frames x.frame ≡ Some f
  pub frame : IsTypedFrame p s.frames f
  pub node : Entry × Progress
  pub on : node_on x.node (nodes_in frame.vi f.diagram) f.nodes ≡ Some node
  pub fit : IsFit p s f frame.vi node.0 node.1 eff

fit_of : (p : Program) (s : FireState) (f : Frame) (vi : FlatVi) (e : Entry) (q : Progress) (o : Option Effect) (eff : Effect) → Fits p s f vi e q o → o ≡ Some eff → IsFit p s f vi e q eff
fit_of p s f vi e q None eff fit is = absurd (none_is eff is)
fit_of p s f vi e q (Some x) eff fit is = subst (IsFit p s f vi e q) (some_is x eff is) (there x fit)
  where
    there : (x : Effect) → Fits p s f vi e q (Some x) → IsFit p s f vi e q x
    there x (fires fit) = fit

guard_is : (b : Bool) (o : Option Effect) (eff : Effect) → guard b o ≡ Some eff → (b ≡ true) × (o ≡ Some eff)
guard_is true o eff h = (refl, h)
guard_is false o eff h = absurd (none_is eff h)

then_some : {A B : Type 0} (g : A → Option B) (o : Option A) (y : B) → option_and_then g o ≡ Some y → (a : A) × ((o ≡ Some a) × (g a ≡ Some y))
then_some g None y h = absurd (none_is y h)
then_some g (Some a) y h = (a, (refl, h))

-- a node that fires stands so
pub fires_at : (p : Program) (s : FireState) → IsAccepted p → IsTypedState p s → (f : Frame) (frame : IsTypedFrame p s.frames f) (line : ℕ) (n : Entry × Progress)
    → node_on line (nodes_in frame.vi f.diagram) f.nodes ≡ Some n → is_ready (reader_in frame.vi f) n.0 n.1 ≡ true → Fires p s f frame n.0 n.1
fires_at p s accepted state f frame line n on ready =
    let m = node_among p s.frames frame.vi f line (nodes_in frame.vi f.diagram) f.nodes n frame.nodes on in
    record {
      accepted = accepted;
      state = state;
      stands = m.0;
      node = m.1;
      taken = and_right (not (is_done n.1)) (has_inputs (reader_in frame.vi f) n.0) ready;
    }

pub fired : (p : Program) (s : FireState) (x : Firing) (eff : Effect) (room : Bool) → IsAccepted p → IsTypedState p s → effect_with p room s x ≡ Some eff → Fired p s x eff
fired p s x eff room accepted state h =
    let one = then_some (λ f. option_and_then (effect_in p room s x f) (vi_at p f.vi)) (slice_get s.frames x.frame) eff h in
    let f = one.0 in
    let frame = state.frames x.frame f one.1.0 in
    let two = then_some (effect_in p room s x f) (vi_at p f.vi) eff one.1.1 in
    let same : two.0 ≡ frame.vi = some_is two.0 frame.vi (sym two.1.0 ∙ frame.is) in
    let inside : effect_in p room s x f frame.vi ≡ Some eff = ap (effect_in p room s x f) (sym same) ∙ two.1.1 in
    let three = then_some (λ n. node_effect (here p room s f frame.vi) x.choice n.0 n.1) (node_on x.node (nodes_in frame.vi f.diagram) f.nodes) eff inside in
    let n = three.0 in
    let ready = guard_is (is_ready (reader_in frame.vi f) n.0 n.1) (effect (here p room s f frame.vi) n.0 x.choice n.0.kind n.1) eff three.1.1 in
    record {
      f = f;
      at = one.1.0;
      frame = frame;
      node = n;
      on = three.1.0;
      fit = fit_of p s f frame.vi n.0 n.1 (effect (here p room s f frame.vi) n.0 x.choice n.0.kind n.1) eff
          (effect_fit p s f frame n.0 n.1 (fires_at p s accepted state f frame x.node n three.1.0 ready.0) room x.choice) ready.1;
    }

-- ---- lists of frames

set_cases : {A : Type 0} (xs : List A) (n k : ℕ) (y z : A) → slice_get (slice_set xs n y) k ≡ Some z → (y ≡ z) ⊎ (slice_get xs k ≡ Some z)
set_cases [] n k y z at = inr at
set_cases (x ∷ xs) zero zero y z at = inl (some_is y z at)
set_cases (x ∷ xs) zero (suc k) y z at = inr at
set_cases (x ∷ xs) (suc n) zero y z at = inr at
set_cases (x ∷ xs) (suc n) (suc k) y z at = set_cases xs n k y z at

append_cases : {A : Type 0} (xs ys : List A) (k : ℕ) (z : A) → slice_get (xs ++ ys) k ≡ Some z → (slice_get xs k ≡ Some z) ⊎ Among z ys
append_cases [] ys k z at = inr (among_of ys k z at)
  where
    among_of : {A : Type 0} (ys : List A) (k : ℕ) (z : A) → slice_get ys k ≡ Some z → Among z ys
    among_of [] k z at = absurd (none_is z at)
    among_of (y ∷ ys) zero z at = subst (λ w. Among w (y ∷ ys)) (some_is y z at) first
    among_of (y ∷ ys) (suc k) z at = later (among_of ys k z at)
append_cases (x ∷ xs) ys zero z at = inl at
append_cases (x ∷ xs) ys (suc k) z at = append_cases xs ys k z at

set_at : {A : Type 0} (xs ys : List A) (n : ℕ) (y z : A) → slice_get xs n ≡ Some z → slice_get (slice_set xs n y ++ ys) n ≡ Some y
set_at [] ys n y z at = absurd (none_is z at)
set_at (x ∷ xs) ys zero y z at = refl
set_at (x ∷ xs) ys (suc n) y z at = set_at xs ys n y z at

set_long : {A : Type 0} (xs : List A) (n : ℕ) (y : A) → length xs ≡ length (slice_set xs n y)
set_long [] n y = refl
set_long (x ∷ xs) zero y = refl
set_long (x ∷ xs) (suc n) y = ap suc (set_long xs n y)

last_at : {A : Type 0} (xs : List A) (n : ℕ) (y : A) → n ≡ length xs → slice_get (xs ++ y ∷ []) n ≡ Some y
last_at xs n y is = ap (slice_get (xs ++ y ∷ [])) (no_more n) ∙ at_back xs (y ∷ []) n 0 is
  where
    no_more : (n : ℕ) → n ≡ n + 0
    no_more n = omega arith

-- ---- the next state

module _ (p : Program) (s : FireState) (x : Firing) (eff : Effect) (state : IsTypedState p s) (now : Fired p s x eff) (next_is : fire p s x ≡ applied p s x eff) where
  abbrev f : Frame
  f = now.f

  abbrev vi : FlatVi
  vi = now.frame.vi

  abbrev g : Frame
  g = fired_in x.node eff now.f now.frame.vi

  abbrev opener : Option FrameNode
  opener = Some (record { frame = x.frame; node = x.node })

  abbrev more_frames : List Frame
  more_frames = option_to_list (option_and_then (opened_frame p x) eff.opens)

  abbrev gs : List Frame
  gs = slice_set s.frames x.frame g ++ more_frames

  frames_are : (applied p s x eff).frames ≡ gs
  frames_are =
      ap (λ o. option_map_or (λ y. slice_set s.frames x.frame (fired_frame p x.node eff y)) o s.frames ++ more_frames) now.at
      ∙ ap (λ o. slice_set s.frames x.frame (option_map_or (fired_in x.node eff f) o f) ++ more_frames) now.frame.is

  extends : Extends s.frames gs
  extends k y at =
      let z = frames_stay p s x k y at in
      (z.0, (ap (λ fs. slice_get fs k) (sym (ap (λ (t : FireState). t.frames) next_is ∙ frames_are)) ∙ z.1, z.2))

  goes : Continues f g
  goes =
      let z = extends x.frame f now.at in
      subst (Continues f) (some_is z.0 g (sym z.1.0 ∙ set_at s.frames more_frames x.frame g f now.at)) z.1.1

  -- the frame that opens
  one_more : (o : Opening) → eff.opens ≡ Some o → (fit : IsFitOpening p o) → more_frames ≡ opened opener o fit.vi ∷ []
  one_more o is fit = ap (λ x_o. option_to_list (option_and_then (opened_frame p x) x_o)) is ∙ ap (λ v. option_to_list (option_map (opened opener o) v)) fit.is

  opened_in : OpenedIn gs (length s.frames) eff.opens
  opened_in o is =
      let fit = now.fit.opening o is in (
        opened opener o fit.vi,
        (
          ap (λ ys. slice_get (slice_set s.frames x.frame g ++ ys) (length s.frames)) (one_more o is fit)
              ∙ last_at (slice_set s.frames x.frame g) (length s.frames) (opened opener o fit.vi) (set_long s.frames x.frame g),
          (refl, refl),
        ),
      )

  fired_typed : IsTypedFrame p gs g
  fired_typed =
      fired_frame_typed p s.frames gs f x.node eff now.frame extends goes now.node now.on now.fit.given_typed now.fit.given_all (now.fit.moves gs extends opened_in)

  new_typed : (o : Option Opening) → eff.opens ≡ o → (y : Frame) → Among y (option_to_list (option_and_then (opened_frame p x) o)) → IsTypedFrame p gs y
  new_typed None is y at = absurd (no_place y at)
  new_typed (Some o) is y at =
      let fit = now.fit.opening o is in
      let listed : option_to_list (opened_frame p x o) ≡ opened opener o fit.vi ∷ [] = ap (λ v. option_to_list (option_map (opened opener o) v)) fit.is in
      ⊎_elim (λ same. subst (IsTypedFrame p gs) same (opened_typed p gs opener o fit)) (λ none. absurd (no_place y none))
      (among_cases y (opened opener o fit.vi) [] (subst (Among y) listed at))

  frames_typed : (k : ℕ) (y : Frame) → slice_get gs k ≡ Some y → IsTypedFrame p gs y
  frames_typed k y at =
      ⊎_elim
      (λ old. ⊎_elim (λ same. subst (IsTypedFrame p gs) same fired_typed) (λ stood. frame_still s.frames gs extends p y (state.frames k y stood)) (set_cases s.frames x.frame k g y old))
      (λ new. new_typed eff.opens refl y new)
      (append_cases (slice_set s.frames x.frame g) more_frames k y at)

  objects_typed : (o : Option (ℕ × Content)) → eff.changes ≡ o → AreTypedObjects p 0 (shapes p) (objects_after s.objects o)
  objects_typed None is = state.objects
  objects_typed (Some c) is = object_set p s.objects c.0 c.1 state.objects (λ sh at. now.fit.change c.0 c.1 is sh at)

  abbrev kept_types : List Ty
  kept_types = map (λ k. k.content) p.kept

  kept_typed : (ks : List (ℕ × Value)) (kept : List Value) → ((k : ℕ) (v : Value) → Among (k, v) ks → (place : KeptPlace) → slice_get p.kept k ≡ Some place → IsTypedValue p place.content v)
      → AreTyped p kept_types kept → AreTyped p kept_types (registers_after kept ks)
  kept_typed [] kept new are = are
  kept_typed (k ∷ ks) kept new are =
      kept_typed ks (slice_set kept k.0 k.1) (λ n v at. new n v (later at))
      (values_set p kept_types kept k.0 k.1 are
      (λ t at. let place = mapped_at (λ (y : KeptPlace). y.content) p.kept k.0 t at in subst (λ u. IsTypedValue p u k.1) place.1.1 (new k.0 k.1 first place.0 place.1.0)))

  pub applied_typed : IsTypedState p (applied p s x eff)
  applied_typed = record {
    frames = λ k y at. subst (λ fs. IsTypedFrame p fs y) (sym frames_are) (frames_typed k y (ap (λ fs. slice_get fs k) (sym frames_are) ∙ at));
    objects = objects_typed eff.changes refl;
    kept = kept_typed eff.keeps s.kept now.fit.keeps state.kept;
  }

pub stays_typed : (p : Program) (s : FireState) (x : Firing) → IsAccepted p → IsTypedState p s → IsTypedState p (fire p s x)
stays_typed p s x accepted state = by (effect_of p s x) refl
  where
    by : (o : Option Effect) → effect_of p s x ≡ o → IsTypedState p (option_map_or (applied p s x) o s)
    by None is = state
    by (Some eff) is =
        applied_typed p s x eff state (fired p s x eff (nat_lt s.begun s.limit) accepted state is) (ap (λ o. option_map_or (applied p s x) o s) is)
