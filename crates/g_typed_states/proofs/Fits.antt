-- Effects that fit: what a firing has to give so that a typed state stays typed, and how a node stands in a typed state.
use Rattle.std.proofs.Common.{◌≡◌, ◌⊎◌, inl, inr, ⊎_elim, Bool, true, false, ℕ, zero, suc, List, [], ◌∷◌, map, length, Option, Some, None, refl, ap, sym, ◌∙◌, subst}
use Rattle.std.specs.Prelude.{slice_get, is_some, not, ◌==◌}
use Rattle.std.specs.List.{list_all}
use Rattle.std.specs.Option.{option_map, option_and_then, option_map_or}
use Rattle.std.proofs.lemmas.Bool.{eqb-true}
use Rattle.g_types.specs.declared.ty.Ty.{Ty}
use Rattle.g_values.specs.declared.value.Value.{Value}
use Rattle.g_diagram.specs.Lines.{Wire, Entry, Kind, Const, Apply, Shows, Shared, Obtain, Read, Write, Call, Loop, Case, Sequence, InPlace}
use Rattle.g_typing.specs.Types.{wire_type, wire_at}
use Rattle.g_typing.specs.Typing.{control_types, indicator_types}
use Rattle.g_shared.specs.declared.reply.Reply.{Reply}
use Rattle.g_shared.specs.Outcome.{Outcome}
use Rattle.g_border.specs.declared.place.WireSource.{WireSource}
use Rattle.g_border.specs.Readers.{Given, has_value, value_on, source_of}
use Rattle.g_frames.specs.declared.program.KeptPlace.{KeptPlace}
use Rattle.g_frames.specs.declared.state.Progress.{Progress}
use Rattle.g_frames.specs.declared.state.Progress.TheVariants as progress
use Rattle.g_frames.specs.declared.state.Stage.{Stage}
use Rattle.g_frames.specs.declared.state.Stage.TheVariants.{Entered, Opened, Returned, Left}
use Rattle.g_frames.specs.declared.state.Frame.{Frame}
use Rattle.g_frames.specs.Contents.{Content, Operation, object_step}
use Rattle.g_frames.specs.Program.{FlatVi, Program, vi_at, panel_object}
use Rattle.g_frames.specs.State.{FireState, Opening, has_left, is_done, is_complete, nodes_in, reader_in, panel_items}
use Rattle.g_frames.specs.Effects.{Effect, gives, opens, guard, after_step, no_body, on_object}
use Rattle.g_frames.specs.Fire.{has_inputs, here}
use Rattle.g_frames.specs.Operations.{input_at}
use Rattle.g_frames.proofs.RunLemmas.{refute, some_is}
use Rattle.g_typed_states.specs.Places.{Among, node_places, IsNodePlace}
use Rattle.g_typed_states.specs.Accepted.{AcceptsKind, HasInSpace, IsAcceptedVi, IsAcceptedSpace, HasSpace, IsAccepted}
use Rattle.g_typed_states.specs.Typed.{Shape, PanelOf, shapes, IsTypedValue, IsTypedReader, IsFilled, IsTypedContent, has_given, IsTypedProgress, IsTypedNode, AreTypedNodes, IsTypedFrame, IsTypedState}
use Rattle.g_typed_states.proofs.Lists.{and_left, and_right, none_is, is_there, no_place, among_cases, among_filter, filter_passes}
use Rattle.g_typed_states.proofs.Wires.{GivesAt, IsTypedGiven, CoversPlaces, gives_none, value_typed}
use Rattle.g_typed_states.proofs.Inputs.{HaveValues}
use Rattle.g_typed_states.proofs.Objects.{shaped_at, panel_at}
use Rattle.g_typed_states.proofs.Frames.{Extends, IsFitOpening}

-- ---- nodes that are done

left_given : (stage : Stage) → has_left stage ≡ true → has_given (progress.Call 0 stage) ≡ true
left_given Entered h = absurd (refute h)
left_given (Opened k) h = absurd (refute h)
left_given (Returned k) h = refl
left_given (Left k) h = refl

pub done_given : (q : Progress) → is_done q ≡ true → has_given q ≡ true
done_given progress.Idle h = absurd (refute h)
done_given progress.Done h = refl
done_given (progress.Loop vs ks ended) h = h
done_given (progress.Case k ended) h = h
done_given (progress.Sequence ks ended) h = h
done_given (progress.Call clone stage) h = left_given stage h

pub record DoneNode (p : Program) (fs : List Frame) (vi : FlatVi) (f : Frame) (e : Entry) : Type 0 where
  pub progress : Progress
  pub typed : IsTypedNode p fs vi f e progress
  pub done : is_done progress ≡ true

nodes_done : (p : Program) (fs : List Frame) (vi : FlatVi) (f : Frame) (e : Entry) (es : List Entry) (qs : List Progress) → AreTypedNodes p fs vi f es qs → list_all is_done qs ≡ true → Among e es
    → DoneNode p fs vi f e
nodes_done p fs vi f e [] qs are done at = absurd (no_place e at)
nodes_done p fs vi f e (x ∷ es) [] are done at = absurd are
nodes_done p fs vi f e (x ∷ es) (q ∷ qs) are done at =
    ⊎_elim
    (λ same. record { progress = q; typed = subst (λ y. IsTypedNode p fs vi f y q) same are.0; done = and_left (is_done q) (list_all is_done qs) done })
    (λ l. nodes_done p fs vi f e es qs are.1 (and_right (is_done q) (list_all is_done qs) done) l)
    (among_cases e x es at)

-- a complete frame has a value on each wire with a type
pub complete_filled : (p : Program) (fs : List Frame) (f : Frame) (is : IsTypedFrame p fs f) → IsAcceptedVi p is.vi → is_complete f ≡ true → IsFilled (is.vi.types f.diagram) (reader_in is.vi f)
complete_filled p fs f is accepted done name t known = by (is_there (source_of is.vi.ports f.diagram name) (accepted.sourced f.diagram name t known))
  where
    at_node : (w : WireSource) → source_of is.vi.ports f.diagram name ≡ Some w → IsNodePlace is.vi f.diagram w → is_some (reader_in is.vi f name) ≡ true
    at_node w source place =
        let node = nodes_done p fs is.vi f place.node (nodes_in is.vi f.diagram) f.nodes is.nodes done place.stands in
        node.typed.given (done_given node.progress node.done) name w place.gives source

    by : ((w : WireSource) × (source_of is.vi.ports f.diagram name ≡ Some w)) → is_some (reader_in is.vi f name) ≡ true
    by w = ⊎_elim (λ has. has) (λ place. at_node w.0 w.1 place) (is.supplied name w.0 w.1)

-- ---- effects

-- the frame that opens is the next one
abbrev pub OpenedIn : List Frame → (number : ℕ) → Option Opening → Type 0
OpenedIn fs n o = (opening : Opening) → o ≡ Some opening → (g : Frame) × ((slice_get fs n ≡ Some g) × ((g.vi ≡ opening.vi) × (g.diagram ≡ opening.diagram)))

pub record IsFit (p : Program) (s : FireState) (f : Frame) (vi : FlatVi) (e : Entry) (q : Progress) (eff : Effect) : Type 0 where
  pub given_typed : IsTypedGiven p vi eff.gives
  pub given_all : has_given eff.progress ≡ true → (has_given q ≡ true) ⊎ CoversPlaces p vi (node_places e) eff.gives
  pub moves : (fs : List Frame) → Extends s.frames fs → OpenedIn fs (length s.frames) eff.opens → IsTypedProgress p fs f.vi vi e e.kind eff.progress
  pub opening : (o : Opening) → eff.opens ≡ Some o → IsFitOpening p o
  pub change : (k : ℕ) (c : Content) → eff.changes ≡ Some (k, c) → (sh : Shape) → slice_get (shapes p) k ≡ Some sh → IsTypedContent p k sh c
  pub keeps : (k : ℕ) (v : Value) → Among (k, v) eff.keeps → (place : KeptPlace) → slice_get p.kept k ≡ Some place → IsTypedValue p place.content v

pub data Fits (p : Program) (s : FireState) (f : Frame) (vi : FlatVi) (e : Entry) (q : Progress) : Option Effect → Type 0 where
  waits : Fits p s f vi e q None
  fires : {eff : Effect} → IsFit p s f vi e q eff → Fits p s f vi e q (Some eff)

-- ---- how a node stands that fires

pub record Fires (p : Program) (s : FireState) (f : Frame) (frame : IsTypedFrame p s.frames f) (e : Entry) (q : Progress) : Type 0 where
  pub accepted : IsAccepted p
  pub state : IsTypedState p s
  pub stands : Among e (nodes_in frame.vi f.diagram)
  pub node : IsTypedNode p s.frames frame.vi f e q
  pub taken : has_inputs (reader_in frame.vi f) e ≡ true

module _ (p : Program) (s : FireState) (f : Frame) (frame : IsTypedFrame p s.frames f) (e : Entry) (q : Progress) (fires_now : Fires p s f frame e q) where
  abbrev vi : FlatVi
  vi = frame.vi

  pub accepted_vi : IsAcceptedVi p vi
  accepted_vi = fires_now.accepted.vis f.vi vi frame.is

  pub among_entries : Among e vi.entries
  among_entries = among_filter (λ x. x.diagram == f.diagram) e vi.entries fires_now.stands

  pub in_diagram : e.diagram ≡ f.diagram
  in_diagram = eqb-true e.diagram f.diagram (filter_passes (λ x. x.diagram == f.diagram) e vi.entries fires_now.stands)

  pub accepts : AcceptsKind p vi e e.kind
  accepts = accepted_vi.nodes e among_entries

  pub outer_typed : IsTypedReader p (vi.types e.diagram) (reader_in vi f)
  outer_typed = subst (λ d. IsTypedReader p (vi.types d) (reader_in vi f)) (sym in_diagram) frame.typed

  -- the data space
  own_space : IsAcceptedSpace p f.space frame.space.found
  own_space = fires_now.accepted.spaces f.space frame.space.found frame.space.is

  space_vi : own_space.vi ≡ vi
  space_vi = some_is own_space.vi vi (sym own_space.is ∙ ap (vi_at p) frame.space.vi_is ∙ frame.is)

  pub in_space : HasInSpace p f.space vi.types e e.kind
  in_space = subst (λ x. HasInSpace p f.space x.types e e.kind) space_vi (own_space.nodes e (subst (λ (x : FlatVi). Among e x.entries) (sym space_vi) among_entries))

  -- ---- effects that fit, from small parts

  abbrev Fit : Option Effect → Type 0
  Fit o = Fits p s f vi e q o

  pub guarded : (b : Bool) (o : Option Effect) → (b ≡ true → Fit o) → Fit (guard b o)
  guarded true o h = h refl
  guarded false o h = waits

  pub then_fit : {A : Type 0} (g : A → Option Effect) (o : Option A) → ((a : A) → o ≡ Some a → Fit (g a)) → Fit (option_and_then g o)
  then_fit g None each = waits
  then_fit g (Some a) each = each a refl

  pub mapped_fit : {A : Type 0} (g : A → Effect) (o : Option A) → ((a : A) → o ≡ Some a → IsFit p s f vi e q (g a)) → Fit (option_map g o)
  mapped_fit g None each = waits
  mapped_fit g (Some a) each = fires (each a refl)

  no_opening : (o : Opening) → None ≡ Some o → IsFitOpening p o
  no_opening o h = absurd (none_is o h)

  no_change : (k : ℕ) (c : Content) → ◌≡◌ {A = Option (ℕ × Content)} None (Some (k, c)) → (sh : Shape) → slice_get (shapes p) k ≡ Some sh → IsTypedContent p k sh c
  no_change k c h = absurd (none_is (k, c) h)

  no_keep : (k : ℕ) (v : Value) → Among {A = ℕ × Value} (k, v) [] → (place : KeptPlace) → slice_get p.kept k ≡ Some place → IsTypedValue p place.content v
  no_keep k v at = absurd (no_place (k, v) at)

  done_typed : (fs : List Frame) (kind : Kind) → IsTypedProgress p fs f.vi vi e kind progress.Done
  done_typed fs (Const t literal out) = tt
  done_typed fs (Apply op inputs outputs) = tt
  done_typed fs (Shows name t w) = tt
  done_typed fs (Shared op inputs outputs) = tt
  done_typed fs (Obtain name size item out) = tt
  done_typed fs (Read name out) = tt
  done_typed fs (Write name w) = tt
  done_typed fs (Call name inputs outputs) = tt
  done_typed fs (Loop count stop i lines body) = tt
  done_typed fs (Case selector lines arms) = tt
  done_typed fs (Sequence parts) = tt
  done_typed fs (InPlace lines body finish) = tt

  -- a firing that gives all outputs
  pub gives_fit : (new : Progress) (gs : Given) → ((fs : List Frame) → Extends s.frames fs → IsTypedProgress p fs f.vi vi e e.kind new) → GivesAt p vi (node_places e) gs → IsFit p s f vi e q (gives new gs)
  gives_fit new gs moves at = record {
    given_typed = at.typed;
    given_all = λ done. inr at.covers;
    moves = λ fs more opened. moves fs more;
    opening = no_opening;
    change = no_change;
    keeps = no_keep;
  }

  pub done_fit : (gs : Given) → GivesAt p vi (node_places e) gs → IsFit p s f vi e q (gives progress.Done gs)
  done_fit gs at = gives_fit progress.Done gs (λ fs more. done_typed fs e.kind) at

  -- one that gives nothing now
  pub moves_fit : (new : Progress) → (has_given new ≡ true → has_given q ≡ true) → ((fs : List Frame) → Extends s.frames fs → IsTypedProgress p fs f.vi vi e e.kind new) → IsFit p s f vi e q (gives new [])
  moves_fit new given moves = record {
    given_typed = (gives_none p vi).typed;
    given_all = λ done. inl (given done);
    moves = λ fs more opened. moves fs more;
    opening = no_opening;
    change = no_change;
    keeps = no_keep;
  }

  -- one that opens a frame
  pub opens_fit : (new : Progress) (o : Opening) → has_given new ≡ false
      → ((fs : List Frame) → Extends s.frames fs → OpenedIn fs (length s.frames) (Some o) → IsTypedProgress p fs f.vi vi e e.kind new) → IsFitOpening p o → IsFit p s f vi e q (opens new o)
  opens_fit new o not moves fit = record {
    given_typed = (gives_none p vi).typed;
    given_all = λ done. absurd (refute (sym not ∙ done));
    moves = moves;
    opening = λ x is. subst (IsFitOpening p) (some_is o x is) fit;
    change = no_change;
    keeps = no_keep;
  }

  -- one that changes an object
  pub changes_fit : (eff : Effect) (k : ℕ) (c : Content) → IsFit p s f vi e q eff → ((sh : Shape) → slice_get (shapes p) k ≡ Some sh → IsTypedContent p k sh c)
      → IsFit p s f vi e q (record eff { changes = Some (k, c) })
  changes_fit eff k c fit new = record {
    given_typed = fit.given_typed;
    given_all = fit.given_all;
    moves = fit.moves;
    opening = fit.opening;
    change = λ j x is sh at.
        let same = some_is (k, c) (j, x) is in
        subst (λ (m : ℕ × Content). IsTypedContent p m.0 sh m.1) same (new sh (ap (λ (m : ℕ × Content). slice_get (shapes p) m.0) same ∙ at));
    keeps = fit.keeps;
  }

  pub unchanged_fit : (eff : Effect) → IsFit p s f vi e q eff → IsFit p s f vi e q (record eff { changes = None })
  unchanged_fit eff fit = record {
    given_typed = fit.given_typed;
    given_all = fit.given_all;
    moves = fit.moves;
    opening = fit.opening;
    change = no_change;
    keeps = fit.keeps;
  }

  -- ---- operations

  -- the reply fits, and the object is typed afterwards
  pub record StepFits (effect : Reply → Effect) (k : ℕ) (r : Reply × Content) : Type 0 where
    pub reply : IsFit p s f vi e q (effect r.0)
    pub object : (sh : Shape) → slice_get (shapes p) k ≡ Some sh → IsTypedContent p k sh r.1

  step_fit : (k : ℕ) (effect : Reply → Effect) (o : Outcome Content) → ((r : Reply × Content) → o ≡ Some r → StepFits effect k r) → Fit (after_step (Some k) effect o)
  step_fit k effect None each = waits
  step_fit k effect (Some r) each = let x = each r refl in fires (changes_fit (effect r.0) k r.1 x.reply x.object)

  module _ (room : Bool) where
    pub on_object_fit : (k : ℕ) (o : Operation) (choice : ℕ) (effect : Reply → Effect)
        → ((c : Content) → slice_get s.objects k ≡ Some c → (r : Reply × Content) → object_step c o choice no_body ≡ Some r → StepFits effect k r)
        → Fit (on_object (here p room s f vi) k o choice effect)
    on_object_fit k o choice effect each =
        step_fit k effect (option_and_then (λ c. object_step c o choice no_body) (slice_get s.objects k)) (by (slice_get s.objects k) refl)
      where
        by : (x : Option Content) → slice_get s.objects k ≡ x → (r : Reply × Content) → option_and_then (λ c. object_step c o choice no_body) x ≡ Some r → StepFits effect k r
        by None at r is = absurd (none_is r is)
        by (Some c) at r is = each c at r is

  -- ---- inputs

  pub input_typed : (inputs : List Wire) (k : ℕ) (t : Ty) → HaveValues (reader_in vi f) inputs → wire_type vi.types e.diagram (wire_at inputs k) ≡ Some t
      → IsTypedValue p t (input_at (map (value_on (reader_in vi f)) inputs) k)
  input_typed [] k t has known = absurd (none_is t known)
  input_typed (w ∷ ws) zero t has known =
      value_typed p vi.types e.diagram (reader_in vi f) outer_typed w t (and_left (has_value (reader_in vi f) w) (list_all (has_value (reader_in vi f)) ws) has) known
  input_typed (w ∷ ws) (suc k) t has known = input_typed ws k t (and_right (has_value (reader_in vi f) w) (list_all (has_value (reader_in vi f)) ws) has) known

  -- ---- the panel of a data space

  panel_types : (v : ℕ) (x : FlatVi) (space : ℕ) → vi_at p v ≡ Some x → (h : HasSpace p v space) → slice_get (shapes p) (panel_object p space) ≡ Some (PanelOf (control_types x.panel) (indicator_types x.panel))
  panel_types v x space at h =
      panel_at p space h.found h.is
      ∙ ap (λ n. Some (PanelOf (control_types (panel_items p n)) (indicator_types (panel_items p n)))) h.vi_is
      ∙ ap (λ o. Some (PanelOf (control_types (option_map_or (λ (y : FlatVi). y.panel) o [])) (indicator_types (option_map_or (λ (y : FlatVi). y.panel) o [])))) at

  pub panel_typed : (v : ℕ) (x : FlatVi) (space : ℕ) (c : Content) → vi_at p v ≡ Some x → HasSpace p v space → slice_get s.objects (panel_object p space) ≡ Some c
      → IsTypedContent p (panel_object p space) (PanelOf (control_types x.panel) (indicator_types x.panel)) c
  panel_typed v x space c at h is =
      shaped_at p s.objects (panel_object p space) c (PanelOf (control_types x.panel) (indicator_types x.panel)) fires_now.state.objects is (panel_types v x space at h)

  -- what is typed as the panel there is typed as what the program has there
  pub panel_after : (v : ℕ) (x : FlatVi) (space : ℕ) (c : Content) → vi_at p v ≡ Some x → HasSpace p v space
      → IsTypedContent p (panel_object p space) (PanelOf (control_types x.panel) (indicator_types x.panel)) c
      → (sh : Shape) → slice_get (shapes p) (panel_object p space) ≡ Some sh → IsTypedContent p (panel_object p space) sh c
  panel_after v x space c at h typed sh is =
      subst (λ y. IsTypedContent p (panel_object p space) y c) (some_is (PanelOf (control_types x.panel) (indicator_types x.panel)) sh (sym (panel_types v x space at h) ∙ is)) typed
