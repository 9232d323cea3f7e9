-- Typed frames stay typed where other frames go on, and become others where a node fires in them or they open.
use Rattle.std.proofs.Common.{◌≡◌, ◌⊎◌, inl, inr, ⊎_elim, Bool, true, false, ℕ, suc, List, [], ◌∷◌, map, length, Option, Some, None, refl, ap, sym, ◌∙◌, subst}
use Rattle.std.specs.Prelude.{slice_get, is_some, ◌==◌, if◌then◌else◌}
use Rattle.g_values.specs.declared.value.Value.{Value}
use Rattle.g_diagram.specs.Lines.{Entry, Kind, Const, Apply, Shows, Shared, Obtain, Read, Write, Call, Loop, Case, Sequence, InPlace}
use Rattle.g_border.specs.declared.place.WireSource.{WireSource}
use Rattle.g_border.specs.Readers.{source_of, value_given}
use Rattle.g_frames.specs.declared.firing.FrameNode.{FrameNode}
use Rattle.g_frames.specs.declared.state.Progress.{Progress}
use Rattle.g_frames.specs.declared.state.Progress.TheVariants as progress
use Rattle.g_frames.specs.declared.state.Frame.{Frame}
use Rattle.g_frames.specs.Program.{FlatVi, Program, vi_at}
use Rattle.g_frames.specs.State.{Opening, sources_in, nodes_in, reader_in, value_at, no_values, opened}
use Rattle.g_frames.specs.Effects.{Effect}
use Rattle.g_frames.specs.Fire.{node_on, with_progress, fired_in}
use Rattle.g_frames.specs.Laws.{Continues}
use Rattle.g_frames.proofs.RunLemmas.{refute, some_is}
use Rattle.g_typed_states.specs.Places.{Among, later, node_places, IsNodePlace}
use Rattle.g_typed_states.specs.Accepted.{HasSpace}
use Rattle.g_typed_states.specs.Typed.{IsTypedReader, has_given, IsInner, IsEnded, AreInner, IsTypedProgress, IsTypedNode, AreTypedNodes, IsTypedFrame}
use Rattle.g_typed_states.proofs.Lists.{none_is, is_there, among_head}
use Rattle.g_typed_states.proofs.Wires.{read_in, read_at, read_from, reads_on, comes_all, given_long, has_all, source_among, IsTypedGiven, CoversPlaces}

-- frames of which each goes on among others
abbrev pub Extends : List Frame → List Frame → Type 0
Extends fs gs = (k : ℕ) (f : Frame) → slice_get fs k ≡ Some f → (g : Frame) × ((slice_get gs k ≡ Some g) × Continues f g)

-- what is read in a frame is read in the frame that it becomes
pub reads_still : (vi : FlatVi) (f g : Frame) → Continues f g → (name : List ℕ) (v : Value) → reader_in vi f name ≡ Some v → reader_in vi g name ≡ Some v
reads_still vi f g goes name v h =
    ap (λ d. read_in vi d g.values name) goes.diagram ∙ reads_on vi f.diagram f.values g.values goes.values name v h

pub has_still : (vi : FlatVi) (f g : Frame) → Continues f g → (name : List ℕ) → is_some (reader_in vi f name) ≡ true → is_some (reader_in vi g name) ≡ true
has_still vi f g goes name h =
    let v = is_there (reader_in vi f name) h in ap is_some (reads_still vi f g goes name v.0 v.1)

module _ (fs gs : List Frame) (more : Extends fs gs) where
  pub inner_still : (v d k : ℕ) → IsInner fs v d k → IsInner gs v d k
  inner_still v d k i =
      let m = more k i.frame i.is in
      record { frame = m.0; is = m.1.0; vi_is = m.1.1.vi ∙ i.vi_is; diagram_is = m.1.1.diagram ∙ i.diagram_is }

  pub ended_still : (vi : FlatVi) (k : ℕ) → IsEnded fs vi k → IsEnded gs vi k
  ended_still vi k i =
      let m = more k i.frame i.is in
      record {
        frame = m.0;
        is = m.1.0;
        filled = λ name t known. has_still vi i.frame m.0 m.1.1 name (i.filled name t (ap (λ d. vi.types d name) (sym m.1.1.diagram) ∙ known));
      }

  pub all_inner_still : (v : ℕ) (vi : FlatVi) (ds ks : List ℕ) → AreInner fs v vi ds ks → AreInner gs v vi ds ks
  all_inner_still v vi ds [] are = tt
  all_inner_still v vi [] (k ∷ ks) are = absurd are
  all_inner_still v vi (d ∷ ds) (k ∷ []) are = inner_still v d k are
  all_inner_still v vi (d ∷ ds) (k ∷ m ∷ ks) are = (inner_still v d k are.0, (ended_still vi k are.1.0, all_inner_still v vi ds (m ∷ ks) are.1.1))

  progress_still : (p : Program) (v : ℕ) (vi : FlatVi) (e : Entry) (kind : Kind) (q : Progress) → IsTypedProgress p fs v vi e kind q → IsTypedProgress p gs v vi e kind q
  progress_still p v vi e (Loop count stop i lines body) (progress.Loop vs ks ended) is = record { kept = is.kept; inner = all_inner_still v vi (map (λ k. body) ks) ks is.inner }
  progress_still p v vi e (Case selector lines arms) (progress.Case k ended) is = record { arm = is.arm; stands = is.stands; inner = inner_still v is.arm.body k is.inner }
  progress_still p v vi e (Sequence parts) (progress.Sequence ks ended) is = all_inner_still v vi (map (λ part. part.body) parts) ks is
  progress_still p v vi e (Loop count stop i lines body) progress.Idle is = tt
  progress_still p v vi e (Loop count stop i lines body) progress.Done is = tt
  progress_still p v vi e (Loop count stop i lines body) (progress.Case k ended) is = tt
  progress_still p v vi e (Loop count stop i lines body) (progress.Sequence ks ended) is = tt
  progress_still p v vi e (Loop count stop i lines body) (progress.Call clone stage) is = tt
  progress_still p v vi e (Case selector lines arms) progress.Idle is = tt
  progress_still p v vi e (Case selector lines arms) progress.Done is = tt
  progress_still p v vi e (Case selector lines arms) (progress.Loop vs ks ended) is = tt
  progress_still p v vi e (Case selector lines arms) (progress.Sequence ks ended) is = tt
  progress_still p v vi e (Case selector lines arms) (progress.Call clone stage) is = tt
  progress_still p v vi e (Sequence parts) progress.Idle is = tt
  progress_still p v vi e (Sequence parts) progress.Done is = tt
  progress_still p v vi e (Sequence parts) (progress.Loop vs ks ended) is = tt
  progress_still p v vi e (Sequence parts) (progress.Case k ended) is = tt
  progress_still p v vi e (Sequence parts) (progress.Call clone stage) is = tt
  progress_still p v vi e (Const t literal out) q is = tt
  progress_still p v vi e (Apply op inputs outputs) q is = tt
  progress_still p v vi e (Shows name t w) q is = tt
  progress_still p v vi e (Shared op inputs outputs) q is = tt
  progress_still p v vi e (Obtain name size item out) q is = tt
  progress_still p v vi e (Read name out) q is = tt
  progress_still p v vi e (Write name w) q is = tt
  progress_still p v vi e (Call name inputs outputs) q is = tt
  progress_still p v vi e (InPlace lines body finish) q is = tt

  -- a node in a frame that goes on
  pub node_still : (p : Program) (vi : FlatVi) (f g : Frame) (e : Entry) (q : Progress) → Continues f g → IsTypedNode p fs vi f e q → IsTypedNode p gs vi g e q
  node_still p vi f g e q goes is = record {
    progress_typed = subst (λ v. IsTypedProgress p gs v vi e e.kind q) (sym goes.vi) (progress_still p f.vi vi e e.kind q is.progress_typed);
    given = λ done name w at source. has_still vi f g goes name (is.given done name w at (ap (λ d. source_of vi.ports d name) (sym goes.diagram) ∙ source));
  }

  pub nodes_still : (p : Program) (vi : FlatVi) (f g : Frame) → Continues f g → (es : List Entry) (qs : List Progress) → AreTypedNodes p fs vi f es qs → AreTypedNodes p gs vi g es qs
  nodes_still p vi f g goes [] [] are = tt
  nodes_still p vi f g goes [] (q ∷ qs) are = absurd are
  nodes_still p vi f g goes (e ∷ es) [] are = absurd are
  nodes_still p vi f g goes (e ∷ es) (q ∷ qs) are = (node_still p vi f g e q goes are.0, nodes_still p vi f g goes es qs are.1)

  -- a frame in which nothing fired
  pub frame_still : (p : Program) (f : Frame) → IsTypedFrame p fs f → IsTypedFrame p gs f
  frame_still p f is = record {
    vi = is.vi;
    is = is.is;
    space = is.space;
    long = is.long;
    typed = is.typed;
    supplied = is.supplied;
    nodes = nodes_still p is.vi f f (record { vi = refl; space = refl; diagram = refl; opener = refl; iteration = refl; values = λ k v at. at }) (nodes_in is.vi f.diagram) f.nodes is.nodes;
  }

-- ---- a node among others

pub node_among : (p : Program) (fs : List Frame) (vi : FlatVi) (f : Frame) (l : ℕ) (es : List Entry) (qs : List Progress) (n : Entry × Progress) → AreTypedNodes p fs vi f es qs
    → node_on l es qs ≡ Some n → Among n.0 es × IsTypedNode p fs vi f n.0 n.1
node_among p fs vi f l [] qs n are at = absurd (none_is n at)
node_among p fs vi f l (e ∷ es) [] n are at = absurd are
node_among p fs vi f l (e ∷ es) (q ∷ qs) n are at = by (e.line == l) at (node_among p fs vi f l es qs n are.1)
  where
    by : (b : Bool) → (if b then Some (e, q) else node_on l es qs) ≡ Some n → (node_on l es qs ≡ Some n → Among n.0 es × IsTypedNode p fs vi f n.0 n.1)
        → Among n.0 (e ∷ es) × IsTypedNode p fs vi f n.0 n.1
    by true g rest =
        let same = some_is (e, q) n g in
        (among_head n.0 e es (ap (λ m. m.0) same), subst (λ m. IsTypedNode p fs vi f m.0 m.1) same are.0)
    by false g rest = let r = rest g in (later r.0, r.1)

pub nodes_set : (p : Program) (fs gs : List Frame) (vi : FlatVi) (f g : Frame) → Extends fs gs → Continues f g → (l : ℕ) (new : Progress) (es : List Entry) (qs : List Progress) (n : Entry × Progress)
    → AreTypedNodes p fs vi f es qs → node_on l es qs ≡ Some n → IsTypedNode p gs vi g n.0 new → AreTypedNodes p gs vi g es (with_progress l new es qs)
nodes_set p fs gs vi f g more goes l new [] qs n are at is = absurd (none_is n at)
nodes_set p fs gs vi f g more goes l new (e ∷ es) [] n are at is = absurd are
nodes_set p fs gs vi f g more goes l new (e ∷ es) (q ∷ qs) n are at is = by (e.line == l) at (λ h. nodes_set p fs gs vi f g more goes l new es qs n are.1 h is)
  where
    by : (b : Bool) → (if b then Some (e, q) else node_on l es qs) ≡ Some n → (node_on l es qs ≡ Some n → AreTypedNodes p gs vi g es (with_progress l new es qs))
        → AreTypedNodes p gs vi g (e ∷ es) (if b then new ∷ qs else q ∷ with_progress l new es qs)
    by true h rest =
        let same = some_is (e, q) n h in
        (subst (λ m. IsTypedNode p gs vi g m new) (sym (ap (λ m. m.0) same)) is, nodes_still fs gs more p vi f g goes es qs are.1)
    by false h rest = (node_still fs gs more p vi f g e q goes are.0, rest h)

-- ---- the frame in which a node fired

pub fired_frame_typed : (p : Program) (fs gs : List Frame) (f : Frame) (l : ℕ) (eff : Effect) (is : IsTypedFrame p fs f) → Extends fs gs → Continues f (fired_in l eff f is.vi) → (n : Entry × Progress)
    → node_on l (nodes_in is.vi f.diagram) f.nodes ≡ Some n → IsTypedGiven p is.vi eff.gives
    → (has_given eff.progress ≡ true → (has_given n.1 ≡ true) ⊎ CoversPlaces p is.vi (node_places n.0) eff.gives)
    → IsTypedProgress p gs f.vi is.vi n.0 n.0.kind eff.progress → IsTypedFrame p gs (fired_in l eff f is.vi)
fired_frame_typed p fs gs f l eff is more goes n at given covers moves = record {
  vi = is.vi;
  is = is.is;
  space = is.space;
  long = given_long qs eff.gives f.values ∙ is.long;
  typed = reads;
  supplied = λ name w source. ⊎_elim (λ h. inl (has_still is.vi f g goes name h)) (λ h. inr h) (is.supplied name w source);
  nodes = nodes_set p fs gs is.vi f g more goes l eff.progress (nodes_in is.vi f.diagram) f.nodes n is.nodes at (record { progress_typed = moves; given = has });
}
  where
    qs : List WireSource
    qs = sources_in f.diagram is.vi.ports

    g : Frame
    g = fired_in l eff f is.vi

    old : IsTypedNode p fs is.vi f n.0 n.1
    old = (node_among p fs is.vi f l (nodes_in is.vi f.diagram) f.nodes n is.nodes at).1

    reads : IsTypedReader p (is.vi.types f.diagram) (reader_in is.vi g)
    reads name v t h known =
        let r = read_from is.vi f.diagram g.values name v h in
        ⊎_elim
        (λ stood. is.typed name v t (read_at is.vi f.diagram f.values name r.0 r.1.0 ∙ stood) known)
        (λ came. given f.diagram name r.0 v t came r.1.0 known)
        (comes_all qs eff.gives f.values r.0 v r.1.1)

    has : has_given eff.progress ≡ true → (name : List ℕ) (w : WireSource) → Among w (node_places n.0) → source_of is.vi.ports f.diagram name ≡ Some w → is_some (reader_in is.vi g name) ≡ true
    has done name w place source =
        ⊎_elim
        (λ before. has_still is.vi f g goes name (old.given before name w place source))
        (λ all.
        ap is_some (read_at is.vi f.diagram g.values name w source)
        ∙ has_all qs eff.gives f.values w (source_among is.vi.ports f.diagram name w source) is.long (all f.diagram name w place source))
        (covers done)

-- ---- a frame that opens

no_value_at : (qs : List WireSource) (w : WireSource) (v : Value) → value_at qs (no_values qs) w ≡ Some v → ⊥
no_value_at [] w v h = none_is v h
no_value_at (q ∷ qs) w v h = by _ h (no_value_at qs w v)
  where
    by : (b : Bool) → (if b then None else value_at qs (no_values qs) w) ≡ Some v → (value_at qs (no_values qs) w ≡ Some v → ⊥) → ⊥
    by true g rest = none_is v g
    by false g rest = rest g

no_values_long : (qs : List WireSource) → length (no_values qs) ≡ length qs
no_values_long [] = refl
no_values_long (q ∷ qs) = ap suc (no_values_long qs)

idle_typed : (p : Program) (fs : List Frame) (v : ℕ) (vi : FlatVi) (e : Entry) (kind : Kind) → IsTypedProgress p fs v vi e kind progress.Idle
idle_typed p fs v vi e (Const t literal out) = tt
idle_typed p fs v vi e (Apply op inputs outputs) = tt
idle_typed p fs v vi e (Shows name t w) = tt
idle_typed p fs v vi e (Shared op inputs outputs) = tt
idle_typed p fs v vi e (Obtain name size item out) = tt
idle_typed p fs v vi e (Read name out) = tt
idle_typed p fs v vi e (Write name w) = tt
idle_typed p fs v vi e (Call name inputs outputs) = tt
idle_typed p fs v vi e (Loop count stop i lines body) = tt
idle_typed p fs v vi e (Case selector lines arms) = tt
idle_typed p fs v vi e (Sequence parts) = tt
idle_typed p fs v vi e (InPlace lines body finish) = tt

idle_nodes : (p : Program) (fs : List Frame) (vi : FlatVi) (f : Frame) (es : List Entry) → AreTypedNodes p fs vi f es (map (λ e. progress.Idle) es)
idle_nodes p fs vi f [] = tt
idle_nodes p fs vi f (e ∷ es) = (record { progress_typed = idle_typed p fs f.vi vi e e.kind; given = λ done name w at source. absurd (refute done) }, idle_nodes p fs vi f es)

-- what opens has typed values, and each name of its diagram has one of them or its source at a node
pub record IsFitOpening (p : Program) (o : Opening) : Type 0 where
  pub vi : FlatVi
  pub is : vi_at p o.vi ≡ Some vi
  pub space : HasSpace p o.vi o.space
  pub typed : IsTypedGiven p vi o.gives
  pub supplied : (name : List ℕ) (w : WireSource) → source_of vi.ports o.diagram name ≡ Some w → (is_some (value_given o.gives w) ≡ true) ⊎ IsNodePlace vi o.diagram w

pub opened_typed : (p : Program) (gs : List Frame) (n : Option FrameNode) (o : Opening) (fit : IsFitOpening p o) → IsTypedFrame p gs (opened n o fit.vi)
opened_typed p gs n o fit = record {
  vi = fit.vi;
  is = fit.is;
  space = fit.space;
  long = given_long qs o.gives (no_values qs) ∙ no_values_long qs;
  typed = reads;
  supplied = λ name w source. ⊎_elim (λ h. inl (has name w source h)) (λ h. inr h) (fit.supplied name w source);
  nodes = idle_nodes p gs fit.vi g (nodes_in fit.vi o.diagram);
}
  where
    qs : List WireSource
    qs = sources_in o.diagram fit.vi.ports

    g : Frame
    g = opened n o fit.vi

    reads : IsTypedReader p (fit.vi.types o.diagram) (reader_in fit.vi g)
    reads name v t h known =
        let r = read_from fit.vi o.diagram g.values name v h in
        ⊎_elim
        (λ stood. absurd (no_value_at qs r.0 v stood))
        (λ came. fit.typed o.diagram name r.0 v t came r.1.0 known)
        (comes_all qs o.gives (no_values qs) r.0 v r.1.1)

    has : (name : List ℕ) (w : WireSource) → source_of fit.vi.ports o.diagram name ≡ Some w → is_some (value_given o.gives w) ≡ true → is_some (reader_in fit.vi g name) ≡ true
    has name w source h =
        ap is_some (read_at fit.vi o.diagram g.values name w source)
        ∙ has_all qs o.gives (no_values qs) w (source_among fit.vi.ports o.diagram name w source) (no_values_long qs) h
