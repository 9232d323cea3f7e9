-- What the primitives of a body in place need, at whatever turn.
use Rattle.std.proofs.Common.{◌≡◌, Bool, ◌&&◌, ℕ, ◌+◌, List, Option, Some, None, refl, ap, sym, ◌∙◌, subst}
use Rattle.std.specs.Prelude.{nat_lt}
use Rattle.g_types.specs.declared.ty.Ty.{Ty}
use Rattle.g_values.specs.declared.value.Live.{Live}
use Rattle.g_values.specs.declared.value.Value.{Value, out-Value}
use Rattle.g_values.specs.Default.{default}
use Rattle.g_diagram.specs.declared.node.Tunnel.{Tunnel}
use Rattle.g_diagram.specs.Lines.{Entry, InPlace}
use Rattle.g_border.specs.Readers.{Given, value_on}
use Rattle.g_border.specs.Lines.{entering, lines_inside, Reference, reference_in}
use Rattle.g_border.specs.Bodies.{readers, steps_of, inside_of, turns}
use Rattle.g_frames.specs.declared.state.Progress.{Progress}
use Rattle.g_frames.specs.declared.state.Frame.{Frame}
use Rattle.g_frames.specs.Program.{FlatVi, Program}
use Rattle.g_frames.specs.State.{FireState, reader_in}
use Rattle.g_frames.specs.Effects.{Here}
use Rattle.g_frames.specs.Fire.{here}
use Rattle.g_frames.proofs.RunLemmas.{some_is}
use Rattle.g_refs.specs.Cell.{value_for}
use Rattle.g_objects.specs.Operations.{given_to}
use Rattle.g_needs.specs.Bodies.{IsAmong, among, BodyNeeds, IsReferredBy, IsReferredAt, IsReferred, PlaceNeeds}
use Rattle.g_typed_states.specs.Places.{Among}
use Rattle.g_typed_states.specs.Bodies.{IsWorkedOut}
use Rattle.g_typed_states.specs.Lines.{AllLines}
use Rattle.g_typed_states.specs.Accepted.{AcceptsApply, AcceptsPlace, AcceptsKind, IsAcceptedVi}
use Rattle.g_typed_states.specs.Typed.{IsTypedValue, IsTypedFrame}
use Rattle.g_typed_states.proofs.Lists.{among_filter, among_at}
use Rattle.g_typed_states.proofs.Values.{default_value}
use Rattle.g_typed_states.proofs.Wires.{IsTypedGiven}
use Rattle.g_typed_states.proofs.Inputs.{TakesOf}
use Rattle.g_typed_states.proofs.LineValues.{ReferredTyped}
use Rattle.g_typed_states.proofs.Fits.{Fires, accepted_vi}
use Rattle.g_typed_states.proofs.BodySteps.{no_references, unreferred_typed}
use Rattle.g_typed_states.proofs.BodyTurns.{readers_typed, given_typed}
use Rattle.g_typed_states.proofs.PlaceEffects.{by as refers_to, inside_gives}
use Rattle.g_typed_needs.proofs.Simple.{primitive_fits}
use Rattle.g_typed_needs.proofs.Places.{referred_value, place_type, place_names, place_spelled, cell_there}

among_of : (e : Entry) (es : List Entry) → IsAmong e es → Among e es
among_of e es (among k at) = among_at es k e at

-- where what is given inside is typed
body_needs : (p : Program) (vi : FlatVi) → IsAcceptedVi p vi → (n : Entry) (lines : List Tunnel) (body finish : ℕ) → IsWorkedOut vi n lines body finish → (inside : Given) → IsTypedGiven p vi inside
    → BodyNeeds vi body finish inside
body_needs p vi accepted n lines body finish worked_out inside typed many e op inputs outputs stands is has =
    let known : Given = turns vi.ports many (steps_of vi.types (inside_of body finish vi.entries)) inside in
    let all = given_typed p vi accepted.spelled n lines body finish accepted worked_out many inside typed in
    let own = among_filter (λ x. nat_lt body x.line && nat_lt x.line finish) e vi.entries (among_of e (inside_of body finish vi.entries) stands) in
    let accepts : AcceptsApply vi e op inputs = subst (AcceptsKind p vi e) is (accepted.nodes e own) in
    primitive_fits p vi.types e.diagram (readers vi.ports known e.diagram) (readers_typed p vi accepted.spelled known all e.diagram) op inputs accepts.takes accepts.gives has accepts.known accepts.row

module _ (p : Program) (s : FireState) (f : Frame) (frame : IsTypedFrame p s.frames f) (e : Entry) (q : Progress) (fires_now : Fires p s f frame e q) (room : Bool)
    (lines : List Tunnel) (body finish : ℕ) (is : e.kind ≡ InPlace lines body finish) (accepts : AcceptsPlace frame.vi e lines body finish)
    (taken : TakesOf (reader_in frame.vi f) e (InPlace lines body finish)) where
  abbrev vi : FlatVi
  vi = frame.vi

  abbrev h : Here
  h = here p room s f frame.vi

  -- what is given inside, by what the reference refers to
  by_value : (v : Value) → AllLines (ReferredTyped p vi.types e.diagram v) lines
      → BodyNeeds frame.vi body finish (lines_inside (record (entering h.outer) { referred = v }) (e.line + 1) lines)
  by_value v refers =
      body_needs p frame.vi (accepted_vi p s f frame e q fires_now) e lines body finish accepts.worked_out (lines_inside (record (entering h.outer) { referred = v }) (e.line + 1) lines)
      (inside_gives p s f frame e q fires_now room lines body finish is accepts taken v refers).typed

  module _ (ref : Reference) (at : reference_in (e.line + 1) lines ≡ Some ref) where
    abbrev t : Ty
    t = place_type p s f frame e q fires_now room lines body finish is accepts taken ref at

    of_live : (o : Option Live) → (place_names p s f frame e q fires_now room lines body finish is accepts taken ref at).ref.at ≡ o → (v : Value)
        → IsReferredBy s.objects (place_names p s f frame e q fires_now room lines body finish is accepts taken ref at).ref.elem o v → IsTypedValue p t v
    of_live None live v refers =
        let n = place_names p s f frame e q fires_now room lines body finish is accepts taken ref at in
        subst (IsTypedValue p t) (sym (refers ∙ ap default n.elem_is)) (default_value p t (place_spelled p s f frame e q fires_now room lines body finish is accepts taken ref at))
    of_live (Some l) live v refers =
        let m = cell_there p s f frame e q fires_now room lines body finish is accepts taken ref at l live refers.0 refers.1.0 in
        let same : value_for m.0 l.serial ≡ v = some_is (value_for m.0 l.serial) v (sym (ap (λ c. given_to c l.serial) m.1.0) ∙ refers.1.1) in
        subst (IsTypedValue p t) same (referred_value p l.object t m.0 m.1.1 (place_spelled p s f frame e q fires_now room lines body finish is accepts taken ref at) l.serial)

    referred_typed : (v : Value) → IsReferredAt s.objects (out-Value (value_on h.outer ref.from)) v → IsTypedValue p t v
    referred_typed v refers =
        let n = place_names p s f frame e q fires_now room lines body finish is accepts taken ref at in
        of_live n.ref.at refl v (subst (λ x. IsReferredAt s.objects x v) n.opens refers)

  referred_by : (o : Option Reference) → reference_in (e.line + 1) lines ≡ o → (v : Value) → IsReferred h o v → AllLines (ReferredTyped p vi.types e.diagram v) lines
  referred_by None none v refers = unreferred_typed p vi.types e.diagram v lines (no_references (e.line + 1) lines none)
  referred_by (Some ref) at v refers = (refers_to p s f frame e q fires_now room lines body finish is accepts taken ref at).refers v (referred_typed ref at v refers)

  pub bodies_need : PlaceNeeds h e lines body finish
  bodies_need v refers = by_value v (referred_by (reference_in (e.line + 1) lines) refl v refers)
