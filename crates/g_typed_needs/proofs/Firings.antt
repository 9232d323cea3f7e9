-- A node of a typed state that has its inputs has what its firing needs.
use Rattle.std.proofs.Common.{◌≡◌, Bool, true, ℕ, List, Some, refl, sym, ◌∙◌, subst}
use Rattle.g_diagram.specs.declared.node.Tunnel.{Tunnel}
use Rattle.g_diagram.specs.Lines.{Entry, Kind, Const, Apply, Shows, Shared, Obtain, Read, Write, Call, Loop, Case, Sequence, InPlace}
use Rattle.g_frames.specs.declared.state.Progress.{Progress}
use Rattle.g_frames.specs.declared.state.Frame.{Frame}
use Rattle.g_frames.specs.Program.{Program}
use Rattle.g_frames.specs.State.{FireState, nodes_in, reader_in}
use Rattle.g_frames.specs.Effects.{Here}
use Rattle.g_frames.specs.Fire.{here, has_inputs, node_on}
use Rattle.g_frames.proofs.RunLemmas.{some_is}
use Rattle.g_effects.specs.Needs.{Needs}
use Rattle.g_needs.specs.Bodies.{PlaceNeeds}
use Rattle.g_needs.specs.Firings.{NodeNeeds, HasNeeds}
use Rattle.g_typed_states.specs.Accepted.{AcceptsKind, HasInSpace, IsAccepted}
use Rattle.g_typed_states.specs.Typed.{IsTypedFrame, IsTypedState}
use Rattle.g_typed_states.proofs.Inputs.{TakesOf}
use Rattle.g_typed_states.proofs.Frames.{node_among}
use Rattle.g_typed_states.proofs.Fits.{Fires, accepts, in_space}
use Rattle.g_typed_needs.proofs.Simple.{apply_need, shows_need, write_need, call_need, shared_need}
use Rattle.g_typed_needs.proofs.Places.{place_need}
use Rattle.g_typed_needs.proofs.Turns.{bodies_need}

module _ (p : Program) (s : FireState) (f : Frame) (frame : IsTypedFrame p s.frames f) (e : Entry) (q : Progress) (fires_now : Fires p s f frame e q) (room : Bool) where
  abbrev h : Here
  h = here p room s f frame.vi

  kind_need : (kind : Kind) → e.kind ≡ kind → AcceptsKind p frame.vi e kind → HasInSpace p f.space frame.vi.types e kind → TakesOf (reader_in frame.vi f) e kind → Needs h e kind
  kind_need (Const t literal out) is accepted space taken = tt
  kind_need (Apply op inputs outputs) is accepted space taken = apply_need p s f frame e q fires_now room op inputs outputs accepted taken
  kind_need (Shows name t w) is accepted space taken = shows_need p s f frame e q fires_now room name t w accepted taken
  kind_need (Shared op inputs outputs) is accepted space taken = shared_need p s f frame e q fires_now room op inputs outputs accepted taken space
  kind_need (Obtain name size item out) is accepted space taken = tt
  kind_need (Read name out) is accepted space taken = tt
  kind_need (Write name w) is accepted space taken = write_need p s f frame e q fires_now room name w accepted taken
  kind_need (Call name inputs outputs) is accepted space taken = call_need p s f frame e q fires_now room name inputs outputs accepted taken
  kind_need (Loop count stop i lines body) is accepted space taken = tt
  kind_need (Case selector lines arms) is accepted space taken = tt
  kind_need (Sequence parts) is accepted space taken = tt
  kind_need (InPlace lines body finish) is accepted space taken = place_need p s f frame e q fires_now room lines body finish is accepted taken

  body_need : (lines : List Tunnel) (body finish : ℕ) → e.kind ≡ InPlace lines body finish → PlaceNeeds h e lines body finish
  body_need lines body finish is =
      bodies_need p s f frame e q fires_now room lines body finish is (subst (AcceptsKind p frame.vi e) is (accepts p s f frame e q fires_now))
      (subst (TakesOf (reader_in frame.vi f) e) is fires_now.taken)

  node_need : NodeNeeds (here p room s f frame.vi) e
  node_need = record {
    kind = kind_need e.kind refl (accepts p s f frame e q fires_now) (in_space p s f frame e q fires_now) fires_now.taken;
    body = body_need;
  }

in_frame : (p : Program) (s : FireState) → IsAccepted p → IsTypedState p s → (room : Bool) (f : Frame) (frame : IsTypedFrame p s.frames f) (line : ℕ) (e : Entry) (q : Progress)
    → node_on line (nodes_in frame.vi f.diagram) f.nodes ≡ Some (e, q) → has_inputs (reader_in frame.vi f) e ≡ true → NodeNeeds (here p room s f frame.vi) e
in_frame p s accepted state room f frame line e q on has =
    let m = node_among p s.frames frame.vi f line (nodes_in frame.vi f.diagram) f.nodes (e, q) frame.nodes on in
    node_need p s f frame e q (record { accepted = accepted; state = state; stands = m.0; node = m.1; taken = has }) room

pub firings_need : (p : Program) (s : FireState) (frame line : ℕ) → IsAccepted p → IsTypedState p s → HasNeeds p s frame line
firings_need p s number line accepted state room f vi e q at is on has =
    let frame = state.frames number f at in
    let same : frame.vi ≡ vi = some_is frame.vi vi (sym frame.is ∙ is) in
    subst (λ x. node_on line (nodes_in x f.diagram) f.nodes ≡ Some (e, q) → has_inputs (reader_in x f) e ≡ true → NodeNeeds (here p room s f x) e) same
    (in_frame p s accepted state room f frame line e q) on has
