-- What a structure in place needs: what its body makes is of the type of what its reference names, and what it gives is proper.
use Rattle.std.proofs.Common.{◌≡◌, Bool, ℕ, ◌+◌, List, [], ◌∷◌, Option, Some, None, refl, ap, sym, ◌∙◌, subst}
use Rattle.std.specs.Prelude.{slice_get, is_some}
use Rattle.std.specs.List.{All}
use Rattle.std.specs.Option.{unwrap_or}
use Rattle.std.proofs.lemmas.List.Elements.{All-nil, All-cons, All-append}
use Rattle.g_types.specs.declared.ty.Ty.{Ty}
use Rattle.g_types.specs.declared.ty.Ty.TheVariants as ty
use Rattle.g_values.specs.declared.value.Live.{Live}
use Rattle.g_values.specs.declared.value.Value.{Value}
use Rattle.g_values.specs.Default.{default}
use Rattle.g_values.specs.Proper.{IsProper}
use Rattle.g_values.specs.Spelled.{IsSpelled}
use Rattle.g_values.specs.Typed.{IsOfType}
use Rattle.g_diagram.specs.declared.node.Tunnel.{Tunnel}
use Rattle.g_diagram.specs.declared.node.Tunnel.TheVariants as line
use Rattle.g_diagram.specs.Lines.{Wire, Entry, InPlace}
use Rattle.g_typing.specs.Types.{Types, wire_type}
use Rattle.g_shared.specs.Cells.{CellState, live_value}
use Rattle.g_border.specs.Readers.{Reader, value_on}
use Rattle.g_border.specs.Lines.{leaving, values_outside, Reference, reference_in, other_values}
use Rattle.g_frames.specs.declared.state.Progress.{Progress}
use Rattle.g_frames.specs.declared.state.Frame.{Frame}
use Rattle.g_frames.specs.Contents as content
use Rattle.g_frames.specs.Contents.{Content}
use Rattle.g_frames.specs.Program.{FlatVi, Program}
use Rattle.g_frames.specs.State.{FireState, reader_in}
use Rattle.g_frames.specs.Effects.{Here}
use Rattle.g_frames.specs.InPlace.{place_reader, place_body}
use Rattle.g_frames.specs.Fire.{here}
use Rattle.g_refs.specs.Cell.{value_for}
use Rattle.g_effects.specs.Needs.{FitsPlaceOf, FitsPlaceBy, FitsPlace}
use Rattle.g_typed_states.specs.Lines.{IsPlaceLine, IsLastKnown, AllLines, LineFits, LinesFit}
use Rattle.g_typed_states.specs.Accepted.{AcceptsPlace}
use Rattle.g_typed_states.specs.Typed.{CellOf, IsTypedValue, IfTyped, IsTypedReader, IsTypedCell, IsTypedFrame}
use Rattle.g_typed_states.proofs.Lists.{none_is}
use Rattle.g_typed_states.proofs.Values.{default_value}
use Rattle.g_typed_states.proofs.Parts.{spelled_referred}
use Rattle.g_typed_states.proofs.Inputs.{TakesOf, takes-InPlace}
use Rattle.g_typed_states.proofs.LineValues.{HasTaken, IsWhole, whole_has, place_outside}
use Rattle.g_typed_states.proofs.Objects.{object_there, shaped_at}
use Rattle.g_typed_states.proofs.Fits.{Fires, accepted_vi, outer_typed}
use Rattle.g_typed_states.proofs.Simple.{live_cell, NamesCell, cell_named, cell_of}
use Rattle.g_typed_states.proofs.PlaceEffects.{by as refers_to, from_typed, inner_whole, new_typed}
use Rattle.g_typed_needs.proofs.Simple.{cell_content}

-- ---- what lines give

module _ (p : Program) (types : Types) (spelled : (d : ℕ) (name : List ℕ) (t : Ty) → types d name ≡ Some t → IsSpelled t) (d b : ℕ) (outer inner : Reader) (reads : IsTypedReader p (types d) outer)
    (whole_inner : IsWhole p types b inner) where
  spelled_wire : (c : ℕ) (w : Wire) (t : Ty) → wire_type types c w ≡ Some t → IsSpelled t
  spelled_wire c None t known = absurd (none_is t known)
  spelled_wire c (Some name) t known = spelled c name t known

  one_proper : (v : Value) → IsProper v → All IsProper (v ∷ [])
  one_proper v proper = All-cons IsProper v [] proper (All-nil IsProper)

  line_proper : (l : ℕ) (t : Tunnel) → IsPlaceLine t → LineFits types d b t → IsLastKnown types b t → HasTaken outer t
      → All IsProper (values_outside (leaving outer (inner ∷ []) (types b)) l t)
  line_proper l (line.Tunnel outer_wire inner_wire) form fits last taken = All-nil IsProper
  line_proper l (line.Ref reference inner_wire next same code) form fits last taken = All-nil IsProper
  line_proper l (line.Last inner_wire outer_wire) form fits last taken =
      let t = line.Last inner_wire outer_wire in
      let fine = place_outside p types d b outer inner (leaving outer (inner ∷ []) (types b)).kept reads whole_inner.typed l t form fits taken (whole_has p types d b inner whole_inner t fits) in
      one_proper _ (fine.0 last.0 last.1 (spelled_wire b inner_wire last.0 last.1)).typed.proper
  line_proper l (line.Element array index inner_wire next outer_wire) form fits last taken =
      let t = line.Element array index inner_wire next outer_wire in
      let fine = place_outside p types d b outer inner (leaving outer (inner ∷ []) (types b)).kept reads whole_inner.typed l t form fits taken (whole_has p types d b inner whole_inner t fits) in
      one_proper _ (fine.0 (ty.Arr fits.type) fits.known (spelled_wire d array (ty.Arr fits.type) fits.known)).typed.proper
  line_proper l (line.Field k cluster inner_wire next outer_wire) form fits last taken =
      let t = line.Field k cluster inner_wire next outer_wire in
      let fine = place_outside p types d b outer inner (leaving outer (inner ∷ []) (types b)).kept reads whole_inner.typed l t form fits taken (whole_has p types d b inner whole_inner t fits) in
      one_proper _ (fine.0 fits.whole fits.known (spelled_wire d cluster fits.whole fits.known)).typed.proper
  line_proper l (line.Register initial inner_wire next after) form fits last taken = absurd form
  line_proper l (line.Kept t inner_wire next after) form fits last taken = absurd form
  line_proper l (line.Gather inner_wire outer_wire) form fits last taken = absurd form
  line_proper l (line.Index array inner_wire) form fits last taken = absurd form
  line_proper l (line.Result outer_wire default_is) form fits last taken = absurd form
  line_proper l (line.Carry earlier inner_wire) form fits last taken = absurd form

  lines_proper : (l : ℕ) (ts : List Tunnel) → AllLines IsPlaceLine ts → LinesFit types d b ts → AllLines (IsLastKnown types b) ts → AllLines (HasTaken outer) ts
      → All IsProper (other_values (leaving outer (inner ∷ []) (types b)) l ts)
  lines_proper l [] forms fits lasts taken = All-nil IsProper
  lines_proper l (t ∷ ts) forms fits lasts taken =
      All-append IsProper (values_outside (leaving outer (inner ∷ []) (types b)) l t) (other_values (leaving outer (inner ∷ []) (types b)) (l + 1) ts)
      (line_proper l t forms.0 fits.0 lasts.0 taken.0) (lines_proper (l + 1) ts forms.1 fits.1 lasts.1 taken.1)

-- ---- what goes into a body

-- what a reference with a serial refers to, the default where it isn't live
pub referred_value : (p : Program) (k : ℕ) (t : Ty) (c : CellState) → IsTypedCell p k t c → IsSpelled t → (n : ℕ) → IsTypedValue p t (value_for c n)
referred_value p k t c cell spells n = by (live_value c n) (live_cell p k t c cell n)
  where
    by : (o : Option Value) → IfTyped p t o → IsTypedValue p t (unwrap_or o (default c.content))
    by None typed = subst (λ x. IsTypedValue p t (default x)) (sym cell.content_is) (default_value p t spells)
    by (Some v) typed = typed

-- where an object is a value that references name
abbrev IsReferredTo : Program → Ty → (serial : ℕ) → Content → Type 0
IsReferredTo p t n (content.Cell c) = IsTypedValue p t (value_for c n)
IsReferredTo p t n (content.Panel st) = Unit {0}
IsReferredTo p t n (content.Queue x) = Unit {0}
IsReferredTo p t n (content.Pool free) = Unit {0}

module _ (p : Program) (s : FireState) (f : Frame) (frame : IsTypedFrame p s.frames f) (e : Entry) (q : Progress) (fires_now : Fires p s f frame e q) (room : Bool)
    (lines : List Tunnel) (body finish : ℕ) (is : e.kind ≡ InPlace lines body finish) (accepts : AcceptsPlace frame.vi e lines body finish)
    (taken : TakesOf (reader_in frame.vi f) e (InPlace lines body finish)) where
  abbrev vi : FlatVi
  vi = frame.vi

  abbrev r : Reader
  r = reader_in frame.vi f

  abbrev h : Here
  h = here p room s f frame.vi

  module _ (ref : Reference) (at : reference_in (e.line + 1) lines ≡ Some ref) where
    -- what its reference refers to is of this type
    abbrev pub place_type : Ty
    place_type = (refers_to p s f frame e q fires_now room lines body finish is accepts taken ref at).fits.type

    pub place_names : NamesCell p place_type (value_on h.outer ref.from)
    place_names = cell_named p place_type (value_on h.outer ref.from) (from_typed p s f frame e q fires_now room lines body finish is accepts taken ref at)

    pub place_spelled : IsSpelled place_type
    place_spelled =
        let typed = from_typed p s f frame e q fires_now room lines body finish is accepts taken ref at in
        spelled_referred place_type (subst IsSpelled typed.typed.of_type typed.typed.proper.spelled)

    -- the value that it names
    pub cell_there : (l : Live) → place_names.ref.at ≡ Some l → (c : Content) → slice_get s.objects l.object ≡ Some c
        → (x : CellState) × ((c ≡ content.Cell x) × IsTypedCell p l.object place_type x)
    cell_there l live c there =
        cell_of p l.object place_type c (shaped_at p s.objects l.object c (CellOf place_type) fires_now.state.objects there (place_names.names l live))

    value_there : (l : Live) → place_names.ref.at ≡ Some l → (c : CellState) → slice_get s.objects l.object ≡ Some (content.Cell c) → IsTypedValue p place_type (value_for c l.serial)
    value_there l live c there =
        let m = cell_there l live (content.Cell c) there in
        subst (λ (x : Content). IsReferredTo p place_type l.serial x) (sym m.1.0) (referred_value p l.object place_type m.0 m.1.1 place_spelled l.serial)

    content_there : (l : Live) → place_names.ref.at ≡ Some l → (c : CellState) → slice_get s.objects l.object ≡ Some (content.Cell c) → c.content ≡ place_type
    content_there l live c there = let m = cell_there l live (content.Cell c) there in cell_content c m.0 m.1.0 ∙ m.1.1.content_is

    of_live : (l : Live) → place_names.ref.at ≡ Some l → FitsPlaceOf h e lines body finish ref place_names.ref.elem l
    of_live l live = record {
      names = ap is_some (object_there p s.objects l.object (CellOf place_type) fires_now.state.objects (place_names.names l live)).1;
      value = λ c there.
          subst (λ u. IsOfType u (place_body h e lines body finish ref.next place_names.ref.elem (value_for c l.serial) []).0) (sym (content_there l live c there))
          (new_typed p s f frame e q fires_now room lines body finish is accepts taken ref at (value_for c l.serial) place_names.ref.elem place_names.elem_is (value_there l live c there)).typed;
      outputs = λ c there.
          lines_proper p vi.types (accepted_vi p s f frame e q fires_now).spelled e.diagram body r (place_reader h e lines body finish (value_for c l.serial)) (outer_typed p s f frame e q fires_now)
          (inner_whole p s f frame e q fires_now room lines body finish is accepts taken ref at (value_for c l.serial) (value_there l live c there)) (e.line + 1) lines accepts.forms accepts.fits
          accepts.lasts (takes-InPlace r e lines body finish taken);
    }

  place_by : (o : Option Reference) → reference_in (e.line + 1) lines ≡ o → FitsPlace h e lines body finish o
  place_by None none = tt
  place_by (Some ref) at = subst (FitsPlaceBy h e lines body finish ref) (sym (place_names ref at).opens) (of_live ref at)

  pub place_need : FitsPlace h e lines body finish (reference_in (e.line + 1) lines)
  place_need = place_by (reference_in (e.line + 1) lines) refl
