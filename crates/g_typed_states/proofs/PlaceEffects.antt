-- The firings of structures in place.
use Rattle.std.proofs.Common.{◌≡◌, ◌⊎◌, inl, inr, ⊎_elim, Bool, true, ℕ, ◌+◌, List, [], ◌∷◌, ◌++◌, Option, Some, None, refl, ap, sym, ◌∙◌, subst}
use Rattle.std.specs.Prelude.{slice_get, is_none}
use Rattle.std.specs.Option.{option_map, option_and_then, unwrap_or}
use Rattle.g_types.specs.declared.ty.Ty.{Ty}
use Rattle.g_types.specs.declared.ty.Ty.TheVariants as ty
use Rattle.g_values.specs.declared.value.Live.{Live}
use Rattle.g_values.specs.declared.value.Value.{Value}
use Rattle.g_values.specs.Coerce.{coerced}
use Rattle.g_values.specs.Default.{default}
use Rattle.g_values.specs.Spelled.{IsSpelled}
use Rattle.g_prims_definitions.specs.Arithmetic.{nothing}
use Rattle.g_diagram.specs.declared.node.Tunnel.{Tunnel}
use Rattle.g_diagram.specs.declared.node.Tunnel.TheVariants as line
use Rattle.g_diagram.specs.Lines.{Entry, InPlace}
use Rattle.g_diagram.specs.Operands.{Inside, Outside}
use Rattle.g_typing.specs.Types.{Types, wire_type, referred, whole}
use Rattle.g_shared.specs.declared.reply.Reply.{Reply}
use Rattle.g_shared.specs.Outcome.{Outcome, reply_of, done as done_code, not_live}
use Rattle.g_shared.specs.Cells.{CellState, new_cell, live_value, Body, in_place, in_place_step}
use Rattle.g_border.specs.declared.place.WireSource.{WireSource}
use Rattle.g_border.specs.Readers.{Reader, Given, has_value, value_on, paired}
use Rattle.g_border.specs.Lines.{entering, lines_inside, Leaving, leaving, lines_outside, values_outside, Reference, reference_in, other_values, other_places}
use Rattle.g_frames.specs.declared.state.Progress.{Progress}
use Rattle.g_frames.specs.declared.state.Frame.{Frame}
use Rattle.g_frames.specs.Contents as content
use Rattle.g_frames.specs.Contents.{Content, Operation, object_step}
use Rattle.g_frames.specs.Program.{FlatVi, Program}
use Rattle.g_frames.specs.State.{FireState, reader_in}
use Rattle.g_frames.specs.Effects.{Effect, guard, Here, after_step}
use Rattle.g_frames.specs.Operations.{serial_of, on_live, no_cell}
use Rattle.g_frames.specs.InPlace.{place_reader, place_body, place_done, item_at, by_place, place_effect}
use Rattle.g_frames.specs.Fire.{here}
use Rattle.g_frames.proofs.RunLemmas.{some_is}
use Rattle.g_typed_states.specs.Places.{Among, later, HasTypeAt, node_places, line_places, lines_places}
use Rattle.g_typed_states.specs.Lines.{IsPlaceLine, AllLines, types_outside, types_in_place, FitsReference, LineFits, LinesFit, LinesOutside, HasOneReference}
use Rattle.g_typed_states.specs.Accepted.{AcceptsPlace}
use Rattle.g_typed_states.specs.Typed.{CellOf, shapes, IsTypedValue, IfTyped, IsTypedReader, IsTypedCell, IsTypedContent, IsTypedFrame}
use Rattle.g_typed_states.proofs.Lists.{and_left, none_is, among_cases, among_head, among_append, among_left, among_right}
use Rattle.g_typed_states.proofs.Values.{default_value}
use Rattle.g_typed_states.proofs.Parts.{referred-ValueRef, spelled_referred}
use Rattle.g_typed_states.proofs.Wires.{AreFine, GivesAt, gives_paired, gives_both, value_typed, value_fine}
use Rattle.g_typed_states.proofs.Inputs.{TakesOf, takes-InPlace, places_of, places-InPlace}
use Rattle.g_typed_states.proofs.LineValues.{HasTaken, IsWhole, ReferredTyped, InnerHas, whole_has, assigned_typed, then_is, place_outside}
use Rattle.g_typed_states.proofs.LineGives.{place_inside_gives, place_outside_gives}
use Rattle.g_typed_states.proofs.Objects.{object_there, shaped_at}
use Rattle.g_typed_states.proofs.Fits.{Fits, waits, fires, IsFit, Fires, accepted_vi, outer_typed, guarded, done_fit, changes_fit, unchanged_fit}
use Rattle.g_typed_states.proofs.Simple.{code_typed, Gave, gave, gave_at, live_cell, kept_set, NamesCell, cell_named, cell_of}
use Rattle.g_typed_states.proofs.BodySteps.{IsNoReference, no_references, unreferred_typed, plain_outside}
use Rattle.g_typed_states.proofs.BodyTurns.{body_whole}

-- ---- the line with the reference

-- the places of lines without a reference are those of the others
plain_places : (l : ℕ) (ts : List Tunnel) → AllLines IsNoReference ts → other_places l ts ≡ lines_places Outside l ts
plain_places l [] none = refl
plain_places l (line.Ref reference inner next same code ∷ ts) none = absurd none.0
plain_places l (line.Tunnel outer inner ∷ ts) none = plain_places (l + 1) ts none.1
plain_places l (line.Register initial inner next last ∷ ts) none = ap (λ ws. line_places Outside l (line.Register initial inner next last) ++ ws) (plain_places (l + 1) ts none.1)
plain_places l (line.Kept t inner next last ∷ ts) none = ap (λ ws. line_places Outside l (line.Kept t inner next last) ++ ws) (plain_places (l + 1) ts none.1)
plain_places l (line.Last inner outer ∷ ts) none = ap (λ ws. line_places Outside l (line.Last inner outer) ++ ws) (plain_places (l + 1) ts none.1)
plain_places l (line.Gather inner outer ∷ ts) none = ap (λ ws. line_places Outside l (line.Gather inner outer) ++ ws) (plain_places (l + 1) ts none.1)
plain_places l (line.Index array inner ∷ ts) none = plain_places (l + 1) ts none.1
plain_places l (line.Result outer default ∷ ts) none = ap (λ ws. line_places Outside l (line.Result outer default) ++ ws) (plain_places (l + 1) ts none.1)
plain_places l (line.Carry earlier inner ∷ ts) none = plain_places (l + 1) ts none.1
plain_places l (line.Element array index inner next outer ∷ ts) none = ap (λ ws. line_places Outside l (line.Element array index inner next outer) ++ ws) (plain_places (l + 1) ts none.1)
plain_places l (line.Field k cluster inner next outer ∷ ts) none = ap (λ ws. line_places Outside l (line.Field k cluster inner next outer) ++ ws) (plain_places (l + 1) ts none.1)

module _ (p : Program) (vi : FlatVi) (d b : ℕ) (outer : Reader) (r : Reference) where
  -- what the line with the reference tells
  pub record RefersBy (l : ℕ) (ts : List Tunnel) : Type 0 where
    pub fits : FitsReference vi.types d b r.from r.next
    pub taken : has_value outer r.from ≡ true
    pub same_at : HasTypeAt vi r.same (wire_type vi.types d r.from)
    pub code_at : HasTypeAt vi r.code (Some whole)
    pub refers : (v : Value) → IsTypedValue p fits.type v → AllLines (ReferredTyped p vi.types d v) ts
    pub places : (w : WireSource) → Among w (lines_places Outside l ts) → (r.same ≡ w) ⊎ ((r.code ≡ w) ⊎ Among w (other_places l ts))

  -- lines before it make no difference
  past : (l : ℕ) (t : Tunnel) (ts : List Tunnel) → ((v : Value) → ReferredTyped p vi.types d v t)
      → ((w : WireSource) → Among w (line_places Outside l t) → Among w (other_places l (t ∷ ts))) → ((w : WireSource) → Among w (other_places (l + 1) ts) → Among w (other_places l (t ∷ ts)))
      → RefersBy (l + 1) ts → RefersBy l (t ∷ ts)
  past l t ts plain here there by = record {
    fits = by.fits;
    taken = by.taken;
    same_at = by.same_at;
    code_at = by.code_at;
    refers = λ v typed. (plain v, by.refers v typed);
    places = λ w at.
        ⊎_elim (λ own. inr (inr (here w own)))
        (λ rest. ⊎_elim (λ s. inl s) (λ more. ⊎_elim (λ c. inr (inl c)) (λ o. inr (inr (there w o))) more) (by.places w rest))
        (among_append w (line_places Outside l t) (lines_places Outside (l + 1) ts) at);
  }

  pub refers_by : (l : ℕ) (ts : List Tunnel) → reference_in l ts ≡ Some r → LinesFit vi.types d b ts → AllLines (HasTaken outer) ts → LinesOutside vi (types_in_place vi.types d b) l ts → HasOneReference ts
      → RefersBy l ts
  refers_by l [] is fits taken have one = absurd (none_is r is)
  refers_by l (line.Ref reference inner next same code ∷ ts) is fits taken have one =
      let own : Reference = record { from = reference; next = next; same = record { line = l; operand = 4 }; code = record { line = l; operand = 5 } } in
      let eq : own ≡ r = some_is own r is in
      let from : reference ≡ r.from = ap (λ (x : Reference). x.from) eq in
      let next_is : next ≡ r.next = ap (λ (x : Reference). x.next) eq in
      let same_is : record { line = l; operand = 4 } ≡ r.same = ap (λ (x : Reference). x.same) eq in
      let code_is : record { line = l; operand = 5 } ≡ r.code = ap (λ (x : Reference). x.code) eq in
      let plain = no_references (l + 1) ts (one (l + 1)) in
      let f : FitsReference vi.types d b r.from r.next = subst (λ (x : Reference). FitsReference vi.types d b x.from x.next) eq fits.0 in
      record {
        fits = f;
        taken = subst (λ w. has_value outer w ≡ true) from (and_left (has_value outer reference) true taken.0);
        same_at = subst (λ (x : Reference). HasTypeAt vi x.same (wire_type vi.types d x.from)) eq have.0.0;
        code_at = subst (λ (x : Reference). HasTypeAt vi x.code (Some whole)) eq have.0.1.0;
        refers = λ v typed. (
          λ t known s.
              let leads = then_is (wire_type vi.types d reference) referred t known in
              subst (λ u. IsTypedValue p u v)
              (some_is f.type t (sym (referred-ValueRef f.type)
              ∙ ap referred (some_is (ty.ValueRef f.type) leads.0 (sym f.known ∙ ap (wire_type vi.types d) (sym from) ∙ leads.1.0)) ∙ leads.1.1)) typed,
          unreferred_typed p vi.types d v ts plain,
        );
        places = λ w at.
            ⊎_elim (λ s. inl (sym same_is ∙ s))
            (λ rest. ⊎_elim (λ c. inr (inl (sym code_is ∙ c))) (λ more. inr (inr (subst (Among w) (sym (plain_places (l + 1) ts plain)) more)))
            (among_cases w (record { line = l; operand = 5 }) (lines_places Outside (l + 1) ts) rest))
            (among_cases w (record { line = l; operand = 4 }) (record { line = l; operand = 5 } ∷ lines_places Outside (l + 1) ts) at);
      }
  refers_by l (line.Tunnel outer_wire inner ∷ ts) is fits taken have one =
      let own = line_places Outside l (line.Tunnel outer_wire inner) in
      past l (line.Tunnel outer_wire inner) ts (λ v. tt) (λ w at. among_left w own (other_places (l + 1) ts) at) (λ w at. among_right w own (other_places (l + 1) ts) at)
      (refers_by (l + 1) ts is fits.1 taken.1 have.1 one)
  refers_by l (line.Register initial inner next last ∷ ts) is fits taken have one =
      let own = line_places Outside l (line.Register initial inner next last) in
      past l (line.Register initial inner next last) ts (λ v. tt) (λ w at. among_left w own (other_places (l + 1) ts) at) (λ w at. among_right w own (other_places (l + 1) ts) at)
      (refers_by (l + 1) ts is fits.1 taken.1 have.1 one)
  refers_by l (line.Kept t inner next last ∷ ts) is fits taken have one =
      let own = line_places Outside l (line.Kept t inner next last) in
      past l (line.Kept t inner next last) ts (λ v. tt) (λ w at. among_left w own (other_places (l + 1) ts) at) (λ w at. among_right w own (other_places (l + 1) ts) at)
      (refers_by (l + 1) ts is fits.1 taken.1 have.1 one)
  refers_by l (line.Last inner outer_wire ∷ ts) is fits taken have one =
      let own = line_places Outside l (line.Last inner outer_wire) in
      past l (line.Last inner outer_wire) ts (λ v. tt) (λ w at. among_left w own (other_places (l + 1) ts) at) (λ w at. among_right w own (other_places (l + 1) ts) at)
      (refers_by (l + 1) ts is fits.1 taken.1 have.1 one)
  refers_by l (line.Gather inner outer_wire ∷ ts) is fits taken have one =
      let own = line_places Outside l (line.Gather inner outer_wire) in
      past l (line.Gather inner outer_wire) ts (λ v. tt) (λ w at. among_left w own (other_places (l + 1) ts) at) (λ w at. among_right w own (other_places (l + 1) ts) at)
      (refers_by (l + 1) ts is fits.1 taken.1 have.1 one)
  refers_by l (line.Index array inner ∷ ts) is fits taken have one =
      let own = line_places Outside l (line.Index array inner) in
      past l (line.Index array inner) ts (λ v. tt) (λ w at. among_left w own (other_places (l + 1) ts) at) (λ w at. among_right w own (other_places (l + 1) ts) at)
      (refers_by (l + 1) ts is fits.1 taken.1 have.1 one)
  refers_by l (line.Result outer_wire default ∷ ts) is fits taken have one =
      let own = line_places Outside l (line.Result outer_wire default) in
      past l (line.Result outer_wire default) ts (λ v. tt) (λ w at. among_left w own (other_places (l + 1) ts) at) (λ w at. among_right w own (other_places (l + 1) ts) at)
      (refers_by (l + 1) ts is fits.1 taken.1 have.1 one)
  refers_by l (line.Carry earlier inner ∷ ts) is fits taken have one =
      let own = line_places Outside l (line.Carry earlier inner) in
      past l (line.Carry earlier inner) ts (λ v. tt) (λ w at. among_left w own (other_places (l + 1) ts) at) (λ w at. among_right w own (other_places (l + 1) ts) at)
      (refers_by (l + 1) ts is fits.1 taken.1 have.1 one)
  refers_by l (line.Element array index inner next outer_wire ∷ ts) is fits taken have one =
      let own = line_places Outside l (line.Element array index inner next outer_wire) in
      past l (line.Element array index inner next outer_wire) ts (λ v. tt) (λ w at. among_left w own (other_places (l + 1) ts) at) (λ w at. among_right w own (other_places (l + 1) ts) at)
      (refers_by (l + 1) ts is fits.1 taken.1 have.1 one)
  refers_by l (line.Field k cluster inner next outer_wire ∷ ts) is fits taken have one =
      let own = line_places Outside l (line.Field k cluster inner next outer_wire) in
      past l (line.Field k cluster inner next outer_wire) ts (λ v. tt) (λ w at. among_left w own (other_places (l + 1) ts) at) (λ w at. among_right w own (other_places (l + 1) ts) at)
      (refers_by (l + 1) ts is fits.1 taken.1 have.1 one)

-- ---- what the other lines give

gives_fewer : (p : Program) (vi : FlatVi) (ws us : List WireSource) (gs : Given) → ((w : WireSource) → Among w us → Among w ws) → GivesAt p vi ws gs → GivesAt p vi us gs
gives_fewer p vi ws us gs within at = record { typed = at.typed; covers = λ d name w place is. at.covers d name w (within w place) is }

module _ (p : Program) (vi : FlatVi) (spelled : (d : ℕ) (name : List ℕ) (t : Ty) → vi.types d name ≡ Some t → IsSpelled t) (d b : ℕ) (outer inner : Reader) (reads : IsTypedReader p (vi.types d) outer)
    (whole_inner : IsWhole p vi.types b inner) (code : WireSource) (code_at : HasTypeAt vi code (Some whole)) (c : Value) (c_typed : IsTypedValue p whole c) where
  abbrev out : Leaving
  out = leaving outer (inner ∷ []) (vi.types b)

  one_fine : (l : ℕ) (t : Tunnel) → IsPlaceLine t → LineFits vi.types d b t → HasTaken outer t → AreFine p (types_outside vi.types d b t) (values_outside out l t)
  one_fine l t form fits taken = place_outside p vi.types d b outer inner out.kept reads whole_inner.typed l t form fits taken (whole_has p vi.types d b inner whole_inner t fits)

  pub others_give : (l : ℕ) (ts : List Tunnel) → AllLines IsPlaceLine ts → LinesFit vi.types d b ts → AllLines (HasTaken outer) ts → LinesOutside vi (types_in_place vi.types d b) l ts
      → GivesAt p vi (other_places l ts ++ code ∷ []) (paired (other_places l ts ++ code ∷ []) (other_values out l ts ++ c ∷ []))
  others_give l [] forms fits taken have =
      gives_paired p vi spelled (code ∷ []) (Some whole ∷ []) (c ∷ []) (code_at, tt) ((λ t is s. subst (λ u. IsTypedValue p u c) (some_is whole t is) c_typed), tt)
  others_give l (line.Tunnel outer_wire inner_wire ∷ ts) forms fits taken have = others_give (l + 1) ts forms.1 fits.1 taken.1 have.1
  others_give l (line.Ref reference inner_wire next same code_wire ∷ ts) forms fits taken have = others_give (l + 1) ts forms.1 fits.1 taken.1 have.1
  others_give l (line.Last inner_wire outer_wire ∷ ts) forms fits taken have =
      let t = line.Last inner_wire outer_wire in
      gives_both p vi (line_places Outside l t) (other_places (l + 1) ts ++ code ∷ []) (paired (line_places Outside l t) (values_outside out l t))
      (paired (other_places (l + 1) ts ++ code ∷ []) (other_values out (l + 1) ts ++ c ∷ []))
      (gives_paired p vi spelled (line_places Outside l t) (types_outside vi.types d b t) (values_outside out l t) have.0 (one_fine l t forms.0 fits.0 taken.0))
      (others_give (l + 1) ts forms.1 fits.1 taken.1 have.1)
  others_give l (line.Element array index inner_wire next outer_wire ∷ ts) forms fits taken have =
      let t = line.Element array index inner_wire next outer_wire in
      gives_both p vi (line_places Outside l t) (other_places (l + 1) ts ++ code ∷ []) (paired (line_places Outside l t) (values_outside out l t))
      (paired (other_places (l + 1) ts ++ code ∷ []) (other_values out (l + 1) ts ++ c ∷ []))
      (gives_paired p vi spelled (line_places Outside l t) (types_outside vi.types d b t) (values_outside out l t) have.0 (one_fine l t forms.0 fits.0 taken.0))
      (others_give (l + 1) ts forms.1 fits.1 taken.1 have.1)
  others_give l (line.Field k cluster inner_wire next outer_wire ∷ ts) forms fits taken have =
      let t = line.Field k cluster inner_wire next outer_wire in
      gives_both p vi (line_places Outside l t) (other_places (l + 1) ts ++ code ∷ []) (paired (line_places Outside l t) (values_outside out l t))
      (paired (other_places (l + 1) ts ++ code ∷ []) (other_values out (l + 1) ts ++ c ∷ []))
      (gives_paired p vi spelled (line_places Outside l t) (types_outside vi.types d b t) (values_outside out l t) have.0 (one_fine l t forms.0 fits.0 taken.0))
      (others_give (l + 1) ts forms.1 fits.1 taken.1 have.1)
  others_give l (line.Register initial inner_wire next last ∷ ts) forms fits taken have = absurd forms.0
  others_give l (line.Kept t inner_wire next last ∷ ts) forms fits taken have = absurd forms.0
  others_give l (line.Gather inner_wire outer_wire ∷ ts) forms fits taken have = absurd forms.0
  others_give l (line.Index array inner_wire ∷ ts) forms fits taken have = absurd forms.0
  others_give l (line.Result outer_wire default_is ∷ ts) forms fits taken have = absurd forms.0
  others_give l (line.Carry earlier inner_wire ∷ ts) forms fits taken have = absurd forms.0

all_whole_has : (p : Program) (types : Types) (d b : ℕ) (r : Reader) → IsWhole p types b r → (ts : List Tunnel) → LinesFit types d b ts → AllLines (InnerHas p types b r) ts
all_whole_has p types d b r is [] fits = tt
all_whole_has p types d b r is (t ∷ ts) fits = (whole_has p types d b r is t fits.0, all_whole_has p types d b r is ts fits.1)

-- ---- the firing

module _ (p : Program) (s : FireState) (f : Frame) (frame : IsTypedFrame p s.frames f) (e : Entry) (q : Progress) (fires_now : Fires p s f frame e q) (room : Bool)
    (lines : List Tunnel) (body finish : ℕ) (is : e.kind ≡ InPlace lines body finish) (accepts : AcceptsPlace frame.vi e lines body finish)
    (taken : TakesOf (reader_in frame.vi f) e (InPlace lines body finish)) where
  abbrev vi : FlatVi
  vi = frame.vi

  abbrev r : Reader
  r = reader_in frame.vi f

  abbrev h : Here
  h = here p room s f frame.vi

  abbrev Fit : Option Effect → Type 0
  Fit o = Fits p s f frame.vi e q o

  spelled : (d : ℕ) (name : List ℕ) (t : Ty) → vi.types d name ≡ Some t → IsSpelled t
  spelled = (accepted_vi p s f frame e q fires_now).spelled

  reads : IsTypedReader p (vi.types e.diagram) r
  reads = outer_typed p s f frame e q fires_now

  lines_taken : AllLines (HasTaken r) lines
  lines_taken = takes-InPlace r e lines body finish taken

  -- the values of the body are typed, by what its reference refers to
  pub inside_gives : (v : Value) → AllLines (ReferredTyped p vi.types e.diagram v) lines
      → GivesAt p vi (lines_places Inside (e.line + 1) lines) (lines_inside (record (entering h.outer) { referred = v }) (e.line + 1) lines)
  inside_gives v refers =
      place_inside_gives p vi spelled e.diagram body (record (entering h.outer) { referred = v }) reads (e.line + 1) lines accepts.forms accepts.fits lines_taken refers accepts.inside

  pub reader_whole : (v : Value) → AllLines (ReferredTyped p vi.types e.diagram v) lines → IsWhole p vi.types body (place_reader h e lines body finish v)
  reader_whole v refers =
      body_whole p vi spelled e lines body finish (accepted_vi p s f frame e q fires_now) accepts.worked_out (lines_inside (record (entering h.outer) { referred = v }) (e.line + 1) lines) (inside_gives v refers)

  node_places_are : node_places e ≡ lines_places Outside (e.line + 1) lines
  node_places_are = ap (places_of e) is ∙ places-InPlace e lines body finish

  -- without a reference
  plain_fit : reference_in (e.line + 1) lines ≡ None → Fit (place_effect h e lines body finish None)
  plain_fit none =
      let plain = no_references (e.line + 1) lines none in
      let inner = reader_whole nothing (unreferred_typed p vi.types e.diagram nothing lines plain) in
      let x = place_reader h e lines body finish nothing in
      fires
      (done_fit p s f frame e q fires_now (lines_outside (leaving h.outer (x ∷ []) (vi.types body)) (e.line + 1) lines)
      (subst (λ ws. GivesAt p vi ws (lines_outside (leaving h.outer (x ∷ []) (vi.types body)) (e.line + 1) lines)) (sym node_places_are)
      (place_outside_gives p vi spelled e.diagram body r x reads inner.typed (e.line + 1) lines accepts.forms accepts.fits lines_taken (all_whole_has p vi.types e.diagram body x inner lines accepts.fits)
      (plain_outside vi e.diagram body (e.line + 1) lines plain accepts.outside))))

  -- by a reference
  module _ (ref : Reference) (at : reference_in (e.line + 1) lines ≡ Some ref) where
    pub by : RefersBy p vi e.diagram body r ref (e.line + 1) lines
    by = refers_by p vi e.diagram body r ref (e.line + 1) lines at accepts.fits lines_taken accepts.outside accepts.one

    abbrev t : Ty
    t = by.fits.type

    pub from_typed : IsTypedValue p (ty.ValueRef t) (value_on h.outer ref.from)
    from_typed = value_typed p vi.types e.diagram r reads ref.from (ty.ValueRef t) by.taken by.fits.known

    pub inner_whole : (v : Value) → IsTypedValue p t v → IsWhole p vi.types body (place_reader h e lines body finish v)
    inner_whole v typed = reader_whole v (by.refers v typed)

    -- the new value
    pub new_typed : (v : Value) (u : Ty) → u ≡ t → IsTypedValue p t v → IsTypedValue p t (place_body h e lines body finish ref.next u v []).0
    new_typed v u same typed =
        subst (λ x. IsTypedValue p t (coerced (value_on (place_reader h e lines body finish v) ref.next) x)) (sym same)
        (assigned_typed p vi.types body (place_reader h e lines body finish v) (inner_whole v typed) ref.next t by.fits.value)

    -- what the firing gives
    reply_fit : (v c : Value) (u : Ty) → IsTypedValue p t v → IsTypedValue p whole c → IsFit p s f vi e q (place_done h e lines ref (reply_of ((place_body h e lines body finish ref.next u v []).1 ++ c ∷ [])))
    reply_fit v c u typed code_typed =
        let x = place_reader h e lines body finish v in
        let places = other_places (e.line + 1) lines ++ ref.code ∷ [] in
        let values = other_values (leaving h.outer (x ∷ []) (vi.types body)) (e.line + 1) lines ++ c ∷ [] in
        let others = others_give p vi spelled e.diagram body r x reads (inner_whole v typed) ref.code by.code_at c code_typed (e.line + 1) lines accepts.forms accepts.fits lines_taken accepts.outside in
        let same = gives_paired p vi spelled (ref.same ∷ []) (wire_type vi.types e.diagram ref.from ∷ []) (value_on r ref.from ∷ []) (by.same_at, tt)
        (value_fine p vi.types e.diagram r reads ref.from by.taken, tt) in
        let all = gives_both p vi (ref.same ∷ []) places ((ref.same, value_on r ref.from) ∷ []) (paired places values) same others in
        done_fit p s f frame e q fires_now ((ref.same, value_on r ref.from) ∷ paired places values)
        (gives_fewer p vi (ref.same ∷ places) (node_places e) ((ref.same, value_on r ref.from) ∷ paired places values)
        (λ w own.
        ⊎_elim (λ eq. among_head w ref.same places eq)
        (λ more. later (⊎_elim (λ eq. among_right w (other_places (e.line + 1) lines) (ref.code ∷ []) (among_head w ref.code [] eq))
        (λ o. among_left w (other_places (e.line + 1) lines) (ref.code ∷ []) o) more))
        (by.places w (subst (Among w) node_places_are own)))
        all)

    -- ---- what the operation gives and leaves

    module _ (k : ℕ) (c : CellState) (cell : IsTypedCell p k t c) (u : Ty) (u_is : u ≡ t) where
      abbrev PlaceGives : List Value → CellState → Type 0
      PlaceGives vs x = IsFit p s f vi e q (place_done h e lines ref (reply_of vs)) × IsTypedCell p k t x

      spells : IsSpelled t
      spells = spelled_referred t (subst IsSpelled from_typed.typed.of_type from_typed.typed.proper.spelled)

      given_default : IsTypedValue p t (default c.content)
      given_default = subst (λ x. IsTypedValue p t (default x)) (sym cell.content_is) (default_value p t spells)

      step_gives : (o : Option Value) → IfTyped p t o → Gave p PlaceGives (in_place c [] (place_body h e lines body finish ref.next u) o)
      step_gives None typed = gave (reply_fit (default c.content) not_live u given_default (code_typed p 1), cell)
      step_gives (Some v) typed =
          gave (reply_fit v done_code u typed (code_typed p 0), kept_set p k t c cell (Some (place_body h e lines body finish ref.next u v []).0) (new_typed v u u_is typed))

      pub place_gives : (n : ℕ) → Gave p PlaceGives (in_place_step c n [] (place_body h e lines body finish ref.next u))
      place_gives n = step_gives (live_value c n) (live_cell p k t c cell n)

    -- ---- on what the reference names

    module _ (n : NamesCell p t (value_on h.outer ref.from)) where
      abbrev effect : Reply → Effect
      effect = place_done h e lines ref

      abbrev u : Ty
      u = n.ref.elem

      abbrev the_body : Body
      the_body = place_body h e lines body finish ref.next n.ref.elem

      abbrev operation : Operation
      operation = content.InPlace (serial_of n.ref.at) []

      null : CellState
      null = new_cell 0 n.ref.elem

      null_typed : IsTypedCell p 0 t (new_cell 0 n.ref.elem)
      null_typed = record { number_is = refl; content_is = n.elem_is; kept = tt }

      after_null : (o : Outcome CellState) → Gave p (PlaceGives 0 (new_cell 0 n.ref.elem) null_typed n.ref.elem n.elem_is) o
          → Fit (after_step None effect (option_map (λ (x : Reply × CellState). (x.0, content.Cell x.1)) o))
      after_null None g = waits
      after_null (Some y) g =
          let given = gave_at p (PlaceGives 0 (new_cell 0 n.ref.elem) null_typed n.ref.elem n.elem_is) (Some y) y g refl in
          fires (unchanged_fit p s f frame e q fires_now (effect y.0) given.0)

      -- on an object
      module _ (k : ℕ) (shape : slice_get (shapes p) k ≡ Some (CellOf t)) (x : CellState) (cell : IsTypedCell p k t x) where
        after_live : (o : Outcome CellState) → Gave p (PlaceGives k x cell n.ref.elem n.elem_is) o → Fit (after_step (Some k) effect (option_map (λ (y : Reply × CellState). (y.0, content.Cell y.1)) o))
        after_live None g = waits
        after_live (Some y) g =
            let given = gave_at p (PlaceGives k x cell n.ref.elem n.elem_is) (Some y) y g refl in
            fires
            (changes_fit p s f frame e q fires_now (effect y.0) k (content.Cell y.1) given.0
            (λ sh is_shape. subst (λ z. IsTypedContent p k z (content.Cell y.1)) (some_is (CellOf t) sh (sym shape ∙ is_shape)) given.1))

      on_content : (k : ℕ) (shape : slice_get (shapes p) k ≡ Some (CellOf t)) (c : Content) → IsTypedContent p k (CellOf t) c → Fit (after_step (Some k) effect (object_step c operation 0 the_body))
      on_content k shape c typed =
          let m = cell_of p k t c typed in
          subst (λ z. Fit (after_step (Some k) effect (object_step z operation 0 the_body))) (sym m.1.0)
          (after_live k shape m.0 m.1.1 (in_place_step m.0 (serial_of n.ref.at) [] the_body) (place_gives k m.0 m.1.1 n.ref.elem n.elem_is (serial_of n.ref.at)))

      live_fit : (o : Option Live) → n.ref.at ≡ o → Fit (on_live h o (no_cell n.ref.elem) operation the_body effect)
      live_fit None none =
          after_null (in_place_step (new_cell 0 n.ref.elem) (serial_of n.ref.at) [] the_body) (place_gives 0 (new_cell 0 n.ref.elem) null_typed n.ref.elem n.elem_is (serial_of n.ref.at))
      live_fit (Some l) some =
          let shape = n.names l some in
          let c = object_there p s.objects l.object (CellOf t) fires_now.state.objects shape in
          subst (λ (y : Option Content). Fit (after_step (Some l.object) effect (object_step (unwrap_or y (no_cell n.ref.elem)) operation 0 the_body))) (sym c.1)
          (on_content l.object shape c.0 (shaped_at p s.objects l.object c.0 (CellOf t) fires_now.state.objects c.1 shape))

    referred_fit : Fit (place_effect h e lines body finish (Some ref))
    referred_fit =
        let n = cell_named p t (value_on h.outer ref.from) from_typed in
        subst (λ l. Fit (option_and_then (λ i. by_place h e lines body finish ref i.0 i.1) (item_at l))) (sym n.opens) (live_fit n n.ref.at refl)

  place_by : (o : Option Reference) → reference_in (e.line + 1) lines ≡ o → Fit (place_effect h e lines body finish o)
  place_by None none = plain_fit none
  place_by (Some ref) at = referred_fit ref at

  pub place_fit : (choice : Option ℕ) → Fit (guard (is_none choice) (place_effect h e lines body finish (reference_in (e.line + 1) lines)))
  place_fit choice =
      guarded p s f frame e q fires_now (is_none choice) (place_effect h e lines body finish (reference_in (e.line + 1) lines)) (λ free. place_by (reference_in (e.line + 1) lines) refl)
