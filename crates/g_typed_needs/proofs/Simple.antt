-- What nodes need that are done at once: primitives, panels, queues, references and calls.
use Rattle.std.proofs.Common.{◌≡◌, Bool, true, ◌&&◌, ℕ, List, map, Option, Some, None, refl, ap, sym, ◌∙◌, subst}
use Rattle.std.specs.Prelude.{slice_get, is_some, ◌==◌}
use Rattle.std.specs.List.{All}
use Rattle.g_types.specs.declared.ty.Ty.{Ty}
use Rattle.g_types.specs.declared.ty.Ty.TheVariants as ty
use Rattle.g_values.specs.declared.primitive.Primitive.{Primitive}
use Rattle.g_values.specs.declared.value.Live.{Live}
use Rattle.g_values.specs.declared.value.Value.{Value, out-Value}
use Rattle.g_values.specs.declared.value.Value.TheOpen.{Value-F}
use Rattle.g_values.specs.declared.value.Value.TheVariants as value
use Rattle.g_values.specs.declared.value.Value.TheViews.{roll-Value, roll-out-Value}
use Rattle.g_values.specs.Coerce.{coerced}
use Rattle.g_values.specs.Proper.{IsProper}
use Rattle.g_values.specs.Typed.{IsOfType}
use Rattle.g_values.specs.Value.{type_of}
use Rattle.g_values.proofs.TypesOf.{type-Queue, type-Cell}
use Rattle.g_prims_definitions.specs.Rows.{row_of}
use Rattle.g_operations.specs.declared.shared.SharedOp.{SharedOp}
use Rattle.g_operations.specs.declared.shared.SharedOp.TheVariants as shared
use Rattle.g_diagram.specs.Lines.{Wire, Entry, Apply, Shows, Shared, Write, Call}
use Rattle.g_typing.specs.Types.{Types, wire_type, wire_types, wire_at, queued}
use Rattle.g_typing.specs.Typing.{panel_type, control_types}
use Rattle.g_reference_laws.specs.References.{HoldsOnly}
use Rattle.g_shared.specs.Queues.{QueueState}
use Rattle.g_shared.specs.Cells.{CellState}
use Rattle.g_border.specs.Readers.{Reader, has_value, value_on}
use Rattle.g_border.specs.Cases.{coerced_to}
use Rattle.g_frames.specs.declared.state.Progress.{Progress}
use Rattle.g_frames.specs.declared.state.Frame.{Frame}
use Rattle.g_frames.specs.Contents as content
use Rattle.g_frames.specs.Contents.{Content}
use Rattle.g_frames.specs.Program.{FlatVi, Program, numbered, cell_object, place_where}
use Rattle.g_frames.specs.Panels.{arguments}
use Rattle.g_frames.specs.State.{FireState, reader_in}
use Rattle.g_frames.specs.Effects.{Here}
use Rattle.g_frames.specs.Operations.{input_at}
use Rattle.g_frames.specs.Fire.{here}
use Rattle.g_frames.proofs.RunLemmas.{some_is}
use Rattle.g_effects.specs.Needs.{FitsPrimitive, NamesObject, NamesObjectIn, FitsQueue, FitsCell, FitsShared, FitsCall}
use Rattle.g_typed_states.specs.Accepted.{AcceptsApply, AcceptsWrite, AcceptsShared, AcceptsLocal, AcceptsCall, HasShared, HasCell}
use Rattle.g_typed_states.specs.Typed.{QueueOf, CellOf, IsNamed, IsTypedValue, IsTypedReader, IsTypedFrame}
use Rattle.g_typed_states.proofs.Lists.{and_left, is_there}
use Rattle.g_typed_states.proofs.Values.{coerced_value, all_proper, all_of_types}
use Rattle.g_typed_states.proofs.Parts.{queue_is}
use Rattle.g_typed_states.proofs.Wires.{value_typed, values_typed}
use Rattle.g_typed_states.proofs.Inputs.{HaveValues, TakesOf, inputs_taken, takes-Call}
use Rattle.g_typed_states.proofs.Objects.{object_there, shaped_at, cell_at_place}
use Rattle.g_typed_states.proofs.Fits.{Fires, outer_typed, input_typed}
use Rattle.g_typed_states.proofs.Simple.{NamesQueue, queue_named, cell_named, queue_of, cell_of}
use Rattle.g_typed_states.proofs.Calls.{arguments_typed}

-- a primitive's inputs, where they have values in a typed reader
pub primitive_fits : (p : Program) (types : Types) (d : ℕ) (r : Reader) → IsTypedReader p (types d) r → (op : Primitive) (inputs : List Wire) (takes gives : List Ty) → HaveValues r inputs
    → wire_types types d inputs ≡ Some takes → row_of op takes ≡ Some gives → FitsPrimitive op (map (value_on r) inputs)
primitive_fits p types d r reads op inputs takes gives has known row =
    let are = values_typed p types d r reads inputs takes has known in
    let vs = map (value_on r) inputs in
    record {
      proper = all_proper p takes vs are;
      row = ap is_some (ap (row_of op) (all_of_types p takes vs are) ∙ row);
    }

queue_item : (x y : QueueState) → content.Queue x ≡ content.Queue y → x.item ≡ y.item
queue_item x y same = cc

pub cell_content : (x y : CellState) → content.Cell x ≡ content.Cell y → x.content ≡ y.content
cell_content x y same = cc

module _ (p : Program) (s : FireState) (f : Frame) (frame : IsTypedFrame p s.frames f) (e : Entry) (q : Progress) (fires_now : Fires p s f frame e q) (room : Bool) where
  abbrev vi : FlatVi
  vi = frame.vi

  abbrev r : Reader
  r = reader_in frame.vi f

  abbrev h : Here
  h = here p room s f frame.vi

  pub apply_need : (op : Primitive) (inputs outputs : List Wire) → AcceptsApply vi e op inputs → TakesOf r e (Apply op inputs outputs) → FitsPrimitive op (map (value_on r) inputs)
  apply_need op inputs outputs accepts taken =
      primitive_fits p vi.types e.diagram r (outer_typed p s f frame e q fires_now) op inputs accepts.takes accepts.gives (inputs_taken r inputs outputs taken) accepts.known accepts.row

  written : (name : List ℕ) (t : Ty) (w : Wire) → AcceptsWrite vi e name t w → has_value r w ≡ true → IsTypedValue p t (coerced (value_on r w) t)
  written name t w accepts has =
      coerced_value p accepts.value.type t (value_on r w)
      (value_typed p vi.types e.diagram r (outer_typed p s f frame e q fires_now) w accepts.value.type has accepts.value.known) accepts.value.fits

  pub shows_need : (name : List ℕ) (t : Ty) (w : Wire) → AcceptsWrite vi e name t w → TakesOf r e (Shows name t w) → IsProper (coerced (value_on r w) t)
  shows_need name t w accepts taken = (written name t w accepts (and_left (has_value r w) true taken)).typed.proper

  pub write_need : (name : List ℕ) (w : Wire) → AcceptsLocal vi e name w → TakesOf r e (Write name w) → IsProper (coerced_to (panel_type vi.panel name) (value_on r w))
  write_need name w accepts taken =
      subst (λ o. IsProper (coerced_to o (value_on r w))) (sym accepts.is) (written name accepts.type w accepts.writes (and_left (has_value r w) true taken)).typed.proper

  pub call_need : (name : List ℕ) (inputs outputs : List Wire) → AcceptsCall p vi e name inputs → TakesOf r e (Call name inputs outputs) → FitsCall h name inputs
  call_need name inputs outputs accepts taken called at =
      let same : accepts.called ≡ called = some_is accepts.called called (sym accepts.is ∙ at) in
      let accepted = fires_now.accepted.vis (numbered p.vis name) accepts.called accepts.is in
      subst (λ (x : FlatVi). All IsProper (arguments r inputs x.panel)) same
      (all_proper p (control_types accepts.called.panel) (arguments r inputs accepts.called.panel)
      (arguments_typed p vi.types e.diagram r (outer_typed p s f frame e q fires_now) inputs accepts.called.panel accepted.panel accepts.inputs_fit (takes-Call r e name inputs outputs taken)))

  -- ---- queues and references

  names_live : (o : Option Live) → ((l : Live) → o ≡ Some l → (c : Content) × (slice_get s.objects l.object ≡ Some c)) → NamesObject s.objects o
  names_live None there = tt
  names_live (Some l) there = ap is_some (there l refl).1

  queue_names : (item : Ty) (v : Value) → IsTypedValue p (ty.QueueRef item) v → NamesObjectIn s.objects (out-Value v)
  queue_names item v is =
      let n = queue_named p item v is in
      subst (NamesObjectIn s.objects) (sym n.opens) (names_live n.ref.at (λ l at. object_there p s.objects l.object (QueueOf item) fires_now.state.objects (n.names l at)))

  cell_names : (t : Ty) (v : Value) → IsTypedValue p (ty.ValueRef t) v → NamesObjectIn s.objects (out-Value v)
  cell_names t v is =
      let n = cell_named p t v is in
      subst (NamesObjectIn s.objects) (sym n.opens) (names_live n.ref.at (λ l at. object_there p s.objects l.object (CellOf t) fires_now.state.objects (n.names l at)))

  -- whatever a typed value is
  names_at : (v : Value) (k : Value-F Value) → out-Value v ≡ k → IsProper v → HoldsOnly (IsNamed p) v → NamesObjectIn s.objects k
  names_at v (Value-F.Queue x) opens proper named =
      let same : v ≡ value.Queue x = sym (roll-out-Value v) ∙ ap roll-Value opens ∙ value.rolls-Queue x in
      subst (NamesObjectIn s.objects) opens (queue_names x.elem v (record { typed = record { proper = proper; of_type = ap type_of same ∙ type-Queue x }; named = named }))
  names_at v (Value-F.Cell x) opens proper named =
      let same : v ≡ value.Cell x = sym (roll-out-Value v) ∙ ap roll-Value opens ∙ value.rolls-Cell x in
      subst (NamesObjectIn s.objects) opens (cell_names x.elem v (record { typed = record { proper = proper; of_type = ap type_of same ∙ type-Cell x }; named = named }))
  names_at v (Value-F.Num x) opens proper named = tt
  names_at v (Value-F.Bool x) opens proper named = tt
  names_at v (Value-F.Str x) opens proper named = tt
  names_at v (Value-F.Nums x) opens proper named = tt
  names_at v (Value-F.Arr x) opens proper named = tt
  names_at v (Value-F.Cluster x) opens proper named = tt

  typed_names : (t : Ty) (v : Value) → IsTypedValue p t v → NamesObjectIn s.objects (out-Value v)
  typed_names t v is = names_at v (out-Value v) refl is.typed.proper is.named

  -- what is put into a queue
  put_fits : (item : Ty) (v w : Value) → IsTypedValue p (ty.QueueRef item) v → IsTypedValue p item (coerced w item) → FitsQueue s.objects w (out-Value v)
  put_fits item v w is new = subst (FitsQueue s.objects w) (sym n.opens) put
    where
      n : NamesQueue p item v
      n = queue_named p item v is

      put : FitsQueue s.objects w (Value-F.Queue n.ref)
      put l x at object =
          let shape = n.names l at in
          let m = queue_of p l.object item (content.Queue x) (shaped_at p s.objects l.object (content.Queue x) (QueueOf item) fires_now.state.objects object shape) in
          let item_is : x.item ≡ item = queue_item x m.0 m.1.0 ∙ m.1.1.item_is in
          subst (λ t. IsOfType t (coerced w n.ref.elem)) (sym item_is) (subst (λ t. IsOfType item (coerced w t)) (sym n.elem_is) new.typed)

  module _ (inputs : List Wire) (has : HaveValues r inputs) where
    abbrev vs : List Value
    vs = map (value_on r) inputs

    first_value : (t : Ty) → wire_type vi.types e.diagram (wire_at inputs 0) ≡ Some t → IsTypedValue p t (input_at vs 0)
    first_value t known = input_typed p s f frame e q fires_now inputs 0 t has known

    queue_first : (first item : Ty) → wire_type vi.types e.diagram (wire_at inputs 0) ≡ Some first → queued first ≡ Some item → IsTypedValue p (ty.QueueRef item) (input_at vs 0)
    queue_first first item known is = subst (λ t. IsTypedValue p t (input_at vs 0)) (queue_is first item is) (first_value first known)

    -- what an enqueue puts in
    enqueue_fits : AcceptsShared vi e shared.Enqueue inputs → FitsQueue s.objects (input_at vs 1) (out-Value (input_at vs 0))
    enqueue_fits accepts =
        let item = is_there (queued accepts.first) accepts.fits in
        let put = accepts.put item.0 item.1 in
        put_fits item.0 (input_at vs 0) (input_at vs 1) (queue_first accepts.first item.0 accepts.known item.1)
        (coerced_value p put.type item.0 (input_at vs 1) (input_typed p s f frame e q fires_now inputs 1 put.type has put.known) put.fits)

    -- what a new reference refers to
    makes_fits : HasCell p f.space vi.types e (wire_at inputs 0) → FitsCell h e.line (input_at vs 0)
    makes_fits space c at =
        let k = cell_object p f.space e.line in
        let t = space.cell.content in
        let shape = cell_at_place p (place_where (λ x. (x.space == f.space) && (x.line == e.line)) p.cells) space.cell space.is in
        let m = cell_of p k t (content.Cell c) (shaped_at p s.objects k (content.Cell c) (CellOf t) fires_now.state.objects at shape) in
        subst (λ u. IsOfType u (input_at vs 0)) (sym (cell_content c m.0 m.1.0 ∙ m.1.1.content_is)) (first_value t space.type).typed

    names_first : (op : SharedOp) → AcceptsShared vi e op inputs → NamesObjectIn s.objects (out-Value (input_at vs 0))
    names_first op accepts = typed_names accepts.first (input_at vs 0) (first_value accepts.first accepts.known)

    shared_by : (op : SharedOp) → AcceptsShared vi e op inputs → HasShared p f.space vi.types e op inputs → FitsShared h e.line op vs
    shared_by shared.Enqueue accepts space =
        record { names = names_first shared.Enqueue accepts; queue = λ is. enqueue_fits accepts; cell = λ is. absurd (cc is) }
    shared_by shared.NewRef accepts space =
        record { names = names_first shared.NewRef accepts; queue = λ is. absurd (cc is); cell = λ is. makes_fits space }
    shared_by shared.Dequeue accepts space =
        record { names = names_first shared.Dequeue accepts; queue = λ is. absurd (cc is); cell = λ is. absurd (cc is) }
    shared_by shared.Release accepts space =
        record { names = names_first shared.Release accepts; queue = λ is. absurd (cc is); cell = λ is. absurd (cc is) }
    shared_by shared.Size accepts space =
        record { names = names_first shared.Size accepts; queue = λ is. absurd (cc is); cell = λ is. absurd (cc is) }
    shared_by shared.DelRef accepts space =
        record { names = names_first shared.DelRef accepts; queue = λ is. absurd (cc is); cell = λ is. absurd (cc is) }

  pub shared_need : (op : SharedOp) (inputs outputs : List Wire) → AcceptsShared vi e op inputs → TakesOf r e (Shared op inputs outputs) → HasShared p f.space vi.types e op inputs
      → FitsShared h e.line op (map (value_on r) inputs)
  shared_need op inputs outputs accepts taken space = shared_by inputs (inputs_taken r inputs outputs taken) op accepts space
