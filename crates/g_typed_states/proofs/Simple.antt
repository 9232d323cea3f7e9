-- The firings of nodes that are done at once: constants, primitives, panels, queues and references.
use Rattle.std.proofs.Common.{◌≡◌, Bool, true, false, ◌&&◌, ℕ, ◌<◌, List, [], ◌∷◌, ◌++◌, map, length, Option, Some, None, arith, refl, ap, sym, ◌∙◌, subst}
use Rattle.std.specs.Prelude.{pos, negsuc, slice_get, is_some, is_none, ◌==◌, if◌then◌else◌}
use Rattle.std.specs.List.{All}
use Rattle.std.specs.Option.{option_map, option_and_then, unwrap_or}
use Rattle.std.proofs.lemmas.List.Elements.{All-nil, All-cons, All-head}
use Rattle.g_types.specs.Ty.{depth}
use Rattle.g_types.specs.declared.rep.Rep.TheVariants.{I32}
use Rattle.g_types.specs.declared.ty.Ty.{Ty}
use Rattle.g_types.specs.declared.ty.Ty.TheVariants as ty
use Rattle.g_types.proofs.Depths.{depth-QueueRef, depth-ValueRef}
use Rattle.g_values.specs.declared.primitive.Primitive.{Primitive}
use Rattle.g_values.specs.declared.value.Live.{Live}
use Rattle.g_values.specs.declared.value.RefValue.{RefValue}
use Rattle.g_values.specs.declared.value.Value.{Value, out-Value}
use Rattle.g_values.specs.declared.value.Value.TheOpen.{Value-F}
use Rattle.g_values.specs.Coerce.{coerced}
use Rattle.g_values.specs.Default.{default}
use Rattle.g_values.specs.Spelled.{IsSpelled}
use Rattle.g_values.proofs.ProperParts.{proper_queue, proper_cell}
use Rattle.g_values.proofs.TypesOf.{type-Queue, type-Cell}
use Rattle.g_prims_definitions.specs.Values.{outputs_of}
use Rattle.g_operations.specs.declared.shared.SharedOp.{SharedOp}
use Rattle.g_operations.specs.declared.shared.SharedOp.TheVariants as shared
use Rattle.g_diagram.specs.declared.panel.Lit.{Lit}
use Rattle.g_diagram.specs.Lines.{Wire, Entry, Apply, Shows, Shared, Write}
use Rattle.g_literals.specs.Values.{literal_value}
use Rattle.g_typing.specs.Types.{wire_type, wire_at, queued, referred, whole}
use Rattle.g_typing.specs.Typing.{panel_type, control_types, indicator_types, shared_types, with_code}
use Rattle.g_reference_laws.specs.References.{reference, references_of}
use Rattle.g_reference_laws.proofs.Held.{references-Queue, references-Cell}
use Rattle.g_shared.specs.declared.operations.PanelOp.{PanelOp}
use Rattle.g_shared.specs.declared.operations.PanelOp.TheVariants as panel
use Rattle.g_shared.specs.declared.operations.QueueOp.{QueueOp}
use Rattle.g_shared.specs.declared.operations.QueueOp.TheVariants as queue
use Rattle.g_shared.specs.declared.operations.RefOp.TheVariants as ref
use Rattle.g_shared.specs.declared.reply.Reply.{Reply}
use Rattle.g_shared.specs.Outcome.{Outcome, reply_of, count}
use Rattle.g_shared.specs.Panels.{PanelState, panel_step, cell_at, with_cell, as_list}
use Rattle.g_shared.specs.Queues.{QueueState, new_queue, queue_ref, queue_step, obtain, enqueue, dequeue, release, queue_size, add, made_live, with_items, live_items, is_full}
use Rattle.g_shared.specs.Cells.{CellState, new_cell, cell_ref, cell_step, delete, made, keeping, live_value}
use Rattle.g_border.specs.Readers.{Reader, has_value, value_on, outputs_given, paired}
use Rattle.g_border.specs.Cases.{coerced_to}
use Rattle.g_frames.specs.declared.state.Progress.{Progress}
use Rattle.g_frames.specs.declared.state.Progress.TheVariants as progress
use Rattle.g_frames.specs.declared.state.Frame.{Frame}
use Rattle.g_frames.specs.Contents as content
use Rattle.g_frames.specs.Contents.{Content, Operation, OnPanel, OnQueue, OnCell, object_step}
use Rattle.g_frames.specs.Program.{FlatVi, Program, queue_object, cell_object, panel_object, place_where}
use Rattle.g_frames.specs.Panels.{cell_number}
use Rattle.g_frames.specs.State.{FireState, reader_in}
use Rattle.g_frames.specs.Effects.{Effect, gives, guard, Here, after_step, no_body, on_object}
use Rattle.g_frames.specs.Operations.{done, on_own_panel, serial_of, on_live, no_queue, no_cell, input_at, queue_operation, by_reference, shared_effect}
use Rattle.g_frames.specs.Fire.{here}
use Rattle.g_frames.proofs.RunLemmas.{some_is}
use Rattle.g_typed_states.specs.Places.{HaveTypes, node_places}
use Rattle.g_typed_states.specs.Accepted.{AcceptsConst, AcceptsApply, AcceptsWrite, AcceptsShared, AcceptsObtain, AcceptsRead, AcceptsLocal, HasShared, HasQueue, HasCell}
use Rattle.g_typed_states.specs.Typed.{Shape, QueueOf, CellOf, PanelOf, PoolOf, reference_to, shapes, IsNamed, IsTypedValue, AreTyped, AllTyped, IfTyped, IfAllTyped, IsTypedQueue, IsTypedCell, IsTypedPanel, IsTypedContent, IsTypedFrame}
use Rattle.g_typed_states.proofs.Lists.{and_left, none_is, is_there, among_at}
use Rattle.g_typed_states.proofs.Values.{coerced_value, default_value, literal_typed, number_value, outputs_typed, all_typed_push}
use Rattle.g_typed_states.proofs.Parts.{queue_is, cell_is, queued-QueueRef, referred-ValueRef, spelled_queued, spelled_referred, queue_value, cell_value}
use Rattle.g_typed_states.proofs.Wires.{GivesAt, are_fine, gives_paired, gives_none, values_typed, value_typed}
use Rattle.g_typed_states.proofs.Inputs.{HaveValues, TakesOf, places_of, inputs_taken}
use Rattle.g_typed_states.proofs.Objects.{object_there, shaped_at, queue_at, cell_at_place, cell_typed, cell_set}
use Rattle.g_typed_states.proofs.Fits.{Fits, waits, fires, IsFit, Fires, StepFits, accepted_vi, outer_typed, guarded, done_fit, changes_fit, unchanged_fit, on_object_fit, input_typed, panel_typed, panel_after}

-- ---- what queues and cells give

module _ (p : Program) where
  pub code_typed : (n : ℕ) → IsTypedValue p whole (count n)
  code_typed n = number_value p I32 (pos n)

  named_one : (t : Ty) (l : Live) → IsNamed p (record { kind = t; at = l }) → All (IsNamed p) (reference t (Some l))
  named_one t l is = All-cons (IsNamed p) (record { kind = t; at = l }) [] is (All-nil (IsNamed p))

  pub queue_ref_typed : (k : ℕ) (item : Ty) (q : QueueState) → IsSpelled (ty.QueueRef item) → slice_get (shapes p) k ≡ Some (QueueOf item) → q.object ≡ k → q.item ≡ item
      → IsTypedValue p (ty.QueueRef item) (queue_ref q)
  queue_ref_typed k item q s at number item_is =
      let r : RefValue = record { elem = q.item; at = Some (record { object = q.object; serial = q.serial }) } in
      let spelled : IsSpelled (ty.QueueRef q.item) = subst (λ t. IsSpelled (ty.QueueRef t)) (sym item_is) s in
      record {
        typed = record { proper = proper_queue r (below q.item spelled) (spelled_queued q.item spelled); of_type = type-Queue r ∙ ap ty.QueueRef item_is };
        named = subst (All (IsNamed p)) (sym (references-Queue r))
            (named_one (ty.QueueRef q.item) (record { object = q.object; serial = q.serial })
            (ap (λ n. option_and_then reference_to (slice_get (shapes p) n)) number ∙ ap (option_and_then reference_to) at ∙ ap (λ t. Some (ty.QueueRef t)) (sym item_is)));
      }
    where
      below : (t : Ty) → IsSpelled (ty.QueueRef t) → depth t < 8
      below t s = let d = depth-QueueRef t in let few = s.shallow in omega arith

  pub cell_ref_typed : (k : ℕ) (t : Ty) (c : CellState) → IsSpelled (ty.ValueRef t) → slice_get (shapes p) k ≡ Some (CellOf t) → c.object ≡ k → c.content ≡ t
      → IsTypedValue p (ty.ValueRef t) (cell_ref c)
  cell_ref_typed k t c s at number content_is =
      let r : RefValue = record { elem = c.content; at = Some (record { object = c.object; serial = c.serial }) } in
      let spelled : IsSpelled (ty.ValueRef c.content) = subst (λ u. IsSpelled (ty.ValueRef u)) (sym content_is) s in
      record {
        typed = record { proper = proper_cell r (below c.content spelled) (spelled_referred c.content spelled); of_type = type-Cell r ∙ ap ty.ValueRef content_is };
        named = subst (All (IsNamed p)) (sym (references-Cell r))
            (named_one (ty.ValueRef c.content) (record { object = c.object; serial = c.serial })
            (ap (λ n. option_and_then reference_to (slice_get (shapes p) n)) number ∙ ap (option_and_then reference_to) at ∙ ap (λ u. Some (ty.ValueRef u)) (sym content_is)));
      }
    where
      below : (t : Ty) → IsSpelled (ty.ValueRef t) → depth t < 8
      below t s = let d = depth-ValueRef t in let few = s.shallow in omega arith

  -- what an operation on a queue gives, by the types of its values, and that the queue stays typed
  pub record QueueAfter (k : ℕ) (item : Ty) (outs : List Ty) (r : Reply × QueueState) : Type 0 where
    pub reply : AreTyped p outs r.0.values
    pub queue : IsTypedQueue p k item r.1

  abbrev pub queue_outs : (item : Ty) → QueueOp → List Ty
  queue_outs item queue.Obtain = ty.QueueRef item ∷ []
  queue_outs item (queue.Enqueue n v) = whole ∷ []
  queue_outs item (queue.Dequeue n) = item ∷ whole ∷ []
  queue_outs item (queue.Release n) = whole ∷ []
  queue_outs item (queue.Size n) = whole ∷ whole ∷ []

  -- what an operation gives, where it doesn't wait
  pub data Gave {S : Type 0} (P : List Value → S → Type 0) : Outcome S → Type 0 where
    never : Gave P None
    gave : {vs : List Value} {state : S} → P vs state → Gave P (Some (reply_of vs, state))

  pub gave_at : {S : Type 0} (P : List Value → S → Type 0) (o : Outcome S) (r : Reply × S) → Gave P o → o ≡ Some r → P r.0.values r.1
  gave_at P None r g is = absurd (none_is r is)
  gave_at {S = S} P (Some x) r g is = subst (λ (y : Reply × S). P y.0.values y.1) (some_is x r is) (there x g)
    where
      there : (x : Reply × S) → Gave P (Some x) → P x.0.values x.1
      there x (gave h) = h

  abbrev QueueGives : ℕ → Ty → List Ty → List Value → QueueState → Type 0
  QueueGives k item outs vs q = AreTyped p outs vs × IsTypedQueue p k item q

  abbrev CellGives : ℕ → Ty → List Ty → List Value → CellState → Type 0
  CellGives k t outs vs c = AreTyped p outs vs × IsTypedCell p k t c

  -- an operation by a reference
  abbrev OpTyped : Ty → QueueOp → Type 0
  OpTyped item (queue.Enqueue n v) = IsTypedValue p item v
  OpTyped item queue.Obtain = ⊥
  OpTyped item (queue.Dequeue n) = Unit {0}
  OpTyped item (queue.Release n) = Unit {0}
  OpTyped item (queue.Size n) = Unit {0}

  module _ (k : ℕ) (item : Ty) (q : QueueState) (is : IsTypedQueue p k item q) where
    live_typed : (n : ℕ) → IfAllTyped p item (live_items q n)
    live_typed n = by (n == q.serial)
      where
        by : (b : Bool) → IfAllTyped p item (if b then q.items else None)
        by true = is.items
        by false = tt

    items_set : (o : Option (List Value)) → IfAllTyped p item o → IsTypedQueue p k item (with_items q o)
    items_set o all = record { number_is = is.number_is; item_is = is.item_is; items = all }

    adds : (v : Value) (vs : List Value) (full : Bool) → IsTypedValue p item v → AllTyped p item vs → Gave (QueueGives k item (whole ∷ [])) (add q v vs full)
    adds v vs true new all = never
    adds v vs false new all = gave ((code_typed 0, tt), items_set (Some (vs ++ v ∷ [])) (all_typed_push p item vs v all new))

    enqueues : (v : Value) (o : Option (List Value)) → IsTypedValue p item v → IfAllTyped p item o → Gave (QueueGives k item (whole ∷ [])) (enqueue q v o)
    enqueues v None new all = gave ((code_typed 1, tt), is)
    enqueues v (Some vs) new all = adds v vs (is_full q.size (length vs)) new all

    dequeues : (o : Option (List Value)) → IsSpelled item → IfAllTyped p item o → Gave (QueueGives k item (item ∷ whole ∷ [])) (dequeue q o)
    dequeues None s all = gave ((subst (λ t. IsTypedValue p item (default t)) (sym is.item_is) (default_value p item s), (code_typed 1, tt)), is)
    dequeues (Some []) s all = never
    dequeues (Some (v ∷ vs)) s all = gave ((all.0, (code_typed 0, tt)), items_set (Some vs) all.1)

    releases : (o : Option (List Value)) → Gave (QueueGives k item (whole ∷ [])) (release q o)
    releases None = gave ((code_typed 1, tt), is)
    releases (Some vs) = gave ((code_typed 0, tt), items_set None tt)

    sizes : (o : Option (List Value)) → Gave (QueueGives k item (whole ∷ whole ∷ [])) (queue_size q o)
    sizes None = gave ((code_typed 0, (code_typed 1, tt)), is)
    sizes (Some vs) = gave ((code_typed (length vs), (code_typed 0, tt)), is)

    obtains : (o : Option (List Value)) → q.items ≡ o → IsSpelled (ty.QueueRef item) → slice_get (shapes p) k ≡ Some (QueueOf item) → Gave (QueueGives k item (ty.QueueRef item ∷ [])) (obtain q o)
    obtains None at s shape =
        let made : IsTypedQueue p k item (made_live q) = record { number_is = is.number_is; item_is = is.item_is; items = tt } in
        gave ((queue_ref_typed k item (made_live q) s shape is.number_is is.item_is, tt), made)
    obtains (Some vs) at s shape = gave ((queue_ref_typed k item q s shape is.number_is is.item_is, tt), is)

    pub queue_gives : (o : QueueOp) → IsSpelled item → OpTyped item o → Gave (QueueGives k item (queue_outs item o)) (queue_step q o)
    queue_gives (queue.Enqueue n v) s new = enqueues v (live_items q n) new (live_typed n)
    queue_gives queue.Obtain s new = absurd new
    queue_gives (queue.Dequeue n) s new = dequeues (live_items q n) s (live_typed n)
    queue_gives (queue.Release n) s new = releases (live_items q n)
    queue_gives (queue.Size n) s new = sizes (live_items q n)

  module _ (k : ℕ) (t : Ty) (c : CellState) (is : IsTypedCell p k t c) where
    pub live_cell : (n : ℕ) → IfTyped p t (live_value c n)
    live_cell n = by (n == c.serial)
      where
        by : (b : Bool) → IfTyped p t (if b then c.kept else None)
        by true = is.kept
        by false = tt

    pub kept_set : (o : Option Value) → IfTyped p t o → IsTypedCell p k t (keeping c o)
    kept_set o typed = record { number_is = is.number_is; content_is = is.content_is; kept = typed }

    deletes : (o : Option Value) → IsSpelled t → IfTyped p t o → Gave (CellGives k t (t ∷ whole ∷ [])) (delete c o)
    deletes None s typed = gave ((subst (λ u. IsTypedValue p t (default u)) (sym is.content_is) (default_value p t s), (code_typed 1, tt)), is)
    deletes (Some v) s typed = gave ((typed, (code_typed 0, tt)), kept_set None tt)

    pub cell_deletes : (n : ℕ) → IsSpelled t → Gave (CellGives k t (t ∷ whole ∷ [])) (cell_step c (ref.Delete n))
    cell_deletes n s = deletes (live_value c n) s (live_cell n)

    pub cell_makes : (v : Value) → IsSpelled (ty.ValueRef t) → slice_get (shapes p) k ≡ Some (CellOf t) → IsTypedValue p t v → Gave (CellGives k t (ty.ValueRef t ∷ [])) (cell_step c (ref.Make v))
    cell_makes v s shape typed =
        let new : IsTypedCell p k t (made c v) = record { number_is = is.number_is; content_is = is.content_is; kept = typed } in
        gave ((cell_ref_typed k t (made c v) s shape is.number_is is.content_is, tt), new)

  -- ---- what references name

  no_queue_type : (t u : Ty) → ty.ValueRef u ≡ ty.QueueRef t → ⊥
  no_queue_type t u same = none_is u (sym (ap referred same ∙ plain) ∙ referred-ValueRef u)
    where
      plain : referred (ty.QueueRef t) ≡ None
      plain = rw (ty.outs-QueueRef t) refl

  queue_type : (t u : Ty) → ty.QueueRef u ≡ ty.QueueRef t → u ≡ t
  queue_type t u same = some_is u t (sym (queued-QueueRef u) ∙ ap queued same ∙ queued-QueueRef t)

  cell_type_is : (t u : Ty) → ty.ValueRef u ≡ ty.ValueRef t → u ≡ t
  cell_type_is t u same = some_is u t (sym (referred-ValueRef u) ∙ ap referred same ∙ referred-ValueRef t)

  pub named_queue : (t : Ty) (k : ℕ) → option_and_then reference_to (slice_get (shapes p) k) ≡ Some (ty.QueueRef t) → slice_get (shapes p) k ≡ Some (QueueOf t)
  named_queue t k h = by (slice_get (shapes p) k) refl h
    where
      by_shape : (sh : Shape) → reference_to sh ≡ Some (ty.QueueRef t) → sh ≡ QueueOf t
      by_shape (QueueOf u) g = ap QueueOf (queue_type t u (some_is (ty.QueueRef u) (ty.QueueRef t) g))
      by_shape (CellOf u) g = absurd (no_queue_type t u (some_is (ty.ValueRef u) (ty.QueueRef t) g))
      by_shape (PanelOf cs is) g = absurd (none_is (ty.QueueRef t) g)
      by_shape PoolOf g = absurd (none_is (ty.QueueRef t) g)

      by : (o : Option Shape) → slice_get (shapes p) k ≡ o → option_and_then reference_to o ≡ Some (ty.QueueRef t) → slice_get (shapes p) k ≡ Some (QueueOf t)
      by None is g = absurd (none_is (ty.QueueRef t) g)
      by (Some sh) is g = is ∙ ap Some (by_shape sh g)

  pub named_cell : (t : Ty) (k : ℕ) → option_and_then reference_to (slice_get (shapes p) k) ≡ Some (ty.ValueRef t) → slice_get (shapes p) k ≡ Some (CellOf t)
  named_cell t k h = by (slice_get (shapes p) k) refl h
    where
      by_shape : (sh : Shape) → reference_to sh ≡ Some (ty.ValueRef t) → sh ≡ CellOf t
      by_shape (CellOf u) g = ap CellOf (cell_type_is t u (some_is (ty.ValueRef u) (ty.ValueRef t) g))
      by_shape (QueueOf u) g = absurd (no_queue_type u t (sym (some_is (ty.QueueRef u) (ty.ValueRef t) g)))
      by_shape (PanelOf cs is) g = absurd (none_is (ty.ValueRef t) g)
      by_shape PoolOf g = absurd (none_is (ty.ValueRef t) g)

      by : (o : Option Shape) → slice_get (shapes p) k ≡ o → option_and_then reference_to o ≡ Some (ty.ValueRef t) → slice_get (shapes p) k ≡ Some (CellOf t)
      by None is g = absurd (none_is (ty.ValueRef t) g)
      by (Some sh) is g = is ∙ ap Some (by_shape sh g)

  -- a reference of a type, and the object that it names where it isn't null
  pub record NamesQueue (t : Ty) (v : Value) : Type 0 where
    pub ref : RefValue
    pub opens : out-Value v ≡ Value-F.Queue ref
    pub elem_is : ref.elem ≡ t
    pub names : (l : Live) → ref.at ≡ Some l → slice_get (shapes p) l.object ≡ Some (QueueOf t)

  pub record NamesCell (t : Ty) (v : Value) : Type 0 where
    pub ref : RefValue
    pub opens : out-Value v ≡ Value-F.Cell ref
    pub elem_is : ref.elem ≡ t
    pub names : (l : Live) → ref.at ≡ Some l → slice_get (shapes p) l.object ≡ Some (CellOf t)

  live_named : (t : Ty) (o : Option Live) (l : Live) → All (IsNamed p) (reference t o) → o ≡ Some l → IsNamed p (record { kind = t; at = l })
  live_named t None l all is = absurd (none_is l is)
  live_named t (Some x) l all is = subst (λ y. IsNamed p (record { kind = t; at = y })) (some_is x l is) (All-head (IsNamed p) (record { kind = t; at = x }) [] all)

  pub queue_named : (t : Ty) (v : Value) → IsTypedValue p (ty.QueueRef t) v → NamesQueue t v
  queue_named t v is =
      let r = queue_value v t is.typed.of_type in
      let all : All (IsNamed p) (reference (ty.QueueRef r.ref.elem) r.ref.at) = subst (All (IsNamed p)) (ap references_of r.is ∙ references-Queue r.ref) is.named in
      record {
        ref = r.ref;
        opens = r.opens;
        elem_is = r.elem_is;
        names = λ l at. named_queue t l.object (live_named (ty.QueueRef r.ref.elem) r.ref.at l all at ∙ ap (λ u. Some (ty.QueueRef u)) r.elem_is);
      }

  pub cell_named : (t : Ty) (v : Value) → IsTypedValue p (ty.ValueRef t) v → NamesCell t v
  cell_named t v is =
      let r = cell_value v t is.typed.of_type in
      let all : All (IsNamed p) (reference (ty.ValueRef r.ref.elem) r.ref.at) = subst (All (IsNamed p)) (ap references_of r.is ∙ references-Cell r.ref) is.named in
      record {
        ref = r.ref;
        opens = r.opens;
        elem_is = r.elem_is;
        names = λ l at. named_cell t l.object (live_named (ty.ValueRef r.ref.elem) r.ref.at l all at ∙ ap (λ u. Some (ty.ValueRef u)) r.elem_is);
      }

  -- ---- the content of an object of a known shape

  pub panel_of : (k : ℕ) (cs is : List Ty) (c : Content) → IsTypedContent p k (PanelOf cs is) c → (st : PanelState) × ((c ≡ content.Panel st) × IsTypedPanel p cs is st)
  panel_of k cs is (content.Panel st) typed = (st, (refl, typed))
  panel_of k cs is (content.Queue q) typed = absurd typed
  panel_of k cs is (content.Cell c) typed = absurd typed
  panel_of k cs is (content.Pool free) typed = absurd typed

  pub queue_of : (k : ℕ) (t : Ty) (c : Content) → IsTypedContent p k (QueueOf t) c → (q : QueueState) × ((c ≡ content.Queue q) × IsTypedQueue p k t q)
  queue_of k t (content.Queue q) typed = (q, (refl, typed))
  queue_of k t (content.Panel st) typed = absurd typed
  queue_of k t (content.Cell c) typed = absurd typed
  queue_of k t (content.Pool free) typed = absurd typed

  pub cell_of : (k : ℕ) (t : Ty) (c : Content) → IsTypedContent p k (CellOf t) c → (x : CellState) × ((c ≡ content.Cell x) × IsTypedCell p k t x)
  cell_of k t (content.Cell x) typed = (x, (refl, typed))
  cell_of k t (content.Panel st) typed = absurd typed
  cell_of k t (content.Queue q) typed = absurd typed
  cell_of k t (content.Pool free) typed = absurd typed

pub content_step : {S : Type 0} (form : S → Content) (o : Outcome S) (r : Reply × Content) → option_map (λ (x : Reply × S). (x.0, form x.1)) o ≡ Some r
    → (x : Reply × S) × ((o ≡ Some x) × ((x.0, form x.1) ≡ r))
content_step form None r is = absurd (none_is r is)
content_step form (Some x) r is = (x, (refl, some_is (x.0, form x.1) r is))

-- ---- nodes

module _ (p : Program) (s : FireState) (f : Frame) (frame : IsTypedFrame p s.frames f) (e : Entry) (q : Progress) (fires_now : Fires p s f frame e q) (room : Bool) where
  abbrev vi : FlatVi
  vi = frame.vi

  abbrev r : Reader
  r = reader_in frame.vi f

  abbrev h : Here
  h = here p room s f frame.vi

  abbrev Fit : Option Effect → Type 0
  Fit o = Fits p s f frame.vi e q o

  spelled : (d : ℕ) (name : List ℕ) (t : Ty) → vi.types d name ≡ Some t → IsSpelled t
  spelled = (accepted_vi p s f frame e q fires_now).spelled

  -- outputs of known types
  pub outputs_fit : (ts : List Ty) (vs : List Value) → HaveTypes vi (node_places e) (map Some ts) → AreTyped p ts vs → IsFit p s f vi e q (gives progress.Done (outputs_given e vs))
  outputs_fit ts vs have are =
      done_fit p s f frame e q fires_now (outputs_given e vs) (gives_paired p vi spelled (node_places e) (map Some ts) vs have (are_fine p ts vs are))

  pub const_fit : (t : Ty) (literal : Lit) (choice : Option ℕ) → AcceptsConst vi e t literal
      → Fit (guard (is_none choice) (Some (gives progress.Done (outputs_given e (literal_value literal t ∷ [])))))
  const_fit t literal choice accepts =
      guarded p s f frame e q fires_now (is_none choice) (Some (gives progress.Done (outputs_given e (literal_value literal t ∷ []))))
      (λ free. fires (outputs_fit (t ∷ []) (literal_value literal t ∷ []) accepts.places (literal_typed p literal t accepts.value accepts.spelled, tt)))

  pub apply_fit : (op : Primitive) (inputs outputs : List Wire) (choice : Option ℕ) → AcceptsApply vi e op inputs → TakesOf r e (Apply op inputs outputs)
      → Fit (guard (is_none choice) (Some (gives progress.Done (outputs_given e (outputs_of op (map (value_on r) inputs))))))
  apply_fit op inputs outputs choice accepts taken =
      guarded p s f frame e q fires_now (is_none choice) (Some (gives progress.Done (outputs_given e (outputs_of op (map (value_on r) inputs)))))
      (λ free. fires (outputs_fit accepts.gives (outputs_of op (map (value_on r) inputs)) accepts.places
      (outputs_typed p op accepts.takes accepts.gives (map (value_on r) inputs)
      (values_typed p vi.types e.diagram r (outer_typed p s f frame e q fires_now) inputs accepts.takes (inputs_taken r inputs outputs taken) accepts.known) accepts.row)))

  -- ---- panels

  no_outputs : node_places e ≡ [] → IsFit p s f vi e q (done e (reply_of []))
  no_outputs none =
      done_fit p s f frame e q fires_now (outputs_given e [])
      (subst (λ ws. GivesAt p vi ws (paired ws [])) (sym none) (gives_none p vi))

  abbrev own_panel : ℕ
  own_panel = panel_object p f.space

  abbrev controls : List Ty
  controls = control_types frame.vi.panel

  abbrev indicators : List Ty
  indicators = indicator_types frame.vi.panel

  -- an operation on the panel of the node's data space
  own_panel_fit : (o : PanelOp) → ((st : PanelState) → IsTypedPanel p controls indicators st → (x : Reply × PanelState) → panel_step st o ≡ Some x
      → IsFit p s f vi e q (done e x.0) × IsTypedPanel p controls indicators x.1)
      → Fit (on_own_panel h e o)
  own_panel_fit o steps = on_object_fit p s f frame e q fires_now room own_panel (OnPanel o) 0 (done e) each
    where
      by : (c : Content) (x : Reply × Content) → object_step c (OnPanel o) 0 no_body ≡ Some x
          → ((st : PanelState) × ((c ≡ content.Panel st) × IsTypedPanel p controls indicators st)) → StepFits p s f frame e q fires_now (done e) own_panel x
      by c x step m =
          let st = m.0 in
          let after = content_step content.Panel (panel_step st o) x (ap (λ y. object_step y (OnPanel o) 0 no_body) (sym m.1.0) ∙ step) in
          let fits = steps st m.1.1 after.0 after.1.0 in
          let new : Reply × Content = (after.0.0, content.Panel after.0.1) in
          subst (StepFits p s f frame e q fires_now (done e) own_panel) after.1.1
          (record { reply = fits.0; object = panel_after p s f frame e q fires_now f.vi vi f.space (content.Panel after.0.1) frame.is frame.space fits.1 })

      each : (c : Content) → slice_get s.objects own_panel ≡ Some c → (x : Reply × Content) → object_step c (OnPanel o) 0 no_body ≡ Some x
          → StepFits p s f frame e q fires_now (done e) own_panel x
      each c is x step =
          by c x step (panel_of p own_panel controls indicators c (panel_typed p s f frame e q fires_now f.vi vi f.space c frame.is frame.space is))

  write_fit : (k : ℕ) (v : Value) (t : Ty) → node_places e ≡ [] → slice_get (controls ++ indicators) k ≡ Some t → IsTypedValue p t v → Fit (on_own_panel h e (panel.Write k v))
  write_fit k v t none at typed =
      own_panel_fit (panel.Write k v)
      (λ st is x step.
      let same = some_is (reply_of [], with_cell st k v) x step in
      subst (λ (y : Reply × PanelState). IsFit p s f vi e q (done e y.0) × IsTypedPanel p controls indicators y.1) same
      (no_outputs none, cell_set p controls indicators st is k v (λ u known. subst (λ w. IsTypedValue p w v) (some_is t u (sym at ∙ known)) typed)))

  pub shows_fit : (name : List ℕ) (t : Ty) (w : Wire) (choice : Option ℕ) → e.kind ≡ Shows name t w → AcceptsWrite vi e name t w → TakesOf r e (Shows name t w)
      → Fit (guard (is_none choice) (on_own_panel h e (panel.Write (cell_number vi.panel name) (coerced (value_on r w) t))))
  shows_fit name t w choice is accepts taken =
      guarded p s f frame e q fires_now (is_none choice) (on_own_panel h e (panel.Write (cell_number vi.panel name) (coerced (value_on r w) t)))
      (λ free.
      write_fit (cell_number vi.panel name) (coerced (value_on r w) t) t (ap (places_of e) is) accepts.cell
      (coerced_value p accepts.value.type t (value_on r w)
      (value_typed p vi.types e.diagram r (outer_typed p s f frame e q fires_now) w accepts.value.type (and_left (has_value r w) true taken) accepts.value.known) accepts.value.fits))

  pub local_fit : (name : List ℕ) (w : Wire) (choice : Option ℕ) → e.kind ≡ Write name w → AcceptsLocal vi e name w → TakesOf r e (Write name w)
      → Fit (guard (is_none choice) (on_own_panel h e (panel.Write (cell_number vi.panel name) (coerced_to (panel_type vi.panel name) (value_on r w)))))
  local_fit name w choice is accepts taken =
      guarded p s f frame e q fires_now (is_none choice) (on_own_panel h e (panel.Write (cell_number vi.panel name) (coerced_to (panel_type vi.panel name) (value_on r w))))
      (λ free.
      write_fit (cell_number vi.panel name) (coerced_to (panel_type vi.panel name) (value_on r w)) accepts.type (ap (places_of e) is) accepts.writes.cell
      (subst (λ o. IsTypedValue p accepts.type (coerced_to o (value_on r w))) (sym accepts.is)
      (coerced_value p accepts.writes.value.type accepts.type (value_on r w)
      (value_typed p vi.types e.diagram r (outer_typed p s f frame e q fires_now) w accepts.writes.value.type (and_left (has_value r w) true taken) accepts.writes.value.known)
      accepts.writes.value.fits)))

  pub read_fit : (name : List ℕ) (choice : Option ℕ) → AcceptsRead vi e name → Fit (guard (is_none choice) (on_own_panel h e (panel.Read (cell_number vi.panel name))))
  read_fit name choice accepts =
      guarded p s f frame e q fires_now (is_none choice) (on_own_panel h e (panel.Read (cell_number vi.panel name)))
      (λ free. own_panel_fit (panel.Read (cell_number vi.panel name)) reads)
    where
      reads : (st : PanelState) → IsTypedPanel p controls indicators st → (x : Reply × PanelState) → panel_step st (panel.Read (cell_number vi.panel name)) ≡ Some x
          → IsFit p s f vi e q (done e x.0) × IsTypedPanel p controls indicators x.1
      reads st is x step =
          let k = cell_number vi.panel name in
          let v = cell_typed p controls indicators st is k accepts.type accepts.cell in
          let same = some_is (reply_of (as_list (cell_at st k)), st) x step in
          subst (λ (y : Reply × PanelState). IsFit p s f vi e q (done e y.0) × IsTypedPanel p controls indicators y.1) same
          (subst (λ o. IsFit p s f vi e q (done e (reply_of (as_list o)))) (sym v.1.0) (outputs_fit (accepts.type ∷ []) (v.0 ∷ []) accepts.places (v.1.1, tt)), is)

  -- ---- queues and references

  -- what an operation gives, with the object afterwards
  gave_fit : {S : Type 0} (form : S → Content) (k : ℕ) (P : S → Type 0) (outs : List Ty) (o : Outcome S) → HaveTypes vi (node_places e) (map Some outs)
      → Gave p (λ vs x. AreTyped p outs vs × P x) o → ((x : S) → P x → (sh : Shape) → slice_get (shapes p) k ≡ Some sh → IsTypedContent p k sh (form x))
      → (y : Reply × Content) → option_map (λ (x : Reply × S). (x.0, form x.1)) o ≡ Some y → StepFits p s f frame e q fires_now (done e) k y
  gave_fit {S = S} form k P outs o have gives_now typed y step =
      let after = content_step form o y step in
      let given = gave_at p (λ vs x. AreTyped p outs vs × P x) o after.0 gives_now after.1.0 in
      subst (StepFits p s f frame e q fires_now (done e) k) after.1.1
      (record { reply = outputs_fit outs after.0.0.values have given.0; object = typed after.0.1 given.1 })

  queue_after : (k : ℕ) (item : Ty) → slice_get (shapes p) k ≡ Some (QueueOf item) → (x : QueueState) → IsTypedQueue p k item x → (sh : Shape) → slice_get (shapes p) k ≡ Some sh
      → IsTypedContent p k sh (content.Queue x)
  queue_after k item shape x typed sh is = subst (λ y. IsTypedContent p k y (content.Queue x)) (some_is (QueueOf item) sh (sym shape ∙ is)) typed

  cell_after : (k : ℕ) (t : Ty) → slice_get (shapes p) k ≡ Some (CellOf t) → (x : CellState) → IsTypedCell p k t x → (sh : Shape) → slice_get (shapes p) k ≡ Some sh
      → IsTypedContent p k sh (content.Cell x)
  cell_after k t shape x typed sh is = subst (λ y. IsTypedContent p k y (content.Cell x)) (some_is (CellOf t) sh (sym shape ∙ is)) typed

  pub obtain_fit : (name : List ℕ) (item : Ty) (choice : Option ℕ) → AcceptsObtain vi e item → HasQueue p name item
      → Fit (guard (is_none choice) (on_object h (queue_object p name) (OnQueue queue.Obtain) 0 (done e)))
  obtain_fit name item choice accepts has =
      guarded p s f frame e q fires_now (is_none choice) (on_object h k (OnQueue queue.Obtain) 0 (done e))
      (λ free. on_object_fit p s f frame e q fires_now room k (OnQueue queue.Obtain) 0 (done e) each)
    where
      k : ℕ
      k = queue_object p name

      shape : slice_get (shapes p) k ≡ Some (QueueOf item)
      shape = queue_at p k has.queue has.is ∙ ap (λ t. Some (QueueOf t)) has.type

      by : (c : Content) (y : Reply × Content) → object_step c (OnQueue queue.Obtain) 0 no_body ≡ Some y → ((x : QueueState) × ((c ≡ content.Queue x) × IsTypedQueue p k item x))
          → StepFits p s f frame e q fires_now (done e) k y
      by c y step m =
          gave_fit content.Queue k (IsTypedQueue p k item) (ty.QueueRef item ∷ []) (obtain m.0 m.0.items) accepts.places (obtains p k item m.0 m.1.1 m.0.items refl accepts.spelled shape)
          (queue_after k item shape) y (ap (λ z. object_step z (OnQueue queue.Obtain) 0 no_body) (sym m.1.0) ∙ step)

      each : (c : Content) → slice_get s.objects k ≡ Some c → (y : Reply × Content) → object_step c (OnQueue queue.Obtain) 0 no_body ≡ Some y → StepFits p s f frame e q fires_now (done e) k y
      each c at y step = by c y step (queue_of p k item c (shaped_at p s.objects k c (QueueOf item) fires_now.state.objects at shape))

  -- what a live reference names, or the null reference
  live_fit : (live : Option Live) (null : Content) (o : Operation)
      → ((y : Reply × Content) → object_step null o 0 no_body ≡ Some y → IsFit p s f vi e q (done e y.0))
      → ((l : Live) → live ≡ Some l → (c : Content) × (slice_get s.objects l.object ≡ Some c))
      → ((l : Live) → live ≡ Some l → (c : Content) → slice_get s.objects l.object ≡ Some c → (y : Reply × Content) → object_step c o 0 no_body ≡ Some y → StepFits p s f frame e q fires_now (done e) l.object y)
      → Fit (on_live h live null o no_body (done e))
  live_fit None null o by_null there by_live = none (object_step null o 0 no_body) by_null
    where
      none : (x : Outcome Content) → ((y : Reply × Content) → x ≡ Some y → IsFit p s f vi e q (done e y.0)) → Fit (after_step None (done e) x)
      none None fit = waits
      none (Some y) fit = fires (unchanged_fit p s f frame e q fires_now (done e y.0) (fit y refl))
  live_fit (Some l) null o by_null there by_live =
      let c = there l refl in
      subst (λ (x : Option Content). Fit (after_step (Some l.object) (done e) (object_step (unwrap_or x null) o 0 no_body))) (sym c.1)
      (some (object_step c.0 o 0 no_body) (by_live l refl c.0 c.1))
    where
      some : (x : Outcome Content) → ((y : Reply × Content) → x ≡ Some y → StepFits p s f frame e q fires_now (done e) l.object y) → Fit (after_step (Some l.object) (done e) x)
      some None fit = waits
      some (Some y) fit = let z = fit y refl in fires (changes_fit p s f frame e q fires_now (done e y.0) l.object y.1 z.reply z.object)

  gave_reply : {S : Type 0} (form : S → Content) (P : S → Type 0) (outs : List Ty) (o : Outcome S) → HaveTypes vi (node_places e) (map Some outs)
      → Gave p (λ vs x. AreTyped p outs vs × P x) o → (y : Reply × Content) → option_map (λ (x : Reply × S). (x.0, form x.1)) o ≡ Some y → IsFit p s f vi e q (done e y.0)
  gave_reply {S = S} form P outs o have gives_now y step =
      let after = content_step form o y step in
      let given = gave_at p (λ vs x. AreTyped p outs vs × P x) o after.0 gives_now after.1.0 in
      subst (λ (z : Reply × Content). IsFit p s f vi e q (done e z.0)) after.1.1 (outputs_fit outs after.0.0.values have given.0)

  -- an operation on what a reference to a queue names
  queue_ref_fit : (o : QueueOp) (item : Ty) (v : Value) (n : NamesQueue p item v) → IsSpelled item → HaveTypes vi (node_places e) (map Some (queue_outs p item o)) → OpTyped p item o
      → Fit (on_live h n.ref.at (no_queue n.ref.elem) (OnQueue o) no_body (done e))
  queue_ref_fit o item v n spells have new = live_fit n.ref.at (no_queue n.ref.elem) (OnQueue o) by_null there by_live
    where
      null : QueueState
      null = new_queue 0 n.ref.elem (negsuc 0)

      null_typed : IsTypedQueue p 0 item null
      null_typed = record { number_is = refl; item_is = n.elem_is; items = tt }

      by_null : (y : Reply × Content) → object_step (no_queue n.ref.elem) (OnQueue o) 0 no_body ≡ Some y → IsFit p s f vi e q (done e y.0)
      by_null y step = gave_reply content.Queue (IsTypedQueue p 0 item) (queue_outs p item o) (queue_step null o) have (queue_gives p 0 item null null_typed o spells new) y step

      there : (l : Live) → n.ref.at ≡ Some l → (c : Content) × (slice_get s.objects l.object ≡ Some c)
      there l at = object_there p s.objects l.object (QueueOf item) fires_now.state.objects (n.names l at)

      by : (l : Live) → n.ref.at ≡ Some l → (c : Content) (y : Reply × Content) → object_step c (OnQueue o) 0 no_body ≡ Some y
          → ((x : QueueState) × ((c ≡ content.Queue x) × IsTypedQueue p l.object item x)) → StepFits p s f frame e q fires_now (done e) l.object y
      by l at c y step m =
          gave_fit content.Queue l.object (IsTypedQueue p l.object item) (queue_outs p item o) (queue_step m.0 o) have (queue_gives p l.object item m.0 m.1.1 o spells new)
          (queue_after l.object item (n.names l at)) y (ap (λ z. object_step z (OnQueue o) 0 no_body) (sym m.1.0) ∙ step)

      by_live : (l : Live) → n.ref.at ≡ Some l → (c : Content) → slice_get s.objects l.object ≡ Some c → (y : Reply × Content) → object_step c (OnQueue o) 0 no_body ≡ Some y
          → StepFits p s f frame e q fires_now (done e) l.object y
      by_live l at c is y step = by l at c y step (queue_of p l.object item c (shaped_at p s.objects l.object c (QueueOf item) fires_now.state.objects is (n.names l at)))

  -- and to a value
  cell_ref_fit : (serial : ℕ) (t : Ty) (v : Value) (n : NamesCell p t v) → IsSpelled t → HaveTypes vi (node_places e) (map Some (t ∷ whole ∷ []))
      → Fit (on_live h n.ref.at (no_cell n.ref.elem) (OnCell (ref.Delete serial)) no_body (done e))
  cell_ref_fit serial t v n spells have = live_fit n.ref.at (no_cell n.ref.elem) (OnCell (ref.Delete serial)) by_null there by_live
    where
      null : CellState
      null = new_cell 0 n.ref.elem

      null_typed : IsTypedCell p 0 t null
      null_typed = record { number_is = refl; content_is = n.elem_is; kept = tt }

      by_null : (y : Reply × Content) → object_step (no_cell n.ref.elem) (OnCell (ref.Delete serial)) 0 no_body ≡ Some y → IsFit p s f vi e q (done e y.0)
      by_null y step = gave_reply content.Cell (IsTypedCell p 0 t) (t ∷ whole ∷ []) (cell_step null (ref.Delete serial)) have (cell_deletes p 0 t null null_typed serial spells) y step

      there : (l : Live) → n.ref.at ≡ Some l → (c : Content) × (slice_get s.objects l.object ≡ Some c)
      there l at = object_there p s.objects l.object (CellOf t) fires_now.state.objects (n.names l at)

      by : (l : Live) → n.ref.at ≡ Some l → (c : Content) (y : Reply × Content) → object_step c (OnCell (ref.Delete serial)) 0 no_body ≡ Some y
          → ((x : CellState) × ((c ≡ content.Cell x) × IsTypedCell p l.object t x)) → StepFits p s f frame e q fires_now (done e) l.object y
      by l at c y step m =
          gave_fit content.Cell l.object (IsTypedCell p l.object t) (t ∷ whole ∷ []) (cell_step m.0 (ref.Delete serial)) have (cell_deletes p l.object t m.0 m.1.1 serial spells)
          (cell_after l.object t (n.names l at)) y (ap (λ z. object_step z (OnCell (ref.Delete serial)) 0 no_body) (sym m.1.0) ∙ step)

      by_live : (l : Live) → n.ref.at ≡ Some l → (c : Content) → slice_get s.objects l.object ≡ Some c → (y : Reply × Content) → object_step c (OnCell (ref.Delete serial)) 0 no_body ≡ Some y
          → StepFits p s f frame e q fires_now (done e) l.object y
      by_live l at c is y step = by l at c y step (cell_of p l.object t c (shaped_at p s.objects l.object c (CellOf t) fires_now.state.objects is (n.names l at)))

  -- ---- shared operations

  module _ (inputs outputs : List Wire) where
    abbrev vs : List Value
    vs = map (value_on r) inputs

    first_value : (t : Ty) → HaveValues r inputs → wire_type vi.types e.diagram (wire_at inputs 0) ≡ Some t → IsTypedValue p t (input_at vs 0)
    first_value t has known = input_typed p s f frame e q fires_now inputs 0 t has known

    -- the queue that the first input is a reference to
    queue_first : (first item : Ty) → HaveValues r inputs → wire_type vi.types e.diagram (wire_at inputs 0) ≡ Some first → queued first ≡ Some item → IsTypedValue p (ty.QueueRef item) (input_at vs 0)
    queue_first first item has known is = subst (λ t. IsTypedValue p t (input_at vs 0)) (queue_is first item is) (first_value first has known)

    spelled_of : (item : Ty) → IsTypedValue p (ty.QueueRef item) (input_at vs 0) → IsSpelled item
    spelled_of item is = spelled_queued item (subst IsSpelled is.typed.of_type is.typed.proper.spelled)

    abbrev SharedFit : SharedOp → Type 0
    SharedFit op = AcceptsShared vi e op inputs → HaveValues r inputs → HasShared p f.space vi.types e op inputs → Fit (shared_effect h e op vs)

    given_are : (op : SharedOp) (accepts : AcceptsShared vi e op inputs) (us : List Ty) → shared_types op accepts.first ≡ Some us → HaveTypes vi (node_places e) (map Some us)
    given_are op accepts us is = subst (λ ts. HaveTypes vi (node_places e) (map Some ts)) (some_is accepts.gives us (sym accepts.row ∙ is)) accepts.places

    shared_queue : (op : SharedOp) (accepts : AcceptsShared vi e op inputs) → (o : ℕ → Ty → QueueOp) → HaveValues r inputs → is_some (queued accepts.first) ≡ true
        → ((item : Ty) → queued accepts.first ≡ Some item → (n : ℕ) (t : Ty) → shared_types op accepts.first ≡ Some (queue_outs p item (o n t)))
        → ((item : Ty) → queued accepts.first ≡ Some item → (n : ℕ) (t : Ty) → t ≡ item → OpTyped p item (o n t))
        → ((n : ℕ) (t : Ty) → queue_operation op n t (input_at vs 1) ≡ Some (OnQueue (o n t)))
        → Fit (by_reference h e op vs (out-Value (input_at vs 0)))
    shared_queue op accepts o has queues outs new operates =
        let item = is_there (queued accepts.first) queues in
        let is = queue_first accepts.first item.0 has accepts.known item.1 in
        let n = queue_named p item.0 (input_at vs 0) is in
        let serial = serial_of n.ref.at in
        subst (λ l. Fit (by_reference h e op vs l)) (sym n.opens)
        (subst (λ x. Fit (option_and_then (λ operation. on_live h n.ref.at (no_queue n.ref.elem) operation no_body (done e)) x)) (sym (operates serial n.ref.elem))
        (queue_ref_fit (o serial n.ref.elem) item.0 (input_at vs 0) n (spelled_of item.0 is)
        (given_are op accepts (queue_outs p item.0 (o serial n.ref.elem)) (outs item.0 item.1 serial n.ref.elem)) (new item.0 item.1 serial n.ref.elem n.elem_is)))

    cell_first : (first t : Ty) → HaveValues r inputs → wire_type vi.types e.diagram (wire_at inputs 0) ≡ Some first → referred first ≡ Some t → IsTypedValue p (ty.ValueRef t) (input_at vs 0)
    cell_first first t has known is = subst (λ u. IsTypedValue p u (input_at vs 0)) (cell_is first t is) (first_value first has known)

    deletes_fit : (accepts : AcceptsShared vi e shared.DelRef inputs) → HaveValues r inputs → Fit (by_reference h e shared.DelRef vs (out-Value (input_at vs 0)))
    deletes_fit accepts has =
        let t = is_there (referred accepts.first) accepts.fits in
        let is = cell_first accepts.first t.0 has accepts.known t.1 in
        let n = cell_named p t.0 (input_at vs 0) is in
        subst (λ l. Fit (by_reference h e shared.DelRef vs l)) (sym n.opens)
        (cell_ref_fit (serial_of n.ref.at) t.0 (input_at vs 0) n (spelled_referred t.0 (subst IsSpelled is.typed.of_type is.typed.proper.spelled))
        (given_are shared.DelRef accepts (t.0 ∷ whole ∷ []) (ap with_code t.1)))

    makes_fit : (accepts : AcceptsShared vi e shared.NewRef inputs) → HaveValues r inputs → HasCell p f.space vi.types e (wire_at inputs 0)
        → Fit (on_object h (cell_object p f.space e.line) (OnCell (ref.Make (input_at vs 0))) 0 (done e))
    makes_fit accepts has space = on_object_fit p s f frame e q fires_now room k (OnCell (ref.Make (input_at vs 0))) 0 (done e) each
      where
        k : ℕ
        k = cell_object p f.space e.line

        t : Ty
        t = space.cell.content

        same : accepts.first ≡ t
        same = some_is accepts.first t (sym accepts.known ∙ space.type)

        shape : slice_get (shapes p) k ≡ Some (CellOf t)
        shape = cell_at_place p (place_where (λ c. (c.space == f.space) && (c.line == e.line)) p.cells) space.cell space.is

        spells : IsSpelled (ty.ValueRef t)
        spells = fires_now.accepted.cells space.cell (among_at p.cells (place_where (λ c. (c.space == f.space) && (c.line == e.line)) p.cells) space.cell space.is)

        typed : IsTypedValue p t (input_at vs 0)
        typed = first_value t has space.type

        have : HaveTypes vi (node_places e) (map Some (ty.ValueRef t ∷ []))
        have = given_are shared.NewRef accepts (ty.ValueRef t ∷ []) (ap (λ u. Some (ty.ValueRef u ∷ [])) same)

        by : (c : Content) (y : Reply × Content) → object_step c (OnCell (ref.Make (input_at vs 0))) 0 no_body ≡ Some y → ((x : CellState) × ((c ≡ content.Cell x) × IsTypedCell p k t x))
            → StepFits p s f frame e q fires_now (done e) k y
        by c y step m =
            gave_fit content.Cell k (IsTypedCell p k t) (ty.ValueRef t ∷ []) (cell_step m.0 (ref.Make (input_at vs 0))) have (cell_makes p k t m.0 m.1.1 (input_at vs 0) spells shape typed)
            (cell_after k t shape) y (ap (λ z. object_step z (OnCell (ref.Make (input_at vs 0))) 0 no_body) (sym m.1.0) ∙ step)

        each : (c : Content) → slice_get s.objects k ≡ Some c → (y : Reply × Content) → object_step c (OnCell (ref.Make (input_at vs 0))) 0 no_body ≡ Some y → StepFits p s f frame e q fires_now (done e) k y
        each c at y step = by c y step (cell_of p k t c (shaped_at p s.objects k c (CellOf t) fires_now.state.objects at shape))

    shared_by : (op : SharedOp) → SharedFit op
    shared_by shared.Enqueue accepts has space =
        shared_queue shared.Enqueue accepts (λ n t. queue.Enqueue n (coerced (input_at vs 1) t)) has accepts.fits (λ item is n t. refl)
        (λ item is n t same.
        let put = accepts.put item is in
        subst (λ u. IsTypedValue p item (coerced (input_at vs 1) u)) (sym same)
        (coerced_value p put.type item (input_at vs 1) (input_typed p s f frame e q fires_now inputs 1 put.type has put.known) put.fits))
        (λ n t. refl)
    shared_by shared.Dequeue accepts has space =
        shared_queue shared.Dequeue accepts (λ n t. queue.Dequeue n) has accepts.fits (λ item is n t. ap with_code is) (λ item is n t same. tt) (λ n t. refl)
    shared_by shared.Release accepts has space =
        shared_queue shared.Release accepts (λ n t. queue.Release n) has accepts.fits (λ item is n t. refl) (λ item is n t same. tt) (λ n t. refl)
    shared_by shared.Size accepts has space =
        shared_queue shared.Size accepts (λ n t. queue.Size n) has accepts.fits (λ item is n t. refl) (λ item is n t same. tt) (λ n t. refl)
    shared_by shared.NewRef accepts has space = makes_fit accepts has space
    shared_by shared.DelRef accepts has space = deletes_fit accepts has

    pub shared_fit : (op : SharedOp) (choice : Option ℕ) → AcceptsShared vi e op inputs → TakesOf r e (Shared op inputs outputs) → HasShared p f.space vi.types e op inputs
        → Fit (guard (is_none choice) (shared_effect h e op vs))
    shared_fit op choice accepts taken space =
        guarded p s f frame e q fires_now (is_none choice) (shared_effect h e op vs) (λ free. shared_by op accepts (inputs_taken r inputs outputs taken) space)
