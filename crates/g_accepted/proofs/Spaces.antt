-- What each data space of a program has of its nodes.
use Rattle.std.proofs.Common.{◌≡◌, inl, inr, ⊎_elim, ℕ, ℤ, suc, ◌+◌, ◌≤◌, ◌==◌, Bool, true, false, not, ◌&&◌, ◌||◌, List, [], ◌∷◌, map, Option, Some, None, refl, ap, sym, ◌∙◌, subst, arith}
use Rattle.std.specs.Prelude.{is_some, slice_get, if◌then◌else◌}
use Rattle.std.specs.Option.{option_map, option_to_list, option_or}
use Rattle.std.specs.List.{flat_map}
use Rattle.std.specs.Ordering.{int_eq}
use Rattle.std.specs.Str.{bytes_eq}
use Rattle.std.proofs.lemmas.Bool.{eqb-true, false≢true, not-false}
use Rattle.g_types.specs.declared.ty.Ty.{Ty}
use Rattle.g_types.specs.Same.{same_type}
use Rattle.g_types.proofs.SameLemmas.{same_type-true}
use Rattle.g_operations.specs.declared.shared.SharedOp.TheVariants as shared
use Rattle.g_diagram.specs.declared.node.Tunnel.{Tunnel}
use Rattle.g_diagram.specs.declared.node.Tunnel.TheVariants as line
use Rattle.g_diagram.specs.declared.hierarchy.Clones.{Clones}
use Rattle.g_diagram.specs.declared.hierarchy.Hierarchy.{Hierarchy}
use Rattle.g_diagram.specs.declared.hierarchy.Vi.{Vi}
use Rattle.g_diagram.specs.Lines.{Wire, Entry, Kind, Const, Apply, Shows, Shared, Obtain, Read, Write, Call, Loop, Case, Sequence, InPlace, entries_of}
use Rattle.g_diagram.specs.Operands.{Line, border, border_lines}
use Rattle.g_diagram.specs.Ports.{freedom}
use Rattle.g_rules_lines.specs.Queues.{Queue, queue_in, queues_in, all_queues, first_queue, differs, is_unequal}
use Rattle.g_hier.specs.declared.linked.CallLine.{CallLine}
use Rattle.g_hier.specs.declared.linked.Caller.{Caller}
use Rattle.g_hier.specs.declared.linked.Linked.{Linked}
use Rattle.g_hier.specs.declared.linked.Outline.{Outline}
use Rattle.g_hier.specs.declared.linked.Placed.{Placed}
use Rattle.g_hier.specs.declared.linked.Space.{Space}
use Rattle.g_hier.specs.Outlines.{number_of, call_on, calls_on, outline_of, outlines_of, calls_in, calls_at}
use Rattle.g_hier.specs.LinkOrder.{enterable, same_space, has_vi, vis_after}
use Rattle.g_typing.specs.Types.{Types, wire_type, wire_at}
use Rattle.g_border.specs.Loops.{kept_registers}
use Rattle.g_frames.specs.declared.program.QueueName.{QueueName}
use Rattle.g_frames.specs.declared.program.CellPlace.{CellPlace}
use Rattle.g_frames.specs.declared.program.KeptPlace.{KeptPlace}
use Rattle.g_frames.specs.Program as frames
use Rattle.g_frames.specs.Program.{FlatVi, Program, flat_vi, flat_vis, vi_at, numbered, place_where, space_number, called_space, queue_object, kept_number, queue_on, first_of_each, has_queue, cell_of, cell_on, kept_on, program}
use Rattle.g_typed_states.specs.Accepted.{HasCell, HasQueue, HasKept, HasSpace}
use Rattle.g_accepted.proofs.Facts.{IsIn, in_left, in_right, in_get, in_map, of_map, and_first, and_second, and_both, same_number, same_name, some_same, none_some, the_one}
use Rattle.g_accepted.proofs.Laid.{Rises, hit, lines_once, line_hit, vi_rises}
use Rattle.g_accepted.proofs.Sources.{one_line}
use Rattle.g_accepted.proofs.Linked.{found_where, any_in, InOrder, in_entered, placed_for, space_found, enterable_vi, vis_have}
use Rattle.g_accepted.proofs.Objects.{get_map, get_mapped, flat_got, flat_number, in_space, of_space, InSpace, in_queues, of_queues, OfQueue, first_kept, name_kept}
use Rattle.g_accepted.proofs.Placed.{lines}

-- ---- nodes by their lines

below_later : (low high : ℕ) (es : List Entry) (e : Entry) → Rises low high es → IsIn e es → low ≤ e.line
below_later low high [] e r is = absurd is
below_later low high (x ∷ es) e r (inl same) = let le = r.0 in let P : Entry → Type 0 = λ (y : Entry). low ≤ y.line in subst P same le
below_later low high (x ∷ es) e r (inr is) =
    let le = r.0 in let more : suc x.line ≤ e.line = below_later (suc x.line) high es e r.1 is in omega (arith, le, more)

pub one_node : (low high : ℕ) (es : List Entry) (a b : Entry) → Rises low high es → IsIn a es → IsIn b es → a.line ≡ b.line → a ≡ b
one_node low high [] a b r is also e = absurd is
one_node low high (x ∷ es) a b r (inl f) (inl g) e = sym f ∙ g
one_node low high (x ∷ es) a b r (inl f) (inr also) e =
    let more : suc x.line ≤ b.line = below_later (suc x.line) high es b r.1 also in
    let here : x.line ≡ a.line = ap (λ (y : Entry). y.line) f in
    absurd (omega (arith, more, here, e))
one_node low high (x ∷ es) a b r (inr is) (inl g) e =
    let more : suc x.line ≤ a.line = below_later (suc x.line) high es a r.1 is in
    let here : x.line ≡ b.line = ap (λ (y : Entry). y.line) g in
    absurd (omega (arith, more, here, e))
one_node low high (x ∷ es) a b r (inr is) (inr also) e = one_node (suc x.line) high es a b r.1 is also e

-- ---- calls

on_call : (vis : List Vi) (es : List Entry) (e : Entry) (name : List ℕ) (inputs outputs : List Wire) → IsIn e es → e.kind ≡ Call name inputs outputs
    → IsIn (record { line = e.line; vi = number_of vis name }) (calls_on vis es)
on_call vis [] e name inputs outputs is k = absurd is
on_call vis (x ∷ es) e name inputs outputs (inl same) k =
    let c : CallLine = record { line = e.line; vi = number_of vis name } in
    let own : IsIn c (call_on vis e.line e.kind) = subst (λ (y : Kind). IsIn c (call_on vis e.line y)) (sym k) (inl refl) in
    in_left c (call_on vis x.line x.kind) (calls_on vis es) (subst (λ (y : Entry). IsIn c (call_on vis y.line y.kind)) (sym same) own)
on_call vis (x ∷ es) e name inputs outputs (inr is) k =
    in_right (record { line = e.line; vi = number_of vis name }) (call_on vis x.line x.kind) (calls_on vis es) (on_call vis es e name inputs outputs is k)

mapped : {A B : Type 0} (f : A → B) (o : Option A) (y : B) → option_map f o ≡ Some y → (x : A) × (o ≡ Some x) × (f x ≡ y)
mapped f None y e = absurd (none_some y e)
mapped f (Some x) y e = (x, refl, some_same (f x) y e)

module _ (h : Hierarchy) (types : ℕ → Types) (linked : Linked) where
  abbrev p : Program
  p = program h types linked

  abbrev os : List Outline
  os = outlines_of h

  module _ (main : ℕ) (met : List Placed) (ordered : InOrder os main met) (spaces_are : linked.spaces ≡ map (λ q. q.space) met) where
    -- the data space that a call's clone is
    pub call_space : (k : ℕ) (s : Space) (vi : Vi) (e : Entry) (name : List ℕ) (inputs outputs : List Wire) → slice_get linked.spaces k ≡ Some s → slice_get h.vis s.vi ≡ Some vi → IsIn e (entries_of vi)
        → e.kind ≡ Call name inputs outputs → (called : FlatVi) → vi_at p (numbered p.vis name) ≡ Some called → (clone entered : ℕ)
        → called_space p called.clones (numbered p.vis name) k e.line clone ≡ Some entered → HasSpace p (numbered p.vis name) entered
    call_space k s vi e name inputs outputs at stands is kind called there clone entered enters =
        let n : ℕ = number_of h.vis name in
        let number : numbered p.vis name ≡ n = flat_number h.vis types 0 h.vis name in
        let c : CallLine = record { line = e.line; vi = n } in
        let caller : Caller = record { space = k; line = e.line } in
        let placed = get_mapped (λ (q : Placed). q.space) met k s (ap (λ xs. slice_get xs k) (sym spaces_are) ∙ at) in
        let there_n : slice_get p.vis n ≡ Some called = subst (λ (m : ℕ). slice_get p.vis m ≡ Some called) number there in
        let found = flat_got h.vis types 0 h.vis n called there_n in
        let o : Outline = outline_of h.vis found.0 in
        let at_o : slice_get os n ≡ Some o = get_map (outline_of h.vis) h.vis n found.0 found.1 in
        let clones : called.clones ≡ o.clones = ap (λ (f : FlatVi). f.clones) (sym found.2) in
        let enters_n : called_space p o.clones n k e.line clone ≡ Some entered =
        subst (λ (x : Clones). called_space p x n k e.line clone ≡ Some entered) clones (subst (λ (m : ℕ). called_space p called.clones m k e.line clone ≡ Some entered) number enters) in
        let to = mapped (space_number p) (slice_get (enterable o.clones n caller) clone) entered enters_n in
        let into : IsIn to.0 (enterable o.clones n caller) = in_get (enterable o.clones n caller) clone to.0 to.1 in
        let at_calls : calls_at os s.vi ≡ calls_on h.vis (entries_of vi) = ap calls_in (get_map (outline_of h.vis) h.vis s.vi vi stands) in
        let among : IsIn c (calls_at os placed.0.space.vi) =
        subst (λ (x : Space). IsIn c (calls_at os x.vi)) (sym placed.2) (subst (λ (cs : List CallLine). IsIn c cs) (sym at_calls) (on_call h.vis (entries_of vi) e name inputs outputs is kind)) in
        let met_it = ordered.calls k placed.0 placed.1 (placed_for o placed.0.system to.0) (in_entered os k placed.0.system (calls_at os placed.0.space.vi) c o among at_o to.0 into) in
        let f = space_found met to.0 met_it in
        record {
          found = f.0;
          is = ap (slice_get p.spaces) (sym to.2) ∙ (ap (λ (xs : List Space). slice_get xs (place_where (same_space to.0) xs)) spaces_are ∙ f.1);
          vi_is = f.2 ∙ (enterable_vi o.clones n caller to.0 into ∙ sym number);
        }

    pub main_space : linked.main ≡ main → HasSpace p p.main 0
    main_space is =
        let m = ordered.main_first in
        record {
          found = m.0.space;
          is = ap (λ (xs : List Space). slice_get xs 0) spaces_are ∙ get_map (λ (q : Placed). q.space) met 0 m.0 m.1;
          vi_is = m.2 ∙ sym is;
        }

    -- ---- queues

    pub queue_there : linked.order ≡ vis_after [] met → (k : ℕ) (s : Space) (vi : FlatVi) (e : Entry) (name : List ℕ) (size : ℤ) (item : Ty) (out : Wire) → slice_get linked.spaces k ≡ Some s
        → vi_at p s.vi ≡ Some vi → IsIn e vi.entries → e.kind ≡ Obtain name size item out
        → ((q : QueueName) → OfQueue p.vis q → bytes_eq q.name name ≡ true → q.item ≡ item) → HasQueue p name item
    queue_there order_is k s vi e name size item out at there is kind same =
        let q : QueueName = record { name = name; size = size; item = item } in
        let placed = get_mapped (λ (q : Placed). q.space) met k s (ap (λ xs. slice_get xs k) (sym spaces_are) ∙ at) in
        let in_order : has_vi linked.order s.vi ≡ true =
        ap (λ xs. has_vi xs s.vi) order_is ∙ subst (λ (x : Space). has_vi (vis_after [] met) x.vi ≡ true) placed.2 (vis_have [] met placed.0 (in_get met k placed.0 placed.1)) in
        let qs : List QueueName = frames.queues_in linked.order 0 p.vis in
        let among : IsIn q qs = in_queues linked.order 0 p.vis s.vi vi e q there (subst (λ (m : ℕ). has_vi linked.order m ≡ true) (plus s.vi) in_order) is (subst (λ (x : Kind). IsIn q (queue_on x)) (sym kind) (inl refl)) in
        let kept : has_queue p.queues name ≡ true = ⊎_elim (λ a. a) (λ none. absurd (false≢true none)) (name_kept qs [] q among) in
        let f = found_where (λ (x : QueueName). bytes_eq x.name name) p.queues kept in
        record {
          queue = f.0;
          is = f.1;
          type = same f.0 (of_queues linked.order 0 p.vis f.0 (first_kept qs [] f.0 (in_get p.queues (place_where (λ (x : QueueName). bytes_eq x.name name) p.queues) f.0 f.1))) f.2;
        }
      where
        plus : (n : ℕ) → n ≡ 0 + n
        plus n = omega arith

-- ---- queues of one name

queue_found : (qs : List Queue) (q : Queue) → IsIn q qs → is_some (first_queue qs q.name) ≡ true
queue_found [] q is = absurd is
queue_found (x ∷ qs) q (inl same) =
    subst (λ (y : Queue). is_some (option_or (if bytes_eq y.name q.name then Some (y.size, y.item) else None) (first_queue qs q.name)) ≡ true) (sym same)
    (ap (λ b. is_some (option_or (if b then Some (q.size, q.item) else None) (first_queue qs q.name))) (same_name q.name))
queue_found (x ∷ qs) q (inr is) = by (bytes_eq x.name q.name) (queue_found qs q is)
  where
    by : (b : Bool) → is_some (first_queue qs q.name) ≡ true → is_some (option_or (if b then Some (x.size, x.item) else None) (first_queue qs q.name)) ≡ true
    by true h = refl
    by false h = h

in_flat : {A B : Type 0} (f : A → List B) (xs : List A) (x : A) (y : B) → IsIn x xs → IsIn y (f x) → IsIn y (flat_map f xs)
in_flat f [] x y is h = absurd is
in_flat {A} f (z ∷ xs) x y (inl same) h = in_left y (f z) (flat_map f xs) (subst (λ (w : A). IsIn y (f w)) (sym same) h)
in_flat f (z ∷ xs) x y (inr is) h = in_right y (f z) (flat_map f xs) (in_flat f xs x y is h)

-- an `obtain` has the type of the first one of its name
pub obtained : (vis : List Vi) (k : ℕ) (vi : Vi) (e : Entry) (name : List ℕ) (size : ℤ) (item : Ty) (out : Wire) → slice_get vis k ≡ Some vi → IsIn e (entries_of vi) → e.kind ≡ Obtain name size item out
    → is_unequal (first_queue (all_queues vis)) e.kind ≡ false → (q : ℤ × Ty) × (first_queue (all_queues vis) name ≡ Some q) × (q.1 ≡ item)
obtained vis k vi e name size item out at is kind equal =
    let q : Queue = record { name = name; size = size; item = item } in
    let own : IsIn q (queues_in (entries_of vi)) = in_flat (λ x. queue_in x.kind) (entries_of vi) e q is (subst (λ (x : Kind). IsIn q (queue_in x)) (sym kind) (inl refl)) in
    let all : IsIn q (all_queues vis) = in_flat (λ v. queues_in (entries_of v)) vis vi q (in_get vis k vi at) own in
    let f = the_one (first_queue (all_queues vis) name) (queue_found (all_queues vis) q all) in
    let no_other : (differs (first_queue (all_queues vis) name) size item || false) ≡ false = ap (is_unequal (first_queue (all_queues vis))) (sym kind) ∙ equal in
    let here : (not (int_eq f.0.0 size && same_type f.0.1 item) || false) ≡ false = ap (λ o. differs o size item || false) (sym f.1) ∙ no_other in
    (f.0, f.1, same_type-true f.0.1 item (and_second (int_eq f.0.0 size) (same_type f.0.1 item) (not-false (int_eq f.0.0 size && same_type f.0.1 item) (first_false (not (int_eq f.0.0 size && same_type f.0.1 item)) here))))
  where
    first_false : (b : Bool) → (b || false) ≡ false → b ≡ false
    first_false true e = e
    first_false false e = refl

-- ---- references

pub record OfCell (types : Types) (space : ℕ) (e : Entry) (k : Kind) (c : CellPlace) : Type 0 where
  pub inputs : List Wire
  pub outputs : List Wire
  pub kind : k ≡ Shared shared.NewRef inputs outputs
  pub space_is : c.space ≡ space
  pub line_is : c.line ≡ e.line
  pub content : wire_type types e.diagram (wire_at inputs 0) ≡ Some c.content

pub of_cell : (types : Types) (space : ℕ) (e : Entry) (k : Kind) (c : CellPlace) → IsIn c (cell_on types space e k) → OfCell types space e k c
of_cell types space e (Shared shared.NewRef inputs outputs) c is = by (wire_type types e.diagram (wire_at inputs 0)) refl is
  where
    by : (o : Option Ty) → wire_type types e.diagram (wire_at inputs 0) ≡ o → IsIn c (option_to_list (option_map (cell_of space e.line) o)) → OfCell types space e (Shared shared.NewRef inputs outputs) c
    by None w is = absurd is
    by (Some t) w (inl same) = record {
      inputs = inputs;
      outputs = outputs;
      kind = refl;
      space_is = ap (λ (x : CellPlace). x.space) (sym same);
      line_is = ap (λ (x : CellPlace). x.line) (sym same);
      content = w ∙ ap (λ (x : CellPlace). Some x.content) same;
    }
    by (Some t) w (inr none) = absurd none
of_cell types space e (Shared shared.Enqueue inputs outputs) c is = absurd is
of_cell types space e (Shared shared.Dequeue inputs outputs) c is = absurd is
of_cell types space e (Shared shared.Release inputs outputs) c is = absurd is
of_cell types space e (Shared shared.Size inputs outputs) c is = absurd is
of_cell types space e (Shared shared.DelRef inputs outputs) c is = absurd is
of_cell types space e (Const t literal out) c is = absurd is
of_cell types space e (Apply op inputs outputs) c is = absurd is
of_cell types space e (Shows name t w) c is = absurd is
of_cell types space e (Obtain name size item out) c is = absurd is
of_cell types space e (Read name out) c is = absurd is
of_cell types space e (Write name w) c is = absurd is
of_cell types space e (Call name inputs outputs) c is = absurd is
of_cell types space e (Loop count stop i ts body) c is = absurd is
of_cell types space e (Case selector ts arms) c is = absurd is
of_cell types space e (Sequence parts) c is = absurd is
of_cell types space e (InPlace ts body finish) c is = absurd is

first_input : (k : Kind) (ins outs ins' outs' : List Wire) → k ≡ Shared shared.NewRef ins outs → k ≡ Shared shared.NewRef ins' outs' → ins ≡ ins'
first_input k ins outs ins' outs' e f = ap inputs_in (sym e ∙ f)
  where
    inputs_in : Kind → List Wire
    inputs_in (Shared op inputs outputs) = inputs
    inputs_in _ = []

module _ (h : Hierarchy) (types : ℕ → Types) (linked : Linked) where
  abbrev q : Program
  q = program h types linked

  on_cell : (space : ℕ) → FlatVi → Entry → List CellPlace
  on_cell space vi e = cell_on vi.types space e e.kind

  pub cell_there : (k : ℕ) (s : Space) (v : FlatVi) (vi : Vi) (e : Entry) (inputs outputs : List Wire) (t : Ty) → slice_get linked.spaces k ≡ Some s → vi_at q s.vi ≡ Some v → v.entries ≡ entries_of vi
      → IsIn e v.entries → e.kind ≡ Shared shared.NewRef inputs outputs → wire_type v.types e.diagram (wire_at inputs 0) ≡ Some t → HasCell q k v.types e (wire_at inputs 0)
  cell_there k s v vi e inputs outputs t at there own is kind typed =
      let c : CellPlace = cell_of k e.line t in
      let on : ℕ → FlatVi → Entry → List CellPlace = λ space w x. cell_on w.types space x x.kind in
      let has : IsIn c (cell_on v.types (0 + k) e e.kind) =
      subst (λ (x : Kind). IsIn c (cell_on v.types (0 + k) e x)) (sym kind) (subst (λ (o : Option Ty). IsIn c (option_to_list (option_map (cell_of (0 + k) e.line) o))) (sym typed) (inl (plus k e.line t))) in
      let among : IsIn c q.cells = in_space on q.vis 0 linked.spaces k s v e c at there is has in
      let test : CellPlace → Bool = λ x. (x.space == k) && (x.line == e.line) in
      let f = found_where test q.cells (any_in test q.cells c among (and_both (k == k) (e.line == e.line) (same_number k) (same_number e.line))) in
      let r : InSpace CellPlace on q.vis 0 linked.spaces f.0 = of_space on q.vis 0 linked.spaces f.0 (in_get q.cells (place_where test q.cells) f.0 f.1) in
      let o : OfCell r.vi.types (0 + r.number) r.entry r.entry.kind f.0 = of_cell r.vi.types (0 + r.number) r.entry r.entry.kind f.0 r.has in
      let space_k : f.0.space ≡ k = eqb-true f.0.space k (and_first (f.0.space == k) (f.0.line == e.line) f.2) in
      let line_e : f.0.line ≡ e.line = eqb-true f.0.line e.line (and_second (f.0.space == k) (f.0.line == e.line) f.2) in
      let number_k : r.number ≡ k = (let x = o.space_is in let y : f.0.space ≡ 0 + r.number = x in omega (arith, y, space_k)) in
      let same_space : r.space ≡ s = some_same r.space s (sym (subst (λ (m : ℕ). slice_get linked.spaces m ≡ Some r.space) number_k r.is) ∙ at) in
      let same_vi : r.vi ≡ v = some_same r.vi v (sym (subst (λ (x : Space). slice_get q.vis x.vi ≡ Some r.vi) same_space r.vi_is) ∙ there) in
      let stands : IsIn r.entry (entries_of vi) = subst (λ (es : List Entry). IsIn r.entry es) own (subst (λ (w : FlatVi). IsIn r.entry w.entries) same_vi r.stands) in
      let same_entry : r.entry ≡ e = one_node 1 _ (entries_of vi) r.entry e (vi_rises (λ n i. false) vi) stands (subst (λ (es : List Entry). IsIn e es) own is) (sym o.line_is ∙ line_e) in
      let same_inputs : o.inputs ≡ inputs = first_input r.entry.kind o.inputs o.outputs inputs outputs o.kind (subst (λ (x : Entry). x.kind ≡ Shared shared.NewRef inputs outputs) (sym same_entry) kind) in
      record {
        cell = f.0;
        is = f.1;
        type = subst (λ (ws : List Wire). wire_type v.types e.diagram (wire_at ws 0) ≡ Some f.0.content) same_inputs
            (subst (λ (x : Entry). wire_type v.types x.diagram (wire_at o.inputs 0) ≡ Some f.0.content) same_entry
            (subst (λ (w : FlatVi). wire_type w.types r.entry.diagram (wire_at o.inputs 0) ≡ Some f.0.content) same_vi o.content));
      }
    where
      plus : (k l : ℕ) (t : Ty) → cell_of (0 + k) l t ≡ cell_of k l t
      plus k l t = let e : 0 + k ≡ k = omega arith in ap (λ m. cell_of m l t) e

-- ---- kept registers

-- a kept register among some lines of a loop
record OfLine (first : ℕ) (ts : List Tunnel) (r : ℕ × Ty) : Type 0 where
  tunnel : Tunnel
  from : first ≤ r.0
  operands : (b : Bool) → b ≡ true → line_hit (border tunnel) b ≡ 1
  on : (e : Entry) (b : ℕ) → IsIn (record { line = r.0; node = e.line; outside = e.diagram; inside = b ∷ []; before = []; operands = border tunnel }) (border_lines e (b ∷ []) [] border first ts)

line_later : (first : ℕ) (t : Tunnel) (ts : List Tunnel) (r : ℕ × Ty) → OfLine (first + 1) ts r → OfLine first (t ∷ ts) r
line_later first t ts r o = let le = o.from in record { tunnel = o.tunnel; from = omega (arith, le); operands = o.operands; on = λ e b. inr (o.on e b) }

line_first : (first : ℕ) (t : Ty) (inner next last : Wire) (ts : List Tunnel) (r : ℕ × Ty) → (first, t) ≡ r → OfLine first (line.Kept t inner next last ∷ ts) r
line_first first t inner next last ts r same =
    let e : first ≡ r.0 = ap (λ (x : ℕ × Ty). x.0) same in
    record {
      tunnel = line.Kept t inner next last;
      from = omega (arith, e);
      operands = λ b is. ap hit is;
      on = λ x b. inl (ap (λ n. record { line = n; node = x.line; outside = x.diagram; inside = b ∷ []; before = []; operands = border (line.Kept t inner next last) }) e);
    }

of_line : (first : ℕ) (ts : List Tunnel) (r : ℕ × Ty) → IsIn r (kept_registers first ts) → OfLine first ts r
of_line first [] r is = absurd is
of_line first (line.Kept t inner next last ∷ ts) r (inl same) = line_first first t inner next last ts r same
of_line first (line.Kept t inner next last ∷ ts) r (inr is) = line_later first (line.Kept t inner next last) ts r (of_line (first + 1) ts r is)
of_line first (line.Tunnel outer inner ∷ ts) r is = line_later first (line.Tunnel outer inner) ts r (of_line (first + 1) ts r is)
of_line first (line.Register initial inner next last ∷ ts) r is = line_later first (line.Register initial inner next last) ts r (of_line (first + 1) ts r is)
of_line first (line.Last inner outer ∷ ts) r is = line_later first (line.Last inner outer) ts r (of_line (first + 1) ts r is)
of_line first (line.Gather inner outer ∷ ts) r is = line_later first (line.Gather inner outer) ts r (of_line (first + 1) ts r is)
of_line first (line.Index array inner ∷ ts) r is = line_later first (line.Index array inner) ts r (of_line (first + 1) ts r is)
of_line first (line.Result outer default ∷ ts) r is = line_later first (line.Result outer default) ts r (of_line (first + 1) ts r is)
of_line first (line.Carry earlier inner ∷ ts) r is = line_later first (line.Carry earlier inner) ts r (of_line (first + 1) ts r is)
of_line first (line.Ref reference inner next same code ∷ ts) r is = line_later first (line.Ref reference inner next same code) ts r (of_line (first + 1) ts r is)
of_line first (line.Element array index inner next outer ∷ ts) r is = line_later first (line.Element array index inner next outer) ts r (of_line (first + 1) ts r is)
of_line first (line.Field k cluster inner next outer ∷ ts) r is = line_later first (line.Field k cluster inner next outer) ts r (of_line (first + 1) ts r is)

-- no two are on one line
one_type : (first : ℕ) (ts : List Tunnel) (l : ℕ) (t u : Ty) → IsIn (l, t) (kept_registers first ts) → IsIn (l, u) (kept_registers first ts) → t ≡ u
one_type first [] l t u is also = absurd is
one_type first (line.Kept v inner next last ∷ ts) l t u (inl e) (inl f) = ap (λ (x : ℕ × Ty). x.1) (sym e ∙ f)
one_type first (line.Kept v inner next last ∷ ts) l t u (inl e) (inr also) =
    let o : OfLine (first + 1) ts (l, u) = of_line (first + 1) ts (l, u) also in
    let le : first + 1 ≤ l = o.from in
    let here : first ≡ l = ap (λ (x : ℕ × Ty). x.0) e in
    absurd (omega (arith, le, here))
one_type first (line.Kept v inner next last ∷ ts) l t u (inr is) (inl f) =
    let o : OfLine (first + 1) ts (l, t) = of_line (first + 1) ts (l, t) is in
    let le : first + 1 ≤ l = o.from in
    let here : first ≡ l = ap (λ (x : ℕ × Ty). x.0) f in
    absurd (omega (arith, le, here))
one_type first (line.Kept v inner next last ∷ ts) l t u (inr is) (inr also) = one_type (first + 1) ts l t u is also
one_type first (line.Tunnel outer inner ∷ ts) l t u is also = one_type (first + 1) ts l t u is also
one_type first (line.Register initial inner next last ∷ ts) l t u is also = one_type (first + 1) ts l t u is also
one_type first (line.Last inner outer ∷ ts) l t u is also = one_type (first + 1) ts l t u is also
one_type first (line.Gather inner outer ∷ ts) l t u is also = one_type (first + 1) ts l t u is also
one_type first (line.Index array inner ∷ ts) l t u is also = one_type (first + 1) ts l t u is also
one_type first (line.Result outer default ∷ ts) l t u is also = one_type (first + 1) ts l t u is also
one_type first (line.Carry earlier inner ∷ ts) l t u is also = one_type (first + 1) ts l t u is also
one_type first (line.Ref reference inner next same code ∷ ts) l t u is also = one_type (first + 1) ts l t u is also
one_type first (line.Element array index inner next outer ∷ ts) l t u is also = one_type (first + 1) ts l t u is also
one_type first (line.Field k cluster inner next outer ∷ ts) l t u is also = one_type (first + 1) ts l t u is also

-- the loop of a kept register
pub record OfKept (space : ℕ) (e : Entry) (k : Kind) (c : KeptPlace) : Type 0 where
  pub count : Option Wire
  pub stop : Option Wire
  pub iteration : Wire
  pub borders : List Tunnel
  pub body : ℕ
  pub kind : k ≡ Loop count stop iteration borders body
  pub space_is : c.space ≡ space
  pub register : IsIn (c.line, c.content) (kept_registers (e.line + 1) borders)

pub of_kept : (space : ℕ) (e : Entry) (k : Kind) (c : KeptPlace) → IsIn c (kept_on space e k) → OfKept space e k c
of_kept space e (Loop count stop i ts body) c is =
    let m = of_map (λ (r : ℕ × Ty). record { space = space; line = r.0; content = r.1 }) (kept_registers (e.line + 1) ts) c is in
    record {
      count = count;
      stop = stop;
      iteration = i;
      borders = ts;
      body = body;
      kind = refl;
      space_is = ap (λ (x : KeptPlace). x.space) (sym m.2);
      register = subst (λ (x : KeptPlace). IsIn (x.line, x.content) (kept_registers (e.line + 1) ts)) m.2 m.1;
    }
of_kept space e (Const t literal out) c is = absurd is
of_kept space e (Apply op inputs outputs) c is = absurd is
of_kept space e (Shows name t w) c is = absurd is
of_kept space e (Shared op inputs outputs) c is = absurd is
of_kept space e (Obtain name size item out) c is = absurd is
of_kept space e (Read name out) c is = absurd is
of_kept space e (Write name w) c is = absurd is
of_kept space e (Call name inputs outputs) c is = absurd is
of_kept space e (Case selector ts arms) c is = absurd is
of_kept space e (Sequence parts) c is = absurd is
of_kept space e (InPlace ts body finish) c is = absurd is

abbrev borders_in : Kind → List Tunnel
borders_in (Loop count stop i ts body) = ts
borders_in _ = []

module _ (h : Hierarchy) (types : ℕ → Types) (linked : Linked) where
  abbrev pk : Program
  pk = program h types linked

  -- the lines of a loop are lines of the VI
  abbrev LoopStands : Vi → Entry → Type 0
  LoopStands vi e = (count stop : Option Wire) (i : Wire) (ts : List Tunnel) (body : ℕ) → e.kind ≡ Loop count stop i ts body → (m : Line) → IsIn m (border_lines e (body ∷ []) [] border (e.line + 1) ts)
      → IsIn m (lines h.vis vi (types 0))

  pub kept_there : (k : ℕ) (s : Space) (v : FlatVi) (vi : Vi) (e : Entry) (count stop : Option Wire) (i : Wire) (ts : List Tunnel) (body : ℕ) (l : ℕ) (t : Ty) → slice_get linked.spaces k ≡ Some s
      → vi_at pk s.vi ≡ Some v → v.entries ≡ entries_of vi → ((x : Entry) → IsIn x (entries_of vi) → LoopStands vi x) → IsIn e v.entries → e.kind ≡ Loop count stop i ts body
      → IsIn (l, t) (kept_registers (e.line + 1) ts) → HasKept pk k l t
  kept_there k s v vi e count stop i ts body l t at there own stand is kind reg =
      let c : KeptPlace = record { space = k; line = l; content = t } in
      let on : ℕ → FlatVi → Entry → List KeptPlace = λ space w x. kept_on space x x.kind in
      let has : IsIn c (kept_on k e e.kind) =
      subst (λ (x : Kind). IsIn c (kept_on k e x)) (sym kind) (in_map (λ (r : ℕ × Ty). record { space = k; line = r.0; content = r.1 }) (kept_registers (e.line + 1) ts) (l, t) reg) in
      let has_plus : IsIn c (kept_on (0 + k) e e.kind) = subst (λ (m : ℕ). IsIn c (kept_on m e e.kind)) (plus k) has in
      let among : IsIn c pk.kept = in_space on pk.vis 0 linked.spaces k s v e c at there is has_plus in
      let test : KeptPlace → Bool = λ x. (x.space == k) && (x.line == l) in
      let f = found_where test pk.kept (any_in test pk.kept c among (and_both (k == k) (l == l) (same_number k) (same_number l))) in
      let r : InSpace KeptPlace on pk.vis 0 linked.spaces f.0 = of_space on pk.vis 0 linked.spaces f.0 (in_get pk.kept (place_where test pk.kept) f.0 f.1) in
      let o : OfKept (0 + r.number) r.entry r.entry.kind f.0 = of_kept (0 + r.number) r.entry r.entry.kind f.0 r.has in
      let space_k : f.0.space ≡ k = eqb-true f.0.space k (and_first (f.0.space == k) (f.0.line == l) f.2) in
      let line_l : f.0.line ≡ l = eqb-true f.0.line l (and_second (f.0.space == k) (f.0.line == l) f.2) in
      let number_k : r.number ≡ k = (let x = o.space_is in let y : f.0.space ≡ 0 + r.number = x in omega (arith, y, space_k)) in
      let same_space : r.space ≡ s = some_same r.space s (sym (subst (λ (m : ℕ). slice_get linked.spaces m ≡ Some r.space) number_k r.is) ∙ at) in
      let same_vi : r.vi ≡ v = some_same r.vi v (sym (subst (λ (x : Space). slice_get pk.vis x.vi ≡ Some r.vi) same_space r.vi_is) ∙ there) in
      let stands : IsIn r.entry (entries_of vi) = subst (λ (es : List Entry). IsIn r.entry es) own (subst (λ (w : FlatVi). IsIn r.entry w.entries) same_vi r.stands) in
      let stands_e : IsIn e (entries_of vi) = subst (λ (es : List Entry). IsIn e es) own is in
      let mine : OfLine (e.line + 1) ts (l, t) = of_line (e.line + 1) ts (l, t) reg in
      let theirs : OfLine (r.entry.line + 1) o.borders (f.0.line, f.0.content) = of_line (r.entry.line + 1) o.borders (f.0.line, f.0.content) o.register in
      let same_line = one_line l
      (record { line = l; node = e.line; outside = e.diagram; inside = body ∷ []; before = []; operands = border mine.tunnel })
      (record { line = f.0.line; node = r.entry.line; outside = r.entry.diagram; inside = o.body ∷ []; before = []; operands = border theirs.tunnel })
      (lines h.vis vi (types 0)) (lines_once (freedom h.vis) vi l) (stand e stands_e count stop i ts body kind _ (mine.on e body))
      (stand r.entry stands o.count o.stop o.iteration o.borders o.body o.kind _ (theirs.on r.entry o.body)) (mine.operands (l == l) (same_number l))
      (theirs.operands (f.0.line == l) (ap (λ n. n == l) line_l ∙ same_number l)) in
      let same_entry : r.entry ≡ e = one_node 1 _ (entries_of vi) r.entry e (vi_rises (λ n i. false) vi) stands stands_e (sym (ap (λ (x : Line). x.node) same_line)) in
      let same_borders : o.borders ≡ ts = ap borders_in (sym (subst (λ (x : Entry). x.kind ≡ Loop o.count o.stop o.iteration o.borders o.body) same_entry o.kind) ∙ kind) in
      let register : IsIn (l, f.0.content) (kept_registers (e.line + 1) ts) =
      subst (λ (n : ℕ). IsIn (n, f.0.content) (kept_registers (e.line + 1) ts)) line_l
      (subst (λ (bs : List Tunnel). IsIn (f.0.line, f.0.content) (kept_registers (e.line + 1) bs)) same_borders
      (subst (λ (x : Entry). IsIn (f.0.line, f.0.content) (kept_registers (x.line + 1) o.borders)) same_entry o.register)) in
      record { register = f.0; is = f.1; type = one_type (e.line + 1) ts l f.0.content t register reg }
    where
      plus : (n : ℕ) → n ≡ 0 + n
      plus n = omega arith
