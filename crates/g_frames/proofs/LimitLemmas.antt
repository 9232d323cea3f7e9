-- No run begins more iterations than its limit, and a spent one began as many.
use Rattle.std.proofs.Common.{◌≡◌, Bool, true, false, ◌||◌, ℕ, ◌+◌, ◌≤◌, ◌<◌, List, [], ◌∷◌, length, cond, Option, Some, None, arith, refl, ap, sym, subst, ◌∙◌}
use Rattle.std.proofs.lemmas.Bool.{or_right, ltb-true, ltb-false, lt-ltb}
use Rattle.std.specs.Prelude.{is_some, is_none, not, nat_lt, slice_get}
use Rattle.std.specs.Option.{option_map, option_and_then, option_map_or}
use Rattle.g_types.specs.declared.ty.Ty.{Ty}
use Rattle.g_values.specs.declared.value.Live.{Live}
use Rattle.g_values.specs.declared.value.Value.{Value, out-Value}
use Rattle.g_values.specs.declared.value.Value.TheOpen.{Value-F}
use Rattle.g_operations.specs.declared.shared.SharedOp.{SharedOp}
use Rattle.g_operations.specs.declared.shared.SharedOp.TheVariants as shared
use Rattle.g_diagram.specs.declared.hierarchy.Clones.{Clones}
use Rattle.g_diagram.specs.declared.hierarchy.Clones.TheVariants.{NonReentrant, Preallocated, Pool}
use Rattle.g_diagram.specs.declared.node.Tunnel.{Tunnel}
use Rattle.g_diagram.specs.Lines.{Wire, Arm, Part, Entry, Kind, Const, Apply, Shows, Shared, Obtain, Read, Write, Call, Loop, Case, Sequence, InPlace}
use Rattle.g_shared.specs.declared.reply.Reply.{Reply}
use Rattle.g_shared.specs.Outcome.{Outcome}
use Rattle.g_border.specs.Lines.{Reference}
use Rattle.g_border.specs.Readers.{value_on, outputs_given}
use Rattle.g_frames.specs.declared.firing.Firing.{Firing}
use Rattle.g_frames.specs.declared.state.Frame.{Frame}
use Rattle.g_frames.specs.declared.state.Progress.{Progress}
use Rattle.g_frames.specs.declared.state.Progress.TheVariants as progress
use Rattle.g_frames.specs.declared.state.Stage.{Stage}
use Rattle.g_frames.specs.declared.state.Stage.TheVariants.{Entered, Opened, Returned, Left}
use Rattle.g_shared.specs.Cells.{Body}
use Rattle.g_frames.specs.Contents as place
use Rattle.g_frames.specs.Contents.{Content, Operation, object_step}
use Rattle.g_frames.specs.Program.{FlatVi, Program, vi_at, numbered, panel_object, pool_object}
use Rattle.g_frames.specs.Panels.{controls_given}
use Rattle.g_frames.specs.State.{FireState, is_complete, nodes_in, start}
use Rattle.g_frames.specs.Effects.{Effect, gives, opens, guard, Here, next_frame, after_step, no_body, on_object}
use Rattle.g_frames.specs.Operations.{done, input_at, object_named, serial_of, content_named, on_live, no_queue, no_cell, queue_operation, cell_operation, by_reference, shared_effect}
use Rattle.g_frames.specs.Structures.{is_complete_at, loop_ends, loop_goes_on, loop_effect, case_ends, case_effect, next_part, sequence_effect}
use Rattle.g_frames.specs.InPlace.{place_body, place_done, item_at, by_place, place_effect}
use Rattle.g_frames.specs.Calls.{enters, panel_opens, stage_after, panel_returns, space_of_call, call_begins, call_goes_on, call_effect}
use Rattle.g_frames.specs.Fire.{effect, is_ready, node_effect, node_on, here, effect_in, effect_with, effect_of, can_fire, fire, begun_after, applied}
use Rattle.g_frames.specs.declared.state.End.{End}
use Rattle.g_frames.specs.declared.state.End.TheVariants.{Complete, Spent, Stalled, Unfinished}
use Rattle.g_frames.specs.Run.{go_on, after_from, after, is_at_rest, is_first_complete, with_room, end_of}
use Rattle.g_frames.proofs.RunLemmas.{refute, some_is}
use Rattle.g_frames.proofs.RestLemmas.{rest_tested, rest_refuses}

-- an effect begins an iteration only where there is room
data Within (room : Bool) : Option Effect → Type 0 where
  stays : Within room None
  acts : {e : Effect} → not e.begins || room ≡ true → Within room (Some e)

guarded : (room b : Bool) (o : Option Effect) → Within room o → Within room (guard b o)
guarded room true o h = h
guarded room false o h = stays

stepped : (room : Bool) (object : Option ℕ) (after : Reply → Effect) → ((r : Reply) → (after r).begins ≡ false) → (o : Outcome Content) → Within room (after_step object after o)
stepped room object after none None = stays
stepped room object after none (Some r) = acts (ap (λ b. not b || room) (none r.0))

then_within : {A : Type 0} (room : Bool) (f : A → Option Effect) → ((a : A) → Within room (f a)) → (o : Option A) → Within room (option_and_then f o)
then_within room f each None = stays
then_within room f each (Some a) = each a

mapped : {A : Type 0} (room : Bool) (f : A → Effect) → ((a : A) → (f a).begins ≡ false) → (o : Option A) → Within room (option_map f o)
mapped room f each None = stays
mapped room f each (Some a) = acts (ap (λ b. not b || room) (each a))

-- where there is room an iteration may begin
limited : (room : Bool) (e : Effect) → Within room (guard room (Some e))
limited true e = acts (or_right (not e.begins) true refl)
limited false e = stays

module _ (h : Here) (e : Entry) where
  abbrev room : Bool
  room = h.has_room

  on_within : (k : ℕ) (o : Operation) (c : ℕ) (after : Reply → Effect) → ((r : Reply) → (after r).begins ≡ false) → Within room (on_object h k o c after)
  on_within k o c after none = stepped room (Some k) after none (option_and_then (λ content. object_step content o c no_body) (slice_get h.objects k))

  live_within : (live : Option Live) (never_live : Content) (o : Operation) (body : Body) (after : Reply → Effect) → ((r : Reply) → (after r).begins ≡ false)
      → Within room (on_live h live never_live o body after)
  live_within live never_live o body after none = stepped room (object_named live) after none (object_step (content_named h.objects never_live live) o 0 body)

  reference : (o : SharedOp) (vs : List Value) (v : Value-F Value) → Within room (by_reference h e o vs v)
  reference o vs (Value-F.Queue r) =
      then_within room _ (λ operation. live_within r.at (no_queue r.elem) operation no_body (done e) (λ _. refl))
      (queue_operation o (serial_of r.at) r.elem (input_at vs 1))
  reference o vs (Value-F.Cell r) =
      then_within room _ (λ operation. live_within r.at (no_cell r.elem) operation no_body (done e) (λ _. refl)) (cell_operation o (serial_of r.at))
  reference o vs (Value-F.Num x) = stays
  reference o vs (Value-F.Bool b) = stays
  reference o vs (Value-F.Str s) = stays
  reference o vs (Value-F.Nums xs) = stays
  reference o vs (Value-F.Arr xs) = stays
  reference o vs (Value-F.Cluster ws) = stays

  shared_within : (o : SharedOp) (vs : List Value) → Within room (shared_effect h e o vs)
  shared_within shared.NewRef vs = on_within _ _ _ (done e) (λ _. refl)
  shared_within shared.Enqueue vs = reference shared.Enqueue vs (out-Value (input_at vs 0))
  shared_within shared.Dequeue vs = reference shared.Dequeue vs (out-Value (input_at vs 0))
  shared_within shared.Release vs = reference shared.Release vs (out-Value (input_at vs 0))
  shared_within shared.Size vs = reference shared.Size vs (out-Value (input_at vs 0))
  shared_within shared.DelRef vs = reference shared.DelRef vs (out-Value (input_at vs 0))

  loop_within : (count stop : Option Wire) (i : Wire) (lines : List Tunnel) (body : ℕ) (q : Progress) → Within room (loop_effect h e count stop i lines body q)
  loop_within count stop i lines body progress.Idle = acts refl
  loop_within count stop i lines body progress.Done = stays
  loop_within count stop i lines body (progress.Loop vs ks ended) = guarded room _ _ (by _)
    where
      by : (b : Bool) → Within room (cond b (Some (loop_ends h e vs ks lines body)) (guard room (Some (loop_goes_on h e vs ks count stop i lines body))))
      by true = acts refl
      by false = limited room (loop_goes_on h e vs ks count stop i lines body)
  loop_within count stop i lines body (progress.Case k ended) = stays
  loop_within count stop i lines body (progress.Sequence ks ended) = stays
  loop_within count stop i lines body (progress.Call clone stage) = stays

  ends_within : (lines : List Tunnel) (arms : List Arm) (k : ℕ) (f : Frame) → Within room (case_ends h e lines arms k f)
  ends_within lines arms k f = guarded room (is_complete f) _ (acts refl)

  case_within : (w : Wire) (lines : List Tunnel) (arms : List Arm) (q : Progress) → Within room (case_effect h e w lines arms q)
  case_within w lines arms progress.Idle = mapped room _ (λ _. refl) _
  case_within w lines arms progress.Done = stays
  case_within w lines arms (progress.Loop vs ks ended) = stays
  case_within w lines arms (progress.Case k ended) = then_within room _ (ends_within lines arms k) (slice_get h.frames k)
  case_within w lines arms (progress.Sequence ks ended) = stays
  case_within w lines arms (progress.Call clone stage) = stays

  sequence_within : (parts : List Part) (q : Progress) → Within room (sequence_effect h parts q)
  sequence_within parts progress.Idle = mapped room _ (λ _. refl) _
  sequence_within parts progress.Done = stays
  sequence_within parts (progress.Loop vs ks ended) = stays
  sequence_within parts (progress.Case k ended) = stays
  sequence_within parts (progress.Sequence ks ended) = guarded room _ _ (by (slice_get parts (length ks)))
    where
      by : (o : Option Part) → Within room (Some (next_part h ks parts o))
      by None = acts refl
      by (Some part) = acts refl
  sequence_within parts (progress.Call clone stage) = stays

  by_within : (lines : List Tunnel) (body finish : ℕ) (r : Reference) (t : Ty) (live : Option Live) → Within room (by_place h e lines body finish r t live)
  by_within lines body finish r t live =
      live_within live (no_cell t) (place.InPlace (serial_of live) []) (place_body h e lines body finish r.next t) (place_done h e lines r) (λ _. refl)

  place_within : (lines : List Tunnel) (body finish : ℕ) (o : Option Reference) → Within room (place_effect h e lines body finish o)
  place_within lines body finish None = acts refl
  place_within lines body finish (Some r) = then_within room (λ i. by_place h e lines body finish r i.0 i.1) (λ i. by_within lines body finish r i.0 i.1) (item_at (out-Value (value_on h.outer r.from)))

  enters_within : (v k : ℕ) → Within room (enters h v k)
  enters_within v k = on_within (pool_object h.program v) _ k (λ reply. gives (progress.Call reply.choice Entered) []) (λ _. refl)

  opens_within : (inputs : List Wire) (v clone : ℕ) (called : FlatVi) (space : ℕ) → Within room (panel_opens h inputs v clone called space)
  opens_within inputs v clone called space =
      on_within (panel_object h.program space) _ 0
      (λ reply. opens (progress.Call clone (Opened (next_frame h))) (record { vi = v; space = space; diagram = 0; iteration = 0; gives = controls_given 1 called.panel reply.values }))
      (λ _. refl)

  returns_within : (clone k : ℕ) (called : FlatVi) (space : ℕ) → Within room (panel_returns h e clone k called space)
  returns_within clone k called space =
      guarded room (is_complete_at h k) _
      (on_within (panel_object h.program space) _ 0 (λ reply. gives (progress.Call clone (stage_after called.clones k)) (outputs_given e reply.values)) (λ _. refl))

  begins_within : (inputs : List Wire) (v : ℕ) (called : FlatVi) (clones : Clones) (choice : Option ℕ) → Within room (call_begins h e inputs v called clones choice)
  begins_within inputs v called NonReentrant choice = guarded room (is_none choice) _ (enters_within v 0)
  begins_within inputs v called Preallocated choice =
      guarded room (is_none choice) _ (then_within room _ (opens_within inputs v 0 called) (space_of_call h e v 0 called))
  begins_within inputs v called (Pool n) choice = then_within room _ (enters_within v) choice

  goes_within : (inputs : List Wire) (v clone : ℕ) (called : FlatVi) (stage : Stage) → Within room (call_goes_on h e inputs v clone called stage)
  goes_within inputs v clone called Entered = then_within room _ (opens_within inputs v clone called) (space_of_call h e v clone called)
  goes_within inputs v clone called (Opened k) = then_within room _ (returns_within clone k called) (space_of_call h e v clone called)
  goes_within inputs v clone called (Returned k) = on_within (pool_object h.program v) _ 0 (λ reply. gives (progress.Call clone (Left k)) []) (λ _. refl)
  goes_within inputs v clone called (Left k) = stays

  call_within : (inputs : List Wire) (choice : Option ℕ) (q : Progress) (v : ℕ) (called : FlatVi) → Within room (call_effect h e inputs choice q v called)
  call_within inputs choice progress.Idle v called = begins_within inputs v called called.clones choice
  call_within inputs choice progress.Done v called = stays
  call_within inputs choice (progress.Loop vs ks ended) v called = stays
  call_within inputs choice (progress.Case k ended) v called = stays
  call_within inputs choice (progress.Sequence ks ended) v called = stays
  call_within inputs choice (progress.Call clone stage) v called = guarded room (is_none choice) _ (goes_within inputs v clone called stage)

  all_within : (choice : Option ℕ) (kind : Kind) (q : Progress) → Within room (effect h e choice kind q)
  all_within choice (Const t literal out) q = guarded room (is_none choice) _ (acts refl)
  all_within choice (Apply op inputs outputs) q = guarded room (is_none choice) _ (acts refl)
  all_within choice (Shows name t w) q = guarded room (is_none choice) _ (on_within _ _ _ (done e) (λ _. refl))
  all_within choice (Shared op inputs outputs) q = guarded room (is_none choice) _ (shared_within op _)
  all_within choice (Obtain name size item out) q = guarded room (is_none choice) _ (on_within _ _ _ (done e) (λ _. refl))
  all_within choice (Read name out) q = guarded room (is_none choice) _ (on_within _ _ _ (done e) (λ _. refl))
  all_within choice (Write name w) q = guarded room (is_none choice) _ (on_within _ _ _ (done e) (λ _. refl))
  all_within choice (Call name inputs outputs) q =
      let v = numbered h.program.vis name in then_within room _ (call_within inputs choice q v) (vi_at h.program v)
  all_within choice (Loop count stop i lines body) q = guarded room (is_none choice) _ (loop_within count stop i lines body q)
  all_within choice (Case w lines arms) q = guarded room (is_none choice) _ (case_within w lines arms q)
  all_within choice (Sequence parts) q = guarded room (is_none choice) _ (sequence_within parts q)
  all_within choice (InPlace lines body finish) q = guarded room (is_none choice) _ (place_within lines body finish _)

effect_within : (p : Program) (s : FireState) (x : Firing) → Within (nat_lt s.begun s.limit) (effect_of p s x)
effect_within p s x =
    then_within (nat_lt s.begun s.limit) (λ f. option_and_then (effect_in p (nat_lt s.begun s.limit) s x f) (vi_at p f.vi))
    (λ f. then_within (nat_lt s.begun s.limit) (effect_in p (nat_lt s.begun s.limit) s x f) (in_vi f) (vi_at p f.vi)) (slice_get s.frames x.frame)
  where
    in_node : (f : Frame) (vi : FlatVi) (n : Entry × Progress) → Within (nat_lt s.begun s.limit) (node_effect (here p (nat_lt s.begun s.limit) s f vi) x.choice n.0 n.1)
    in_node f vi n =
        guarded (nat_lt s.begun s.limit) (is_ready (here p (nat_lt s.begun s.limit) s f vi).outer n.0 n.1) (effect (here p (nat_lt s.begun s.limit) s f vi) n.0 x.choice n.0.kind n.1)
        (all_within (here p (nat_lt s.begun s.limit) s f vi) n.0 x.choice n.0.kind n.1)

    in_vi : (f : Frame) (vi : FlatVi) → Within (nat_lt s.begun s.limit) (effect_in p (nat_lt s.begun s.limit) s x f vi)
    in_vi f vi =
        then_within (nat_lt s.begun s.limit) (λ n. node_effect (here p (nat_lt s.begun s.limit) s f vi) x.choice n.0 n.1) (in_node f vi) (node_on x.node (nodes_in vi f.diagram) f.nodes)

-- ---- runs

fire_keeps : (p : Program) (s : FireState) (x : Firing) → s.begun ≤ s.limit → ((fire p s x).limit ≡ s.limit) × ((fire p s x).begun ≤ s.limit)
fire_keeps p s x few = by (effect_of p s x) (effect_within p s x)
  where
    more : (b : Bool) → not b || nat_lt s.begun s.limit ≡ true → begun_after s.begun b ≤ s.limit
    more true h = let less : s.begun < s.limit = ltb-true s.begun s.limit h in omega (arith, less)
    more false h = few

    by : (o : Option Effect) → Within (nat_lt s.begun s.limit) o
        → ((option_map_or (applied p s x) o s).limit ≡ s.limit) × ((option_map_or (applied p s x) o s).begun ≤ s.limit)
    by None h = (refl, few)
    by (Some e) (acts h) = (refl, more e.begins h)

runs_keep : (p : Program) (xs : List Firing) (s t : FireState) → after_from p xs s ≡ Some t → s.begun ≤ s.limit → (t.limit ≡ s.limit) × (t.begun ≤ s.limit)
runs_keep p [] s t is few = (ap (λ u. u.limit) (sym (some_is s t is)), subst (λ u. u.begun ≤ s.limit) (some_is s t is) few)
runs_keep p (x ∷ xs) s t is few =
    let one = fire_keeps p s x few in
    by (can_fire p s x) (λ g. let all = runs_keep p xs (fire p s x) t g (subst (λ n. (fire p s x).begun ≤ n) (sym one.0) one.1) in (all.0 ∙ one.0, subst (λ n. t.begun ≤ n) one.0 all.1)) is
  where
    by : (b : Bool) → (after_from p xs (fire p s x) ≡ Some t → (t.limit ≡ s.limit) × (t.begun ≤ s.limit)) → go_on b (after_from p xs) (fire p s x) ≡ Some t
        → (t.limit ≡ s.limit) × (t.begun ≤ s.limit)
    by true rest g = rest g
    by false rest g = absurd (refute (ap is_some g))

pub keeps_limit : (p : Program) (controls : List Value) (limit : ℕ) (trace : List Firing) (s : FireState) → after p controls limit trace ≡ Some s → (s.limit ≡ limit) × (s.begun ≤ limit)
keeps_limit p controls limit trace s is = runs_keep p trace (start p controls limit) s is (omega arith)

-- ---- ends

-- with room, one iteration more makes no difference
room_is : (p : Program) (s : FireState) → nat_lt s.begun s.limit ≡ true → (x : Firing) → can_fire p (with_room s) x ≡ can_fire p s x
room_is p s has x = ap (λ b. is_some (effect_with p b s x)) (lt-ltb s.begun (s.begun + 1) (omega arith) ∙ sym has)

abbrev ended : (rests complete spent : Bool) → End
ended rests complete spent = cond rests (cond complete Complete (cond spent Stalled Spent)) Unfinished

is_spent : End → Bool
is_spent Complete = false
is_spent Spent = true
is_spent Stalled = false
is_spent Unfinished = false

spent_parts : (rests complete stalled : Bool) → ended rests complete stalled ≡ Spent → (rests ≡ true) × (stalled ≡ false)
unfolding is_spent
spent_parts true true stalled h = absurd (refute (ap is_spent h))
spent_parts true false true h = absurd (refute (ap is_spent h))
spent_parts true false false h = (refl, refl)
spent_parts false complete stalled h = absurd (refute (ap is_spent h))

pub spends_all : (p : Program) (limit : ℕ) (s : FireState) → (s.limit ≡ limit) × (s.begun ≤ limit) → end_of p s ≡ Spent → s.begun ≡ limit
spends_all p limit s keeps h = by (nat_lt s.begun s.limit) refl
  where
    parts : (is_at_rest p s ≡ true) × (is_at_rest p (with_room s) ≡ false)
    parts = spent_parts (is_at_rest p s) (is_first_complete s.frames) (is_at_rest p (with_room s)) h

    by : (b : Bool) → nat_lt s.begun s.limit ≡ b → s.begun ≡ limit
    by true is =
        absurd (refute (sym parts.1 ∙ rest_tested p (with_room s) (λ x. room_is p s is x ∙ rest_refuses p s parts.0 x)))
    by false is =
        let same : s.limit ≡ limit = keeps.0 in
        let few : s.begun ≤ limit = keeps.1 in
        let not_less : s.limit ≤ s.begun = ltb-false s.begun s.limit is in
        omega (arith, same, few, not_less)
