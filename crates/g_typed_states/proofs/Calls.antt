-- The firings of calls.
use Rattle.std.proofs.Common.{◌≡◌, inl, inr, ⊎_elim, Bool, true, ℕ, ◌+◌, List, [], ◌∷◌, map, length, Option, Some, None, refl, ap, sym, ◌∙◌, subst}
use Rattle.std.specs.Prelude.{slice_get, is_none}
use Rattle.std.specs.List.{list_all}
use Rattle.std.specs.Option.{option_and_then}
use Rattle.g_types.specs.declared.ty.Ty.{Ty}
use Rattle.g_values.specs.declared.value.Value.{Value}
use Rattle.g_diagram.specs.declared.hierarchy.Clones.{Clones}
use Rattle.g_diagram.specs.declared.hierarchy.Clones.TheVariants.{NonReentrant, Preallocated, Pool}
use Rattle.g_diagram.specs.declared.panel.PanelItem.{PanelItem}
use Rattle.g_diagram.specs.declared.panel.PanelItem.TheVariants.{Control, Indicator}
use Rattle.g_diagram.specs.Lines.{Wire, Entry, Call}
use Rattle.g_typing.specs.Types.{Types}
use Rattle.g_typing.specs.Typing.{control_types, indicator_types}
use Rattle.g_shared.specs.declared.operations.PanelOp.TheVariants as panel
use Rattle.g_shared.specs.declared.operations.PoolOp.{PoolOp}
use Rattle.g_shared.specs.declared.operations.PoolOp.TheVariants as pool
use Rattle.g_shared.specs.declared.reply.Reply.{Reply}
use Rattle.g_shared.specs.Outcome.{reply_of}
use Rattle.g_shared.specs.Panels.{PanelState}
use Rattle.g_shared.specs.Pools.{PoolState, pool_step}
use Rattle.g_border.specs.Readers.{Reader, has_value, value_on, paired, outputs_given}
use Rattle.g_frames.specs.declared.state.Progress.{Progress}
use Rattle.g_frames.specs.declared.state.Progress.TheVariants as progress
use Rattle.g_frames.specs.declared.state.Stage.{Stage}
use Rattle.g_frames.specs.declared.state.Stage.TheVariants.{Entered, Opened, Returned, Left}
use Rattle.g_frames.specs.declared.state.Frame.{Frame}
use Rattle.g_frames.specs.Contents as content
use Rattle.g_frames.specs.Contents.{Content, OnPanel, OnPool, object_step}
use Rattle.g_frames.specs.Program.{FlatVi, Program, vi_at, numbered, called_space, panel_object, pool_object}
use Rattle.g_frames.specs.Panels.{argument, arguments, controls_given}
use Rattle.g_frames.specs.State.{FireState, Opening, reader_in}
use Rattle.g_frames.specs.Effects.{Effect, gives, opens, Here, no_body, on_object}
use Rattle.g_frames.specs.Structures.{is_complete_at}
use Rattle.g_frames.specs.Calls.{enters, panel_opens, stage_after, panel_returns, leaves, space_of_call, call_begins, call_goes_on, call_effect}
use Rattle.g_frames.specs.Fire.{here}
use Rattle.g_frames.proofs.RunLemmas.{refute, some_is}
use Rattle.g_typed_states.specs.Places.{Among, first, later, HaveTypes, node_places, control_places}
use Rattle.g_typed_states.specs.Lines.{IsItemProper, ControlsTyped, ArgumentFits, ArgumentsFit}
use Rattle.g_typed_states.specs.Accepted.{AcceptsCall, HasSpace, IsAcceptedVi}
use Rattle.g_typed_states.specs.Typed.{Shape, QueueOf, CellOf, PanelOf, PoolOf, shapes, IsTypedValue, AreTyped, IsTypedReader, has_given, IsTypedContent, IsTypedPanel, IsTypedProgress, IsTypedFrame}
use Rattle.g_typed_states.proofs.Lists.{and_left, and_right, none_is}
use Rattle.g_typed_states.proofs.Values.{coerced_value, default_of_typed}
use Rattle.g_typed_states.proofs.Wires.{GivesAt, are_fine, gives_paired, value_typed}
use Rattle.g_typed_states.proofs.Inputs.{HaveValues, TakesOf, takes-Call}
use Rattle.g_typed_states.proofs.Objects.{IsObject, object_at}
use Rattle.g_typed_states.proofs.Frames.{IsFitOpening}
use Rattle.g_typed_states.proofs.Fits.{Fits, waits, IsFit, Fires, StepFits, accepted_vi, outer_typed, guarded, then_fit, gives_fit, moves_fit, opens_fit, on_object_fit, panel_typed, panel_after}
use Rattle.g_typed_states.proofs.Simple.{panel_of, content_step}

-- ---- panels of VIs

pub all_items : (P : PanelItem → Type 0) (item : PanelItem) (items : List PanelItem) → ((x : PanelItem) → Among x (item ∷ items) → P x) → (x : PanelItem) → Among x items → P x
all_items P item items each x at = each x (later at)

module _ (p : Program) where
  -- what a call sets the controls to
  pub arguments_typed : (types : Types) (d : ℕ) (r : Reader) → IsTypedReader p (types d) r → (inputs : List Wire) (items : List PanelItem) → ((item : PanelItem) → Among item items → IsItemProper item)
      → ArgumentsFit types d inputs items → HaveValues r inputs → AreTyped p (control_types items) (arguments r inputs items)
  arguments_typed types d r reads inputs [] proper fit has = tt
  arguments_typed types d r reads [] (Control name t required given out ∷ items) proper fit has =
      let own = proper (Control name t required given out) first in
      (default_of_typed p given t own.1 own.0, arguments_typed types d r reads [] items (all_items IsItemProper (Control name t required given out) items proper) fit has)
  arguments_typed types d r reads (w ∷ ws) (Control name t required given out ∷ items) proper fit has =
      let own = proper (Control name t required given out) first in (
        one w fit.0 (and_left (has_value r w) (list_all (has_value r) ws) has) own,
        arguments_typed types d r reads ws items (all_items IsItemProper (Control name t required given out) items proper) fit.1 (and_right (has_value r w) (list_all (has_value r) ws) has),
      )
    where
      one : (w : Wire) → ArgumentFits types d w t → has_value r w ≡ true → IsItemProper (Control name t required given out) → IsTypedValue p t (argument r w given t)
      one None fits there own = default_of_typed p given t own.1 own.0
      one (Some n) fits there own = coerced_value p fits.type t (value_on r (Some n)) (value_typed p types d r reads (Some n) fits.type there fits.known) fits.fits
  arguments_typed types d r reads [] (Indicator name t w ∷ items) proper fit has =
      arguments_typed types d r reads [] items (all_items IsItemProper (Indicator name t w) items proper) fit has
  arguments_typed types d r reads (x ∷ ws) (Indicator name t w ∷ items) proper fit has =
      arguments_typed types d r reads (x ∷ ws) items (all_items IsItemProper (Indicator name t w) items proper) fit has

  controls_paired : (l : ℕ) (items : List PanelItem) (vs : List Value) → controls_given l items vs ≡ paired (control_places l items) vs
  controls_paired l [] vs = refl
  controls_paired l (Control name t required given out ∷ items) [] = refl
  controls_paired l (Control name t required given out ∷ items) (v ∷ vs) = ap (λ gs. (record { line = l; operand = 1 }, v) ∷ gs) (controls_paired (l + 1) items vs)
  controls_paired l (Indicator name t w ∷ items) vs = controls_paired (l + 1) items vs

  controls_have : (vi : FlatVi) (l : ℕ) (items : List PanelItem) → ControlsTyped vi l items → HaveTypes vi (control_places l items) (map Some (control_types items))
  controls_have vi l [] typed = tt
  controls_have vi l (Control name t required given out ∷ items) typed = (typed.0, controls_have vi (l + 1) items typed.1)
  controls_have vi l (Indicator name t w ∷ items) typed = controls_have vi (l + 1) items typed

  -- the values of the controls come to their wires
  pub controls_give : (vi : FlatVi) → IsAcceptedVi p vi → (vs : List Value) → AreTyped p (control_types vi.panel) vs → GivesAt p vi (control_places 1 vi.panel) (controls_given 1 vi.panel vs)
  controls_give vi accepted vs are =
      subst (GivesAt p vi (control_places 1 vi.panel)) (sym (controls_paired 1 vi.panel vs))
      (gives_paired p vi accepted.spelled (control_places 1 vi.panel) (map Some (control_types vi.panel)) vs (controls_have vi 1 vi.panel accepted.controls) (are_fine p (control_types vi.panel) vs are))

  -- the frame of a VI's own diagram
  pub top_opening : (v space : ℕ) (vi : FlatVi) → vi_at p v ≡ Some vi → HasSpace p v space → IsAcceptedVi p vi → (vs : List Value) → AreTyped p (control_types vi.panel) vs
      → IsFitOpening p (record { vi = v; space = space; diagram = 0; iteration = 0; gives = controls_given 1 vi.panel vs })
  top_opening v space vi is at accepted vs are =
      let given = controls_give vi accepted vs are in
      record {
        vi = vi;
        is = is;
        space = at;
        typed = given.typed;
        supplied = λ name w source. ⊎_elim (λ l. inl (given.covers 0 name w l source)) (λ n. inr n) (accepted.supplied name w source);
      }

  -- ---- pools

  pool_stays : (k : ℕ) (sh : Shape) (free more : PoolState) → IsTypedContent p k sh (content.Pool free) → IsTypedContent p k sh (content.Pool more)
  pool_stays k PoolOf free more typed = tt
  pool_stays k (QueueOf t) free more typed = absurd typed
  pool_stays k (CellOf t) free more typed = absurd typed
  pool_stays k (PanelOf cs is) free more typed = absurd typed

  -- a pool is one afterwards
  pub pool_after : (k : ℕ) (o : PoolOp) (choice : ℕ) (c : Content) (x : Reply × Content) → IsObject p k c → object_step c (OnPool o) choice no_body ≡ Some x
      → (sh : Shape) → slice_get (shapes p) k ≡ Some sh → IsTypedContent p k sh x.1
  pool_after k o choice (content.Pool free) x object step sh at =
      let after = content_step content.Pool (pool_step free o choice) x step in
      subst (IsTypedContent p k sh) (ap (λ (y : Reply × Content). y.1) after.1.1)
      (pool_stays k sh free after.0.1 (subst (λ y. IsTypedContent p k y (content.Pool free)) (some_is object.shape sh (sym object.is ∙ at)) object.typed))
  pool_after k o choice (content.Panel st) x object step sh at = absurd (none_is x step)
  pool_after k o choice (content.Queue qs) x object step sh at = absurd (none_is x step)
  pool_after k o choice (content.Cell cs) x object step sh at = absurd (none_is x step)

module _ (p : Program) (s : FireState) (f : Frame) (frame : IsTypedFrame p s.frames f) (e : Entry) (q : Progress) (fires_now : Fires p s f frame e q) (room : Bool) where
  abbrev vi : FlatVi
  vi = frame.vi

  abbrev r : Reader
  r = reader_in frame.vi f

  abbrev h : Here
  h = here p room s f frame.vi

  abbrev Fit : Option Effect → Type 0
  Fit o = Fits p s f frame.vi e q o

  module _ (name : List ℕ) (inputs outputs : List Wire) (is : e.kind ≡ Call name inputs outputs) (accepts : AcceptsCall p vi e name inputs) (taken : TakesOf r e (Call name inputs outputs)) where
    abbrev v : ℕ
    v = numbered p.vis name

    abbrev called : FlatVi
    called = accepts.called

    accepted_called : IsAcceptedVi p called
    accepted_called = fires_now.accepted.vis v called accepts.is

    as_call : (fs : List Frame) (clone : ℕ) (stage : Stage) → IsTypedProgress p fs f.vi vi e e.kind (progress.Call clone stage)
    as_call fs clone stage = subst (λ kind. IsTypedProgress p fs f.vi vi e kind (progress.Call clone stage)) (sym is) tt

    -- a clone is taken or freed
    pool_fit : (o : PoolOp) (choice : ℕ) (effect : Reply → Effect) → ((reply : Reply) → IsFit p s f vi e q (effect reply)) → Fit (on_object h (pool_object p v) (OnPool o) choice effect)
    pool_fit o choice effect replies =
        on_object_fit p s f frame e q fires_now room (pool_object p v) (OnPool o) choice effect
        (λ c at x step. record { reply = replies x.0; object = pool_after p (pool_object p v) o choice c x (object_at p s.objects (pool_object p v) c fires_now.state.objects at) step })

    enters_fit : (choice : ℕ) → Fit (enters h v choice)
    enters_fit choice =
        pool_fit pool.Enter choice (λ reply. gives (progress.Call reply.choice Entered) [])
        (λ reply. moves_fit p s f frame e q fires_now (progress.Call reply.choice Entered) (λ done. absurd (refute done)) (λ fs more. as_call fs reply.choice Entered))

    leaves_fit : (clone k : ℕ) → q ≡ progress.Call clone (Returned k) → Fit (leaves h v clone k)
    leaves_fit clone k at =
        pool_fit (pool.Leave clone) 0 (λ reply. gives (progress.Call clone (Left k)) [])
        (λ reply. moves_fit p s f frame e q fires_now (progress.Call clone (Left k)) (λ done. ap has_given at) (λ fs more. as_call fs clone (Left k)))

    -- the panel of the called VI's data space
    module _ (space : ℕ) (has : HasSpace p v space) where
      abbrev k : ℕ
      k = panel_object p space

      abbrev controls : List Ty
      controls = control_types called.panel

      abbrev indicators : List Ty
      indicators = indicator_types called.panel

      panel_now : (c : Content) → slice_get s.objects k ≡ Some c → (st : PanelState) × ((c ≡ content.Panel st) × IsTypedPanel p controls indicators st)
      panel_now c at = panel_of p k controls indicators c (panel_typed p s f frame e q fires_now v called space c accepts.is has at)

      given_controls : List Value
      given_controls = arguments r inputs called.panel

      args_typed : AreTyped p controls (arguments r inputs called.panel)
      args_typed =
          arguments_typed p vi.types e.diagram r (outer_typed p s f frame e q fires_now) inputs called.panel accepted_called.panel accepts.inputs_fit (takes-Call r e name inputs outputs taken)

      abbrev opening_with : List Value → Opening
      opening_with vs = record { vi = v; space = space; diagram = 0; iteration = 0; gives = controls_given 1 called.panel vs }

      opened_fit : (clone : ℕ) (vs : List Value) → AreTyped p controls vs → IsFit p s f vi e q (opens (progress.Call clone (Opened (length s.frames))) (opening_with vs))
      opened_fit clone vs are =
          opens_fit p s f frame e q fires_now (progress.Call clone (Opened (length s.frames))) (opening_with vs) refl
          (λ fs more opened. as_call fs clone (Opened (length s.frames))) (top_opening p v space called accepts.is has accepted_called vs are)

      opens_panel : (clone : ℕ) → Fit (panel_opens h inputs v clone called space)
      opens_panel clone =
          on_object_fit p s f frame e q fires_now room k (OnPanel (panel.Enter args)) 0 effect
          (λ c at x step. by c x step (panel_now c at))
        where
          args : List Value
          args = arguments r inputs called.panel

          effect : Reply → Effect
          effect = λ reply. opens (progress.Call clone (Opened (length s.frames))) (opening_with reply.values)

          by : (c : Content) (x : Reply × Content) → object_step c (OnPanel (panel.Enter args)) 0 no_body ≡ Some x
              → ((st : PanelState) × ((c ≡ content.Panel st) × IsTypedPanel p controls indicators st)) → StepFits p s f frame e q fires_now effect k x
          by c x step m =
              let new : PanelState = record m.0 { controls = args } in
              let typed : IsTypedPanel p controls indicators new = record { controls_typed = args_typed; indicators_typed = m.1.1.indicators_typed } in
              let after : Reply × Content = (reply_of args, content.Panel new) in
              subst (StepFits p s f frame e q fires_now effect k) (some_is after x (ap (λ y. object_step y (OnPanel (panel.Enter args)) 0 no_body) (sym m.1.0) ∙ step))
              (record { reply = opened_fit clone args args_typed; object = panel_after p s f frame e q fires_now v called space (content.Panel new) accepts.is has typed })

      returned_fit : (new : Progress) (vs : List Value) → ((fs : List Frame) → IsTypedProgress p fs f.vi vi e e.kind new) → AreTyped p indicators vs → IsFit p s f vi e q (gives new (outputs_given e vs))
      returned_fit new vs moves are =
          gives_fit p s f frame e q fires_now new (outputs_given e vs) (λ fs more. moves fs)
          (gives_paired p vi (accepted_vi p s f frame e q fires_now).spelled (node_places e) (map Some indicators) vs accepts.places (are_fine p indicators vs are))

      returns_panel : (clone n : ℕ) → Fit (panel_returns h e clone n called space)
      returns_panel clone n =
          guarded p s f frame e q fires_now (is_complete_at h n) (on_object h k (OnPanel panel.Leave) 0 effect)
          (λ done. on_object_fit p s f frame e q fires_now room k (OnPanel panel.Leave) 0 effect (λ c at x step. by c x step (panel_now c at)))
        where
          new : Progress
          new = progress.Call clone (stage_after called.clones n)

          effect : Reply → Effect
          effect = λ reply. gives (progress.Call clone (stage_after called.clones n)) (outputs_given e reply.values)

          by : (c : Content) (x : Reply × Content) → object_step c (OnPanel panel.Leave) 0 no_body ≡ Some x
              → ((st : PanelState) × ((c ≡ content.Panel st) × IsTypedPanel p controls indicators st)) → StepFits p s f frame e q fires_now effect k x
          by c x step m =
              let after : Reply × Content = (reply_of m.0.indicators, content.Panel m.0) in
              subst (StepFits p s f frame e q fires_now effect k) (some_is after x (ap (λ y. object_step y (OnPanel panel.Leave) 0 no_body) (sym m.1.0) ∙ step))
              (record {
                reply = returned_fit (progress.Call clone (stage_after called.clones n)) m.0.indicators (λ fs. as_call fs clone (stage_after called.clones n)) m.1.1.indicators_typed;
                object = panel_after p s f frame e q fires_now v called space (content.Panel m.0) accepts.is has m.1.1;
              })

    -- ---- all firings of a call

    module _ (spaces : (clone entered : ℕ) → called_space p called.clones v f.space e.line clone ≡ Some entered → HasSpace p v entered) where
      opens_call : (clone : ℕ) → Fit (option_and_then (panel_opens h inputs v clone called) (space_of_call h e v clone called))
      opens_call clone =
          then_fit p s f frame e q fires_now (panel_opens h inputs v clone called) (space_of_call h e v clone called) (λ space at. opens_panel space (spaces clone space at) clone)

      begins_fit : (clones : Clones) (choice : Option ℕ) → Fit (call_begins h e inputs v called clones choice)
      begins_fit NonReentrant choice = guarded p s f frame e q fires_now (is_none choice) (enters h v 0) (λ free. enters_fit 0)
      begins_fit Preallocated choice =
          guarded p s f frame e q fires_now (is_none choice) (option_and_then (panel_opens h inputs v 0 called) (space_of_call h e v 0 called)) (λ free. opens_call 0)
      begins_fit (Pool n) choice = then_fit p s f frame e q fires_now (enters h v) choice (λ k at. enters_fit k)

      goes_on_fit : (clone : ℕ) (stage : Stage) → q ≡ progress.Call clone stage → Fit (call_goes_on h e inputs v clone called stage)
      goes_on_fit clone Entered at = opens_call clone
      goes_on_fit clone (Opened n) at =
          then_fit p s f frame e q fires_now (panel_returns h e clone n called) (space_of_call h e v clone called) (λ space is. returns_panel space (spaces clone space is) clone n)
      goes_on_fit clone (Returned n) at = leaves_fit clone n at
      goes_on_fit clone (Left n) at = waits

      call_by : (choice : Option ℕ) (x : Progress) → q ≡ x → Fit (call_effect h e inputs choice x v called)
      call_by choice progress.Idle at = begins_fit called.clones choice
      call_by choice progress.Done at = waits
      call_by choice (progress.Loop vs ks over) at = waits
      call_by choice (progress.Case k over) at = waits
      call_by choice (progress.Sequence ks over) at = waits
      call_by choice (progress.Call clone stage) at = guarded p s f frame e q fires_now (is_none choice) (call_goes_on h e inputs v clone called stage) (λ free. goes_on_fit clone stage at)

    pub call_fit : (choice : Option ℕ)
        → ((x : FlatVi) → vi_at p v ≡ Some x → (clone entered : ℕ) → called_space p x.clones v f.space e.line clone ≡ Some entered → HasSpace p v entered)
        → Fit (option_and_then (call_effect h e inputs choice q v) (vi_at p v))
    call_fit choice spaces =
        then_fit p s f frame e q fires_now (call_effect h e inputs choice q v) (vi_at p v)
        (λ x at. subst (λ y. Fit (call_effect h e inputs choice q v y)) (some_is called x (sym accepts.is ∙ at)) (call_by (spaces called accepts.is) choice q refl))
