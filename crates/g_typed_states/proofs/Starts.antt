-- The start is typed, and so is each state that a run reaches from it.
use Rattle.std.proofs.Common.{◌≡◌, ⊎_elim, Bool, true, false, ℕ, zero, suc, ◌+◌, List, [], ◌∷◌, ◌++◌, map, length, Some, None, arith, refl, ap, sym, ◌∙◌, subst}
use Rattle.std.specs.Prelude.{slice_get, ◌==◌, if◌then◌else◌}
use Rattle.std.specs.List.{All}
use Rattle.std.specs.Option.{option_map, option_map_or, option_to_list}
use Rattle.std.proofs.lemmas.Bool.{eqb-true}
use Rattle.std.proofs.lemmas.List.Elements.{All-nil, All-cons, All-head, All-tail}
use Rattle.g_values.specs.declared.value.Value.{Value}
use Rattle.g_values.specs.Spelled.{IsSpelled}
use Rattle.g_diagram.specs.declared.panel.PanelItem.{PanelItem}
use Rattle.g_diagram.specs.declared.panel.PanelItem.TheVariants.{Control, Indicator}
use Rattle.g_typing.specs.Typing.{control_types, indicator_types}
use Rattle.g_reference_laws.specs.References.{references_of, HoldsOnly}
use Rattle.g_reference_laws.proofs.Held.{holds_none}
use Rattle.g_hier.specs.declared.linked.Space.{Space}
use Rattle.g_frames.specs.declared.firing.Firing.{Firing}
use Rattle.g_frames.specs.declared.program.QueueName.{QueueName}
use Rattle.g_frames.specs.declared.program.CellPlace.{CellPlace}
use Rattle.g_frames.specs.declared.program.KeptPlace.{KeptPlace}
use Rattle.g_frames.specs.declared.state.Frame.{Frame}
use Rattle.g_frames.specs.Contents.{Content}
use Rattle.g_frames.specs.Program.{FlatVi, Program, vi_at}
use Rattle.g_frames.specs.Panels.{control_defaults, indicator_defaults, controls_given}
use Rattle.g_frames.specs.State.{FireState, opened, first_queues, first_cells, panel_items, first_panels, first_pools, first_objects, first_kept, first_opening, start}
use Rattle.g_frames.specs.Fire.{can_fire, fire}
use Rattle.g_frames.specs.Run.{go_on, after_from, after}
use Rattle.g_frames.proofs.RunLemmas.{some_is}
use Rattle.g_typed_states.specs.Places.{Among, first, later}
use Rattle.g_typed_states.specs.Lines.{IsItemProper}
use Rattle.g_typed_states.specs.Accepted.{IsAccepted}
use Rattle.g_typed_states.specs.Typed.{Shape, QueueOf, CellOf, PoolOf, panel_shape, shapes, IsNamed, AreTyped, IsTypedFrame, AreTypedObjects, IsTypedState}
use Rattle.g_typed_states.specs.Laws.{AreControls}
use Rattle.g_typed_states.proofs.Lists.{none_is, no_place, among_cases}
use Rattle.g_typed_states.proofs.Values.{default_value, default_of_typed, are_typed}
use Rattle.g_typed_states.proofs.Calls.{all_items, top_opening}
use Rattle.g_typed_states.proofs.Frames.{IsFitOpening, opened_typed}
use Rattle.g_typed_states.proofs.Stays.{stays_typed}

module _ (p : Program) where
  -- ---- panels

  pub controls_default : (items : List PanelItem) → ((x : PanelItem) → Among x items → IsItemProper x) → AreTyped p (control_types items) (control_defaults items)
  controls_default [] proper = tt
  controls_default (Control name t required given out ∷ items) proper =
      let own = proper (Control name t required given out) first in
      (default_of_typed p given t own.1 own.0, controls_default items (all_items IsItemProper (Control name t required given out) items proper))
  controls_default (Indicator name t w ∷ items) proper = controls_default items (all_items IsItemProper (Indicator name t w) items proper)

  pub indicators_default : (items : List PanelItem) → ((x : PanelItem) → Among x items → IsItemProper x) → AreTyped p (indicator_types items) (indicator_defaults items)
  indicators_default [] proper = tt
  indicators_default (Control name t required given out ∷ items) proper = indicators_default items (all_items IsItemProper (Control name t required given out) items proper)
  indicators_default (Indicator name t w ∷ items) proper =
      (default_value p t (proper (Indicator name t w) first), indicators_default items (all_items IsItemProper (Indicator name t w) items proper))

  -- ---- objects

  objects_append : (k : ℕ) (shs ths : List Shape) (cs ds : List Content) → AreTypedObjects p k shs cs → AreTypedObjects p (k + length shs) ths ds → AreTypedObjects p k (shs ++ ths) (cs ++ ds)
  objects_append k [] ths [] ds are more = subst (λ n. AreTypedObjects p n ths ds) (no_more k) more
    where
      no_more : (k : ℕ) → k + 0 ≡ k
      no_more k = omega arith
  objects_append k [] ths (c ∷ cs) ds are more = absurd are
  objects_append k (sh ∷ shs) ths [] ds are more = absurd are
  objects_append k (sh ∷ shs) ths (c ∷ cs) ds are more =
      (are.0, objects_append (suc k) shs ths cs ds are.1 (subst (λ n. AreTypedObjects p n ths ds) (one_more k (length shs)) more))
    where
      one_more : (k n : ℕ) → k + suc n ≡ suc k + n
      one_more k n = omega arith

  queues_typed : (k : ℕ) (qs : List QueueName) → AreTypedObjects p k (map (λ q. QueueOf q.item) qs) (first_queues k qs)
  queues_typed k [] = tt
  queues_typed k (q ∷ qs) = (record { number_is = refl; item_is = refl; items = tt }, queues_typed (suc k) qs)

  cells_typed : (k : ℕ) (cs : List CellPlace) → AreTypedObjects p k (map (λ c. CellOf c.content) cs) (first_cells k cs)
  cells_typed k [] = tt
  cells_typed k (c ∷ cs) = (record { number_is = refl; content_is = refl; kept = tt }, cells_typed (suc k) cs)

  abbrev IsPanelProper : Space → Type 0
  IsPanelProper s = (x : PanelItem) → Among x (panel_items p s.vi) → IsItemProper x

  not_first : (k : ℕ) → (suc k == 0) ≡ false
  not_first k = by (suc k == 0) refl
    where
      by : (b : Bool) → (suc k == 0) ≡ b → (suc k == 0) ≡ false
      by true is = absurd (let same : suc k ≡ 0 = eqb-true (suc k) 0 is in omega (arith, same))
      by false is = is

  later_panels : (controls : List Value) (n k : ℕ) (ss : List Space) → ((s : Space) → Among s ss → IsPanelProper s) → AreTypedObjects p n (map (panel_shape p) ss) (first_panels p controls (suc k) ss)
  later_panels controls n k [] proper = tt
  later_panels controls n k (s ∷ ss) proper = (
    record {
      controls_typed = subst (λ b. AreTyped p (control_types (panel_items p s.vi)) (if b then controls else control_defaults (panel_items p s.vi))) (sym (not_first k))
          (controls_default (panel_items p s.vi) (proper s first));
      indicators_typed = indicators_default (panel_items p s.vi) (proper s first);
    },
    later_panels controls (suc n) (suc k) ss (λ x at. proper x (later at)),
  )

  panels_typed : (controls : List Value) (n : ℕ) (ss : List Space) → ((s : Space) → Among s ss → IsPanelProper s)
      → ((s : Space) → slice_get ss 0 ≡ Some s → AreTyped p (control_types (panel_items p s.vi)) controls) → AreTypedObjects p n (map (panel_shape p) ss) (first_panels p controls 0 ss)
  panels_typed controls n [] proper set = tt
  panels_typed controls n (s ∷ ss) proper set = (
    record { controls_typed = set s refl; indicators_typed = indicators_default (panel_items p s.vi) (proper s first) },
    later_panels controls (suc n) 0 ss (λ x at. proper x (later at)),
  )

  pools_typed : (n : ℕ) (vs : List ℕ) → AreTypedObjects p n (map (λ v. PoolOf) vs) (first_pools p vs)
  pools_typed n [] = tt
  pools_typed n (v ∷ vs) = (tt, pools_typed (suc n) vs)

  kept_typed : (ks : List KeptPlace) → ((k : KeptPlace) → Among k ks → IsSpelled k.content) → AreTyped p (map (λ k. k.content) ks) (first_kept ks)
  kept_typed [] spelled = tt
  kept_typed (k ∷ ks) spelled = (default_value p k.content (spelled k first), kept_typed ks (λ x at. spelled x (later at)))

long_map : {A B : Type 0} (f : A → B) (xs : List A) → length xs ≡ length (map f xs)
long_map f [] = refl
long_map f (x ∷ xs) = ap suc (long_map f xs)

index_of : {A : Type 0} (x : A) (xs : List A) → Among x xs → (k : ℕ) × (slice_get xs k ≡ Some x)
index_of x [] at = absurd (no_place x at)
index_of {A = A} x (y ∷ xs) at =
    ⊎_elim (λ same. (0, ap Some same)) (λ l. let k = index_of x xs l in (suc k.0, k.1)) (among_cases x y xs at)

module _ (p : Program) (controls : List Value) (limit : ℕ) (accepted : IsAccepted p) (are : AreControls p controls) where
  each_none : (vs : List Value) → All (λ v. references_of v ≡ []) vs → All (HoldsOnly (IsNamed p)) vs
  each_none [] none = All-nil (HoldsOnly (IsNamed p))
  each_none (v ∷ vs) none =
      All-cons (HoldsOnly (IsNamed p)) v vs (holds_none (IsNamed p) v (All-head (λ v. references_of v ≡ []) v vs none)) (each_none vs (All-tail (λ v. references_of v ≡ []) v vs none))

  controls_typed : AreTyped p (control_types (panel_items p p.main)) controls
  controls_typed = are_typed p (control_types (panel_items p p.main)) controls are.of_types (each_none controls are.none)

  -- the VI that runs
  abbrev main_vi : FlatVi
  main_vi = (accepted.spaces 0 accepted.main.found accepted.main.is).vi

  main_at : vi_at p p.main ≡ Some main_vi
  main_at = ap (vi_at p) (sym accepted.main.vi_is) ∙ (accepted.spaces 0 accepted.main.found accepted.main.is).is

  items_are : panel_items p p.main ≡ main_vi.panel
  items_are = ap (λ o. option_map_or (λ (vi : FlatVi). vi.panel) o []) main_at

  opening : IsFitOpening p (first_opening p controls)
  opening =
      subst (λ items. IsFitOpening p (record { vi = p.main; space = 0; diagram = 0; iteration = 0; gives = controls_given 1 items controls })) (sym items_are)
      (top_opening p p.main 0 main_vi main_at accepted.main (accepted.vis p.main main_vi main_at) controls (subst (λ items. AreTyped p (control_types items) controls) items_are controls_typed))

  frames_are : (start p controls limit).frames ≡ opened None (first_opening p controls) opening.vi ∷ []
  frames_are = ap (λ o. option_to_list (option_map (opened None (first_opening p controls)) o)) opening.is

  one_frame : (k : ℕ) (f g : Frame) → slice_get (g ∷ []) k ≡ Some f → g ≡ f
  one_frame zero f g at = some_is g f at
  one_frame (suc k) f g at = absurd (none_is f at)

  panel_proper : (s : Space) → Among s p.spaces → (x : PanelItem) → Among x (panel_items p s.vi) → IsItemProper x
  panel_proper s at x item =
      let k = index_of s p.spaces at in
      let space = accepted.spaces k.0 s k.1 in
      (accepted.vis s.vi space.vi space.is).panel x (subst (Among x) (ap (λ o. option_map_or (λ (vi : FlatVi). vi.panel) o []) space.is) item)

  controls_set : (s : Space) → slice_get p.spaces 0 ≡ Some s → AreTyped p (control_types (panel_items p s.vi)) controls
  controls_set s at =
      subst (λ v. AreTyped p (control_types (panel_items p v)) controls)
      (sym accepted.main.vi_is ∙ ap (λ (x : Space). x.vi) (some_is accepted.main.found s (sym accepted.main.is ∙ at))) controls_typed

  objects_typed : AreTypedObjects p 0 (shapes p) (first_objects p controls)
  objects_typed =
      objects_append p 0 (map (λ q. QueueOf q.item) p.queues) (map (λ c. CellOf c.content) p.cells ++ (map (panel_shape p) p.spaces ++ map (λ v. PoolOf) p.pools)) (first_queues 0 p.queues)
      (first_cells (length p.queues) p.cells ++ (first_panels p controls 0 p.spaces ++ first_pools p p.pools)) (queues_typed p 0 p.queues)
      (subst (λ n. AreTypedObjects p n (map (λ c. CellOf c.content) p.cells ++ (map (panel_shape p) p.spaces ++ map (λ v. PoolOf) p.pools))
      (first_cells (length p.queues) p.cells ++ (first_panels p controls 0 p.spaces ++ first_pools p p.pools))) (after_queues (length p.queues) (length (map (λ (q : QueueName). QueueOf q.item) p.queues)) (long_map (λ (q : QueueName). QueueOf q.item) p.queues))
      (objects_append p (length p.queues) (map (λ c. CellOf c.content) p.cells) (map (panel_shape p) p.spaces ++ map (λ v. PoolOf) p.pools) (first_cells (length p.queues) p.cells)
      (first_panels p controls 0 p.spaces ++ first_pools p p.pools) (cells_typed p (length p.queues) p.cells)
      (objects_append p (length p.queues + length (map (λ (c : CellPlace). CellOf c.content) p.cells)) (map (panel_shape p) p.spaces) (map (λ v. PoolOf) p.pools) (first_panels p controls 0 p.spaces) (first_pools p p.pools)
      (panels_typed p controls (length p.queues + length (map (λ (c : CellPlace). CellOf c.content) p.cells)) p.spaces panel_proper controls_set)
      (pools_typed p (length p.queues + length (map (λ (c : CellPlace). CellOf c.content) p.cells) + length (map (panel_shape p) p.spaces)) p.pools))))
    where
      after_queues : (n m : ℕ) → n ≡ m → n ≡ 0 + m
      after_queues n m same = omega (arith, same)

  pub starts_typed : IsTypedState p (start p controls limit)
  starts_typed = record {
    frames = λ k f at.
        subst (λ fs. IsTypedFrame p fs f) (sym frames_are)
        (subst (IsTypedFrame p (opened None (first_opening p controls) opening.vi ∷ []))
        (one_frame k f (opened None (first_opening p controls) opening.vi) (ap (λ fs. slice_get fs k) (sym frames_are) ∙ at))
        (opened_typed p (opened None (first_opening p controls) opening.vi ∷ []) None (first_opening p controls) opening));
    objects = objects_typed;
    kept = kept_typed p p.kept accepted.kept;
  }

runs_on : (p : Program) → IsAccepted p → (xs : List Firing) (s t : FireState) → after_from p xs s ≡ Some t → IsTypedState p s → IsTypedState p t
runs_on p accepted [] s t is typed = subst (IsTypedState p) (some_is s t is) typed
runs_on p accepted (x ∷ xs) s t is typed = by (can_fire p s x) is (λ more. runs_on p accepted xs (fire p s x) t more (stays_typed p s x accepted typed))
  where
    by : (b : Bool) → go_on b (after_from p xs) (fire p s x) ≡ Some t → (after_from p xs (fire p s x) ≡ Some t → IsTypedState p t) → IsTypedState p t
    by true g rest = rest g
    by false g rest = absurd (none_is t g)

pub runs_typed : (p : Program) (controls : List Value) (limit : ℕ) (trace : List Firing) (s : FireState) → IsAccepted p → AreControls p controls → after p controls limit trace ≡ Some s
    → IsTypedState p s
runs_typed p controls limit trace s accepted are is = runs_on p accepted trace (start p controls limit) s is (starts_typed p controls limit accepted are)
