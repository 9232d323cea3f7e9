-- The test of rest, and what can fire.
use Rattle.std.proofs.Common.{◌≡◌, Bool, true, false, ◌||◌, ℕ, zero, suc, ◌+◌, List, [], ◌∷◌, map, length, Option, Some, None, arith, cond, refl, ap, sym, ◌∙◌}
use Rattle.std.proofs.lemmas.Bool.{eqb-true, or_left, or_right}
use Rattle.std.proofs.lemmas.List.Folds.{list_any-append}
use Rattle.std.specs.Prelude.{is_some, is_none, slice_get, not, nat_lt, ◌==◌}
use Rattle.std.specs.List.{list_any}
use Rattle.std.specs.Option.{option_and_then, option_map_or}
use Rattle.g_diagram.specs.declared.hierarchy.Clones.{Clones}
use Rattle.g_diagram.specs.declared.hierarchy.Clones.TheVariants.{NonReentrant, Preallocated, Pool}
use Rattle.g_diagram.specs.Lines.{Wire, Entry, Kind, Const, Apply, Shows, Shared, Obtain, Read, Write, Call, Loop, Case, Sequence, InPlace}
use Rattle.g_shared.specs.declared.operations.PoolOp.TheVariants as pool
use Rattle.g_shared.specs.declared.reply.Reply.{Reply}
use Rattle.g_shared.specs.Pools.{enter}
use Rattle.g_frames.specs.declared.firing.Firing.{Firing}
use Rattle.g_frames.specs.declared.state.Frame.{Frame}
use Rattle.g_frames.specs.declared.state.Progress.{Progress}
use Rattle.g_frames.specs.declared.state.Progress.TheVariants as progress
use Rattle.g_frames.specs.Contents as content
use Rattle.g_frames.specs.Contents.{Content, OnPool, as_content, object_step}
use Rattle.g_frames.specs.Program.{FlatVi, Program, vi_at, numbered, pool_object}
use Rattle.g_frames.specs.State.{FireState, nodes_in}
use Rattle.g_frames.specs.declared.state.Stage.TheVariants.{Entered}
use Rattle.g_frames.specs.Effects.{Effect, gives, guard, Here, after_step, no_body}
use Rattle.g_frames.specs.Calls.{call_begins, call_effect}
use Rattle.g_frames.specs.Fire.{effect, is_ready, node_effect, node_on, here, effect_in, can_fire}
use Rattle.g_frames.specs.Run.{firing, Standing, nodes_from, frame_nodes, nodes_of_frames, all_nodes, from_to, clones_in, choices_of, can_go_on, is_at_rest, IsAtRest}
use Rattle.g_frames.proofs.RunLemmas.{refute, some_is}

then_some : {A B : Type 0} (f : A → Option B) (o : Option A) → is_some (option_and_then f o) ≡ true → (a : A) × (o ≡ Some a) × (is_some (f a) ≡ true)
then_some f None h = absurd (refute h)
then_some f (Some a) h = (a, refl, h)

guarded : (b : Bool) (e : Option Effect) → is_some (guard b e) ≡ true → is_some e ≡ true
guarded true e h = h
guarded false e h = absurd (refute h)

-- ---- choices

any_clone : (test : Option ℕ → Bool) (first : ℕ) (free : List Bool) (c : ℕ) (b : Bool) → slice_get free c ≡ Some b → test (Some (first + c)) ≡ true
    → list_any test (map Some (from_to first (length free))) ≡ true
any_clone test first [] c b at h = absurd (refute (ap is_some at))
any_clone test first (y ∷ free) zero b at h =
    or_left (test (Some first)) (list_any test (map Some (from_to (suc first) (length free)))) (ap (λ n. test (Some n)) (omega arith) ∙ h)
any_clone test first (y ∷ free) (suc c) b at h =
    or_right (test (Some first)) (list_any test (map Some (from_to (suc first) (length free))))
    (any_clone test (suc first) free c b at (ap (λ n. test (Some n)) (omega arith) ∙ h))

module _ (test : Option ℕ → Bool) where
  -- a kind of node that takes no choice
  plain : (choice : Option ℕ) (e : Option Effect) → is_some (guard (is_none choice) e) ≡ true → test choice ≡ true → list_any test (None ∷ []) ≡ true
  plain None e h t = or_left (test None) false t
  plain (Some c) e h t = absurd (refute h)

  -- the clone that an enter takes is one of the pool
  clone_entered : (object : Option ℕ) (after : Reply → Effect) (c : ℕ) (o : Option Content) → test (Some c) ≡ true
      → is_some (after_step object after (option_and_then (λ x. object_step x (OnPool pool.Enter) c no_body) o)) ≡ true
      → list_any test (map Some (from_to 0 (option_map_or clones_in o 0))) ≡ true
  clone_entered object after c None t h = absurd (refute h)
  clone_entered object after c (Some (content.Panel s)) t h = absurd (refute h)
  clone_entered object after c (Some (content.Queue s)) t h = absurd (refute h)
  clone_entered object after c (Some (content.Cell s)) t h = absurd (refute h)
  clone_entered object after c (Some (content.Pool free)) t h = by (slice_get free c) refl h
    where
      by : (b : Option Bool) → slice_get free c ≡ b → is_some (after_step object after (as_content content.Pool (enter free c b))) ≡ true
          → list_any test (map Some (from_to 0 (length free))) ≡ true
      by None at g = absurd (refute g)
      by (Some false) at g = absurd (refute g)
      by (Some true) at g = any_clone test 0 free c true at (ap (λ n. test (Some n)) (omega arith) ∙ t)

  module _ (h : Here) (e : Entry) (inputs : List Wire) (v : ℕ) (called : FlatVi) (c : ℕ) (t : test (Some c) ≡ true) where
    abbrev Listed : Type 0
    Listed = list_any test (map Some (from_to 0 (option_map_or clones_in (slice_get h.objects (pool_object h.program v)) 0))) ≡ true

    begun : (clones : Clones) → is_some (call_begins h e inputs v called clones (Some c)) ≡ true → Listed
    begun NonReentrant g = absurd (refute g)
    begun Preallocated g = absurd (refute g)
    begun (Pool n) g =
        clone_entered (Some (pool_object h.program v)) (λ reply. gives (progress.Call reply.choice Entered) []) c (slice_get h.objects (pool_object h.program v)) t g

    entered : (q : Progress) → is_some (call_effect h e inputs (Some c) q v called) ≡ true → Listed
    entered progress.Idle g = begun called.clones g
    entered progress.Done g = absurd (refute g)
    entered (progress.Loop vs ks ended) g = absurd (refute g)
    entered (progress.Case frame ended) g = absurd (refute g)
    entered (progress.Sequence ks ended) g = absurd (refute g)
    entered (progress.Call clone stage) g = absurd (refute g)

  -- what a node fires with is among its choices
  listed : (h : Here) (e : Entry) (choice : Option ℕ) (q : Progress) (kind : Kind) → test choice ≡ true → is_some (effect h e choice kind q) ≡ true
      → list_any test (choices_of h.program h.objects kind) ≡ true
  listed h e choice q (Const t literal out) c g = plain choice _ g c
  listed h e choice q (Apply op inputs outputs) c g = plain choice _ g c
  listed h e choice q (Shows name t w) c g = plain choice _ g c
  listed h e choice q (Shared op inputs outputs) c g = plain choice _ g c
  listed h e choice q (Obtain name size item out) c g = plain choice _ g c
  listed h e choice q (Read name out) c g = plain choice _ g c
  listed h e choice q (Write name w) c g = plain choice _ g c
  listed h e None q (Call name inputs outputs) c g = or_left (test None) _ c
  listed h e (Some k) q (Call name inputs outputs) c g =
      let v = numbered h.program.vis name in
      let at = then_some (call_effect h e inputs (Some k) q v) (vi_at h.program v) g in
      or_right (test None) _ (entered h e inputs v at.0 k c q at.2)
  listed h e choice q (Loop count stop iteration lines body) c g = plain choice _ g c
  listed h e choice q (Case selector lines arms) c g = plain choice _ g c
  listed h e choice q (Sequence parts) c g = plain choice _ g c
  listed h e choice q (InPlace lines body finish) c g = plain choice _ g c

-- ---- nodes

node_line : (l : ℕ) (es : List Entry) (qs : List Progress) (n : Entry × Progress) → node_on l es qs ≡ Some n → n.0.line ≡ l
node_line l [] qs n at = absurd (refute (ap is_some at))
node_line l (e ∷ es) [] n at = absurd (refute (ap is_some at))
node_line l (e ∷ es) (q ∷ qs) n at = by (e.line == l) refl (node_line l es qs n) at
  where
    by : (b : Bool) → (e.line == l) ≡ b → (node_on l es qs ≡ Some n → n.0.line ≡ l) → cond b (Some (e, q)) (node_on l es qs) ≡ Some n → n.0.line ≡ l
    by true is rest g = ap (λ (m : Entry × Progress). m.0.line) (sym (some_is (e, q) n g)) ∙ eqb-true e.line l is
    by false is rest g = rest g

abbrev standing : (number : ℕ) → Frame → FlatVi → Entry × Progress → Standing
standing k f vi n = record { number = k; frame = f; vi = vi; entry = n.0; progress = n.1 }

module _ (test : Standing → Bool) where
  in_nodes : (k : ℕ) (f : Frame) (vi : FlatVi) (l : ℕ) (es : List Entry) (qs : List Progress) (n : Entry × Progress) → node_on l es qs ≡ Some n
      → test (standing k f vi n) ≡ true → list_any test (nodes_from k f vi es qs) ≡ true
  in_nodes k f vi l [] qs n at h = absurd (refute (ap is_some at))
  in_nodes k f vi l (e ∷ es) [] n at h = absurd (refute (ap is_some at))
  in_nodes k f vi l (e ∷ es) (q ∷ qs) n at h = by (e.line == l) (λ g. in_nodes k f vi l es qs n g h) at
    where
      by : (b : Bool) → (node_on l es qs ≡ Some n → list_any test (nodes_from k f vi es qs) ≡ true) → cond b (Some (e, q)) (node_on l es qs) ≡ Some n
          → list_any test (nodes_from k f vi (e ∷ es) (q ∷ qs)) ≡ true
      by true rest g =
          or_left (test (standing k f vi (e, q))) (list_any test (nodes_from k f vi es qs)) (ap (λ m. test (standing k f vi m)) (some_is (e, q) n g) ∙ h)
      by false rest g = or_right (test (standing k f vi (e, q))) (list_any test (nodes_from k f vi es qs)) (rest g)

  in_frames : (p : Program) (k : ℕ) (fs : List Frame) (j : ℕ) (f : Frame) (vi : FlatVi) → slice_get fs j ≡ Some f → vi_at p f.vi ≡ Some vi
      → list_any test (frame_nodes (k + j) f vi) ≡ true → list_any test (nodes_of_frames p k fs) ≡ true
  in_frames p k [] j f vi at is h = absurd (refute (ap is_some at))
  in_frames p k (g ∷ fs) zero f vi at is h =
      list_any-append test (option_map_or (frame_nodes k g) (vi_at p g.vi) []) (nodes_of_frames p (suc k) fs)
      ∙ or_left (list_any test (option_map_or (frame_nodes k g) (vi_at p g.vi) [])) (list_any test (nodes_of_frames p (suc k) fs))
      (ap (λ y. list_any test (option_map_or (frame_nodes k y) (vi_at p y.vi) [])) (some_is g f at)
      ∙ ap (λ o. list_any test (option_map_or (frame_nodes k f) o [])) is
      ∙ ap (λ n. list_any test (frame_nodes n f vi)) (omega arith)
      ∙ h)
  in_frames p k (g ∷ fs) (suc j) f vi at is h =
      list_any-append test (option_map_or (frame_nodes k g) (vi_at p g.vi) []) (nodes_of_frames p (suc k) fs)
      ∙ or_right (list_any test (option_map_or (frame_nodes k g) (vi_at p g.vi) [])) (list_any test (nodes_of_frames p (suc k) fs))
      (in_frames p (suc k) fs j f vi at is (ap (λ n. list_any test (frame_nodes n f vi)) (omega arith) ∙ h))

-- a node that a firing fires can go on
some_goes_on : (p : Program) (s : FireState) (x : Firing) → can_fire p s x ≡ true → list_any (can_go_on p s) (all_nodes p s) ≡ true
some_goes_on p s x h =
    let room = nat_lt s.begun s.limit in
    let in_frame = then_some (λ f. option_and_then (effect_in p room s x f) (vi_at p f.vi)) (slice_get s.frames x.frame) h in
    let f = in_frame.0 in
    let in_vi = then_some (effect_in p room s x f) (vi_at p f.vi) in_frame.2 in
    let vi = in_vi.0 in
    let at = then_some (λ n. node_effect (here p room s f vi) x.choice n.0 n.1) (node_on x.node (nodes_in vi f.diagram) f.nodes) in_vi.2 in
    let n = at.0 in
    let fires : can_fire p s (firing x.frame n.0.line x.choice) ≡ true
    = ap (λ l. can_fire p s (firing x.frame l x.choice)) (node_line x.node (nodes_in vi f.diagram) f.nodes n at.1) ∙ h in
    in_frames (can_go_on p s) p 0 s.frames x.frame f vi in_frame.1 in_vi.1
    (ap (λ m. list_any (can_go_on p s) (frame_nodes m f vi)) (omega arith)
    ∙ in_nodes (can_go_on p s) x.frame f vi x.node (nodes_in vi f.diagram) f.nodes n at.1
    (listed (λ c. can_fire p s (firing x.frame n.0.line c)) (here p room s f vi) n.0 x.choice n.1 n.0.kind fires
    (guarded (is_ready (here p room s f vi).outer n.0 n.1) (effect (here p room s f vi) n.0 x.choice n.0.kind n.1) at.2)))

pub rest_refuses : (p : Program) (s : FireState) → is_at_rest p s ≡ true → IsAtRest p s
rest_refuses p s h x = by (can_fire p s x) refl
  where
    by : (b : Bool) → can_fire p s x ≡ b → b ≡ false
    by true is = absurd (refute (ap not (sym (some_goes_on p s x is)) ∙ h))
    by false is = refl

-- ---- rest

none_of : {A : Type 0} (test : A → Bool) (xs : List A) → ((x : A) → test x ≡ false) → list_any test xs ≡ false
none_of test [] none = refl
none_of test (x ∷ xs) none = ap (λ b. b || list_any test xs) (none x) ∙ none_of test xs none

pub rest_tested : (p : Program) (s : FireState) → IsAtRest p s → is_at_rest p s ≡ true
rest_tested p s none =
    ap not (none_of (can_go_on p s) (all_nodes p s)
    (λ n. none_of (λ c. can_fire p s (firing n.number n.entry.line c)) (choices_of p s.objects n.entry.kind) (λ c. none (firing n.number n.entry.line c))))
