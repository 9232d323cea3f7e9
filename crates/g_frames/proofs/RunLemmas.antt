-- Laws of every run.
use Rattle.std.proofs.Common.{◌≡◌, Bool, true, false, ℕ, zero, suc, List, [], ◌∷◌, ◌++◌, Option, Some, None, refl, ap, sym, subst, ◌∙◌, true≢false}
use Rattle.std.specs.Prelude.{is_some, if◌then◌else◌, slice_get, slice_set}
use Rattle.std.specs.Option.{option_map, option_and_then, option_map_or, option_or, option_to_list}
use Rattle.g_values.specs.declared.value.Value.{Value}
use Rattle.g_border.specs.declared.place.WireSource.{WireSource}
use Rattle.g_border.specs.Readers.{Given, same_source}
use Rattle.g_frames.specs.declared.firing.Firing.{Firing}
use Rattle.g_frames.specs.declared.state.Frame.{Frame}
use Rattle.g_frames.specs.Program.{FlatVi, Program, vi_at}
use Rattle.g_frames.specs.State.{FireState, with_value, with_given, sources_in}
use Rattle.g_frames.specs.Effects.{Effect}
use Rattle.g_frames.specs.Fire.{effect_of, can_fire, fire, fired_in, fired_frame, fired_frames, opened_frame, applied}
use Rattle.g_frames.specs.Run.{go_on, after_from, refusing, first_refused}
use Rattle.g_frames.specs.Laws.{Continues}

pub refute : false ≡ true → ⊥
refute h = true≢false (sym h)

pub some_is : {A : Type 0} (x y : A) → Some x ≡ Some y → x ≡ y
some_is x y e = cc

-- ---- traces

pub composes : (p : Program) (xs ys : List Firing) (s : FireState) → after_from p (xs ++ ys) s ≡ option_and_then (after_from p ys) (after_from p xs s)
composes p [] ys s = refl
composes p (x ∷ xs) ys s = by (can_fire p s x) (composes p xs ys (fire p s x))
  where
    by : (b : Bool) → after_from p (xs ++ ys) (fire p s x) ≡ option_and_then (after_from p ys) (after_from p xs (fire p s x))
        → go_on b (after_from p (xs ++ ys)) (fire p s x) ≡ option_and_then (after_from p ys) (go_on b (after_from p xs) (fire p s x))
    by true rest = rest
    by false rest = refl

pub not_refused : (p : Program) (k : ℕ) (xs : List Firing) (s : FireState) → first_refused p k xs s ≡ None → (t : FireState) × (after_from p xs s ≡ Some t)
not_refused p k [] s h = (s, refl)
not_refused p k (x ∷ xs) s h = by (can_fire p s x) (not_refused p (suc k) xs (fire p s x)) h
  where
    by : (b : Bool) → (first_refused p (suc k) xs (fire p s x) ≡ None → (t : FireState) × (after_from p xs (fire p s x) ≡ Some t))
        → refusing b k (first_refused p (suc k) xs) (fire p s x) ≡ None → (t : FireState) × (go_on b (after_from p xs) (fire p s x) ≡ Some t)
    by true rest g = rest g
    by false rest g = absurd (refute (sym (ap is_some g)))

pub allowed_not_refused : (p : Program) (k : ℕ) (xs : List Firing) (s : FireState) → (t : FireState) × (after_from p xs s ≡ Some t) → first_refused p k xs s ≡ None
allowed_not_refused p k [] s h = refl
allowed_not_refused p k (x ∷ xs) s h = by (can_fire p s x) (allowed_not_refused p (suc k) xs (fire p s x)) h
  where
    by : (b : Bool) → ((t : FireState) × (after_from p xs (fire p s x) ≡ Some t) → first_refused p (suc k) xs (fire p s x) ≡ None)
        → (t : FireState) × (go_on b (after_from p xs) (fire p s x) ≡ Some t) → refusing b k (first_refused p (suc k) xs) (fire p s x) ≡ None
    by true rest g = rest g
    by false rest g = absurd (refute (ap is_some g.1))

-- ---- frames

same : (f : Frame) → Continues f f
same f = record { vi = refl; space = refl; diagram = refl; opener = refl; iteration = refl; values = λ k v at. at }

comes_beside : (here : Bool) (w u : Option Value) (vs us : List (Option Value)) (k : ℕ) (v : Value)
    → ((m : ℕ) → slice_get (w ∷ vs) m ≡ Some (Some v) → slice_get (option_or w u ∷ vs) m ≡ Some (Some v))
    → ((m : ℕ) → slice_get vs m ≡ Some (Some v) → slice_get us m ≡ Some (Some v))
    → slice_get (w ∷ vs) k ≡ Some (Some v) → slice_get (if here then option_or w u ∷ vs else w ∷ us) k ≡ Some (Some v)
comes_beside true w u vs us k v first rest at = first k at
comes_beside false w u vs us zero v first rest at = at
comes_beside false w u vs us (suc k) v first rest at = rest k at

first_stays : (w u : Option Value) (vs : List (Option Value)) (v : Value) (k : ℕ) → slice_get (w ∷ vs) k ≡ Some (Some v) → slice_get (option_or w u ∷ vs) k ≡ Some (Some v)
first_stays w u vs v zero at = ap (option_map (λ o. option_or o u)) at
first_stays w u vs v (suc k) at = at

value_stays : (qs : List WireSource) (vs : List (Option Value)) (p : WireSource) (u : Value) (v : Value) (k : ℕ)
    → slice_get vs k ≡ Some (Some v) → slice_get (with_value qs vs p u) k ≡ Some (Some v)
value_stays [] vs p u v k at = at
value_stays (q ∷ qs) [] p u v k at = at
value_stays (q ∷ qs) (w ∷ vs) p u v k at =
    comes_beside (same_source q p) w (Some u) vs (with_value qs vs p u) k v (first_stays w (Some u) vs v) (value_stays qs vs p u v) at

given_stays : (qs : List WireSource) (vs : List (Option Value)) (gs : Given) (k : ℕ) (v : Value) → slice_get vs k ≡ Some (Some v) → slice_get (with_given qs vs gs) k ≡ Some (Some v)
given_stays qs vs [] k v at = at
given_stays qs vs (g ∷ gs) k v at = given_stays qs (with_value qs vs g.0 g.1) gs k v (value_stays qs vs g.0 g.1 v k at)

fired_continues : (p : Program) (line : ℕ) (e : Effect) (f : Frame) → Continues f (fired_frame p line e f)
fired_continues p line e f = by (vi_at p f.vi)
  where
    by : (o : Option FlatVi) → Continues f (option_map_or (fired_in line e f) o f)
    by None = same f
    by (Some vi) = record {
      vi = refl;
      space = refl;
      diagram = refl;
      opener = refl;
      iteration = refl;
      values = given_stays (sources_in f.diagram vi.ports) f.values e.gives;
    }

-- the frame at a place of a list, continued
abbrev At : List Frame → ℕ → Frame → Type 0
At fs k f = (g : Frame) × (slice_get fs k ≡ Some g) × Continues f g

set_continues : (h : Frame → Frame) → ((f : Frame) → Continues f (h f)) → (fs : List Frame) (n k : ℕ) (d f : Frame) → slice_get fs n ≡ Some d → slice_get fs k ≡ Some f
    → At (slice_set fs n (h d)) k f
set_continues h goes [] n k d f an ak = absurd (refute (ap is_some an))
set_continues h goes (y ∷ fs) zero zero d f an ak =
    (h d, refl, subst (λ z. Continues z (h d)) (sym (some_is y d an) ∙ some_is y f ak) (goes d))
set_continues h goes (y ∷ fs) zero (suc k) d f an ak = (f, ak, same f)
set_continues h goes (y ∷ fs) (suc n) zero d f an ak = (f, ak, same f)
set_continues h goes (y ∷ fs) (suc n) (suc k) d f an ak = set_continues h goes fs n k d f an ak

appended : (fs gs : List Frame) (k : ℕ) (f : Frame) → At fs k f → At (fs ++ gs) k f
appended [] gs k f a = absurd (refute (ap is_some a.1))
appended (y ∷ fs) gs zero f a = a
appended (y ∷ fs) gs (suc k) f a = appended fs gs k f a

pub frames_stay : (p : Program) (s : FireState) (x : Firing) (k : ℕ) (f : Frame) → slice_get s.frames k ≡ Some f → At (fire p s x).frames k f
frames_stay p s x k f at = by (effect_of p s x)
  where
    in_frame : (e : Effect) (o : Option Frame) → slice_get s.frames x.frame ≡ o
        → At (option_map_or (λ d. slice_set s.frames x.frame (fired_frame p x.node e d)) o s.frames) k f
    in_frame e None is = (f, at, same f)
    in_frame e (Some d) is = set_continues (fired_frame p x.node e) (fired_continues p x.node e) s.frames x.frame k d f is at

    by : (o : Option Effect) → At (option_map_or (applied p s x) o s).frames k f
    by None = (f, at, same f)
    by (Some e) =
        appended (fired_frames p x e s.frames) (option_to_list (option_and_then (opened_frame p x) e.opens)) k f
        (in_frame e (slice_get s.frames x.frame) refl)
