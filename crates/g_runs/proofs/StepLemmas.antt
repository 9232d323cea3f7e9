-- Runs, firing by firing.
use Rattle.std.proofs.Common.{◌≡◌, ℕ, suc, ◌+◌, ◌<◌, true, false, List, [], ◌∷◌, ◌++◌, drop, drop-cons, get_or, length, Option, Some, None, refl, ap, ◌∙◌, sym, arith}
use Rattle.std.specs.Prelude.{slice_index_or}
use Rattle.std.specs.Option.{option_and_then}
use Rattle.g_values.specs.declared.value.Value.{Value}
use Rattle.g_frames.specs.declared.firing.Firing.{Firing}
use Rattle.g_frames.specs.declared.state.End.{End}
use Rattle.g_frames.specs.Program.{Program}
use Rattle.g_frames.specs.State as state
use Rattle.g_frames.specs.State.{FireState}
use Rattle.g_frames.specs.Fire.{can_fire, fire}
use Rattle.g_frames.specs.Run.{after, after_from, end_of, first_refused, go_on, is_at_rest, refusing}
use Rattle.g_frames.proofs.RunLemmas.{composes, some_is}
use Rattle.g_frames.proofs.RestLemmas.{rest_refuses}
use Rattle.g_runs.specs.Needs.{HasAllNeeds, Lasts, RunNeeds}
use Rattle.g_runs.specs.Runs.{Goes, HasRun}

pub starts : (p : Program) (controls : List Value) (limit : ℕ) (s : FireState) → RunNeeds p controls limit → s ≡ state.start p controls limit → Lasts p s
starts p controls limit s n e trace t h = n.firings trace t (ap (after_from p trace) (sym e) ∙ h)

pub lasts_here : (p : Program) (s : FireState) → Lasts p s → HasAllNeeds p s
lasts_here p s n = n [] s refl

pub lasts_after : (p : Program) (s : FireState) (x : Firing) (new : FireState) → can_fire p s x ≡ true → new ≡ fire p s x → Lasts p s → Lasts p new
lasts_after p s x new can is n trace t h =
    n (x ∷ trace) t (ap (λ b. go_on b (after_from p trace) (fire p s x)) can ∙ ap (after_from p trace) (sym is) ∙ h)

pub after_more : (p : Program) (controls : List Value) (limit : ℕ) (xs : List Firing) (s : FireState) (x : Firing) (new : FireState) → after p controls limit xs ≡ Some s
    → can_fire p s x ≡ true → new ≡ fire p s x → after p controls limit (xs ++ x ∷ []) ≡ Some new
after_more p controls limit xs s x new e can is =
    composes p xs (x ∷ []) (state.start p controls limit)
    ∙ ap (λ o. option_and_then (after_from p (x ∷ [])) o) e
    ∙ ap (λ b. go_on b (after_from p []) (fire p s x)) can
    ∙ ap (λ t. Some t) (sym is)

pub has_run : (p : Program) (controls : List Value) (limit : ℕ) (trace xs : List Firing) (s t : FireState) (end : End) → after p controls limit xs ≡ Some s → is_at_rest p s ≡ true
    → trace ≡ xs → t ≡ s → end ≡ end_of p s → HasRun p controls limit trace t end
has_run p controls limit trace xs s t end after_it rest same stays ends = record {
  after_it = ap (after p controls limit) same ∙ after_it ∙ ap (λ u. Some u) (sym stays);
  rests = rest_refuses p t (ap (is_at_rest p) stays ∙ rest);
  ends = ends ∙ ap (end_of p) (sym stays);
}

pub lasts_same : (p : Program) (s new : FireState) → new ≡ s → Lasts p s → Lasts p new
lasts_same p s new e n trace t h = n trace t (ap (after_from p trace) (sym e) ∙ h)

pub rested : (p : Program) (s : FireState) (r : Option Firing) (new : FireState) → r ≡ None → Goes p s r new → (is_at_rest p s ≡ true) × (new ≡ s)
rested p s None new is g = g
rested p s (Some x) new is g = absurd cc

pub went : (p : Program) (s : FireState) (r : Option Firing) (x : Firing) (new : FireState) → r ≡ Some x → Goes p s r new → (can_fire p s x ≡ true) × (new ≡ fire p s x)
went p s None x new is g = absurd cc
went p s (Some y) x new is g =
    let e = some_is y x is in (ap (can_fire p s) (sym e) ∙ g.0, g.1 ∙ ap (fire p s) e)

pub longer : (xs : List Firing) (x : Firing) → length (xs ++ x ∷ []) ≡ length xs + 1
longer [] x = omega arith
longer (y ∷ xs) x = ap suc (longer xs x) ∙ omega arith

-- ---- a firing of a trace

pub goes_after : (p : Program) (trace rest : List Firing) (s : FireState) (x : Firing) (new : FireState) → trace ≡ x ∷ rest → can_fire p s x ≡ true → new ≡ fire p s x
    → after_from p trace s ≡ after_from p rest new
goes_after p trace rest s x new e can is =
    ap (λ xs. after_from p xs s) e ∙ ap (λ b. go_on b (after_from p rest) (fire p s x)) can ∙ ap (after_from p rest) (sym is)

pub refused_after : (p : Program) (k : ℕ) (trace rest : List Firing) (s : FireState) (x : Firing) (new : FireState) → trace ≡ x ∷ rest → can_fire p s x ≡ true → new ≡ fire p s x
    → first_refused p k trace s ≡ first_refused p (k + 1) rest new
refused_after p k trace rest s x new e can is =
    ap (λ xs. first_refused p k xs s) e
    ∙ ap (λ b. refusing b k (first_refused p (suc k) rest) (fire p s x)) can
    ∙ ap (first_refused p (suc k) rest) (sym is)
    ∙ (let one : suc k ≡ k + 1 = omega arith in ap (λ m. first_refused p m rest new) one)

pub refused_here : (p : Program) (k : ℕ) (trace rest : List Firing) (s : FireState) (x : Firing) → trace ≡ x ∷ rest → can_fire p s x ≡ false → first_refused p k trace s ≡ Some k
refused_here p k trace rest s x e can =
    ap (λ xs. first_refused p k xs s) e ∙ ap (λ b. refusing b k (first_refused p (suc k) rest) (fire p s x)) can

pub drop_at : (xs : List Firing) (i : ℕ) (d : Firing) → i < length xs → drop i xs ≡ slice_index_or xs i d ∷ drop (i + 1) xs
drop_at xs i d lt = drop-cons xs i d lt ∙ (let e : suc i ≡ i + 1 = omega arith in ap (λ n. get_or xs i d ∷ drop n xs) e)
