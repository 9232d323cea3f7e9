-- The cells of a panel, by whether the number is a control's.
use Rattle.std.proofs.Common.{◌≡◌, ◌<◌, ◌≤◌, ◌-◌, ℕ, length, ap, ◌∙◌}
use Rattle.std.specs.Prelude.{slice_get, slice_set, if◌then◌else◌}
use Rattle.std.proofs.lemmas.Bool.{le-ltb, lt-ltb}
use Rattle.std.proofs.lemmas.List.{set_past}
use Rattle.g_values.specs.declared.value.Value.{Value}
use Rattle.g_shared.specs.Panels.{PanelState, cell_at, with_cell}

pub cell_of_control : (p : PanelState) (k : ℕ) → k < length p.controls → cell_at p k ≡ slice_get p.controls k
cell_of_control p k less = ap (λ b. if b then slice_get p.controls k else slice_get p.indicators (k - length p.controls)) (lt-ltb k (length p.controls) less)

pub cell_of_indicator : (p : PanelState) (k : ℕ) → length p.controls ≤ k → cell_at p k ≡ slice_get p.indicators (k - length p.controls)
cell_of_indicator p k more = ap (λ b. if b then slice_get p.controls k else slice_get p.indicators (k - length p.controls)) (le-ltb k (length p.controls) more)

with_either : PanelState → ℕ → Value → PanelState × PanelState
with_either p k v = (record p { controls = slice_set p.controls k v }, record p { indicators = slice_set p.indicators (k - length p.controls) v })

pub with_control : (p : PanelState) (k : ℕ) (v : Value) → k < length p.controls → with_cell p k v ≡ record p { controls = slice_set p.controls k v }
unfolding with_either
with_control p k v less = ap (λ b. if b then (with_either p k v).0 else (with_either p k v).1) (lt-ltb k (length p.controls) less)

pub with_indicator : (p : PanelState) (k : ℕ) (v : Value) → length p.controls ≤ k → with_cell p k v ≡ record p { indicators = slice_set p.indicators (k - length p.controls) v }
unfolding with_either
with_indicator p k v more = ap (λ b. if b then (with_either p k v).0 else (with_either p k v).1) (le-ltb k (length p.controls) more)

-- where there is no cell of the number nothing changes
pub with_none : (p : PanelState) (k : ℕ) (v : Value) → length p.controls ≤ k → length p.indicators ≤ k - length p.controls → with_cell p k v ≡ p
with_none p k v more past = with_indicator p k v more ∙ ap (λ vs. record p { indicators = vs }) (set_past p.indicators (k - length p.controls) v past)

pub ruleset cells = (cell_of_control, cell_of_indicator, with_control, with_indicator, with_none)
