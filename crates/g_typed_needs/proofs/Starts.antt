-- The start of a run has what it needs of an accepted program.
use Rattle.std.proofs.Common.{◌≡◌, ⊎_elim, ℕ, suc, List, [], ◌∷◌, Some, ap}
use Rattle.std.specs.Prelude.{slice_get}
use Rattle.std.specs.List.{All}
use Rattle.std.proofs.lemmas.List.Elements.{All-nil, All-cons}
use Rattle.g_values.specs.Proper.{IsProper}
use Rattle.g_typing.specs.Typing.{control_types, indicator_types}
use Rattle.g_frames.specs.Program.{FlatVi, Program}
use Rattle.g_frames.specs.Panels.{control_defaults, indicator_defaults}
use Rattle.g_typed_states.specs.Places.{Among, first, later}
use Rattle.g_typed_states.specs.Accepted.{IsAcceptedVi, IsAccepted}
use Rattle.g_typed_states.proofs.Lists.{no_place, among_cases}
use Rattle.g_typed_states.proofs.Values.{all_proper}
use Rattle.g_typed_states.proofs.Starts.{controls_default, indicators_default}
use Rattle.g_needs.specs.Starts.{StartNeeds}

-- what holds of each element holds of all
all_among : {A : Type 0} (P : A → Type 0) (xs : List A) → ((x : A) → Among x xs → P x) → All P xs
all_among P [] each = All-nil P
all_among P (x ∷ xs) each = All-cons P x xs (each x first) (all_among P xs (λ y at. each y (later at)))

index_of : {A : Type 0} (x : A) (xs : List A) → Among x xs → (k : ℕ) × (slice_get xs k ≡ Some x)
index_of x [] at = absurd (no_place x at)
index_of {A = A} x (y ∷ xs) at =
    ⊎_elim (λ same. (0, ap Some same)) (λ l. let k = index_of x xs l in (suc k.0, k.1)) (among_cases x y xs at)

module _ (p : Program) (accepted : IsAccepted p) where
  vi_accepted : (vi : FlatVi) → Among vi p.vis → IsAcceptedVi p vi
  vi_accepted vi at = let k = index_of vi p.vis at in accepted.vis k.0 vi k.1

  controls_proper : (vi : FlatVi) → Among vi p.vis → All IsProper (control_defaults vi.panel)
  controls_proper vi at = all_proper p (control_types vi.panel) (control_defaults vi.panel) (controls_default p vi.panel (vi_accepted vi at).panel)

  indicators_proper : (vi : FlatVi) → Among vi p.vis → All IsProper (indicator_defaults vi.panel)
  indicators_proper vi at = all_proper p (indicator_types vi.panel) (indicator_defaults vi.panel) (indicators_default p vi.panel (vi_accepted vi at).panel)

  pub starts_needs : StartNeeds p
  starts_needs = record {
    queues = all_among _ p.queues accepted.queues;
    cells = all_among _ p.cells accepted.cells;
    controls = all_among _ p.vis controls_proper;
    indicators = all_among _ p.vis indicators_proper;
    clones = all_among _ p.vis (λ vi at. (vi_accepted vi at).clones);
    pools = all_among _ p.pools accepted.pools;
  }
