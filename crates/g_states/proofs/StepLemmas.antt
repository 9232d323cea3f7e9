-- Nodes take steps, by the places of their lines.
use Rattle.std.proofs.Common.{◌≡◌, ◌≤◌, ℕ, zero, suc, Bool, true, false, List, [], ◌∷◌, length, refl, sym, ap, ◌∙◌, set-set}
use Rattle.std.specs.Prelude.{◌==◌, Option, Some, None, slice_get, slice_set, if◌then◌else◌}
use Rattle.std.specs.Option.{option_map, option_map_or}
use Rattle.std.proofs.lemmas.Option.{slice_get_past}
use Rattle.g_values.specs.declared.value.Value.{Value}
use Rattle.g_diagram.specs.Lines.{Entry}
use Rattle.g_border.specs.Readers.{Given}
use Rattle.g_frames.specs.declared.state.Frame.{Frame}
use Rattle.g_frames.specs.declared.state.Progress.{Progress}
use Rattle.g_frames.specs.declared.state.Progress.TheVariants as progress
use Rattle.g_frames.specs.Program.{FlatVi}
use Rattle.g_frames.specs.State.{nodes_in, sources_in, with_given}
use Rattle.g_frames.specs.Effects.{gives}
use Rattle.g_frames.specs.Fire.{node_on, with_progress, fired_in}
use Rattle.g_vi_tables.specs.Places.{node_place}
use Rattle.g_effects.specs.declared.advance.Advance.{Advance}
use Rattle.g_effects.specs.Advance.{advanced}
use Rattle.g_states.specs.States.{progress_on, progress_in, stepped_at, stepped_on}

-- what a node does at a place
abbrev changed : (Progress → Progress) → List Progress → ℕ → List Progress
changed f ps k = option_map_or (λ q. slice_set ps k (f q)) (slice_get ps k) ps

abbrev changed_where : (Progress → Progress) → Option ℕ → List Progress → List Progress
changed_where f None ps = ps
changed_where f (Some k) ps = changed f ps k

nowhere : (f : Progress → Progress) (m : Option ℕ) → changed_where f m [] ≡ []
nowhere f None = refl
nowhere f (Some k) = refl

later_in : (f : Progress → Progress) (p : Progress) (ps : List Progress) (k : ℕ) (o : Option Progress) →
    option_map_or (λ q. slice_set (p ∷ ps) (suc k) (f q)) o (p ∷ ps) ≡ p ∷ option_map_or (λ q. slice_set ps k (f q)) o ps
later_in f p ps k None = refl
later_in f p ps k (Some q) = refl

later : (f : Progress → Progress) (m : Option ℕ) (p : Progress) (ps : List Progress) → changed_where f (option_map suc m) (p ∷ ps) ≡ p ∷ changed_where f m ps
later f None p ps = refl
later f (Some k) p ps = later_in f p ps k (slice_get ps k)

beside : (here : Bool) (f : Progress → Progress) (m : Option ℕ) (e : Entry) (p : Progress) (ps : List Progress) (n : Option (Entry × Progress)) (qs : Progress → List Progress) →
    changed_where f m ps ≡ qs (f (option_map_or (λ n. n.1) n progress.Idle)) →
    changed_where f (if here then Some 0 else option_map suc m) (p ∷ ps)
    ≡ (if here then f (option_map_or (λ n. n.1) (if here then Some (e, p) else n) progress.Idle) ∷ ps
    else p ∷ qs (f (option_map_or (λ n. n.1) (if here then Some (e, p) else n) progress.Idle)))
beside true f m e p ps n qs is = refl
beside false f m e p ps n qs is = later f m p ps ∙ ap (λ z. p ∷ z) is

steps : (f : Progress → Progress) (l : ℕ) (es : List Entry) (ps : List Progress) → changed_where f (node_place l es) ps ≡ with_progress l (f (progress_on l es ps)) es ps
steps f l [] ps = refl
steps f l (e ∷ es) [] = nowhere f (node_place l (e ∷ es))
steps f l (e ∷ es) (p ∷ ps) = beside (e.line == l) f (node_place l es) e p ps (node_on l es ps) (λ q. with_progress l q es ps) (steps f l es ps)

-- a step in place, through nothing done
pub step_taken : (ps : List Progress) (k : ℕ) (a : Advance) (next : ℕ) (q r : Progress) → slice_get ps k ≡ Some q → r ≡ advanced q a next →
    slice_set (slice_set ps k progress.Idle) k r ≡ stepped_at a next ps k
step_taken ps k a next q r here is =
    set-set ps k progress.Idle r ∙ (ap (slice_set ps k) is ∙ sym (ap (λ o. option_map_or (λ q. slice_set ps k (advanced q a next)) o ps) here))

pub no_step : (ps : List Progress) (k : ℕ) (a : Advance) (next : ℕ) → length ps ≤ k → ps ≡ stepped_at a next ps k
no_step ps k a next past = sym (ap (λ o. option_map_or (λ q. slice_set ps k (advanced q a next)) o ps) (slice_get_past ps k past))

pub step_at : (l : ℕ) (es : List Entry) (a : Advance) (next : ℕ) (ps qs : List Progress) (k : ℕ) → Some k ≡ node_place l es → qs ≡ stepped_at a next ps k →
    qs ≡ stepped_on l es a next ps
step_at l es a next ps qs k e is = is ∙ (ap (λ m. changed_where (λ q. advanced q a next) m ps) e ∙ steps (λ q. advanced q a next) l es ps)

pub step_nowhere : (l : ℕ) (es : List Entry) (a : Advance) (next : ℕ) (ps : List Progress) → None ≡ node_place l es → ps ≡ stepped_on l es a next ps
step_nowhere l es a next ps e = ap (λ m. changed_where (λ q. advanced q a next) m ps) e ∙ steps (λ q. advanced q a next) l es ps

-- ---- a frame

pub fired : (f : Frame) (vi : FlatVi) (l : ℕ) (a : Advance) (next : ℕ) (given : Given) (values : List (Option Value)) (nodes : List Progress) →
    nodes ≡ stepped_on l (nodes_in vi f.diagram) a next f.nodes → values ≡ with_given (sources_in f.diagram vi.ports) f.values given →
    record f { values = values; nodes = nodes } ≡ fired_in l (gives (advanced (progress_in l f vi) a next) given) f vi
fired f vi l a next given values nodes n v =
    ap (λ vs. record f { values = vs; nodes = nodes }) v ∙ ap (λ ps. record f { values = with_given (sources_in f.diagram vi.ports) f.values given; nodes = ps }) n

pub ruleset node_steps = (step_taken, no_step)
