-- Inner: the turns of a body, by what is found at sources.
use Rattle.std.specs.Prelude.{ℕ, zero, suc, Bool, List, [], ◌∷◌, map, Option, Some, None, if◌then◌else◌}
use Rattle.std.specs.Option.{option_map_or}
use Rattle.g_diagram.specs.Ports.{Port}
use Rattle.g_frames.specs.Program.{FlatVi}
use Rattle.g_border.specs.Bodies.{Step, next_step}
use Rattle.g_bodies.specs.declared.steps.Step as code
use Rattle.g_bodies.specs.Known.{Found, with_more, readers_by}
use Rattle.g_bodies.specs.Steps.{step_of, AllFit}

-- what is found after so many turns
abbrev pub turns_by : List Port → (many : ℕ) → List Step → Found → Found
turns_by ports zero ss f = f
turns_by ports (suc n) ss f =
    let r = readers_by ports f in option_map_or (λ t. turns_by ports n t.1 (with_more f (t.0.gives r))) (next_step r ss) f

abbrev pub after : FlatVi → List code.Step → Found → (many : ℕ) → Found
after vi ss f n = turns_by vi.ports n (map (step_of vi.types) ss) f

-- each step that is left has what it needs, at whatever turn its wires have values
abbrev pub StepsFit : FlatVi → List code.Step → Found → Type 0
StepsFit vi ss f = AllFit (λ n. readers_by vi.ports (after vi ss f n)) ss

-- the place of the first item that a test finds, where the list begins at one
abbrev pub first_from : {A : Type 0} → (place : ℕ) → (A → Bool) → List A → Option ℕ
first_from k test [] = None
first_from k test (x ∷ xs) = if test x then Some k else first_from (suc k) test xs
