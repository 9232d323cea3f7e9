-- What crosses the border of a structure, as the code holds it.
use Rattle.std.specs.Prelude.{ℕ, ◌≡◌, ◌+◌, List, [], ◌∷◌, ◌++◌, map}
use Rattle.std.specs.Option.{option_map, option_map_or}
use Rattle.g_values.specs.declared.value.Value.{Value}
use Rattle.g_prims_definitions.specs.Arithmetic.{nothing}
use Rattle.g_diagram.specs.declared.node.Tunnel.{Tunnel}
use Rattle.g_border.specs.Lines as border
use Rattle.g_border.specs.Loops.{kept_lines, kept_registers}
use Rattle.g_wire_values.specs.Wires.{reader}
use Rattle.g_frames.specs.Effects.{Here}
use Rattle.g_frames.specs.Operations.{input_at}
use Rattle.g_frames.specs.Program.{FlatVi, kept_number}
use Rattle.g_frames.specs.Structures.{kept_at}
use Rattle.g_crossing.specs.declared.inside.Entering.{Entering}
use Rattle.g_crossing.specs.declared.outside.Leaving.{Leaving}
use Rattle.g_crossing.specs.declared.places.Reference.{Reference}

-- A frame that opens, whose structure has these border lines from a line on
pub record IsEntering (first : ℕ) (lines : List Tunnel) (c : Entering) (e : border.Entering) : Type 0 where
  pub outer_is : e.outer ≡ reader c.outer
  pub before_is : e.before ≡ option_map reader c.before
  pub iteration_is : e.iteration ≡ c.iteration
  pub kept_is : (l : ℕ) → e.kept l ≡ kept_at (kept_registers first lines) c.kept.now l
  pub referred_is : e.referred ≡ option_map_or (λ v. v.now) c.referred nothing

-- Frames that are complete, whose structure has these border lines from a line on
pub record IsLeaving (first : ℕ) (lines : List Tunnel) (c : Leaving) (vi : FlatVi) (e : border.Leaving) : Type 0 where
  pub outer_is : e.outer ≡ reader c.outer
  pub inner_is : e.inner ≡ map reader c.inner.now
  pub kept_is : (l : ℕ) → e.kept l ≡ kept_at (kept_registers first lines) c.kept.now l
  pub types_are : (name : List ℕ) → e.types name ≡ vi.types c.body name

-- the line of a kept register with what it has after its loop
abbrev pub kept_on : border.Leaving → (line : ℕ) → Tunnel → List (ℕ × Value)
kept_on e l t = map (λ r. (r.0, input_at (border.values_outside e l t) 0)) (kept_lines l t)

abbrev pub kept_given : border.Leaving → (line : ℕ) → List Tunnel → List (ℕ × Value)
kept_given e l [] = []
kept_given e l (t ∷ ts) = kept_on e l t ++ kept_given e (l + 1) ts

-- the reference of a structure in place, as the definitions have it
abbrev pub seen_reference : Reference → border.Reference
seen_reference r = record { from = r.from.now; next = r.next.now; same = r.same; code = r.code }

-- what a kept register has, by its number among all kept registers
abbrev pub written : Here → ℕ × Value → ℕ × Value
written h g = (kept_number h.program h.frame.space g.0, g.1)
