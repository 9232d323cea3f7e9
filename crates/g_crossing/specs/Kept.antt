-- Inner: what the lines of a structure give one after another, each with what its kept register had when the loop started.
use Rattle.std.specs.Prelude.{ℕ, ◌+◌, List, [], ◌∷◌, ◌++◌, map, Option, Some, None, slice_get}
use Rattle.std.specs.Option.{option_map, option_map_or}
use Rattle.g_values.specs.declared.value.Value.{Value}
use Rattle.g_prims_definitions.specs.Arithmetic.{nothing}
use Rattle.g_prims_definitions.specs.Clusters.{or_nothing}
use Rattle.g_diagram.specs.declared.node.Tunnel.{Tunnel}
use Rattle.g_diagram.specs.declared.node.Tunnel.TheVariants as line
use Rattle.g_border.specs.Lines as border
use Rattle.g_border.specs.Readers.{Given}
use Rattle.g_wire_values.specs.Wires.{reader}
use Rattle.g_frames.specs.Program.{FlatVi}
use Rattle.g_crossing.specs.declared.inside.Entering.{Entering}
use Rattle.g_crossing.specs.declared.outside.Leaving.{Leaving}
use Rattle.g_crossing.specs.Crossing.{kept_on}

-- the number of the kept register after a line
abbrev pub next_kept : Tunnel → (k : ℕ) → ℕ
next_kept (line.Kept t inner next last) k = k + 1
next_kept (line.Tunnel outer inner) k = k
next_kept (line.Register initial inner next last) k = k
next_kept (line.Last inner outer) k = k
next_kept (line.Gather inner outer) k = k
next_kept (line.Index array inner) k = k
next_kept (line.Result outer default) k = k
next_kept (line.Carry earlier inner) k = k
next_kept (line.Ref reference inner next same code) k = k
next_kept (line.Element array index inner next outer) k = k
next_kept (line.Field field cluster inner next outer) k = k

-- what register k had, from 0
abbrev pub kept_value : List Value → (k : ℕ) → Value
kept_value vs k = or_nothing (slice_get vs k)

-- a value at an operand, or none
abbrev pub placed : (line : ℕ) → Option (ℕ × Value) → Given
placed l None = []
placed l (Some g) = (record { line = l; operand = g.0 }, g.1) ∷ []

abbrev pub valued : Option (ℕ × Value) → List Value
valued None = []
valued (Some g) = g.1 ∷ []

-- ---- inside

-- a frame that opens, where each kept register had this value
abbrev pub entered : Entering → (kept : Value) → border.Entering
entered c v =
    record {
      outer = reader c.outer;
      before = option_map reader c.before;
      iteration = c.iteration;
      kept = λ l. v;
      referred = option_map_or (λ r. r.now) c.referred nothing;
    }

abbrev pub inside_from : Entering → (k line : ℕ) → List Tunnel → Given
inside_from c k l [] = []
inside_from c k l (t ∷ ts) = border.line_inside (entered c (kept_value c.kept.now k)) l t ++ inside_from c (next_kept t k) (l + 1) ts

-- ---- outside

-- frames that are complete, where each kept register had this value
abbrev pub left : FlatVi → Leaving → (kept : Value) → border.Leaving
left vi c v = record { outer = reader c.outer; inner = map reader c.inner.now; kept = λ l. v; types = vi.types c.body }

abbrev pub outside_from : FlatVi → Leaving → (k line : ℕ) → List Tunnel → Given
outside_from vi c k l [] = []
outside_from vi c k l (t ∷ ts) = border.line_outside (left vi c (kept_value c.kept.now k)) l t ++ outside_from vi c (next_kept t k) (l + 1) ts

abbrev pub kept_from : FlatVi → Leaving → (k line : ℕ) → List Tunnel → List (ℕ × Value)
kept_from vi c k l [] = []
kept_from vi c k l (t ∷ ts) = kept_on (left vi c (kept_value c.kept.now k)) l t ++ kept_from vi c (next_kept t k) (l + 1) ts

-- without lines, since each register stands on its own
abbrev pub values_from : FlatVi → Leaving → (k : ℕ) → List Tunnel → List Value
values_from vi c k [] = []
values_from vi c k (t ∷ ts) = border.values_outside (left vi c (kept_value c.kept.now k)) 0 t ++ values_from vi c (next_kept t k) ts
