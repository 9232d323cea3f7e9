-- How often a loop goes round, and what its frames are given.
use Rattle.std.specs.Prelude.{ℕ, ◌+◌, ◌==◌, min, pos, Bool, false, ◌||◌, List, [], ◌∷◌, ◌++◌, Option, Some, None}
use Rattle.g_types.specs.declared.rep.Rep.TheVariants.{I32}
use Rattle.g_types.specs.declared.ty.Ty.{Ty}
use Rattle.g_values.specs.declared.value.Value.{out-Value}
use Rattle.g_prims_definitions.specs.Arithmetic.{number}
use Rattle.g_prims_definitions.specs.Arrays.{count, number_of, length_at}
use Rattle.g_prims_definitions.specs.Bits.{truth}
use Rattle.g_diagram.specs.declared.node.Tunnel.{Tunnel}
use Rattle.g_diagram.specs.declared.node.Tunnel.TheVariants as line
use Rattle.g_diagram.specs.Lines.{Wire}
use Rattle.g_diagram.specs.Operands.{Inside, loop_header}
use Rattle.g_border.specs.Readers.{Reader, value_on, Given, given_on}
use Rattle.g_border.specs.Lines.{Entering, lines_inside}

-- the size of each array of which an iteration gets one element
abbrev pub size_of : Reader → Tunnel → List ℕ
size_of outer (line.Index array inner) = length_at (out-Value (value_on outer array)) ∷ []
size_of outer _ = []

abbrev pub sizes : Reader → List Tunnel → List ℕ
sizes outer [] = []
sizes outer (t ∷ ts) = size_of outer t ++ sizes outer ts

-- a count that is wired; one below 0 counts as 0
abbrev pub wired_count : Reader → Wire → List ℕ
wired_count outer None = []
wired_count outer (Some name) = count (number_of (value_on outer (Some name))) ∷ []

abbrev pub least : List ℕ → ℕ
least [] = 0
least (n ∷ []) = n
least (n ∷ m ∷ ns) = min n (least (m ∷ ns))

-- how many iterations a loop has that counts them: the least of its count and of the sizes of its arrays
abbrev pub iterations : Reader → (count : Option Wire) → List Tunnel → Option ℕ
iterations outer None lines = None
iterations outer (Some w) lines = Some (least (wired_count outer w ++ sizes outer lines))

abbrev pub is_counted : Option ℕ → (done : ℕ) → Bool
is_counted None done = false
is_counted (Some n) done = n == done

-- a loop is stopped once its stop wire is TRUE in the latest iteration
abbrev pub is_stopped : (stop : Option Wire) → (latest : Option Reader) → Bool
is_stopped None r = false
is_stopped (Some w) None = false
is_stopped (Some w) (Some r) = truth (value_on r w)

-- Whether a loop has ended after so many iterations: it has as many as it counts, or is stopped
abbrev pub has_ended : Reader → (count stop : Option Wire) → List Tunnel → (done : ℕ) → (latest : Option Reader) → Bool
has_ended outer count stop lines done latest = is_counted (iterations outer count lines) done || is_stopped stop latest

-- what a loop on a line gives to an iteration
abbrev pub iteration_inside : Entering → (line : ℕ) → (count stop : Option Wire) → (iteration : Wire) → List Tunnel → Given
iteration_inside e l count stop iteration lines =
    given_on Inside l (loop_header count stop iteration) (number I32 (pos e.iteration) ∷ []) ++ lines_inside e (l + 1) lines

-- ---- kept registers

abbrev pub kept_lines : (line : ℕ) → Tunnel → List (ℕ × Ty)
kept_lines l (line.Kept t inner next last) = (l, t) ∷ []
kept_lines l _ = []

-- the kept registers of a loop, by line, each with its type
abbrev pub kept_registers : (line : ℕ) → List Tunnel → List (ℕ × Ty)
kept_registers l [] = []
kept_registers l (t ∷ ts) = kept_lines l t ++ kept_registers (l + 1) ts
