-- What the lines at the border of a structure give: inside, to a frame that opens, and outside, once the frames inside are complete.
use Rattle.std.specs.Prelude.{ℕ, ◌+◌, pos, List, [], ◌∷◌, ◌++◌, map, Option, Some, None, is_some, if◌then◌else◌}
use Rattle.std.specs.Option.{option_or, option_and_then, option_map_or}
use Rattle.g_types.specs.declared.ty.Ty.{Ty, out-Ty}
use Rattle.g_values.specs.declared.value.Value.{Value, out-Value}
use Rattle.g_values.specs.Coerce.{coerced}
use Rattle.g_values.specs.Default.{default}
use Rattle.g_values.specs.Value.{type_of}
use Rattle.g_literals.specs.Values.{array_of}
use Rattle.g_prims_definitions.specs.Arithmetic.{nothing}
use Rattle.g_prims_definitions.specs.Arrays.{indexed_at, index_array, replace, within}
use Rattle.g_prims_definitions.specs.Clusters.{get, put}
use Rattle.g_diagram.specs.declared.node.Tunnel.{Tunnel}
use Rattle.g_diagram.specs.declared.node.Tunnel.TheVariants as line
use Rattle.g_diagram.specs.Lines.{Wire, Part}
use Rattle.g_diagram.specs.Operands.{Inside, Outside, border}
use Rattle.g_border.specs.declared.place.WireSource.{WireSource}
use Rattle.g_border.specs.Readers.{Reader, value_on, Given, given_on, sources_on, place_all}

-- a value in a frame, if there is one, else another value
abbrev pub value_in : Option Reader → Wire → (otherwise : Value) → Value
value_in r w otherwise = option_map_or (λ r. value_on r w) r otherwise

-- what a register has: its first value, or the next one that the latest iteration gave, coerced to the register's type
abbrev pub register_value : (latest : Option Reader) → (first : Value) → Ty → (next : Wire) → Value
register_value latest first t next = option_map_or (λ r. coerced (value_on r next) t) latest first

-- ---- inside

-- a frame that opens
pub record Entering : Type 0 where
  -- the values of the diagram that holds the structure
  pub outer : Reader
  -- those of the frame before, if there is one
  pub before : Option Reader
  -- the number of the frame, from 0
  pub iteration : ℕ
  -- the values of the kept registers when the loop started, by line
  pub kept : (line : ℕ) → Value
  -- what the reference of a structure in place refers to
  pub referred : Value

-- the first frame of a structure that has no kept registers and no reference
abbrev pub entering : (outer : Reader) → Entering
entering outer = record { outer = outer; before = None; iteration = 0; kept = λ l. nothing; referred = nothing }

-- the values that a line gives inside. What it gives outside alone gives none here
abbrev pub values_inside : Entering → (line : ℕ) → Tunnel → List Value
values_inside e l (line.Tunnel outer inner) = value_on e.outer outer ∷ []
values_inside e l (line.Register initial inner next last) =
    register_value e.before (value_on e.outer initial) (type_of (value_on e.outer initial)) next ∷ []
values_inside e l (line.Kept t inner next last) = register_value e.before (e.kept l) t next ∷ []
values_inside e l (line.Last inner outer) = []
values_inside e l (line.Gather inner outer) = []
values_inside e l (line.Index array inner) = indexed_at (out-Value (value_on e.outer array)) (pos e.iteration) ∷ []
values_inside e l (line.Result outer default) = []
values_inside e l (line.Carry earlier inner) = value_in e.before earlier nothing ∷ []
values_inside e l (line.Ref reference inner next same code) = e.referred ∷ []
values_inside e l (line.Element array index inner next outer) = index_array (value_on e.outer array) (value_on e.outer index) ∷ []
values_inside e l (line.Field k cluster inner next outer) = get k (value_on e.outer cluster) ∷ []

abbrev pub line_inside : Entering → (line : ℕ) → Tunnel → Given
line_inside e l t = given_on Inside l (border t) (values_inside e l t)

-- the lines from one on
abbrev pub lines_inside : Entering → (line : ℕ) → List Tunnel → Given
lines_inside e l [] = []
lines_inside e l (t ∷ ts) = line_inside e l t ++ lines_inside e (l + 1) ts

-- ---- outside

-- frames that are complete
pub record Leaving : Type 0 where
  -- the values of the diagram that holds the structure
  pub outer : Reader
  -- those of the frames inside, in order
  pub inner : List Reader
  -- the values of the kept registers when the loop started, by line
  pub kept : (line : ℕ) → Value
  -- the types of the wires inside
  pub types : (name : List ℕ) → Option Ty

-- the frames of a structure that has no kept registers
abbrev pub leaving : (outer : Reader) → (inner : List Reader) → (types : List ℕ → Option Ty) → Leaving
leaving outer inner types = record { outer = outer; inner = inner; kept = λ l. nothing; types = types }

abbrev pub latest : {A : Type 0} → List A → Option A
latest [] = None
latest (x ∷ []) = Some x
latest (x ∷ y ∷ xs) = latest (y ∷ xs)

abbrev pub default_at : Option Ty → Value
default_at t = option_map_or default t nothing

-- an array of what a wire had in each frame, in order; the first of them where they are more than an array holds
abbrev pub gathered : Option Ty → List Value → Value
gathered t vs = option_map_or (λ t. array_of t (out-Ty t) (within vs)) t nothing

-- the values that a line gives outside. What it gives inside alone, the result of a case and a reference give none here
abbrev pub values_outside : Leaving → (line : ℕ) → Tunnel → List Value
values_outside e l (line.Tunnel outer inner) = []
values_outside e l (line.Register initial inner next last) =
    register_value (latest e.inner) (value_on e.outer initial) (type_of (value_on e.outer initial)) next ∷ []
values_outside e l (line.Kept t inner next last) = register_value (latest e.inner) (e.kept l) t next ∷ []
values_outside e l (line.Last inner outer) = value_in (latest e.inner) inner (default_at (option_and_then e.types inner)) ∷ []
values_outside e l (line.Gather inner outer) = gathered (option_and_then e.types inner) (map (λ r. value_on r inner) e.inner) ∷ []
values_outside e l (line.Index array inner) = []
values_outside e l (line.Result outer default) = []
values_outside e l (line.Carry earlier inner) = []
values_outside e l (line.Ref reference inner next same code) = []
values_outside e l (line.Element array index inner next outer) =
    replace (value_on e.outer array) (value_on e.outer index) (value_in (latest e.inner) next nothing) ∷ []
values_outside e l (line.Field k cluster inner next outer) = put k (value_on e.outer cluster) (value_in (latest e.inner) next nothing) ∷ []

abbrev pub line_outside : Leaving → (line : ℕ) → Tunnel → Given
line_outside e l t = given_on Outside l (border t) (values_outside e l t)

abbrev pub lines_outside : Leaving → (line : ℕ) → List Tunnel → Given
lines_outside e l [] = []
lines_outside e l (t ∷ ts) = line_outside e l t ++ lines_outside e (l + 1) ts

-- The outputs of a sequence, from the values of its frames: each frame's lines stand after `frame`, and give outside what they have in it
abbrev pub parts_outside : Reader → List Part → List Reader → (types : (diagram : ℕ) → List ℕ → Option Ty) → Given
parts_outside outer [] rs types = []
parts_outside outer (part ∷ parts) [] types = []
parts_outside outer (part ∷ parts) (r ∷ rs) types =
    lines_outside (leaving outer (r ∷ []) (types part.body)) (part.body + 1) part.lines
    ++ parts_outside outer parts rs types

-- ---- the reference of a structure in place

-- a line with a reference: its wire, that of the new value inside, and the places of its outputs, the same reference and the code
pub record Reference : Type 0 where
  pub from : Wire
  pub next : Wire
  pub same : WireSource
  pub code : WireSource

abbrev pub reference_on : (line : ℕ) → Tunnel → Option Reference
reference_on l (line.Ref reference inner next same code) =
    Some (record { from = reference; next = next; same = record { line = l; operand = 4 }; code = record { line = l; operand = 5 } })
reference_on l _ = None

-- the reference of a structure; there is one at most
abbrev pub reference_in : (line : ℕ) → List Tunnel → Option Reference
reference_in l [] = None
reference_in l (t ∷ ts) = option_or (reference_on l t) (reference_in (l + 1) ts)

-- what the other lines give outside, and where
abbrev pub other_values : Leaving → (line : ℕ) → List Tunnel → List Value
other_values e l [] = []
other_values e l (t ∷ ts) = values_outside e l t ++ other_values e (l + 1) ts

abbrev pub other_places : (line : ℕ) → List Tunnel → List WireSource
other_places l [] = []
other_places l (t ∷ ts) = (if is_some (reference_on l t) then [] else place_all l (sources_on Outside 1 (border t))) ++ other_places (l + 1) ts
