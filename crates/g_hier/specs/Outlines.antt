-- What linking looks at of each VI: its clones and system, how many nodes it has, and its call lines.
use Rattle.std.specs.Prelude.{ℕ, suc, ◌<◌, ◌==◌, Bool, List, [], ◌∷◌, ◌++◌, map, length, All, if◌then◌else◌, Option, Some, None, slice_get}
use Rattle.std.specs.List.{list_any}
use Rattle.std.specs.Str.{bytes_eq}
use Rattle.g_diagram.specs.declared.hierarchy.Vi.{Vi}
use Rattle.g_diagram.specs.declared.hierarchy.Hierarchy.{Hierarchy}
use Rattle.g_diagram.specs.Lines.{Kind, Call, Entry, entries_of}
use Rattle.g_hier.specs.declared.linked.CallLine.{CallLine}
use Rattle.g_hier.specs.declared.linked.Outline.{Outline}

-- the number of the first VI of a name, or how many VIs there are
abbrev pub number_of : List Vi → (name : List ℕ) → ℕ
number_of [] name = 0
number_of (vi ∷ vis) name = if bytes_eq vi.name name then 0 else suc (number_of vis name)

-- the call line that a node is
abbrev pub call_on : List Vi → (line : ℕ) → Kind → List CallLine
call_on vis line (Call name inputs outputs) = record { line = line; vi = number_of vis name } ∷ []
call_on vis line other = []

abbrev pub calls_on : List Vi → List Entry → List CallLine
calls_on vis [] = []
calls_on vis (e ∷ es) = call_on vis e.line e.kind ++ calls_on vis es

-- nodes are the node lines at every depth and the wired indicators
abbrev pub outline_of : List Vi → Vi → Outline
outline_of vis vi = record { clones = vi.clones; system = vi.system; nodes = length (entries_of vi); calls = calls_on vis (entries_of vi) }

abbrev pub outlines_of : Hierarchy → List Outline
outlines_of h = map (outline_of h.vis) h.vis

-- each call line names a VI
abbrev pub AreKnown : List Outline → Type 0
AreKnown os = All (λ o. All (λ c. c.vi < length os) o.calls) os

abbrev pub calls_in : Option Outline → List CallLine
calls_in None = []
calls_in (Some o) = o.calls

-- the call lines of a VI
abbrev pub calls_at : List Outline → (vi : ℕ) → List CallLine
calls_at os vi = calls_in (slice_get os vi)

abbrev pub has_call : (vi : ℕ) → List CallLine → Bool
has_call v cs = list_any (λ c. c.vi == v) cs

-- whether VI u calls VI v
abbrev pub calls : List Outline → (u v : ℕ) → Bool
calls os u v = has_call v (calls_at os u)
