-- Inner: what is known of branches, as the definitions have it.
use Rattle.std.specs.Prelude.{ℕ, ◌≡◌, ◌<◌, Bool, List, length, Option, Some, None, is_some, slice_get}
use Rattle.std.specs.Ordering.{nat_cmp}
use Rattle.std.specs.Cmp.Lexicographic.{slice_cmp}
use Rattle.std.specs.BTreeMap.{BTreeMap, get_by}
use denote.Ref.{Bor}
use Rattle.g_diagram_ports.specs.declared.branches.Branches.{Branches}
use Rattle.g_diagram_ports.specs.Tunnels.{LookUp}

-- lines by the names of tunnels
abbrev pub CaseLines : Type 0
CaseLines = BTreeMap (Bor (List ℕ)) ℕ

abbrev pub line_in : CaseLines → (name : List ℕ) → Option ℕ
line_in m name = get_by (λ k. slice_cmp nat_cmp name k.now) m

abbrev pub line_of : Option CaseLines → (name : List ℕ) → Option ℕ
line_of None name = None
line_of (Some m) name = line_in m name

-- cases, by their numbers, of diagrams
abbrev pub Cases : Type 0
Cases = BTreeMap ℕ ℕ

abbrev pub case_at : Cases → (diagram : ℕ) → Option ℕ
case_at m d = get_by (nat_cmp d) m

abbrev pub line_at : List CaseLines → Option ℕ → (name : List ℕ) → Option ℕ
line_at cases None name = None
line_at cases (Some k) name = line_of (slice_get cases k) name

abbrev pub look_in : Branches → LookUp
look_in b d name = line_at b.cases.items (case_at b.branches d) name

abbrev pub is_branch : Branches → (diagram : ℕ) → Bool
is_branch b d = is_some (case_at b.branches d)

-- each branch has a case that is there
abbrev pub AreNumbered : Branches → Type 0
AreNumbered b = (d k : ℕ) → case_at b.branches d ≡ Some k → k < length b.cases.items
