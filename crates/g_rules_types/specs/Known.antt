-- The types of wires, as they are kept.
use Rattle.std.specs.Prelude.{ℕ, ◌<◌, ◌==◌, Bool, false, ◌||◌, List, [], ◌∷◌, ◌++◌, length, if◌then◌else◌, Option, Some, None, slice_get, Vec}
use Rattle.std.specs.List.{AllByRecursion}
use Rattle.std.specs.Ordering.{ordering_then, nat_cmp}
use Rattle.std.specs.Cmp.Lexicographic.{slice_cmp}
use Rattle.std.specs.Option.{option_or}
use Rattle.std.specs.BTreeMap.{BTreeMap, get_by}
use Rattle.std.specs.declared.alloc.Global.{Global}
use denote.Ref.{Bor}
use Rattle.g_types.specs.declared.ty.Ty.{Ty}
use Rattle.g_diagram.specs.Lines.{Arm}
use Rattle.g_typing.specs.Types.{Types}
use Rattle.g_rules_types.specs.Panels.{found}
use Rattle.g_rules_types.specs.declared.types.WireTypes.{WireTypes}

-- what is kept of a name in its diagram
abbrev pub own_type : WireTypes → Types
own_type m d name = get_by (λ k. ordering_then (nat_cmp d k.0) (slice_cmp nat_cmp name k.1.now)) m.own

-- what the tunnels of a case give to names in each of its branches
abbrev pub Scope : Type 0
Scope = BTreeMap (Bor (List ℕ)) Ty

abbrev pub scope_type : Option Scope → (name : List ℕ) → Option Ty
scope_type None name = None
scope_type (Some scope) name = found scope name

-- the type of a name by the first of some cases, each by its number, that has one
abbrev pub first_type : List Scope → (cases : List ℕ) → (name : List ℕ) → Option Ty
first_type scopes [] name = None
first_type scopes (k ∷ ks) name = option_or (scope_type (slice_get scopes k) name) (first_type scopes ks name)

abbrev pub numbers : Option (Vec ℕ Global) → List ℕ
numbers None = []
numbers (Some cases) = cases.items

-- the cases of which a diagram is a branch
abbrev pub cases_of : BTreeMap ℕ (Vec ℕ Global) → (diagram : ℕ) → List ℕ
cases_of m d = numbers (get_by (nat_cmp d) m)

-- those that are kept, for a name of a diagram or for all branches of a case; the others are unknown
abbrev pub types_of : WireTypes → Types
types_of m d name = option_or (own_type m d name) (first_type m.cases.items (cases_of m.branches d) name)

-- each diagram is a branch of cases that are kept
abbrev pub IsIndexed : WireTypes → Type 0
IsIndexed m = (d : ℕ) → AllByRecursion (λ k. k < length m.cases.items) (cases_of m.branches d)

abbrev pub is_branch : (diagram : ℕ) → List Arm → Bool
is_branch d [] = false
is_branch d (arm ∷ arms) = (arm.body == d) || is_branch d arms

-- a case of this number and these branches, among those of which a diagram is a branch
abbrev pub case_among : (diagram k : ℕ) → List Arm → List ℕ
case_among d k [] = []
case_among d k (arm ∷ arms) = (if arm.body == d then k ∷ [] else []) ++ case_among d k arms
