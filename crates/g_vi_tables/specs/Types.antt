-- The types of a VI's wires, as they are kept.
use Rattle.std.specs.Prelude.{ℕ, List, [], ◌∷◌, Option, Some, None, slice_get}
use Rattle.std.specs.Ordering.{nat_cmp}
use Rattle.std.specs.Cmp.Lexicographic.{slice_cmp}
use Rattle.std.specs.Option.{option_copied, option_or}
use Rattle.std.specs.BTreeMap.{BTreeMap, get_by}
use denote.Ref.{Bor}
use Rattle.g_types.specs.declared.ty.Ty.{Ty}
use Rattle.g_typing.specs.Types.{Types}
use Rattle.g_vi_tables.specs.declared.types.WireTypes.{WireTypes}

-- types of names
abbrev pub Scope : Type 0
Scope = BTreeMap (Bor (List ℕ)) (Bor Ty)

abbrev pub named_type : Scope → (name : List ℕ) → Option Ty
named_type m name = option_copied (get_by (λ k. slice_cmp nat_cmp name k.now) m)

abbrev pub scope_type : Option Scope → (name : List ℕ) → Option Ty
scope_type None name = None
scope_type (Some scope) name = named_type scope name

-- what is kept of a name in its diagram
abbrev pub own_type : BTreeMap ℕ Scope → Types
own_type m d name = scope_type (get_by (nat_cmp d) m) name

-- the type of a name by the first of some cases, each by its number, that has one
abbrev pub first_type : List Scope → (cases : List ℕ) → (name : List ℕ) → Option Ty
first_type scopes [] name = None
first_type scopes (k ∷ ks) name = option_or (scope_type (slice_get scopes k) name) (first_type scopes ks name)

abbrev pub Branches : Type 0
Branches = BTreeMap ℕ (Bor (List ℕ))

abbrev pub numbers : Option (Bor (List ℕ)) → List ℕ
numbers None = []
numbers (Some cases) = cases.now

-- the cases of which a diagram is a branch
abbrev pub cases_of : Branches → (diagram : ℕ) → List ℕ
cases_of m d = numbers (get_by (nat_cmp d) m)

-- those that are kept, for a name of a diagram or for all branches of a case; the others are unknown
abbrev pub types_of : WireTypes → Types
types_of m d name = option_or (own_type m.own d name) (first_type m.cases.items (cases_of m.branches d) name)
