-- Inner: what is told of a VI's types, as it is kept by diagram and name.
use Rattle.std.specs.Prelude.{ℕ, ◌≡◌, ◌==◌, List, [], ◌∷◌, Option, Some, None, if◌then◌else◌}
use Rattle.std.specs.Ordering.{nat_cmp}
use Rattle.std.specs.Option.{option_map}
use Rattle.std.specs.BTreeMap.{get_by}
use Rattle.g_infer.specs.declared.typed.BranchCases.{BranchCases}
use Rattle.g_infer.specs.declared.typed.CaseTypes.{CaseTypes}
use Rattle.g_infer.specs.Answer as told
use Rattle.g_vi_tables.specs.Types.{Scope, Branches, named_type}

-- the types of the names of cases, one after another
abbrev pub AreScopes : List CaseTypes → List Scope → Type 0
AreScopes [] [] = Unit {0}
AreScopes [] (s ∷ ss) = ⊥
AreScopes (c ∷ cs) [] = ⊥
AreScopes (c ∷ cs) (s ∷ ss) = ((name : List ℕ) → named_type s name ≡ told.named_type c.names name) × AreScopes cs ss

-- the cases that are kept of a diagram, if any are
abbrev pub kept_cases : Branches → (diagram : ℕ) → Option (List ℕ)
kept_cases m d = option_map (λ cases. cases.now) (get_by (nat_cmp d) m)

-- the cases that are told of a diagram, if any are
abbrev pub told_cases : List BranchCases → (diagram : ℕ) → Option (List ℕ)
told_cases [] d = None
told_cases (b ∷ bs) d = if b.diagram == d then Some b.cases else told_cases bs d
