-- Inner: the typings found of VIs, one after another, and what is told of them.
use Rattle.std.specs.Prelude.{ℕ, ◌+◌, ◌≡◌, List, [], ◌∷◌, ◌++◌, length, map, Vec}
use Rattle.std.specs.declared.alloc.Global.{Global}
use denote.Ref.{Bor}
use Rattle.g_types.specs.declared.ty.Ty.{Ty}
use Rattle.g_diagram.specs.declared.hierarchy.Vi.{Vi}
use Rattle.g_diagram.specs.declared.place.Break.{Break}
use Rattle.g_diagram.specs.Lines.{entries_of}
use Rattle.g_typing.specs.Breaks.{breaks_with}
use Rattle.g_typing.specs.Typing.{Callees}
use Rattle.g_typing.proofs.Agreed.{Typed as IsTypingBy}
use Rattle.g_rules_types.specs.Known.{Scope}
use Rattle.g_infer.specs.declared.typed.BranchCases.{BranchCases}
use Rattle.g_infer.specs.declared.typed.CaseTypes.{CaseTypes}
use Rattle.g_infer.specs.declared.typed.NamedType.{NamedType}
use Rattle.g_infer.specs.declared.typed.SourceType.{SourceType}
use Rattle.g_infer.specs.declared.typed.ViTypes.{ViTypes}
use Rattle.g_infer.specs.Answer.{types_in}

-- an entry of a table of types, as it is told
abbrev pub told_source : (ℕ × Bor (List ℕ)) × Ty → SourceType
told_source e = record { diagram = e.0.0; name = e.0.1.now; ty = e.1 }

abbrev pub told_name : Bor (List ℕ) × Ty → NamedType
told_name e = record { name = e.0.now; ty = e.1 }

abbrev pub told_case : Scope → CaseTypes
told_case scope = record { names = map told_name scope.entries }

abbrev pub told_branch : ℕ × Vec ℕ Global → BranchCases
told_branch e = record { diagram = e.0; cases = e.1.items }

-- these are the typings of the first VIs
abbrev pub AreTypings : Callees → List Vi → List ViTypes → Type 0
AreTypings called vis [] = Unit {0}
AreTypings called [] (t ∷ ts) = ⊥
AreTypings called (vi ∷ vis) (t ∷ ts) = IsTypingBy called vi.panel (entries_of vi) (types_in t) × AreTypings called vis ts

-- what is broken by them, from the VI of this number on
abbrev pub all_breaks : Callees → (number : ℕ) → List Vi → List ViTypes → List Break
all_breaks called number vis [] = []
all_breaks called number [] (t ∷ ts) = []
all_breaks called number (vi ∷ vis) (t ∷ ts) = breaks_with called vi.panel (types_in t) number (entries_of vi) ++ all_breaks called (number + 1) vis ts

-- the first n VIs are typed, and all that is broken by that is told
pub record Inferred (called : Callees) (vis : List Vi) (n : ℕ) (found : List ViTypes) (told : List Break) : Type 0 where
  pub count : length found ≡ n
  pub typings : AreTypings called vis found
  pub breaks : told ≡ all_breaks called 0 vis found
