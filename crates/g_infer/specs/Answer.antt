-- What `infer` answers.
use Rattle.std.specs.Prelude.{ℕ, ◌≡◌, ◌<◌, ◌==◌, ◌&&◌, List, [], ◌∷◌, length, if◌then◌else◌, Option, Some, None, slice_get}
use Rattle.std.specs.Option.{option_or}
use Rattle.std.specs.Str.{bytes_eq}
use Rattle.g_types.specs.declared.ty.Ty.{Ty}
use Rattle.g_diagram.specs.declared.hierarchy.Hierarchy.{Hierarchy}
use Rattle.g_diagram.specs.declared.hierarchy.Vi.{Vi}
use Rattle.g_diagram.specs.declared.place.Break.{Break}
use Rattle.g_typing.specs.Breaks.{TypeBreak}
use Rattle.g_typing.specs.Types.{Types}
use Rattle.g_typing.specs.Typing.{IsTyping}
use Rattle.g_rules_breaks.specs.Breaks.{ListsEach}
use Rattle.g_infer.specs.declared.typed.InferRefused.{InferRefused}
use Rattle.g_infer.specs.declared.typed.InferRefused.TheVariants.{Broken, Memory}
use Rattle.g_infer.specs.declared.typed.BranchCases.{BranchCases}
use Rattle.g_infer.specs.declared.typed.CaseTypes.{CaseTypes}
use Rattle.g_infer.specs.declared.typed.NamedType.{NamedType}
use Rattle.g_infer.specs.declared.typed.SourceType.{SourceType}
use Rattle.g_infer.specs.declared.typed.Typed.{Typed}
use Rattle.g_infer.specs.declared.typed.ViTypes.{ViTypes}

-- the types of wires, as a list of sources tells them
abbrev pub source_type : List SourceType → Types
source_type [] d name = None
source_type (s ∷ ss) d name = if (s.diagram == d) && bytes_eq s.name name then Some s.ty else source_type ss d name

-- what the tunnels of a case give to a name
abbrev pub named_type : List NamedType → (name : List ℕ) → Option Ty
named_type [] name = None
named_type (t ∷ ts) name = if bytes_eq t.name name then Some t.ty else named_type ts name

abbrev pub case_type : Option CaseTypes → (name : List ℕ) → Option Ty
case_type None name = None
case_type (Some c) name = named_type c.names name

-- the type of a name by the first of some cases, each by its number, that has one
abbrev pub branch_type : List CaseTypes → (numbers : List ℕ) → (name : List ℕ) → Option Ty
branch_type cases [] name = None
branch_type cases (k ∷ ks) name = option_or (case_type (slice_get cases k) name) (branch_type cases ks name)

-- the cases of which a diagram is a branch
abbrev pub branch_cases : List BranchCases → (diagram : ℕ) → List ℕ
branch_cases [] d = []
branch_cases (b ∷ bs) d = if b.diagram == d then b.cases else branch_cases bs d

-- the types of a VI's wires, as they are told: those of listed sources, and in the branches of a case what its tunnels give; the others are unknown
abbrev pub types_in : ViTypes → Types
types_in found d name = option_or (source_type found.sources d name) (branch_type found.cases (branch_cases found.branches d) name)

-- the typing of a VI, and there is no other
pub record IsOnlyTyping (vis : List Vi) (vi : Vi) (types : Types) : Type 0 where
  pub typing : IsTyping vis vi types
  pub only : (others : Types) → IsTyping vis vi others → others ≡ types

abbrev pub HasTyping : List Vi → Vi → Option ViTypes → Type 0
HasTyping vis vi None = ⊥
HasTyping vis vi (Some found) = IsOnlyTyping vis vi (types_in found)

-- each VI's types, by which none of the rules 15 to 18 is broken
pub record IsTyped (h : Hierarchy) (typed : Typed) : Type 0 where
  pub each : (k : ℕ) (vi : Vi) → slice_get h.vis k ≡ Some vi → HasTyping h.vis vi (slice_get typed.vis k)
  pub unbroken : (b : Break) → TypeBreak h b → ⊥

-- why there is none; only want of memory is told of nothing
abbrev pub Refuses : Hierarchy → InferRefused → Type 0
Refuses h (Broken bs) = ListsEach (TypeBreak h) bs × (0 < length bs)
Refuses h (Memory e) = Unit {0}
