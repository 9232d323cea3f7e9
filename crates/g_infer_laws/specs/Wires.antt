-- Each wire has a type where none of the rules is broken.
use Rattle.std.specs.Prelude.{ℕ, ◌≡◌, true, List, [], Some, is_some, slice_get}
use Rattle.std.specs.List.{All}
use Rattle.g_types.specs.declared.ty.Ty.{Ty}
use Rattle.g_diagram.specs.declared.hierarchy.Hierarchy.{Hierarchy}
use Rattle.g_diagram.specs.declared.hierarchy.Vi.{Vi}
use Rattle.g_diagram.specs.declared.place.Break.{Break}
use Rattle.g_diagram.specs.Lines.{entries_of}
use Rattle.g_diagram.specs.Ports.{Port, ports_of}
use Rattle.g_listing_grammar.specs.Listing.{IsListing}
use Rattle.g_typing.specs.Breaks.{TypeBreak}
use Rattle.g_typing.specs.Types.{Types}
use Rattle.g_typing.specs.Typing.{IsTyping, called_panel, all_given}
use Rattle.g_wires.specs.Breaks.{IsWiring}
use Rattle.g_infer.specs.Answer.{IsTyped, types_in}
use Rattle.g_infer.specs.declared.typed.Typed.{Typed}
use Rattle.g_infer.specs.declared.typed.ViTypes.{ViTypes}
use Rattle.g_infer_laws.specs.OwnLines.{HasOwnLines}

-- the wire at a source or consumer, if it has one, has a type
abbrev pub HasType : Types → Port → Type 0
HasType types p = (name : List ℕ) → p.wire ≡ Some name → (t : Ty) × (types p.diagram name ≡ Some t)

-- each wire of a VI has a type, and each of its lines gives a type to each source that it names
pub record IsAllTyped (vis : List Vi) (vi : Vi) (types : Types) : Type 0 where
  pub wires : All (HasType types) (ports_of vis vi)
  pub given : All (λ g. is_some g.type ≡ true) (all_given (called_panel vis) vi.panel (entries_of vi) types)

-- where none of the rules on names, lines and wires is broken, and none of those on types, so it is by each typing of the VI
abbrev pub EachWireTyped : Type 0
EachWireTyped = (h : Hierarchy) (main : List ℕ) → IsWiring h main [] → ((b : Break) → TypeBreak h b → ⊥)
    → (k : ℕ) (vi : Vi) (types : Types) → slice_get h.vis k ≡ Some vi → HasOwnLines vi → IsTyping h.vis vi types → IsAllTyped h.vis vi types

-- and so it is for a listing by the types that are told
abbrev pub EachReadWireTyped : Type 0
EachReadWireTyped = (bytes : List ℕ) (h : Hierarchy) (main : List ℕ) (typed : Typed) → IsListing bytes h → IsWiring h main [] → IsTyped h typed
    → (k : ℕ) (vi : Vi) (found : ViTypes) → slice_get h.vis k ≡ Some vi → slice_get typed.vis k ≡ Some found → IsAllTyped h.vis vi (types_in found)
