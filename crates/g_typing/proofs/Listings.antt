-- Short words for listings and their typings as data.
use Rattle.std.specs.Prelude.{ℕ, ◌==◌, ◌&&◌, List, [], ◌∷◌, if◌then◌else◌, Some, None}
use Rattle.std.specs.Str.{bytes_eq}
use Rattle.std.specs.Fmt as fmt
use Rattle.g_types.specs.declared.rep.Rep.TheVariants.{I32}
use Rattle.g_types.specs.declared.ty.Ty as types
use Rattle.g_types.specs.declared.ty.Ty.{Ty}
use Rattle.g_types.specs.declared.ty.Ty.TheVariants as ty
use Rattle.g_types.proofs.Depths.{depth-Num, depth-Bool, depth-Str, depth-Arr, depth-Cluster, depth-QueueRef, depth-ValueRef}
use Rattle.g_prims_definitions.proofs.Folds.{folds}
use Rattle.g_diagram.specs.declared.place.Break.{Break}
use Rattle.g_diagram.specs.declared.panel.PanelItem.{PanelItem}
use Rattle.g_diagram.specs.declared.hierarchy.Vi.{Vi}
use Rattle.g_diagram.specs.Lines.{Wire, Entry}
use Rattle.g_typing.specs.Types.{Types, place}
use Rattle.g_typing.specs.Typing.{Given, all_given, called_panel}
use Rattle.g_typing.specs.Breaks.{broken, breaks_with}
use Rattle.g_typing.proofs.LiteralLemmas.{literals}

abbrev pub i32 : Ty
i32 = ty.Num I32

-- the wire of a name
abbrev pub w : List ℕ → Wire
w name = Some name

-- a wire of a diagram with its type
abbrev pub known : (diagram : ℕ) → List ℕ → Ty → Given
known d name t = record { diagram = d; name = name; type = Some t }

abbrev pub unknown : (diagram : ℕ) → List ℕ → Given
unknown d name = record { diagram = d; name = name; type = None }

abbrev pub types_in : List Given → Types
types_in [] d name = None
types_in (g ∷ gs) d name = if (g.diagram == d) && bytes_eq g.name name then g.type else types_in gs d name

-- what the lines give by a typing, and what is broken then
abbrev pub gives : List Vi → List PanelItem → List Entry → List Given → List Given
gives vis panel es typing = all_given (called_panel vis) panel es (types_in typing)

abbrev pub breaks : List Vi → List PanelItem → List Entry → List Given → List Break
breaks vis panel es typing = breaks_with (called_panel vis) panel (types_in typing) 0 es

abbrev pub at : (line operand rule : ℕ) → Break
at l k rule = broken rule (place 0 l k)

pub ruleset by_variant = (folds, literals, depth-Num, depth-Bool, depth-Str, depth-Arr, depth-Cluster, depth-QueueRef, depth-ValueRef)

unfoldable pub everything : Unit {0}
unfolding
    types.out-Ty fmt.digits
    Rattle.g_types.specs.declared.ty.Ty.TheBlock.shape-the_row-Ty-0 Rattle.g_types.specs.declared.ty.Ty.TheBlock.hidden-the_row-Ty-0
    Rattle.g_types.specs.declared.ty.Ty.TheBlock.shown-the_row-Ty-0 Rattle.g_types.specs.declared.ty.Ty.TheBlock.shape-the_row-Ty-1
    Rattle.g_types.specs.declared.ty.Ty.TheBlock.hidden-the_row-Ty-1 Rattle.g_types.specs.declared.ty.Ty.TheBlock.shown-the_row-Ty-1
    denote.Hole.Carrier.out denote.Hole.Carrier.shown denote.Hole.Carrier.hidden
everything = tt
