-- Inner: what is known of a VI's wires after steps were taken, one after another.
use Rattle.std.specs.Prelude.{ℕ, ◌<◌, ◌==◌, ◌≡◌, Bool, true, false, ◌&&◌, List, [], ◌∷◌, map, length, Option, Some, None, slice_get}
use Rattle.std.specs.Str.{bytes_eq}
use Rattle.g_types.specs.declared.ty.Ty.{Ty}
use Rattle.g_diagram.specs.declared.node.Tunnel.{Tunnel}
use Rattle.g_graph.specs.Graph.{Graph, has_edge}
use Rattle.g_graph_order.specs.Order.{IsOrder}
use Rattle.g_typing.specs.Types.{Types}
use Rattle.g_typing.specs.Typing.{Given, Callees, Objects, IsGivenTo, lines_inside}
use Rattle.g_typing.proofs.Unique.{Step, AreLocal}
use Rattle.g_typing.proofs.Only.{IsIn, all_gives}
use Rattle.g_typing.proofs.Names.{AreNamed}
use Rattle.g_typing.proofs.Ready.{Feeds}
use Rattle.g_typing.proofs.Roles.{nothing}
use Rattle.g_typing.proofs.Walked.{AreApart, Walked}
use Rattle.g_rules_types.specs.Known.{Scope}
use Rattle.g_rules_types.specs.Panels.{found}
use Rattle.g_infer.specs.Gives.{step_of}
use Rattle.g_infer.specs.Steps.{Form}

-- whether something is given to a name
abbrev pub is_to : Given → (diagram : ℕ) → (name : List ℕ) → Bool
is_to g d n = (g.diagram == d) && bytes_eq g.name n

-- the type of a name, by what was known before it; what is given without a type changes nothing
abbrev pub put : (is_to : Bool) → (given known : Option Ty) → Option Ty
put true (Some t) known = Some t
put true None known = known
put false t known = known

-- the same after all that is given
abbrev pub known_after : List Given → (diagram : ℕ) → (name : List ℕ) → (known : Option Ty) → Option Ty
known_after [] d n known = known
known_after (g ∷ gs) d n known = known_after gs d n (put (is_to g d n) g.type known)

-- the same by names alone, whatever the diagrams
abbrev pub named_after : List Given → (name : List ℕ) → (known : Option Ty) → Option Ty
named_after [] n known = known
named_after (g ∷ gs) n known = named_after gs n (put (bytes_eq g.name n) g.type known)

-- what the tunnels of a case give to names, in diagram 0 as in any other
abbrev pub IsScope : Types → (outer : ℕ) → List Tunnel → Scope → Type 0
IsScope M d ts scope = (n : List ℕ) → found scope n ≡ named_after (lines_inside M d 0 None ts) n None

-- no name is given twice, and none had a type
pub record IsFresh (M : Types) (gs : List Given) : Type 0 where
  pub apart : AreApart gs
  pub unknown : (d : ℕ) (n : List ℕ) → IsGivenTo gs d n → M d n ≡ None

-- the types after a step that gives this
abbrev pub IsAfter : (old new : Types) → List Given → Type 0
IsAfter old new gs = (d : ℕ) (n : List ℕ) → new d n ≡ known_after gs d n (old d n)

-- the steps by their numbers
abbrev pub steps_of : Callees → Objects → List Form → List Step
steps_of called objects forms = map (step_of called objects) forms

-- steps that can be taken in this order
pub record CanWalk (ss : List Step) (nodes : List ℕ) : Type 0 where
  pub local : AreLocal ss
  pub named : AreNamed ss
  pub apart : AreApart (all_gives nothing ss)
  pub graph : Graph
  pub long : length graph ≡ length ss
  pub leads : (a b : ℕ) (s t : Step) → slice_get ss a ≡ Some s → slice_get ss b ≡ Some t → Feeds s t → has_edge graph a b ≡ true
  pub order : IsOrder graph nodes

-- a step that was taken before place i of an order
pub record IsTaken (ss : List Step) (nodes : List ℕ) (i : ℕ) (t : Step) : Type 0 where
  pub place : ℕ
  pub before : place < i
  pub node : ℕ
  pub at : slice_get nodes place ≡ Some node
  pub is : slice_get ss node ≡ Some t

-- the types once the steps before place i of an order were taken
pub record HasWalked (ss : List Step) (nodes : List ℕ) (i : ℕ) (types : Types) : Type 0 where
  pub done : List Step
  pub walked : Walked types done
  pub from : (t : Step) → IsIn t done → IsTaken ss nodes i t
  pub all : (t : Step) → IsTaken ss nodes i t → IsIn t done
