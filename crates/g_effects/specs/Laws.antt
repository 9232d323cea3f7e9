-- Plans of nodes agree with the effects of their firings.
use Rattle.std.specs.Prelude.{◌≡◌, ℕ, Bool, true, List, Option, None, Some, slice_get}
use Rattle.std.specs.List.{All}
use Rattle.std.specs.Option.{option_and_then}
use Rattle.g_values.specs.Proper.{IsProper}
use Rattle.g_diagram.specs.Lines.{Entry, Kind}
use Rattle.g_frames.specs.declared.state.Progress.{Progress}
use Rattle.g_frames.specs.Effects.{Here}
use Rattle.g_frames.specs.Fire.{effect}
use Rattle.g_frames.specs.Contents.{Content}
use Rattle.g_objects.specs.Operations.{IsOperation, TakesPlace}
use Rattle.g_effects.specs.declared.plan.Request.{Request}
use Rattle.g_effects.specs.declared.plan.Placement.{Placement}
use Rattle.g_effects.specs.declared.plan.Plan.{Plan}
use Rattle.g_effects.specs.declared.plan.Plan.TheVariants as plan
use Rattle.g_effects.specs.Needs.{Needs}
use Rattle.g_effects.specs.Requests.{planned}
use Rattle.g_effects.specs.Kinds.{kind_plan}

-- the effect of a node's firing is that of the plan of its kind, where the firing has what it needs
abbrev pub PlansAreEffects : Type 0
PlansAreEffects =
    (h : Here) (e : Entry) (choice : Option ℕ) (k : Kind) (p : Progress) → Needs h e k → option_and_then (planned h e p) (kind_plan h e choice k p) ≡ effect h e choice k p

-- the operation has values that its object can have, if there is that object
abbrev pub FitsRequest : List Content → Request → Type 0
FitsRequest objects q = (c : Content) → slice_get objects q.object ≡ Some c → IsOperation c q.operation

-- there is a value that a reference names, which takes what the body made of it
pub record FitsPlacement (objects : List Content) (q : Placement) : Type 0 where
  pub content : Content
  pub is : slice_get objects q.object ≡ Some content
  pub takes : TakesPlace content q.value
  pub outputs : All IsProper q.outputs

-- a plan can be done as far as types go
abbrev pub PlanFits : List Content → Option Plan → Type 0
PlanFits objects None = Unit {0}
PlanFits objects (Some (plan.Effect x)) = Unit {0}
PlanFits objects (Some (plan.Request q)) = FitsRequest objects q
PlanFits objects (Some (plan.Placement q)) = FitsPlacement objects q

-- a firing that has what it needs has a plan that fits its object
abbrev pub NeedsFit : Type 0
NeedsFit = (h : Here) (e : Entry) (choice : Option ℕ) (k : Kind) (p : Progress) → Needs h e k → PlanFits h.objects (kind_plan h e choice k p)

-- an iteration begins only where the limit leaves room
abbrev pub BeginsWithin : (has_room : Bool) → Option Plan → Type 0
BeginsWithin room None = Unit {0}
BeginsWithin room (Some (plan.Effect x)) = x.begins ≡ true → room ≡ true
BeginsWithin room (Some (plan.Request q)) = Unit {0}
BeginsWithin room (Some (plan.Placement q)) = Unit {0}

abbrev pub BeginsInRoom : Type 0
BeginsInRoom = (h : Here) (e : Entry) (choice : Option ℕ) (k : Kind) (p : Progress) → BeginsWithin h.has_room (kind_plan h e choice k p)
