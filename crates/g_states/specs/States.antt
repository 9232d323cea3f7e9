-- Changes of a state, in the words of the machine.
use Rattle.std.specs.Prelude.{◌≡◌, ℕ, List, Option, Some, None, slice_get, slice_set}
use Rattle.std.specs.Option.{option_map_or}
use Rattle.g_values.specs.declared.value.Value.{Value}
use Rattle.g_diagram.specs.Lines.{Entry}
use Rattle.g_shared.specs.declared.reply.Reply.{Reply}
use Rattle.g_frames.specs.declared.firing.Firing.{Firing}
use Rattle.g_frames.specs.declared.state.Progress.{Progress}
use Rattle.g_frames.specs.declared.state.Progress.TheVariants as progress
use Rattle.g_frames.specs.declared.state.Frame.{Frame}
use Rattle.g_frames.specs.Contents.{Content}
use Rattle.g_frames.specs.Program.{FlatVi, Program, vi_at}
use Rattle.g_frames.specs.State.{FireState, nodes_in}
use Rattle.g_frames.specs.Fire.{node_on, with_progress}
use Rattle.g_objects.specs.declared.operation.Operation.{Operation}
use Rattle.g_objects.specs.Operations.{IsOperation, Gives, Waits, TakesPlace, Places}
use Rattle.g_effects.specs.declared.advance.Advance.{Advance}
use Rattle.g_effects.specs.Advance.{advanced}

-- ---- what the node of a firing has done

abbrev pub progress_on : (line : ℕ) → List Entry → List Progress → Progress
progress_on l es ps = option_map_or (λ n. n.1) (node_on l es ps) progress.Idle

abbrev pub progress_in : (line : ℕ) → Frame → FlatVi → Progress
progress_in l f vi = progress_on l (nodes_in vi f.diagram) f.nodes

-- by its frames; nothing where there is no such node
abbrev pub progress_at : Program → List Frame → Firing → Progress
progress_at p fs x = option_map_or (λ f. option_map_or (progress_in x.node f) (vi_at p f.vi) progress.Idle) (slice_get fs x.frame) progress.Idle

-- Inner: the node at a place takes a step
abbrev pub stepped_at : Advance → (next : ℕ) → List Progress → (place : ℕ) → List Progress
stepped_at a next ps k = option_map_or (λ q. slice_set ps k (advanced q a next)) (slice_get ps k) ps

-- Inner: the node on a line takes a step
abbrev pub stepped_on : (line : ℕ) → List Entry → Advance → (next : ℕ) → List Progress → List Progress
stepped_on l es a next ps = with_progress l (advanced (progress_on l es ps) a next) es ps

-- Inner: a value comes to a place that has none
abbrev pub put_in : Option (Option Value) → List (Option Value) → (place : ℕ) → Value → List (Option Value)
put_in None vs k v = vs
put_in (Some None) vs k v = slice_set vs k (Some v)
put_in (Some (Some w)) vs k v = vs

abbrev pub put_at : List (Option Value) → (place : ℕ) → Value → List (Option Value)
put_at vs k v = put_in (slice_get vs k) vs k v

-- ---- operations on the object of a number, after which only that object differs

abbrev pub with_object : FireState → (object : ℕ) → Content → FireState
with_object s k c = record s { objects = slice_set s.objects k c }

-- the operation has values that its object can have, if there is that object
abbrev pub FitsAt : FireState → (object : ℕ) → Operation → Type 0
FitsAt s k o = (c : Content) → slice_get s.objects k ≡ Some c → IsOperation c o

-- the operation is done, with a choice or without one
pub record GivesAt (choice : Option ℕ) (old : FireState) (object : ℕ) (o : Operation) (reply : Reply) (new : FireState) : Type 0 where
  pub before : Content
  pub before_is : slice_get old.objects object ≡ Some before
  pub content : Content
  pub gives : Gives choice before o reply content
  pub new_is : new ≡ with_object old object content

-- it has to wait; also where there is no object of that number
abbrev pub WaitsAt : (choice : Option ℕ) → FireState → (object : ℕ) → Operation → Type 0
WaitsAt choice s k o = (c : Content) → slice_get s.objects k ≡ Some c → Waits choice c o

-- there is a value that a reference names, which takes this one
pub record TakesPlaceAt (s : FireState) (object : ℕ) (v : Value) : Type 0 where
  pub content : Content
  pub content_is : slice_get s.objects object ≡ Some content
  pub takes : TakesPlace content v

-- the operation in place is done, with a body that makes this value and these outputs
pub record PlacesAt (old : FireState) (object serial : ℕ) (v : Value) (outputs : List Value) (reply : Reply) (new : FireState) : Type 0 where
  pub before : Content
  pub before_is : slice_get old.objects object ≡ Some before
  pub content : Content
  pub places : Places before serial v outputs reply content
  pub new_is : new ≡ with_object old object content
