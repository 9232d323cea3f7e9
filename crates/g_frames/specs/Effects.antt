-- What a firing does, and where its node stands.
use Rattle.std.specs.Prelude.{ℕ, Bool, true, false, List, [], length, Option, Some, None, slice_get}
use Rattle.std.specs.Option.{option_map, option_and_then}
use Rattle.g_values.specs.declared.value.Value.{Value}
use Rattle.g_shared.specs.declared.reply.Reply.{Reply}
use Rattle.g_shared.specs.Outcome.{Outcome}
use Rattle.g_shared.specs.Cells.{Body}
use Rattle.g_border.specs.Readers.{Reader, Given}
use Rattle.g_frames.specs.declared.state.Progress.{Progress}
use Rattle.g_frames.specs.declared.state.Frame.{Frame}
use Rattle.g_frames.specs.Contents.{Content, Operation, object_step}
use Rattle.g_frames.specs.Program.{FlatVi, Program}
use Rattle.g_frames.specs.State.{Opening}

-- What one firing does: the progress of its node, the values that it gives at sources of its frame, the frame that it opens, the object
-- that it changes, the kept registers that it writes, and whether it begins an iteration
pub record Effect : Type 0 where
  pub progress : Progress
  pub gives : Given
  pub opens : Option Opening
  pub changes : Option (ℕ × Content)
  pub keeps : List (ℕ × Value)
  pub begins : Bool

-- a firing that only gives values
abbrev pub gives : Progress → Given → Effect
gives p given = record { progress = p; gives = given; opens = None; changes = None; keeps = []; begins = false }

-- a firing that opens a frame
abbrev pub opens : Progress → Opening → Effect
opens p opening = record { progress = p; gives = []; opens = Some opening; changes = None; keeps = []; begins = false }

-- an effect where a need holds
abbrev pub guard : Bool → Option Effect → Option Effect
guard true e = e
guard false e = None

-- where a node stands, and all that its firing looks at in the state
pub record Here : Type 0 where
  pub program : Program
  pub frames : List Frame
  pub objects : List Content
  pub kept : List Value
  -- whether the limit leaves room for an iteration
  pub has_room : Bool
  -- the node's frame, with its VI and the values on its wires
  pub frame : Frame
  pub vi : FlatVi
  pub outer : Reader

-- the number that the next frame gets
abbrev pub next_frame : Here → ℕ
next_frame h = length h.frames

-- a frame of the node's own VI and data space
abbrev pub inside : Here → (diagram iteration : ℕ) → Given → Opening
inside h d k given = record { vi = h.frame.vi; space = h.frame.space; diagram = d; iteration = k; gives = given }

-- ---- operations on shared objects

-- a firing that does an operation, where the operation can fire; the null reference has no object to be changed
abbrev pub after_step : (object : Option ℕ) → (Reply → Effect) → Outcome Content → Option Effect
after_step object effect outcome = option_map (λ r. record (effect r.0) { changes = option_map (λ k. (k, r.1)) object }) outcome

abbrev pub no_body : Body
no_body v vs = (v, [])

-- an operation on the object of a number
abbrev pub on_object : Here → (object : ℕ) → Operation → (choice : ℕ) → (Reply → Effect) → Option Effect
on_object h k o choice effect =
    after_step (Some k) effect (option_and_then (λ content. object_step content o choice no_body) (slice_get h.objects k))
