-- How loops, cases and sequences go on.
use Rattle.std.specs.Prelude.{ℕ, ◌+◌, Bool, true, false, List, [], length, Option, Some, None, slice_get, if◌then◌else◌}
use Rattle.std.specs.Option.{option_map, option_and_then}
use Rattle.g_values.specs.declared.value.Value.{Value}
use Rattle.g_diagram.specs.declared.node.Tunnel.{Tunnel}
use Rattle.g_diagram.specs.Lines.{Wire, Arm, Part}
use Rattle.g_border.specs.Readers.{value_on}
use Rattle.g_border.specs.Lines.{latest, leaving}
use Rattle.g_border.specs.Loops.{has_ended, kept_registers}
use Rattle.g_border.specs.Cases.{chosen}
use Rattle.g_frames.specs.declared.state.Progress.{Progress}
use Rattle.g_frames.specs.declared.state.Progress.TheVariants as progress
use Rattle.g_frames.specs.declared.state.Frame.{Frame}
use Rattle.g_frames.specs.State.{is_complete, reader_in}
use Rattle.g_frames.specs.Effects.{Here}
use Rattle.g_frames.specs.Structures.{readers_of, is_latest_complete, kept_at, kept_now, kept_after}
use Rattle.g_effects.specs.declared.plan.Turn.{Turn}
use Rattle.g_effects.specs.declared.plan.Turn.TheVariants.{Waits, Ends, GoesOn}
use Rattle.g_effects.specs.declared.advance.Advance.TheVariants as step
use Rattle.g_effects.specs.declared.effect.Effect.{Effect}
use Rattle.g_effects.specs.Effects.{gives_with}
use Rattle.g_effects.specs.Structures.{loop_goes_on, loop_ends, branch_opens, case_ends, part_opens, sequence_ends}

-- ---- loops

-- how a loop goes on, by whether its latest frame is complete, whether it has ended, and whether the limit leaves room
abbrev pub turn_of : (complete ended room : Bool) → Turn
turn_of false e r = Waits
turn_of true true r = Ends
turn_of true false true = GoesOn
turn_of true false false = Waits

abbrev pub by_turn : {A : Type 0} → Turn → (ends goes_on : A) → Option A
by_turn Waits a b = None
by_turn Ends a b = Some a
by_turn GoesOn a b = Some b

abbrev pub loop_turn : Here → (count stop : Option Wire) → List Tunnel → List ℕ → Turn
loop_turn h count stop lines ks =
    turn_of (is_latest_complete h ks) (has_ended h.outer count stop lines (length ks) (latest (readers_of h ks))) h.has_room

-- what a loop's end writes to its kept registers, whose border lines stand from a line on
abbrev pub keeps_from : Here → (first : ℕ) → List Tunnel → (body : ℕ) → (kept : List Value) → List ℕ → List (ℕ × Value)
keeps_from h l lines body vs ks =
    kept_after h (record (leaving h.outer (readers_of h ks) (h.vi.types body)) { kept = kept_at (kept_registers l lines) vs }) l lines

abbrev pub loop_starts : Here → (line : ℕ) → List Tunnel → Effect
loop_starts h l lines = gives_with (step.LoopStarts (kept_now h (kept_registers (l + 1) lines))) []

abbrev pub loop_end : Here → (line : ℕ) → List Tunnel → (body : ℕ) → (kept : List Value) → List ℕ → Effect
loop_end h l lines body vs ks = loop_ends h.outer (readers_of h ks) (h.vi.types body) vs l lines (keeps_from h (l + 1) lines body vs ks)

abbrev pub loop_next : Here → (line : ℕ) → (count stop : Option Wire) → (iteration : Wire) → List Tunnel → (body : ℕ) → (kept : List Value) → List ℕ → Effect
loop_next h l count stop i lines body vs ks =
    loop_goes_on h.frame.vi h.frame.space h.outer (latest (readers_of h ks)) (length ks) vs l count stop i lines body

abbrev pub loop_plan : Here → (line : ℕ) → (count stop : Option Wire) → (iteration : Wire) → List Tunnel → (body : ℕ) → Progress → Option Effect
loop_plan h l count stop i lines body progress.Idle = Some (loop_starts h l lines)
loop_plan h l count stop i lines body (progress.Loop vs ks ended) =
    by_turn (loop_turn h count stop lines ks) (loop_end h l lines body vs ks) (loop_next h l count stop i lines body vs ks)
loop_plan h l count stop i lines body _ = None

-- ---- cases

abbrev pub branch_ends : Here → (line : ℕ) → List Tunnel → List Arm → Frame → Option Effect
branch_ends h l lines arms f = if is_complete f then Some (case_ends h.vi.types (reader_in h.vi f) f.diagram l lines arms) else None

abbrev pub case_start : Here → (line : ℕ) → (selector : Wire) → List Tunnel → List Arm → Option Effect
case_start h l w lines arms = option_map (branch_opens h.frame.vi h.frame.space h.outer l lines) (chosen (value_on h.outer w) arms)

abbrev pub case_plan : Here → (line : ℕ) → (selector : Wire) → List Tunnel → List Arm → Progress → Option Effect
case_plan h l w lines arms progress.Idle = case_start h l w lines arms
case_plan h l w lines arms (progress.Case k ended) = option_and_then (branch_ends h l lines arms) (slice_get h.frames k)
case_plan h l w lines arms _ = None

-- ---- sequences

abbrev pub part_plan : Here → List Part → List ℕ → Option Part → Effect
part_plan h parts ks None = sequence_ends h.outer parts (readers_of h ks) h.vi.types
part_plan h parts ks (Some part) = part_opens h.frame.vi h.frame.space h.outer (latest (readers_of h ks)) (length ks) part

abbrev pub sequence_start : Here → List Part → Option Effect
sequence_start h parts = option_map (part_opens h.frame.vi h.frame.space h.outer None 0) (slice_get parts 0)

abbrev pub sequence_plan : Here → List Part → Progress → Option Effect
sequence_plan h parts progress.Idle = sequence_start h parts
sequence_plan h parts (progress.Sequence ks ended) = if is_latest_complete h ks then Some (part_plan h parts ks (slice_get parts (length ks))) else None
sequence_plan h parts _ = None
