-- Loops, cases and sequences: their firings open frames, and go on once these are complete.
use Rattle.std.specs.Prelude.{ℕ, ◌+◌, ◌==◌, Bool, true, false, List, [], ◌∷◌, ◌++◌, map, length, Option, Some, None, slice_get, if◌then◌else◌}
use Rattle.std.specs.Option.{option_map, option_and_then, option_map_or, option_to_list}
use Rattle.g_types.specs.declared.ty.Ty.{Ty}
use Rattle.g_values.specs.declared.value.Value.{Value}
use Rattle.g_prims_definitions.specs.Arithmetic.{nothing}
use Rattle.g_prims_definitions.specs.Arrays.{or_default}
use Rattle.g_diagram.specs.declared.node.Tunnel.{Tunnel}
use Rattle.g_diagram.specs.Lines.{Wire, Arm, Part, Entry}
use Rattle.g_border.specs.Readers.{Reader, value_on, Given}
use Rattle.g_border.specs.Lines.{entering, lines_inside, Leaving, leaving, lines_outside, latest, values_outside, parts_outside}
use Rattle.g_border.specs.Loops.{has_ended, iteration_inside, kept_registers, kept_lines}
use Rattle.g_border.specs.Cases.{chosen, results_outside, arm_at}
use Rattle.g_frames.specs.declared.state.Progress.{Progress}
use Rattle.g_frames.specs.declared.state.Progress.TheVariants as progress
use Rattle.g_frames.specs.declared.state.Frame.{Frame}
use Rattle.g_frames.specs.Program.{kept_number}
use Rattle.g_frames.specs.State.{is_complete, reader_in}
use Rattle.g_frames.specs.Effects.{Effect, gives, opens, guard, Here, next_frame, inside}
use Rattle.g_frames.specs.Operations.{input_at}

-- ---- frames inside a node

-- the wires of the frames of a node, in the order of their opening
abbrev pub readers_of : Here → List ℕ → List Reader
readers_of h [] = []
readers_of h (k ∷ ks) = option_to_list (option_map (reader_in h.vi) (slice_get h.frames k)) ++ readers_of h ks

-- whether the frame of a number is complete
abbrev pub is_complete_at : Here → ℕ → Bool
is_complete_at h k = option_map_or is_complete (slice_get h.frames k) false

-- the latest frame of a node is complete, or there is none
abbrev pub is_latest_complete : Here → List ℕ → Bool
is_latest_complete h ks = option_map_or (is_complete_at h) (latest ks) true

-- ---- loops

-- what a kept register had when its loop started
abbrev pub kept_at : (registers : List (ℕ × Ty)) → List Value → (line : ℕ) → Value
kept_at [] vs l = nothing
kept_at (r ∷ rs) [] l = nothing
kept_at (r ∷ rs) (v ∷ vs) l = if r.0 == l then v else kept_at rs vs l

-- what the kept registers of a loop have in the state
abbrev pub kept_now : Here → (registers : List (ℕ × Ty)) → List Value
kept_now h rs = map (λ r. or_default r.1 (slice_get h.kept (kept_number h.program h.frame.space r.0))) rs

-- what a loop's end writes to its kept registers, by their numbers
abbrev pub kept_after : Here → Leaving → (line : ℕ) → List Tunnel → List (ℕ × Value)
kept_after h out l [] = []
kept_after h out l (t ∷ ts) =
    map (λ r. (kept_number h.program h.frame.space r.0, input_at (values_outside out l t) 0)) (kept_lines l t) ++ kept_after h out (l + 1) ts

-- a loop that has ended gives its outputs and writes its kept registers
abbrev pub loop_ends : Here → Entry → (values : List Value) → List ℕ → List Tunnel → (body : ℕ) → Effect
loop_ends h e vs ks lines body =
    let out = record (leaving h.outer (readers_of h ks) (h.vi.types body)) { kept = kept_at (kept_registers (e.line + 1) lines) vs } in
    record (gives (progress.Loop vs ks true) (lines_outside out (e.line + 1) lines)) { keeps = kept_after h out (e.line + 1) lines }

-- an iteration opens a frame
abbrev pub loop_goes_on : Here → Entry → (values : List Value) → List ℕ → (count stop : Option Wire) → (iteration : Wire) → List Tunnel → (body : ℕ) → Effect
loop_goes_on h e vs ks count stop i lines body =
    let into = record (entering h.outer) {
      before = latest (readers_of h ks);
      iteration = length ks;
      kept = kept_at (kept_registers (e.line + 1) lines) vs;
    } in
    record (opens (progress.Loop vs (ks ++ next_frame h ∷ []) false) (inside h body (length ks) (iteration_inside into e.line count stop i lines))) { begins = true }

-- A loop: its start reads the kept registers. After that, where its latest frame is complete or there is none, it ends if it has ended, and
-- else an iteration begins, if the limit leaves room
abbrev pub loop_effect : Here → Entry → (count stop : Option Wire) → (iteration : Wire) → List Tunnel → (body : ℕ) → Progress → Option Effect
loop_effect h e count stop i lines body progress.Idle = Some (gives (progress.Loop (kept_now h (kept_registers (e.line + 1) lines)) [] false) [])
loop_effect h e count stop i lines body (progress.Loop vs ks ended) =
    guard (is_latest_complete h ks)
    (if has_ended h.outer count stop lines (length ks) (latest (readers_of h ks))
    then Some (loop_ends h e vs ks lines body)
    else guard h.has_room (Some (loop_goes_on h e vs ks count stop i lines body)))
loop_effect h e count stop i lines body _ = None

-- ---- cases

abbrev pub branch_opens : Here → Entry → List Tunnel → Arm → Effect
branch_opens h e lines arm = opens (progress.Case (next_frame h) false) (inside h arm.body 0 (lines_inside (entering h.outer) (e.line + 1) lines))

abbrev pub branch_results : Here → Entry → List Tunnel → List Arm → Frame → Option Arm → Given
branch_results h e lines arms f taken = option_map_or (λ arm. results_outside h.vi.types arms arm (reader_in h.vi f) 0 (e.line + 1) lines) taken []

abbrev pub case_ends : Here → Entry → List Tunnel → List Arm → (frame : ℕ) → Frame → Option Effect
case_ends h e lines arms k f = guard (is_complete f) (Some (gives (progress.Case k true) (branch_results h e lines arms f (arm_at f.diagram arms))))

-- a case opens the branch with the selector's value, and gives its results once that is complete
abbrev pub case_effect : Here → Entry → (selector : Wire) → List Tunnel → List Arm → Progress → Option Effect
case_effect h e w lines arms progress.Idle = option_map (branch_opens h e lines) (chosen (value_on h.outer w) arms)
case_effect h e w lines arms (progress.Case k ended) = option_and_then (case_ends h e lines arms k) (slice_get h.frames k)
case_effect h e w lines arms _ = None

-- ---- sequences

abbrev pub part_opens : Here → List ℕ → Part → Effect
part_opens h ks part =
    let into = record (entering h.outer) { before = latest (readers_of h ks); iteration = length ks } in
    opens (progress.Sequence (ks ++ next_frame h ∷ []) false) (inside h part.body (length ks) (lines_inside into (part.body + 1) part.lines))

abbrev pub next_part : Here → List ℕ → List Part → Option Part → Effect
next_part h ks parts None = gives (progress.Sequence ks true) (parts_outside h.outer parts (readers_of h ks) h.vi.types)
next_part h ks parts (Some part) = part_opens h ks part

-- a sequence opens its frames one after another, each once the one before is complete, and then gives its outputs
abbrev pub sequence_effect : Here → List Part → Progress → Option Effect
sequence_effect h parts progress.Idle = option_map (part_opens h []) (slice_get parts 0)
sequence_effect h parts (progress.Sequence ks ended) = guard (is_latest_complete h ks) (Some (next_part h ks parts (slice_get parts (length ks))))
sequence_effect h parts _ = None
