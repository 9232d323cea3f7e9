-- What the firings of structures do, by the values around and inside them. The data space and VI of the frame that opens are those of the
-- node's own frame.
use Rattle.std.specs.Prelude.{ℕ, ◌+◌, true, List, [], Option}
use Rattle.std.specs.Option.{option_map_or}
use Rattle.g_types.specs.declared.ty.Ty.{Ty}
use Rattle.g_values.specs.declared.value.Value.{Value}
use Rattle.g_diagram.specs.declared.node.Tunnel.{Tunnel}
use Rattle.g_diagram.specs.Lines.{Wire, Arm, Part}
use Rattle.g_typing.specs.Types.{Types}
use Rattle.g_border.specs.Readers.{Reader, Given}
use Rattle.g_border.specs.Lines.{entering, lines_inside, leaving, lines_outside, parts_outside}
use Rattle.g_border.specs.Loops.{iteration_inside, kept_registers}
use Rattle.g_border.specs.Cases.{results_outside, arm_at}
use Rattle.g_frames.specs.Structures.{kept_at}
use Rattle.g_effects.specs.declared.advance.Advance.TheVariants as step
use Rattle.g_effects.specs.declared.effect.Effect.{Effect}
use Rattle.g_effects.specs.declared.effect.Opening.{Opening}
use Rattle.g_effects.specs.Effects.{gives_with, opens_with}

abbrev pub inside : (vi space diagram iteration : ℕ) → Given → Opening
inside vi space d k given = record { vi = vi; space = space; diagram = d; iteration = k; gives = given }

-- an iteration, after so many, opens the body
abbrev pub loop_goes_on : (vi space : ℕ) → (outer : Reader) → (before : Option Reader) → (done : ℕ) → (kept : List Value) → (line : ℕ) →
    (count stop : Option Wire) → (iteration : Wire) → List Tunnel → (body : ℕ) → Effect
loop_goes_on vi space outer before n vs l count stop i lines body =
    let into = record (entering outer) { before = before; iteration = n; kept = kept_at (kept_registers (l + 1) lines) vs } in
    record (opens_with step.LoopOpens (inside vi space body n (iteration_inside into l count stop i lines))) { begins = true }

-- a loop that has ended gives its outputs and writes its kept registers
abbrev pub loop_ends : (outer : Reader) → (inner : List Reader) → (types : List ℕ → Option Ty) → (kept : List Value) → (line : ℕ) →
    List Tunnel → (keeps : List (ℕ × Value)) → Effect
loop_ends outer inner types vs l lines keeps =
    let out = record (leaving outer inner types) { kept = kept_at (kept_registers (l + 1) lines) vs } in
    record (gives_with step.LoopEnds (lines_outside out (l + 1) lines)) { keeps = keeps }

-- a case opens a branch
abbrev pub branch_opens : (vi space : ℕ) → (outer : Reader) → (line : ℕ) → List Tunnel → Arm → Effect
branch_opens vi space outer l lines arm = opens_with step.CaseOpens (inside vi space arm.body 0 (lines_inside (entering outer) (l + 1) lines))

-- and gives its results once the branch, on this line, is complete
abbrev pub case_ends : Types → (inner : Reader) → (diagram line : ℕ) → List Tunnel → List Arm → Effect
case_ends types inner d l lines arms =
    gives_with step.CaseEnds (option_map_or (λ arm. results_outside types arms arm inner 0 (l + 1) lines) (arm_at d arms) [])

-- a sequence opens the part that follows so many
abbrev pub part_opens : (vi space : ℕ) → (outer : Reader) → (before : Option Reader) → (done : ℕ) → Part → Effect
part_opens vi space outer before n part =
    let into = record (entering outer) { before = before; iteration = n } in
    opens_with step.PartOpens (inside vi space part.body n (lines_inside into (part.body + 1) part.lines))

abbrev pub sequence_ends : (outer : Reader) → List Part → (inner : List Reader) → Types → Effect
sequence_ends outer parts inner types = gives_with step.SequenceEnds (parts_outside outer parts inner types)
