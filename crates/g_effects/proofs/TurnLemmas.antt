-- The effects of loops, cases and sequences are those of the ways in which they go on.
use Rattle.std.proofs.Common.{◌≡◌, ℕ, Bool, true, false, List, [], length, refl, ap}
use Rattle.std.specs.Prelude.{Option, Some, None, slice_get, if◌then◌else◌}
use Rattle.std.specs.Option.{option_map, option_and_then}
use Rattle.g_diagram.specs.declared.node.Tunnel.{Tunnel}
use Rattle.g_diagram.specs.Lines.{Wire, Arm, Part, Entry}
use Rattle.g_border.specs.Readers.{value_on}
use Rattle.g_border.specs.Lines.{latest}
use Rattle.g_border.specs.Loops.{has_ended}
use Rattle.g_border.specs.Cases.{chosen}
use Rattle.g_frames.specs.declared.state.Progress.{Progress}
use Rattle.g_frames.specs.declared.state.Progress.TheVariants as progress
use Rattle.g_frames.specs.declared.state.Frame.{Frame}
use Rattle.g_frames.specs.State.{is_complete, reader_in}
use Rattle.g_frames.specs.Effects as effects
use Rattle.g_frames.specs.Effects.{Here, next_frame, guard}
use Rattle.g_frames.specs.Structures.{readers_of, is_latest_complete, loop_effect, case_effect, case_ends, sequence_effect}
use Rattle.g_frames.specs.Structures as structures
use Rattle.g_effects.specs.declared.effect.Effect.{Effect}
use Rattle.g_effects.specs.Effects.{seen}
use Rattle.g_effects.specs.Structures as code
use Rattle.g_effects.specs.Turns.{turn_of, by_turn, loop_end, loop_next, loop_plan, branch_ends, case_plan, part_plan, sequence_plan}

turn_is : (f : Effect → effects.Effect) (c e r : Bool) (a b : Effect) →
    option_map f (by_turn (turn_of c e r) a b) ≡ guard c (if e then Some (f a) else guard r (Some (f b)))
turn_is f false e r a b = refl
turn_is f true true r a b = refl
turn_is f true false true a b = refl
turn_is f true false false a b = refl

pub loop_is : (h : Here) (e : Entry) (count stop : Option Wire) (i : Wire) (lines : List Tunnel) (body : ℕ) (p : Progress) →
    option_map (seen p (next_frame h)) (loop_plan h e.line count stop i lines body p) ≡ loop_effect h e count stop i lines body p
loop_is h e count stop i lines body progress.Idle = refl
loop_is h e count stop i lines body progress.Done = refl
loop_is h e count stop i lines body (progress.Loop vs ks ended) =
    turn_is (seen (progress.Loop vs ks ended) (next_frame h)) (is_latest_complete h ks)
    (has_ended h.outer count stop lines (length ks) (latest (readers_of h ks))) h.has_room
    (loop_end h e.line lines body vs ks) (loop_next h e.line count stop i lines body vs ks)
loop_is h e count stop i lines body (progress.Case k ended) = refl
loop_is h e count stop i lines body (progress.Sequence ks ended) = refl
loop_is h e count stop i lines body (progress.Call clone stage) = refl

opened_is : (h : Here) (e : Entry) (lines : List Tunnel) (m : Option Arm) →
    option_map (seen progress.Idle (next_frame h)) (option_map (code.branch_opens h.frame.vi h.frame.space h.outer e.line lines) m)
    ≡ option_map (structures.branch_opens h e lines) m
opened_is h e lines None = refl
opened_is h e lines (Some arm) = refl

ended_is : (f : Effect → effects.Effect) (b : Bool) (x : Effect) → option_map f (if b then Some x else None) ≡ guard b (Some (f x))
ended_is f true x = refl
ended_is f false x = refl

ends_is : (h : Here) (e : Entry) (lines : List Tunnel) (arms : List Arm) (k : ℕ) (ended : Bool) (m : Option Frame) →
    option_map (seen (progress.Case k ended) (next_frame h)) (option_and_then (branch_ends h e.line lines arms) m)
    ≡ option_and_then (case_ends h e lines arms k) m
ends_is h e lines arms k ended None = refl
ends_is h e lines arms k ended (Some f) =
    ended_is (seen (progress.Case k ended) (next_frame h)) (is_complete f) (code.case_ends h.vi.types (reader_in h.vi f) f.diagram e.line lines arms)

pub case_is : (h : Here) (e : Entry) (w : Wire) (lines : List Tunnel) (arms : List Arm) (p : Progress) →
    option_map (seen p (next_frame h)) (case_plan h e.line w lines arms p) ≡ case_effect h e w lines arms p
case_is h e w lines arms progress.Idle = opened_is h e lines (chosen (value_on h.outer w) arms)
case_is h e w lines arms progress.Done = refl
case_is h e w lines arms (progress.Loop vs ks ended) = refl
case_is h e w lines arms (progress.Case k ended) = ends_is h e lines arms k ended (slice_get h.frames k)
case_is h e w lines arms (progress.Sequence ks ended) = refl
case_is h e w lines arms (progress.Call clone stage) = refl

first_is : (h : Here) (m : Option Part) →
    option_map (seen progress.Idle (next_frame h)) (option_map (code.part_opens h.frame.vi h.frame.space h.outer None 0) m)
    ≡ option_map (structures.part_opens h []) m
first_is h None = refl
first_is h (Some part) = refl

part_is : (h : Here) (parts : List Part) (ks : List ℕ) (ended : Bool) (m : Option Part) →
    seen (progress.Sequence ks ended) (next_frame h) (part_plan h parts ks m) ≡ structures.next_part h ks parts m
part_is h parts ks ended None = refl
part_is h parts ks ended (Some part) = refl

next_is : (f : Effect → effects.Effect) (b : Bool) (x : Effect) (y : effects.Effect) → f x ≡ y → option_map f (if b then Some x else None) ≡ guard b (Some y)
next_is f true x y is = ap (λ z. Some z) is
next_is f false x y is = refl

pub sequence_is : (h : Here) (parts : List Part) (p : Progress) → option_map (seen p (next_frame h)) (sequence_plan h parts p) ≡ sequence_effect h parts p
sequence_is h parts progress.Idle = first_is h (slice_get parts 0)
sequence_is h parts progress.Done = refl
sequence_is h parts (progress.Loop vs ks ended) = refl
sequence_is h parts (progress.Case k ended) = refl
sequence_is h parts (progress.Sequence ks ended) =
    next_is (seen (progress.Sequence ks ended) (next_frame h)) (is_latest_complete h ks) (part_plan h parts ks (slice_get parts (length ks)))
    (structures.next_part h ks parts (slice_get parts (length ks))) (part_is h parts ks ended (slice_get parts (length ks)))
sequence_is h parts (progress.Call clone stage) = refl
