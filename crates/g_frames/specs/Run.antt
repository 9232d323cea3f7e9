-- Whole runs, and how they end.
use Rattle.std.specs.Prelude.{◌≡◌, ℕ, zero, suc, ◌+◌, Bool, true, false, ◌&&◌, not, List, [], ◌∷◌, ◌++◌, map, filter, length, Option, Some, None, slice_get, if◌then◌else◌}
use Rattle.std.specs.List.{list_any}
use Rattle.std.specs.Option.{option_map_or}
use Rattle.g_values.specs.declared.value.Value.{Value}
use Rattle.g_operations.specs.declared.shared.SharedOp.TheVariants.{Enqueue, Dequeue}
use Rattle.g_diagram.specs.Lines.{Entry, Kind, Shared, Call}
use Rattle.g_frames.specs.declared.firing.Firing.{Firing}
use Rattle.g_frames.specs.declared.state.Progress.{Progress}
use Rattle.g_frames.specs.declared.state.Progress.TheVariants as progress
use Rattle.g_frames.specs.declared.state.End.{End}
use Rattle.g_frames.specs.declared.state.End.TheVariants.{Complete, Spent, Stalled, Unfinished}
use Rattle.g_frames.specs.declared.state.Frame.{Frame}
use Rattle.g_frames.specs.Contents as content
use Rattle.g_frames.specs.Contents.{Content}
use Rattle.g_frames.specs.Program.{FlatVi, Program, vi_at, numbered, takes_clone, pool_object}
use Rattle.g_frames.specs.State.{FireState, is_complete, nodes_in, reader_in, start}
use Rattle.g_frames.specs.Fire.{can_fire, fire, is_ready}

abbrev pub go_on : Bool → (FireState → Option FireState) → FireState → Option FireState
go_on true next s = next s
go_on false next s = None

-- the state after a list of firings, each of which can fire in its turn
abbrev pub after_from : Program → List Firing → FireState → Option FireState
after_from p [] s = Some s
after_from p (x ∷ xs) s = go_on (can_fire p s x) (after_from p xs) (fire p s x)

-- the state after a trace, where the trace is allowed
abbrev pub after : Program → (controls : List Value) → (limit : ℕ) → List Firing → Option FireState
after p controls limit trace = after_from p trace (start p controls limit)

abbrev pub refusing : Bool → ℕ → (FireState → Option ℕ) → FireState → Option ℕ
refusing true k next s = next s
refusing false k next s = Some k

-- the place of the first firing that can't fire in its turn, counted from k
abbrev pub first_refused : Program → (k : ℕ) → List Firing → FireState → Option ℕ
first_refused p k [] s = None
first_refused p k (x ∷ xs) s = refusing (can_fire p s x) k (first_refused p (suc k) xs) (fire p s x)

-- no firing whatever can fire
abbrev pub IsAtRest : Program → FireState → Type 0
IsAtRest p s = (x : Firing) → can_fire p s x ≡ false

-- ---- all nodes of all frames

abbrev pub firing : (frame line : ℕ) → (choice : Option ℕ) → Firing
firing frame line choice = record { frame = frame; node = line; choice = choice }

-- a node in a frame, with the frame's number and what the node has done
pub record Standing : Type 0 where
  pub number : ℕ
  pub frame : Frame
  pub vi : FlatVi
  pub entry : Entry
  pub progress : Progress

abbrev pub nodes_from : (number : ℕ) → Frame → FlatVi → List Entry → List Progress → List Standing
nodes_from k f vi [] qs = []
nodes_from k f vi (e ∷ es) [] = []
nodes_from k f vi (e ∷ es) (q ∷ qs) = record { number = k; frame = f; vi = vi; entry = e; progress = q } ∷ nodes_from k f vi es qs

abbrev pub frame_nodes : (number : ℕ) → Frame → FlatVi → List Standing
frame_nodes k f vi = nodes_from k f vi (nodes_in vi f.diagram) f.nodes

-- by frame and line, where the first frame has the number k
abbrev pub nodes_of_frames : Program → (k : ℕ) → List Frame → List Standing
nodes_of_frames p k [] = []
nodes_of_frames p k (f ∷ fs) = option_map_or (frame_nodes k f) (vi_at p f.vi) [] ++ nodes_of_frames p (suc k) fs

abbrev pub all_nodes : Program → FireState → List Standing
all_nodes p s = nodes_of_frames p 0 s.frames

-- ---- rest

abbrev pub from_to : (first many : ℕ) → List ℕ
from_to k zero = []
from_to k (suc n) = k ∷ from_to (suc k) n

abbrev pub clones_in : Content → ℕ
clones_in (content.Pool free) = length free
clones_in _ = 0

-- The choices that a firing of a node may name: none, and for a call each clone of its pool. That more are listed than some firing may name
-- makes no difference below
abbrev pub choices_of : Program → (objects : List Content) → Kind → List (Option ℕ)
choices_of p objects (Call name inputs outputs) =
    None ∷ map Some (from_to 0 (option_map_or clones_in (slice_get objects (pool_object p (numbered p.vis name))) 0))
choices_of p objects _ = None ∷ []

-- whether a node can fire, with some choice
abbrev pub can_go_on : Program → FireState → Standing → Bool
can_go_on p s n = list_any (λ choice. can_fire p s (firing n.number n.entry.line choice)) (choices_of p s.objects n.entry.kind)

-- no node can fire
abbrev pub is_at_rest : Program → FireState → Bool
is_at_rest p s = not (list_any (can_go_on p s) (all_nodes p s))

-- ---- ends

abbrev pub is_first_complete : List Frame → Bool
is_first_complete [] = false
is_first_complete (f ∷ fs) = is_complete f

-- the same state with room for one more iteration
abbrev pub with_room : FireState → FireState
with_room s = record s { limit = s.begun + 1 }

-- a state at rest is complete where frame 0 is, else spent where some loop lacks only the limit, and else stalled
abbrev pub end_of : Program → FireState → End
end_of p s =
    if is_at_rest p s
    then (if is_first_complete s.frames then Complete else (if is_at_rest p (with_room s) then Stalled else Spent))
    else Unfinished

-- ---- nodes that wait

-- whether a node's next firing is one that may have to wait for another node
abbrev pub may_wait : Program → Kind → Progress → Bool
may_wait p (Shared Enqueue inputs outputs) q = true
may_wait p (Shared Dequeue inputs outputs) q = true
may_wait p (Call name inputs outputs) progress.Idle = option_map_or (λ vi. takes_clone vi.clones) (vi_at p (numbered p.vis name)) false
may_wait p _ q = false

-- a node waits where it isn't done, has its inputs, and its next firing can't fire, be it an enqueue, a dequeue or a call's enter
abbrev pub is_waiting : Program → FireState → Standing → Bool
is_waiting p s n = is_ready (reader_in n.vi n.frame) n.entry n.progress && (may_wait p n.entry.kind n.progress && not (can_go_on p s n))

-- the nodes that wait, by frame and line
abbrev pub waiting : Program → FireState → List (ℕ × ℕ)
waiting p s = map (λ n. (n.number, n.entry.line)) (filter (is_waiting p s) (all_nodes p s))

-- a state to which a run comes from the start
pub record IsReached (p : Program) (limit : ℕ) (s : FireState) : Type 0 where
  pub controls : List Value
  pub trace : List Firing
  pub after_it : after p controls limit trace ≡ Some s
