-- Calls.
use Rattle.std.specs.Prelude.{ℕ, List, [], Option, None, is_none, if◌then◌else◌}
use Rattle.std.specs.Option.{option_and_then}
use Rattle.g_diagram.specs.declared.hierarchy.Clones.{Clones}
use Rattle.g_diagram.specs.declared.hierarchy.Clones.TheVariants.{NonReentrant, Preallocated, Pool}
use Rattle.g_diagram.specs.Lines.{Wire, Entry}
use Rattle.g_shared.specs.declared.operations.PanelOp.TheVariants as panel
use Rattle.g_shared.specs.declared.operations.PoolOp.TheVariants as pool
use Rattle.g_border.specs.Readers.{outputs_given}
use Rattle.g_frames.specs.declared.state.Progress.{Progress}
use Rattle.g_frames.specs.declared.state.Progress.TheVariants as progress
use Rattle.g_frames.specs.declared.state.Stage.{Stage}
use Rattle.g_frames.specs.declared.state.Stage.TheVariants.{Entered, Opened, Returned, Left}
use Rattle.g_frames.specs.Contents.{OnPanel, OnPool}
use Rattle.g_frames.specs.Program.{FlatVi, takes_clone, called_space, panel_object, pool_object}
use Rattle.g_frames.specs.Panels.{arguments, controls_given}
use Rattle.g_frames.specs.Effects.{Effect, gives, opens, guard, Here, next_frame, on_object}
use Rattle.g_frames.specs.Structures.{is_complete_at}

-- the call takes a clone
abbrev pub enters : Here → (vi clone : ℕ) → Option Effect
enters h v k = on_object h (pool_object h.program v) (OnPool pool.Enter) k (λ reply. gives (progress.Call reply.choice Entered) [])

-- the panel of a data space opens: its controls are set, and their values go to the frame
abbrev pub panel_opens : Here → (inputs : List Wire) → (vi clone : ℕ) → FlatVi → (space : ℕ) → Option Effect
panel_opens h inputs v clone called space =
    on_object h (panel_object h.program space) (OnPanel (panel.Enter (arguments h.outer inputs called.panel))) 0
    (λ reply. opens (progress.Call clone (Opened (next_frame h)))
    (record { vi = v; space = space; diagram = 0; iteration = 0; gives = controls_given 1 called.panel reply.values }))

-- where calls of the VI take no clone, none is left
abbrev pub stage_after : Clones → (frame : ℕ) → Stage
stage_after clones k = if takes_clone clones then Returned k else Left k

-- the call gives what the indicators have
abbrev pub panel_returns : Here → Entry → (clone frame : ℕ) → FlatVi → (space : ℕ) → Option Effect
panel_returns h e clone k called space =
    guard (is_complete_at h k)
    (on_object h (panel_object h.program space) (OnPanel panel.Leave) 0
    (λ reply. gives (progress.Call clone (stage_after called.clones k)) (outputs_given e reply.values)))

-- the call frees its clone
abbrev pub leaves : Here → (vi clone frame : ℕ) → Option Effect
leaves h v clone k = on_object h (pool_object h.program v) (OnPool (pool.Leave clone)) 0 (λ reply. gives (progress.Call clone (Left k)) [])

-- the data space that a call's clone is
abbrev pub space_of_call : Here → Entry → (vi clone : ℕ) → FlatVi → Option ℕ
space_of_call h e v clone called = called_space h.program called.clones v h.frame.space e.line clone

-- A call's first firing: a choice stands where it takes a clone of a pool, and there alone
abbrev pub call_begins : Here → Entry → (inputs : List Wire) → (vi : ℕ) → FlatVi → Clones → (choice : Option ℕ) → Option Effect
call_begins h e inputs v called NonReentrant choice = guard (is_none choice) (enters h v 0)
call_begins h e inputs v called Preallocated choice = guard (is_none choice) (option_and_then (panel_opens h inputs v 0 called) (space_of_call h e v 0 called))
call_begins h e inputs v called (Pool n) choice = option_and_then (enters h v) choice

abbrev pub call_goes_on : Here → Entry → (inputs : List Wire) → (vi clone : ℕ) → FlatVi → Stage → Option Effect
call_goes_on h e inputs v clone called Entered = option_and_then (panel_opens h inputs v clone called) (space_of_call h e v clone called)
call_goes_on h e inputs v clone called (Opened k) = option_and_then (panel_returns h e clone k called) (space_of_call h e v clone called)
call_goes_on h e inputs v clone called (Returned k) = leaves h v clone k
call_goes_on h e inputs v clone called (Left k) = None

-- A call: it takes a clone where the VI has clones to take, opens the panel, gives the indicators once its frame is complete, and frees
-- the clone
abbrev pub call_effect : Here → Entry → (inputs : List Wire) → (choice : Option ℕ) → Progress → (vi : ℕ) → FlatVi → Option Effect
call_effect h e inputs choice progress.Idle v called = call_begins h e inputs v called called.clones choice
call_effect h e inputs choice (progress.Call clone stage) v called = guard (is_none choice) (call_goes_on h e inputs v clone called stage)
call_effect h e inputs choice _ v called = None
