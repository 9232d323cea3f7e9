-- Each state that a run reaches is typed.
use Rattle.std.specs.Prelude.{◌≡◌, ℕ, List, [], Some}
use Rattle.std.specs.List.{All}
use Rattle.g_values.specs.declared.value.Value.{Value}
use Rattle.g_prims_laws.specs.Laws.{AreOfTypes}
use Rattle.g_typing.specs.Typing.{control_types}
use Rattle.g_reference_laws.specs.References.{references_of}
use Rattle.g_frames.specs.declared.firing.Firing.{Firing}
use Rattle.g_frames.specs.Program.{Program}
use Rattle.g_frames.specs.State.{FireState, panel_items, start}
use Rattle.g_frames.specs.Fire.{fire}
use Rattle.g_frames.specs.Run.{after}
use Rattle.g_typed_states.specs.Accepted.{IsAccepted}
use Rattle.g_typed_states.specs.Typed.{IsTypedState}

-- values that the controls of the VI that runs may be set to: proper ones of their types, without live references
pub record AreControls (p : Program) (controls : List Value) : Type 0 where
  pub of_types : AreOfTypes (control_types (panel_items p p.main)) controls
  pub none : All (λ v. references_of v ≡ []) controls

-- the start is typed
abbrev pub StartsTyped : Type 0
StartsTyped = (p : Program) (controls : List Value) (limit : ℕ) → IsAccepted p → AreControls p controls → IsTypedState p (start p controls limit)

-- a firing keeps a state typed
abbrev pub StaysTyped : Type 0
StaysTyped = (p : Program) (s : FireState) (x : Firing) → IsAccepted p → IsTypedState p s → IsTypedState p (fire p s x)

-- so each state after a trace is typed
abbrev pub RunsTyped : Type 0
RunsTyped =
    (p : Program) (controls : List Value) (limit : ℕ) (trace : List Firing) (s : FireState) → IsAccepted p → AreControls p controls → after p controls limit trace ≡ Some s
    → IsTypedState p s
