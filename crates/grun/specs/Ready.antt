-- Inner: what is known of a hierarchy that runs, and of the values that its controls are set to.
use Rattle.std.specs.Prelude.{ℕ, ◌≡◌, List, [], Some, slice_get}
use Rattle.std.specs.List.{All}
use Rattle.g_values.specs.declared.value.Value.{Value}
use Rattle.g_diagram.specs.declared.hierarchy.Hierarchy.{Hierarchy}
use Rattle.g_diagram.specs.declared.hierarchy.Vi.{Vi}
use Rattle.g_rules.specs.Checked.{IsUnbroken}
use Rattle.g_hier.specs.Answer.{Links}
use Rattle.g_hier.specs.Outlines.{number_of, outlines_of}
use Rattle.g_hier.specs.declared.linked.Linked.{Linked}
use Rattle.g_infer.specs.Answer.{IsTyped}
use Rattle.g_infer.specs.declared.typed.Typed.{Typed}
use Rattle.g_listing_laws.specs.Spelled.{AreSpelled}
use Rattle.g_frames.specs.Program.{Program, IsProgram}
use Rattle.g_prims_laws.specs.Laws.{AreOfTypes}
use Rattle.g_reference_laws.specs.References.{references_of}
use Rattle.g_frames.specs.declared.firing.Firing.{Firing}
use Rattle.g_frames.specs.State.{FireState}
use Rattle.g_frames.specs.Run.{after, IsAtRest, end_of}
use Rattle.g_frames.specs.Print.{print}
use Rattle.grun.specs.Answer.{Reply, reply, status_of}
use Rattle.g_typed_states.specs.Accepted.{IsAccepted}
use Rattle.g_typing.specs.Typing.{control_types}

-- it keeps all rules, its wires have types, its calls are linked, its types can be written, and as a program it can be run
pub record IsReady (h : Hierarchy) (main : List ℕ) (typed : Typed) (linked : Linked) : Type 0 where
  pub unbroken : IsUnbroken h main
  pub types : IsTyped h typed
  pub links : Links (outlines_of h) (number_of h.vis main) linked
  pub spelled : AreSpelled h
  pub accepted : (p : Program) → IsProgram h (number_of h.vis main) p → IsAccepted p
  -- the VI that runs
  pub vi : Vi
  pub stands : slice_get h.vis linked.main ≡ Some vi

-- values of the types of a VI's controls, in which no reference but null stands
pub record AreSettled (vi : Vi) (values : List Value) : Type 0 where
  pub of_types : AreOfTypes (control_types vi.panel) values
  pub none : All (λ v. references_of v ≡ []) values

-- a run of a program, and what is replied to it
pub record RunsProgram (p : Program) (controls : List Value) (limit : ℕ) (trace : List Firing) (r : Reply) : Type 0 where
  pub state : FireState
  pub allowed : after p controls limit trace ≡ Some state
  pub rest : IsAtRest p state
  pub shown : r ≡ reply (status_of (end_of p state)) (print p state)
