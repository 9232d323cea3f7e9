-- The plan of a firing, where its node stands.
use Rattle.std.specs.Prelude.{◌≡◌, Bool, Option, Some, None, slice_get}
use Rattle.g_diagram.specs.Lines.{Entry}
use Rattle.g_diagram_table.specs.Seen.{seen}
use Rattle.g_frames.specs.declared.firing.Firing.{Firing}
use Rattle.g_frames.specs.declared.state.Frame.{Frame}
use Rattle.g_frames.specs.Program.{FlatVi, Program, vi_at}
use Rattle.g_frames.specs.State.{FireState}
use Rattle.g_frames.specs.Fire.{here, effect_with}
use Rattle.g_effects.specs.declared.plan.Plan.{Plan}
use Rattle.g_effects.specs.Requests.{planned}
use Rattle.g_states.specs.States.{progress_at}
use Rattle.g_firing.specs.declared.standing.Planned.{Planned}

-- a plan of a node has the effect of the firing
pub record PlansWith (p : Program) (room : Bool) (s : FireState) (x : Firing) (e : Entry) (q : Plan) : Type 0 where
  pub frame : Frame
  pub vi : FlatVi
  pub frame_is : slice_get s.frames x.frame ≡ Some frame
  pub vi_is : vi_at p frame.vi ≡ Some vi
  pub effect_is : effect_with p room s x ≡ planned (here p room s frame vi) e (progress_at p s.frames x) q

-- there is a plan, or the firing can't be done
abbrev pub PlansFiring : Program → (room : Bool) → FireState → Firing → Option Planned → Type 0
PlansFiring p room s x None = effect_with p room s x ≡ None
PlansFiring p room s x (Some n) = PlansWith p room s x (seen n.entry.now) n.plan
