-- The pool that a call enters, whatever clone it takes.
use Rattle.std.specs.Prelude.{◌≡◌, ℕ, Bool, Option, Some, None}
use Rattle.std.specs.Option.{option_and_then}
use Rattle.g_diagram.specs.declared.hierarchy.Clones.{Clones}
use Rattle.g_diagram.specs.declared.hierarchy.Clones.TheVariants.{NonReentrant, Preallocated, Pool}
use Rattle.g_diagram.specs.Lines.{Entry, Kind, Const, Apply, Shows, Shared, Obtain, Read, Write, Call, Loop, Case, Sequence, InPlace}
use Rattle.g_diagram_table.specs.Seen.{seen}
use Rattle.g_shared.specs.declared.operations.PoolOp.TheVariants as pool
use Rattle.g_frames.specs.declared.firing.Firing.{Firing}
use Rattle.g_frames.specs.declared.state.Frame.{Frame}
use Rattle.g_frames.specs.declared.state.Progress.{Progress}
use Rattle.g_frames.specs.declared.state.Progress.TheVariants as progress
use Rattle.g_frames.specs.Program.{FlatVi, Program, vi_at, numbered, pool_object}
use Rattle.g_frames.specs.State.{FireState}
use Rattle.g_frames.specs.Effects.{Here}
use Rattle.g_frames.specs.Fire.{here, effect_with}
use Rattle.g_frames.specs.Run.{firing}
use Rattle.g_objects.specs.declared.operation.Operation.TheVariants as operation
use Rattle.g_effects.specs.declared.plan.Request.{Request}
use Rattle.g_effects.specs.declared.plan.Then.TheVariants as follow
use Rattle.g_effects.specs.Requests.{request, requested}
use Rattle.g_states.specs.States.{progress_at}
use Rattle.g_firing.specs.declared.entering.Enters.{Enters}

-- a clone of the pool that an object is
abbrev pub enter : (object clone : ℕ) → Request
enter o k = request o (operation.OnPool pool.Enter) k follow.CallEnters

abbrev pub pool_of : Here → (vi : ℕ) → Clones → Option ℕ
pool_of h v NonReentrant = None
pool_of h v Preallocated = None
pool_of h v (Pool n) = Some (pool_object h.program v)

abbrev pub call_enters : Here → (vi : ℕ) → Progress → Option ℕ
call_enters h v progress.Idle = option_and_then (λ called. pool_of h v called.clones) (vi_at h.program v)
call_enters h v _ = None

abbrev pub entered : Here → Kind → Progress → Option ℕ
entered h (Const t literal out) q = None
entered h (Apply op inputs outputs) q = None
entered h (Shows name t w) q = None
entered h (Shared op inputs outputs) q = None
entered h (Obtain name size item out) q = None
entered h (Read name out) q = None
entered h (Write name w) q = None
entered h (Call name inputs outputs) q = call_enters h (numbered h.program.vis name) q
entered h (Loop count stop i lines body) q = None
entered h (Case w lines arms) q = None
entered h (Sequence parts) q = None
entered h (InPlace lines body finish) q = None

-- the firings of a node with a clone enter this pool
pub record EntersWith (p : Program) (room : Bool) (s : FireState) (x : Firing) (e : Entry) (object : ℕ) : Type 0 where
  pub frame : Frame
  pub vi : FlatVi
  pub effect_is :
      (k : ℕ) → effect_with p room s (firing x.frame x.node (Some k)) ≡ requested (here p room s frame vi) e (progress_at p s.frames x) (enter object k)

abbrev pub EntersFiring : Program → (room : Bool) → FireState → Firing → Option Enters → Type 0
EntersFiring p room s x None = (k : ℕ) → effect_with p room s (firing x.frame x.node (Some k)) ≡ None
EntersFiring p room s x (Some n) = EntersWith p room s x (seen n.entry.now) n.object
