-- What a firing needs, whatever its node is.
use Rattle.std.specs.Prelude.{◌≡◌, ℕ, Bool, true, List, Some, slice_get}
use Rattle.g_diagram.specs.declared.node.Tunnel.{Tunnel}
use Rattle.g_diagram.specs.Lines.{Entry, InPlace}
use Rattle.g_frames.specs.declared.state.Frame.{Frame}
use Rattle.g_frames.specs.declared.state.Progress.{Progress}
use Rattle.g_frames.specs.Program.{FlatVi, Program, vi_at}
use Rattle.g_frames.specs.State.{FireState, nodes_in, reader_in}
use Rattle.g_frames.specs.Effects.{Here}
use Rattle.g_frames.specs.Fire.{here, has_inputs, node_on}
use Rattle.g_effects.specs.Needs.{Needs}
use Rattle.g_needs.specs.Bodies.{PlaceNeeds}

-- a node that has its inputs has what its firing needs
pub record NodeNeeds (h : Here) (e : Entry) : Type 0 where
  pub kind : Needs h e e.kind
  pub body : (lines : List Tunnel) (body finish : ℕ) → e.kind ≡ InPlace lines body finish → PlaceNeeds h e lines body finish

-- the node on a line of a frame, where there is one and it has its inputs
abbrev pub HasNeeds : Program → FireState → (frame line : ℕ) → Type 0
HasNeeds p s frame line =
    (room : Bool) (f : Frame) (vi : FlatVi) (e : Entry) (q : Progress) → slice_get s.frames frame ≡ Some f → vi_at p f.vi ≡ Some vi
    → node_on line (nodes_in vi f.diagram) f.nodes ≡ Some (e, q) → has_inputs (reader_in vi f) e ≡ true → NodeNeeds (here p room s f vi) e
