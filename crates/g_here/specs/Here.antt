-- Where a node stands, as the code has it.
use Rattle.std.specs.Prelude.{◌≡◌, Some}
use Rattle.g_frames.specs.Effects as effects
use Rattle.g_frames.specs.Program.{vi_at}
use Rattle.g_frames.specs.State.{reader_in}
use Rattle.g_vi_tables.specs.Tables.{IsViTable}
use Rattle.g_program.specs.Tables.{IsTableOf}
use Rattle.g_here.specs.declared.here.Here.{Here}

pub record IsHere (c : Here) (h : effects.Here) : Type 0 where
  pub tables_are : IsTableOf h.program c.tables.now
  pub frames_are : h.frames ≡ c.state.now.frames
  pub objects_are : h.objects ≡ c.state.now.objects
  pub kept_are : h.kept ≡ c.state.now.kept
  pub room_is : h.has_room ≡ c.has_room
  pub frame_is : h.frame ≡ c.frame.now
  pub vi_is : vi_at h.program c.frame.now.vi ≡ Some h.vi
  pub table_is : IsViTable h.vi c.table.now
  pub outer_is : h.outer ≡ reader_in h.vi c.frame.now
