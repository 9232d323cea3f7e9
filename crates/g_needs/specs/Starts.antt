-- What the start of a run needs of the program.
use Rattle.std.specs.Prelude.{◌≡◌, ◌≤◌, true, is_some}
use Rattle.std.specs.List.{All}
use Rattle.g_values.specs.Spelled.{IsSpelled}
use Rattle.g_types.specs.declared.ty.Ty.TheVariants as ty
use Rattle.g_values.specs.Proper.{IsProper}
use Rattle.g_shared.specs.Queues.{IsSize}
use Rattle.g_frames.specs.Program.{Program, vi_at}
use Rattle.g_frames.specs.Panels.{control_defaults, indicator_defaults}
use Rattle.g_frames.specs.State.{clone_count}

pub record StartNeeds (p : Program) : Type 0 where
  pub queues : All (λ q. IsSpelled (ty.QueueRef q.item) × IsSize q.size) p.queues
  pub cells : All (λ c. IsSpelled (ty.ValueRef c.content)) p.cells
  pub controls : All (λ vi. All IsProper (control_defaults vi.panel)) p.vis
  pub indicators : All (λ vi. All IsProper (indicator_defaults vi.panel)) p.vis
  pub clones : All (λ vi. (1 ≤ clone_count vi.clones) × (clone_count vi.clones ≤ 64)) p.vis
  -- each pool is one of a VI
  pub pools : All (λ v. is_some (vi_at p v) ≡ true) p.pools
