-- The tables of a program. They are those of a program where each look-up finds what the definitions have.
use Rattle.std.specs.Prelude.{ℕ, ◌≡◌, List, [], ◌∷◌, map, Option, Some, None}
use Rattle.std.specs.declared.cmp.Ordering.{Ordering}
use Rattle.std.specs.Ordering.{ordering_then, nat_cmp}
use Rattle.g_hier.specs.Walking.{space_cmp}
use Rattle.g_frames.specs.Program.{FlatVi, Program}
use Rattle.g_vi_tables.specs.declared.table.ViTable.{ViTable}
use Rattle.g_vi_tables.specs.Numbers.{AreNumbers as AreNameNumbers}
use Rattle.g_vi_tables.specs.Tables.{IsViTable}
use Rattle.g_program.specs.declared.table.ProgramTables.{ProgramTables}
use Rattle.g_program.specs.Numbers.{AreNumbers}

-- a VI's table, where there is the VI
abbrev pub AreTables : Option FlatVi → Option ViTable → Type 0
AreTables None None = Unit {0}
AreTables None (Some t) = ⊥
AreTables (Some vi) None = ⊥
AreTables (Some vi) (Some t) = IsViTable vi t

-- the tables of VIs, one after another
abbrev pub AreAllTables : List FlatVi → List ViTable → Type 0
AreAllTables [] [] = Unit {0}
AreAllTables [] (t ∷ ts) = ⊥
AreAllTables (vi ∷ vis) [] = ⊥
AreAllTables (vi ∷ vis) (t ∷ ts) = IsViTable vi t × AreAllTables vis ts

abbrev pub line_cmp : ℕ × ℕ → ℕ × ℕ → Ordering
line_cmp a b = ordering_then (nat_cmp a.0 b.0) (nat_cmp a.1 b.1)

pub record IsTableOf (p : Program) (t : ProgramTables) : Type 0 where
  pub main_is : t.main ≡ p.main
  pub vis_are : AreAllTables p.vis t.vis.items
  pub spaces_are : t.spaces.now ≡ p.spaces
  pub queues_are : t.queues.items ≡ p.queues
  pub cells_are : t.cells.items ≡ p.cells
  pub kept_are : t.kept.items ≡ p.kept
  pub pools_are : t.pools.items ≡ p.pools
  pub vi_numbers_are : AreNameNumbers (map (λ vi. vi.name) p.vis) t.vi_numbers
  pub queue_numbers_are : AreNameNumbers (map (λ q. q.name) p.queues) t.queue_numbers
  pub space_numbers_are : AreNumbers space_cmp p.spaces t.space_numbers
  pub cell_numbers_are : AreNumbers line_cmp (map (λ c. (c.space, c.line)) p.cells) t.cell_numbers
  pub kept_numbers_are : AreNumbers line_cmp (map (λ k. (k.space, k.line)) p.kept) t.kept_numbers
  pub pool_numbers_are : AreNumbers nat_cmp p.pools t.pool_numbers
