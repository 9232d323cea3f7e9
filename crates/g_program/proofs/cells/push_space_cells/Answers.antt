use Rattle.std.proofs.Common.{sym, subst}
use Rattle.std.specs.Prelude.{slice_get}
use Rattle.std.proofs.lemmas.Result.{on_ok_weaker}
use Rattle.g_frames.specs.Program.{FlatVi, all_on, cell_on}
use Rattle.g_program.specs.Tables.{AreTables}
use Rattle.g_program.proofs.TableLemmas.{tables_at, with_table, without_table}
use Rattle.g_program.proofs.cells.push_space_cells.Goals as goal

pub returns-in-Some : goal.returns-in-Some
returns-in-Some c =
    on_ok_weaker c.push_vi_cells.result
    (λ h flat are. with_table (slice_get flat c.args.vi) c.in-Some.table.now (λ (f : FlatVi). all_on (λ e. cell_on f.types c.args.space e e.kind) f.entries) c.args.cells.now.items c.push_vi_cells.new.cells.items
    (subst (AreTables (slice_get flat c.args.vi)) (sym c.in-Some.ensures) (tables_at flat c.args.vis.now c.args.vi are)) h)
    c.push_vi_cells.ensures

pub returns-in-None : goal.returns-in-None
returns-in-None c = λ flat are.
    without_table (slice_get flat c.args.vi) (λ (f : FlatVi). all_on (λ e. cell_on f.types c.args.space e e.kind) f.entries) c.args.cells.now.items
    (subst (AreTables (slice_get flat c.args.vi)) (sym c.in-None.ensures) (tables_at flat c.args.vis.now c.args.vi are))
