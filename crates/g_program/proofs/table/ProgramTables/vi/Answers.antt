use Rattle.std.proofs.Common.{◌≡◌, List, ap, sym, ◌∙◌, subst}
use Rattle.std.specs.Prelude.{slice_get}
use Rattle.std.specs.Option.{option_copied}
use Rattle.g_frames.specs.Program.{vi_at}
use Rattle.g_vi_tables.specs.declared.table.ViTable.{ViTable}
use Rattle.g_program.specs.Tables.{AreTables}
use Rattle.g_program.proofs.TableLemmas.{tables_at}
use Rattle.g_program.proofs.table.ProgramTables.vi.Goals as goal

pub returns : goal.returns
returns c = λ p are.
    let ts : List ViTable = c.args.self.now.vis.items in
    let found : option_copied c.table_at.result ≡ slice_get ts c.args.vi = c.table_at.ensures ∙ ap (λ (xs : List ViTable). slice_get xs c.args.vi) c.as_slice.ensures.value in
    subst (AreTables (vi_at p c.args.vi)) (sym found) (tables_at p.vis ts c.args.vi are.vis_are)
