use Rattle.std.proofs.Common.{◌++◌, ap, sym, ◌∙◌, subst}
use Rattle.std.specs.Prelude.{slice_get}
use Rattle.std.proofs.lemmas.Result.{on_ok_weaker}
use Rattle.g_frames.specs.Program.{FlatVi, all_on, kept_on}
use Rattle.g_program.specs.Tables.{AreTables}
use Rattle.g_program.proofs.TableLemmas.{tables_at, with_table, without_table}
use Rattle.g_program.proofs.kept.push_space.Goals as goal

pub returns-in-Some : goal.returns-in-Some
returns-in-Some c =
    on_ok_weaker c.push_entries.result
    (λ h flat are. with_table (slice_get flat c.args.vi) c.in-Some.table.now (λ (f : FlatVi). all_on (λ e. kept_on c.args.space e e.kind) f.entries) c.args.kept.now.items c.push_entries.new.kept.items
    (subst (AreTables (slice_get flat c.args.vi)) (sym c.in-Some.ensures) (tables_at flat c.args.vis.now c.args.vi are))
    (λ f is. h ∙ ap (λ es. c.args.kept.now.items ++ all_on (λ e. kept_on c.args.space e e.kind) es) (c.all_entries.ensures f is)))
    c.push_entries.ensures

pub returns-in-None : goal.returns-in-None
returns-in-None c = λ flat are.
    without_table (slice_get flat c.args.vi) (λ (f : FlatVi). all_on (λ e. kept_on c.args.space e e.kind) f.entries) c.args.kept.now.items
    (subst (AreTables (slice_get flat c.args.vi)) (sym c.in-None.ensures) (tables_at flat c.args.vis.now c.args.vi are))
