use Rattle.std.proofs.Common.{ℕ, ◌+◌, drop}
use Rattle.std.proofs.lemmas.List.{drop_all}
use Rattle.g_run_tables.specs.Types.{types_by}
use Rattle.g_run_tables.proofs.Kept.{drop_next}
use Rattle.g_run_tables.proofs.Tables.{tables_more, tables_end}
use Rattle.g_run_tables.proofs.build.all_tables.Goals as goal

pub loop-number-preserved : goal.loop-number-preserved
loop-number-preserved c = λ all.
    let n : ℕ = c.loop-number.number in
    tables_more all c.args.vis.now (types_by c.args.typed.now) n (drop n c.args.vis.now) c.index-vis-number.result (drop (n + 1) c.args.vis.now) c.loop-number.tables.items c.push.new.self.items
    c.in_ok-numbered_table.field-0 (drop_next c.args.vis.now n c.index-vis-number.result c.loop-number-test.true c.index-vis-number.is) c.in_ok-push.ensures.items (c.in_ok-numbered_table.ensures all)
    (c.loop-number.invariant all)

pub returns : goal.returns
returns c = λ all.
    let n : ℕ = c.loop-number.number in
    tables_end all c.args.vis.now (types_by c.args.typed.now) n (drop n c.args.vis.now) c.loop-number.tables.items (drop_all n c.args.vis.now c.loop-number-test.false) (c.loop-number.invariant all)
