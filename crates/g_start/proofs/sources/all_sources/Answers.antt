use Rattle.std.proofs.Common.{◌++◌, ◌==◌, List, ap, sym, ◌∙◌}
use Rattle.std.specs.List.{list_any}
use Rattle.std.proofs.lemmas.List.{append-nil}
use Rattle.g_hier.specs.declared.linked.Space.{Space}
use Rattle.g_frames.specs.Program.{FlatVi}
use Rattle.g_frames.specs.State.{all_sources}
use Rattle.g_program.specs.Queues.{is_in}
use Rattle.g_program.proofs.TableLemmas.{Next, next_of, none_after}
use Rattle.g_vi_tables.specs.declared.table.ViTable.{ViTable}
use Rattle.g_start.proofs.StartLemmas.{sources_next}
use Rattle.g_start.proofs.sources.all_sources.Goals as goal

pub loop-table-preserved : goal.loop-table-preserved
loop-table-preserved c = λ p are.
    let vis : List ViTable = c.vis-vis.result.now in
    let n : Next p.vis c.loop-table.table-index c.table-item.result =
    next_of p.vis vis c.loop-table.table-index c.table-item.result (c.vis-vis.ensures p are) c.loop-table-test.true c.table-item.is in
    sources_next p c.loop-table.number c.in_ok-number.number c.loop-table.table-index n.vi (is_in c.in_ok-used.used c.loop-table.number) c.loop-table.sources.items c.push_vi.new.sources.items
    (all_sources p 0 p.vis) c.in_ok-number.ensures n.first
    (c.in_ok-used.ensures c.loop-table.number ∙ ap (λ (ss : List Space). list_any (λ s. s.vi == c.loop-table.number) ss) (c.spaces.ensures p are))
    (c.in_ok-push_vi.ensures n.vi n.is) (c.loop-table.invariant p are)

pub returns : goal.returns
returns c = λ p are.
    sym (append-nil c.loop-table.sources.items)
    ∙ ap (λ (vis : List FlatVi). c.loop-table.sources.items ++ all_sources p c.loop-table.number vis)
    (sym (none_after p.vis c.vis-vis.result.now c.loop-table.table-index (c.vis-vis.ensures p are) c.loop-table-test.false))
    ∙ c.loop-table.invariant p are
