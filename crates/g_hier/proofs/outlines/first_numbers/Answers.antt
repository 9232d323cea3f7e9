use Rattle.std.proofs.Common.{arith}
use Rattle.g_hier.proofs.Names.{numbers_more}
use Rattle.g_hier.proofs.outlines.first_numbers.Goals as goal

pub loop-done-preserved : goal.loop-done-preserved
loop-done-preserved c =
    numbers_more c.args.vis.now c.loop-done.done c.index-vis-vi.result c.as_slice.result.now c.in_ok-number.field-0 c.loop-done.first c.insert.new.self (omega arith)
    c.as_slice.ensures c.in_ok-number.ensures c.loop-done.invariant c.in_ok-_later.ensures.updates
