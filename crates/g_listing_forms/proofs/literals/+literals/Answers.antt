use Rattle.std.proofs.Common.{length, true, false}
use Rattle.g_listing_grammar.specs.Words.{comma_or_bracket}
use Rattle.g_listing_grammar.specs.Literals.{literals, next_item}
use Rattle.g_listing_forms.proofs.Steps.{others_more}
use Rattle.g_grammar.proofs.Loops.{loop_more, loop_last, loop_stops, loop_out}
use Rattle.g_listing_forms.proofs.literals.+literals.Goals as goal

pub cluster_items-loop-preserved : goal.cluster_items-loop-preserved
cluster_items-loop-preserved t c =
    let e = rw c.if-not-again.false at c.in_ok-again.ensures in
    rw c.in_ok-push.ensures (others_more (literals c.args.levels true) c.loop.items 63 c.loop.counter c.loop.rest.now c.in_ok-again.after.now c.in_ok-literal.after.now c.in_ok-literal.literal _ c.loop-test.true e c.in_ok-literal.ensures c.loop.invariant)

pub array_items-returns-in-Err : goal.array_items-returns-in-Err
array_items-returns-in-Err t c =
    loop_stops comma_or_bracket (next_item (literals c.args.levels false)) c.loop.items (length c.args.tokens.now) c.loop.counter c.loop.rest.now c.in-Err.stop _ c.loop-test.true c.in-Err.ensures c.loop.invariant

pub array_items-returns-in-Last : goal.array_items-returns-in-Last
array_items-returns-in-Last t c =
    let e = rw c.in-Last.is at c.in-Ok.ensures in
    loop_last comma_or_bracket (next_item (literals c.args.levels false)) c.loop.items (length c.args.tokens.now) c.loop.counter c.loop.rest.now c.in-Ok.found.1.now tt _ c.loop-test.true e c.loop.invariant

pub array_items-loop-preserved : goal.array_items-loop-preserved
array_items-loop-preserved t c =
    let e = rw c.in-More.is at c.in-Ok.ensures in
    rw c.in_ok-push-in-More.ensures (loop_more comma_or_bracket (next_item (literals c.args.levels false)) c.loop.items (length c.args.tokens.now) c.loop.counter c.loop.rest.now c.in-Ok.found.1.now c.in-More.literal _ c.loop-test.true e c.loop.invariant)

pub array_items-returns : goal.array_items-returns
array_items-returns t c =
    loop_out comma_or_bracket (next_item (literals c.args.levels false)) c.loop.items (length c.args.tokens.now) c.loop.counter c.loop.rest.now _ c.loop-test.false c.loop.invariant
