use Rattle.std.proofs.Common.{length}
use Rattle.g_grammar.specs.Grammar.{or_else}
use Rattle.g_grammar.proofs.Loops.{loop_more, loop_last, loop_stops, loop_out}
use Rattle.g_listing_grammar.specs.Words.{wire, eol}
use Rattle.g_listing_grammar.specs.Borders.{item_or_end}
use Rattle.g_listing_forms.proofs.operands.more_outputs.Goals as goal

pub returns-in-Err : goal.returns-in-Err
returns-in-Err c = loop_stops (or_else wire eol) (item_or_end) c.loop.wires (length c.args.tokens.now) c.loop.counter c.loop.rest.now c.in-Err.stop _ c.loop-test.true c.in-Err.ensures c.loop.invariant

pub returns-in-Last : goal.returns-in-Last
returns-in-Last c =
    let e = rw c.in-Last.is at c.in-Ok.ensures in
    loop_last (or_else wire eol) (item_or_end) c.loop.wires (length c.args.tokens.now) c.loop.counter c.loop.rest.now c.in-Ok.found.1.now tt _ c.loop-test.true e c.loop.invariant

pub loop-preserved : goal.loop-preserved
loop-preserved c =
    let e = rw c.in-More.is at c.in-Ok.ensures in
    rw c.in_ok-push-in-More.ensures (loop_more (or_else wire eol) (item_or_end) c.loop.wires (length c.args.tokens.now) c.loop.counter c.loop.rest.now c.in-Ok.found.1.now c.in-More.item _ c.loop-test.true e c.loop.invariant)

pub returns : goal.returns
returns c = loop_out (or_else wire eol) (item_or_end) c.loop.wires (length c.args.tokens.now) c.loop.counter c.loop.rest.now _ c.loop-test.false c.loop.invariant
