use Rattle.std.proofs.Common.{length}
use Rattle.g_grammar.specs.Grammar.{or_else}
use Rattle.g_grammar.proofs.Loops.{ended_more, ended_last, ended_stops, ended_out}
use Rattle.g_listing_grammar.specs.Listing.{vi_word, at_end, vi_or_end}
use Rattle.g_listing.proofs.vis.more_vis.Goals as goal

pub returns-in-Err : goal.returns-in-Err
returns-in-Err c = ended_stops (or_else vi_word at_end) (vi_or_end c.args.version) c.loop.found_vis (length c.args.tokens.now) c.loop.counter c.loop.rest.now c.in-Err.stop _ c.loop-test.true c.in-Err.ensures c.loop.invariant

pub returns-in-Last : goal.returns-in-Last
returns-in-Last c =
    let e = rw c.in-Last.is at c.in-Ok.ensures in
    ended_last (or_else vi_word at_end) (vi_or_end c.args.version) c.loop.found_vis (length c.args.tokens.now) c.loop.counter c.loop.rest.now c.in-Ok.found.1.now c.in-Last.last _ c.loop-test.true e c.loop.invariant

pub loop-preserved : goal.loop-preserved
loop-preserved c =
    let e = rw c.in-More.is at c.in-Ok.ensures in
    rw c.in_ok-push-in-More.ensures (ended_more (or_else vi_word at_end) (vi_or_end c.args.version) c.loop.found_vis (length c.args.tokens.now) c.loop.counter c.loop.rest.now c.in-Ok.found.1.now c.in-More.item _ c.loop-test.true e c.loop.invariant)

pub returns : goal.returns
returns c = ended_out (or_else vi_word at_end) (vi_or_end c.args.version) c.loop.found_vis (length c.args.tokens.now) c.loop.counter c.loop.rest.now _ c.loop-test.false c.loop.invariant
