use Rattle.g_grammar.specs.Grammar.{take}
use Rattle.g_listing_grammar.specs.Words.{wire}
use Rattle.g_listing.proofs.Gives.{at_start, one_more, stops_here, all_there}
use Rattle.g_listing.proofs.diagrams.more_wires.Goals as goal

pub loop-init : goal.loop-init
loop-init c = rw c.new-wires.ensures (at_start (take wire) c.args.count c.args.tokens.now)

pub returns-in-Err : goal.returns-in-Err
returns-in-Err c = stops_here (take wire) c.loop.wires c.args.count c.loop.counter c.loop.rest.now c.in-Err.stop _ c.loop-test.true c.in-Err.ensures c.loop.invariant

pub loop-preserved : goal.loop-preserved
loop-preserved c = rw c.in_ok-push.ensures (one_more (take wire) c.loop.wires c.args.count c.loop.counter c.loop.rest.now c.in-Ok.found.1.now c.in-Ok.found.0 _ c.loop-test.true c.in-Ok.ensures c.loop.invariant)

pub returns : goal.returns
returns c = all_there (take wire) c.loop.wires c.args.count c.loop.counter c.loop.rest.now _ c.loop-test.false c.loop.invariant
