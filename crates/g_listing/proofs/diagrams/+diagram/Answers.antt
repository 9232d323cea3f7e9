use Rattle.std.proofs.Common.{ℕ, length, subst, ap, ◌∙◌}
use Rattle.g_grammar.specs.Grammar.{read, loop, or_else}
use Rattle.g_grammar.specs.Reads.{Gives}
use Rattle.g_grammar.proofs.Loops.{ended_more, ended_last, ended_stops, ended_out}
use Rattle.g_listing_grammar.specs.Words.{eol, word_in}
use Rattle.g_listing_grammar.specs.Nodes.{results, selector_first, ends_of, nodes, node_first, node_rest, node_or_end, branch_rest, frame_rest}
use Rattle.g_listing_grammar.specs.declared.Border.TheVariants as border
use Rattle.g_listing.proofs.diagrams.+diagram.Goals as goal

pub nodes-returns-in-Err : goal.nodes-returns-in-Err
nodes-returns-in-Err t c = ended_stops (or_else (node_first c.args.version c.args.levels) (word_in (ends_of c.args.until))) (node_or_end (node_rest c.args.version c.args.levels)) c.loop.found_nodes (length c.args.tokens.now) c.loop.counter c.loop.rest.now c.in-Err.stop _ c.loop-test.true c.in-Err.ensures c.loop.invariant

pub nodes-returns-in-Last : goal.nodes-returns-in-Last
nodes-returns-in-Last t c =
    let e = rw c.in-Last.is at c.in-Ok.ensures in
    ended_last (or_else (node_first c.args.version c.args.levels) (word_in (ends_of c.args.until))) (node_or_end (node_rest c.args.version c.args.levels)) c.loop.found_nodes (length c.args.tokens.now) c.loop.counter c.loop.rest.now c.in-Ok.found.1.now c.in-Last.last _ c.loop-test.true e c.loop.invariant

pub nodes-loop-preserved : goal.nodes-loop-preserved
nodes-loop-preserved t c =
    let e = rw c.in-More.is at c.in-Ok.ensures in
    rw c.in_ok-push-in-More.ensures (ended_more (or_else (node_first c.args.version c.args.levels) (word_in (ends_of c.args.until))) (node_or_end (node_rest c.args.version c.args.levels)) c.loop.found_nodes (length c.args.tokens.now) c.loop.counter c.loop.rest.now c.in-Ok.found.1.now c.in-More.item _ c.loop-test.true e c.loop.invariant)

pub nodes-returns : goal.nodes-returns
nodes-returns t c = ended_out (or_else (node_first c.args.version c.args.levels) (word_in (ends_of c.args.until))) (node_or_end (node_rest c.args.version c.args.levels)) c.loop.found_nodes (length c.args.tokens.now) c.loop.counter c.loop.rest.now _ c.loop-test.false c.loop.invariant

-- as many operands as these lines have results
pub case_branches-returns : goal.case_branches-returns
case_branches-returns t c =
    let e = c.results-count.ensures ∙ ap results c.as_slice.ensures in
    subst (λ (n : ℕ). Gives c.branches.result (read (loop selector_first (branch_rest (nodes c.args.version c.args.inside) n)) c.args.tokens.now)) e c.branches.ensures

pub branches-returns-in-Err : goal.branches-returns-in-Err
branches-returns-in-Err t c = ended_stops (selector_first) (branch_rest (nodes c.args.version c.args.inside) c.args.count) c.loop.found_branches (length c.args.tokens.now) c.loop.counter c.loop.rest.now c.in-Err.stop _ c.loop-test.true c.in-Err.ensures c.loop.invariant

pub branches-returns-in-Last : goal.branches-returns-in-Last
branches-returns-in-Last t c =
    let e = rw c.in-Last.is at c.in-Ok.ensures in
    ended_last (selector_first) (branch_rest (nodes c.args.version c.args.inside) c.args.count) c.loop.found_branches (length c.args.tokens.now) c.loop.counter c.loop.rest.now c.in-Ok.found.1.now c.in-Last.last _ c.loop-test.true e c.loop.invariant

pub branches-loop-preserved : goal.branches-loop-preserved
branches-loop-preserved t c =
    let e = rw c.in-More.is at c.in-Ok.ensures in
    rw c.in_ok-push-in-More.ensures (ended_more (selector_first) (branch_rest (nodes c.args.version c.args.inside) c.args.count) c.loop.found_branches (length c.args.tokens.now) c.loop.counter c.loop.rest.now c.in-Ok.found.1.now c.in-More.item _ c.loop-test.true e c.loop.invariant)

pub branches-returns : goal.branches-returns
branches-returns t c = ended_out (selector_first) (branch_rest (nodes c.args.version c.args.inside) c.args.count) c.loop.found_branches (length c.args.tokens.now) c.loop.counter c.loop.rest.now _ c.loop-test.false c.loop.invariant

pub more_frames-returns-in-Err : goal.more_frames-returns-in-Err
more_frames-returns-in-Err t c = ended_stops (eol) (λ (e : Unit {0}). frame_rest (nodes c.args.version c.args.inside) border.Frame) c.loop.found_frames (length c.args.tokens.now) c.loop.counter c.loop.rest.now c.in-Err.stop _ c.loop-test.true c.in-Err.ensures c.loop.invariant

pub more_frames-returns-in-Last : goal.more_frames-returns-in-Last
more_frames-returns-in-Last t c =
    let e = rw c.in-Last.is at c.in-Ok.ensures in
    ended_last (eol) (λ (e : Unit {0}). frame_rest (nodes c.args.version c.args.inside) border.Frame) c.loop.found_frames (length c.args.tokens.now) c.loop.counter c.loop.rest.now c.in-Ok.found.1.now c.in-Last.last _ c.loop-test.true e c.loop.invariant

pub more_frames-loop-preserved : goal.more_frames-loop-preserved
more_frames-loop-preserved t c =
    let e = rw c.in-More.is at c.in-Ok.ensures in
    rw c.in_ok-push-in-More.ensures (ended_more (eol) (λ (e : Unit {0}). frame_rest (nodes c.args.version c.args.inside) border.Frame) c.loop.found_frames (length c.args.tokens.now) c.loop.counter c.loop.rest.now c.in-Ok.found.1.now c.in-More.item _ c.loop-test.true e c.loop.invariant)

pub more_frames-returns : goal.more_frames-returns
more_frames-returns t c = ended_out (eol) (λ (e : Unit {0}). frame_rest (nodes c.args.version c.args.inside) border.Frame) c.loop.found_frames (length c.args.tokens.now) c.loop.counter c.loop.rest.now _ c.loop-test.false c.loop.invariant
