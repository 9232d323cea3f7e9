use Rattle.std.proofs.Common.{◌≡◌, ◌+◌, ◌-◌, ◌*◌, length}
use Rattle.g_grammar.specs.Grammar.{read, repeat, loop, or_else}
use Rattle.g_grammar.specs.Reads.{ended}
use Rattle.g_listing_grammar.specs.Words.{eol, word_in}
use Rattle.g_listing_grammar.specs.Nodes.{selector_first, ends_of, nodes, node_first, node_rest, node_or_end, branch_rest, frame_rest}
use Rattle.g_listing_grammar.specs.declared.Border.TheVariants as border
use Rattle.g_listing.proofs.diagrams.+diagram.Given as goal

abbrev pub decreases-node_rest : goal.decreases-node_rest
decreases-node_rest l = 10 * l.levels

abbrev pub decreases-node : goal.decreases-node
decreases-node l = 10 * l.levels + 2

abbrev pub decreases-nodes : goal.decreases-nodes
decreases-nodes l = 10 * l.levels + 3

abbrev pub decreases-lines_and_body : goal.decreases-lines_and_body
decreases-lines_and_body l = 10 * l.inside + 4

abbrev pub decreases-next_branch : goal.decreases-next_branch
decreases-next_branch l = 10 * l.inside + 4

abbrev pub decreases-branches : goal.decreases-branches
decreases-branches l = 10 * l.inside + 5

abbrev pub decreases-frame : goal.decreases-frame
decreases-frame l = 10 * l.inside + 4

abbrev pub decreases-more_frames : goal.decreases-more_frames
decreases-more_frames l = 10 * l.inside + 5

abbrev pub decreases-further_frames : goal.decreases-further_frames
decreases-further_frames l = 10 * l.inside + 6

abbrev pub decreases-case_branches : goal.decreases-case_branches
decreases-case_branches l = 10 * l.inside + 6

abbrev pub decreases-case_rest : goal.decreases-case_rest
decreases-case_rest l = 10 * l.inside + 7

abbrev pub decreases-structure_rest : goal.decreases-structure_rest
decreases-structure_rest l = 10 * l.inside + 9

abbrev pub invariant-nodes-loop : goal.invariant-nodes-loop
invariant-nodes-loop l = ended l.found_nodes (repeat (or_else (node_first l.version l.levels) (word_in (ends_of l.until))) (λ c. read ((node_or_end (node_rest l.version l.levels)) c)) (length l.tokens - l.counter) l.rest) ≡ read (nodes l.version l.levels l.until) l.tokens

abbrev pub invariant-branches-loop : goal.invariant-branches-loop
invariant-branches-loop l = ended l.found_branches (repeat (selector_first) (λ c. read ((branch_rest (nodes l.version l.inside) l.count) c)) (length l.tokens - l.counter) l.rest) ≡ read (loop selector_first (branch_rest (nodes l.version l.inside) l.count)) l.tokens

abbrev pub invariant-more_frames-loop : goal.invariant-more_frames-loop
invariant-more_frames-loop l = ended l.found_frames (repeat (eol) (λ c. read ((λ (e : Unit {0}). frame_rest (nodes l.version l.inside) border.Frame) c)) (length l.tokens - l.counter) l.rest) ≡ read (loop eol (λ (e : Unit {0}). frame_rest (nodes l.version l.inside) border.Frame)) l.tokens
