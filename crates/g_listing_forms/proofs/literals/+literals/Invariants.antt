use Rattle.std.proofs.Common.{◌≡◌, true, false, ◌+◌, ◌-◌, ◌*◌, length}
use Rattle.g_grammar.specs.Grammar.{read, repeat, loop}
use Rattle.g_listing_grammar.specs.Types.{others}
use Rattle.g_listing_grammar.specs.Words.{comma_or_bracket}
use Rattle.g_listing_grammar.specs.Literals.{literals, next_item}
use Rattle.g_grammar.specs.Reads.{with_front, fronts}
use Rattle.g_listing_forms.proofs.literals.+literals.Given as goal

abbrev pub decreases-read_literal : goal.decreases-read_literal
decreases-read_literal l = 5 * l.levels + 1

abbrev pub decreases-literal_rest : goal.decreases-literal_rest
decreases-literal_rest l = 5 * l.levels

abbrev pub decreases-literal_inside : goal.decreases-literal_inside
decreases-literal_inside l = 5 * l.inside + 4

abbrev pub decreases-array_items : goal.decreases-array_items
decreases-array_items l = 5 * l.levels + 3

abbrev pub decreases-cluster_items : goal.decreases-cluster_items
decreases-cluster_items l = 5 * l.levels + 3

abbrev pub invariant-array_items-loop : goal.invariant-array_items-loop
invariant-array_items-loop l =
    fronts l.items (repeat comma_or_bracket (λ c. read (next_item (literals l.levels false) c)) (length l.fn.tokens - l.counter) l.rest)
    ≡ fronts l.fn.items (read (loop comma_or_bracket (next_item (literals l.levels false))) l.fn.tokens)

abbrev pub invariant-cluster_items-loop : goal.invariant-cluster_items-loop
invariant-cluster_items-loop l = with_front l.items (read (others (literals l.levels true) (63 - l.counter)) l.rest) ≡ with_front l.fn.items (read (others (literals l.levels true) 63) l.fn.tokens)

abbrev pub decreases-array_item : goal.decreases-array_item
decreases-array_item l = 5 * l.levels + 2
