use Rattle.std.proofs.Common.{◌≡◌, true, ◌+◌, ◌-◌, ◌*◌}
use Rattle.g_grammar.specs.Grammar.{read}
use Rattle.g_listing_grammar.specs.Types.{types, others}
use Rattle.g_grammar.specs.Reads.{with_front}
use Rattle.g_listing_forms.proofs.types.+types.Given as goal

abbrev pub decreases-more_types : goal.decreases-more_types
decreases-more_types l = 3 * l.levels + 1

abbrev pub decreases-read_type : goal.decreases-read_type
decreases-read_type l = 3 * l.levels

abbrev pub decreases-type_rest : goal.decreases-type_rest
decreases-type_rest l = 3 * l.inside + 2

abbrev pub invariant-more_types-loop : goal.invariant-more_types-loop
invariant-more_types-loop l = with_front l.items (read (others (types l.levels true) (63 - l.counter)) l.rest) ≡ with_front l.fn.items (read (others (types l.levels true) 63) l.fn.tokens)
