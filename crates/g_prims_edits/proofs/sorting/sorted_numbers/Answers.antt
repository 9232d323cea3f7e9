use Rattle.std.specs.Prelude.{int_lt}
use Rattle.g_prims_definitions.specs.Arrays.{sorted}
use Rattle.g_prims_edits.proofs.ArrayLemmas.{edited}
use Rattle.g_prims_edits.proofs.sorting.sorted_numbers.Goals as goal

pub returns : goal.returns
returns c =
    let r = c.xs.inside.rep in
    let ws = c.xs.inside.words.items in
    edited c.args.xs r ws c.sort_words.new.words.items (λ k l. sorted int_lt l) c.xs.view_is c.sort_words.ensures.numbers
