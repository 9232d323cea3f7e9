use Rattle.std.proofs.Common.{ap, ◌∙◌, map}
use Rattle.g_values.specs.Canonical.{canonical}
use Rattle.g_values.specs.Coerce.{coerced_numbers}
use Rattle.g_prims_edits.proofs.ArrayLemmas.{are_words-same}
use Rattle.g_values.proofs.Coercions.{coerced_are_words, numbers-coerced}
use Rattle.g_prims_evaluation.proofs.operands.converted_numbers.Goals as goal

pub invariant_of-result : goal.invariant_of-result
invariant_of-result c =
    let r = c.args.rep in
    let xs = c.xs.inside.words.items in
    let e = c.in_ok-words.ensures ∙ ap (map (canonical r)) c.as_slice.ensures.value in
    are_words-same r c.in_ok-words.words.items (map (canonical r) xs) e (coerced_are_words r xs)

pub returns : goal.returns
returns c =
    let r = c.args.rep in
    let xs = c.xs.inside.words.items in
    let e = c.in_ok-words.ensures ∙ ap (map (canonical r)) c.as_slice.ensures.value in
    numbers-coerced c.xs.inside.rep r xs c.in_ok-words.words.items e c.xs.invariant
    ∙ ap (coerced_numbers r) c.xs.view_is
