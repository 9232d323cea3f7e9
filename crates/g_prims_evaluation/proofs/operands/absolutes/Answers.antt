use Rattle.std.proofs.Common.{ap, ◌∙◌, map}
use Rattle.g_values.specs.Numbers.{number}
use Rattle.g_prims_definitions.specs.Arithmetic.{absolute, mapped, numbers_of}
use Rattle.g_prims_edits.proofs.ArrayLemmas.{are_words-same}
use Rattle.g_prims_edits.specs.Words.{absolute_word}
use Rattle.g_prims_edits.proofs.AbsoluteLemmas.{are_words-absolute, numbers-absolute}
use Rattle.g_prims_evaluation.proofs.operands.absolutes.Goals as goal

pub invariant_of-result : goal.invariant_of-result
invariant_of-result c =
    let r = c.xs.inside.rep in
    let xs = c.xs.inside.words.items in
    let e = c.in_ok-words.ensures ∙ ap (map (absolute_word r)) c.as_slice.ensures.value in
    are_words-same r c.in_ok-words.words.items (map (absolute_word r) xs) e (are_words-absolute r xs)

pub returns : goal.returns
returns c =
    let r = c.xs.inside.rep in
    let xs = c.xs.inside.words.items in
    let e = c.in_ok-words.ensures ∙ ap (map (absolute_word r)) c.as_slice.ensures.value in
    ap (numbers_of r) (ap (map (number r)) e ∙ numbers-absolute r xs)
    ∙ ap (mapped absolute) c.xs.view_is
