use Rattle.std.proofs.Common.{ap, ◌∙◌, map}
use Rattle.g_values.specs.Numbers.{number}
use Rattle.g_prims_definitions.specs.Arithmetic.{absolute, mapped, numbers_of}
use Rattle.g_prims_edits.specs.Words.{absolute_word}
use Rattle.g_prims_edits.proofs.ArrayLemmas.{are_words-same}
use Rattle.g_prims_edits.proofs.AbsoluteLemmas.{are_words-absolute, numbers-absolute}
use Rattle.g_arrays.proofs.elements.absolutes.Goals as goal

pub invariant_of-result : goal.invariant_of-result
invariant_of-result c =
    let r = c.kept.inside.rep in
    let xs = c.kept.inside.words.items in
    are_words-same r c.absolute_words.new.words.items (map (absolute_word r) xs) c.absolute_words.ensures (are_words-absolute r xs)

pub returns : goal.returns
returns c =
    let r = c.kept.inside.rep in
    let xs = c.kept.inside.words.items in
    ap (numbers_of r) (ap (map (number r)) c.absolute_words.ensures ∙ numbers-absolute r xs)
    ∙ ap (mapped absolute) c.kept.view_is
