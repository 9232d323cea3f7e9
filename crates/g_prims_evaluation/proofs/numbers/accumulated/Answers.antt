use Rattle.std.proofs.Common.{◌∙◌, ap, sym, pos, map}
use Rattle.g_prims_edits.specs.Words.{on_numbers}
use Rattle.g_prims_definitions.specs.Arithmetic as spec
use Rattle.g_values.specs.Number.{num_of}
use Rattle.g_values.specs.Numbers.{number}
use Rattle.g_prims_evaluation.specs.Accumulated.{accumulated_words}
use Rattle.g_prims_evaluation.proofs.FoldLemmas.{word-accumulated}
use Rattle.g_prims_evaluation.proofs.QuotientLemmas.{num_of-word}
use Rattle.g_prims_evaluation.proofs.numbers.accumulated.Goals as goal

pub returns : goal.returns
returns c =
    let o = c.args.operator in
    let r = c.xs.inside.rep in
    let ws = c.xs.inside.words.items in
    let n = c.args.empty.n in
    c.number_of_word.ensures
    ∙ ap (λ w. num_of r (pos w))
    (c.accumulated_word.ensures
    ∙ ap (accumulated_words o c.word_of.result) c.as_slice.ensures.value
    ∙ ap (λ w. accumulated_words o w ws) c.word_of.ensures
    ∙ sym (word-accumulated o r n ws c.xs.invariant))
    ∙ num_of-word r (spec.accumulated (on_numbers o) n (map (number r) ws))
    ∙ ap (λ k. num_of k.rep (spec.accumulated (on_numbers o) n k.all)) c.xs.view_is
