use Rattle.std.proofs.Common.{◌∙◌, ap, sym, pos, ◌*ℤ◌}
use Rattle.g_prims_edits.specs.declared.words.Operator.TheVariants.{Minus, Times}
use Rattle.g_prims_edits.specs.Words.{on_words}
use Rattle.g_prims_edits.proofs.WordLemmas.{word-sub, word-mul}
use Rattle.g_prims_definitions.specs.Arithmetic as spec
use Rattle.g_values.specs.Number.{num_of}
use Rattle.g_values.specs.Numbers.{word}
use Rattle.g_prims_evaluation.proofs.QuotientLemmas.{num_of-word}
use Rattle.g_prims_evaluation.proofs.numbers.remainder.Goals as goal

pub returns : goal.returns
returns c =
    let r = c.args.rep in
    let x = c.args.x.n in
    let y = c.args.y.n in
    let q = spec.quotient x y in
    c.number_of_word.ensures
    ∙ ap (λ w. num_of r (pos w))
    (c.on_two_words.ensures
    ∙ ap (λ w. on_words Minus w c.on_two_words-product.result) c.word_of-2.ensures
    ∙ ap (on_words Minus (word x))
    (c.on_two_words-product.ensures
    ∙ ap (λ w. on_words Times w c.quotient_word.result) c.word_of.ensures
    ∙ ap (on_words Times (word y)) c.quotient_word.ensures
    ∙ sym (word-mul y q))
    ∙ sym (word-sub x (y *ℤ q)))
    ∙ num_of-word r (spec.remainder x y)
