use Rattle.std.proofs.Common.{ap, ◌∙◌, map}
use Rattle.g_values.specs.Numbers.{number, word}
use Rattle.g_prims_definitions.specs.Arithmetic.{numbers_of, left}
use Rattle.g_prims_edits.specs.Words.{on_numbers, result_word}
use Rattle.g_prims_edits.proofs.ArrayLemmas.{are_words-same}
use Rattle.g_prims_edits.proofs.WordLemmas.{are_words-left, numbers-left}
use Rattle.g_prims_evaluation.proofs.operands.left.Goals as goal

pub invariant_of-result : goal.invariant_of-result
invariant_of-result c =
    let o = c.args.operator in
    let r = c.args.rep in
    let xs = c.xs.inside.words.items in
    let e = c.in_ok-words.ensures ∙ ap (map (λ w. result_word o r w c.word_of.result)) c.as_slice.ensures.value ∙ ap (λ v. map (λ w. result_word o r w v) xs) c.word_of.ensures in
    are_words-same r c.in_ok-words.words.items (map (λ w. result_word o r w (word c.args.y.n)) xs) e (are_words-left o r xs (word c.args.y.n))

pub returns : goal.returns
returns c =
    let o = c.args.operator in
    let r = c.args.rep in
    let xs = c.xs.inside.words.items in
    let e = c.in_ok-words.ensures ∙ ap (map (λ w. result_word o r w c.word_of.result)) c.as_slice.ensures.value ∙ ap (λ v. map (λ w. result_word o r w v) xs) c.word_of.ensures in
    ap (numbers_of r) (ap (map (number r)) e ∙ numbers-left o r c.xs.inside.rep xs c.args.y.n c.xs.invariant)
    ∙ ap (λ k. left (on_numbers o) r k c.args.y.n) c.xs.view_is
