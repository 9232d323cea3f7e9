use Rattle.std.proofs.Common.{ap, ◌∙◌, map}
use Rattle.g_values.specs.Numbers.{number, word}
use Rattle.g_prims_definitions.specs.Arithmetic.{numbers_of, right}
use Rattle.g_prims_edits.specs.Words.{on_numbers, result_word}
use Rattle.g_prims_edits.proofs.ArrayLemmas.{are_words-same}
use Rattle.g_prims_edits.proofs.WordLemmas.{are_words-right, numbers-right}
use Rattle.g_prims_evaluation.proofs.operands.right.Goals as goal

pub invariant_of-result : goal.invariant_of-result
invariant_of-result c =
    let o = c.args.operator in
    let r = c.args.rep in
    let ys = c.ys.inside.words.items in
    let e = c.in_ok-words.ensures ∙ ap (map (λ w. result_word o r c.word_of.result w)) c.as_slice.ensures.value ∙ ap (λ v. map (λ w. result_word o r v w) ys) c.word_of.ensures in
    are_words-same r c.in_ok-words.words.items (map (λ w. result_word o r (word c.args.x.n) w) ys) e (are_words-right o r ys (word c.args.x.n))

pub returns : goal.returns
returns c =
    let o = c.args.operator in
    let r = c.args.rep in
    let ys = c.ys.inside.words.items in
    let e = c.in_ok-words.ensures ∙ ap (map (λ w. result_word o r c.word_of.result w)) c.as_slice.ensures.value ∙ ap (λ v. map (λ w. result_word o r v w) ys) c.word_of.ensures in
    ap (numbers_of r) (ap (map (number r)) e ∙ numbers-right o r c.ys.inside.rep ys c.args.x.n c.ys.invariant)
    ∙ ap (right (on_numbers o) r c.args.x.n) c.ys.view_is
