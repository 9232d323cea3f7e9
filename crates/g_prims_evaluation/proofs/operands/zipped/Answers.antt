use Rattle.std.proofs.Common.{ap, ◌∙◌, map}
use Rattle.std.specs.Simd.Lanes.{zip2}
use Rattle.g_values.specs.Numbers.{number}
use Rattle.g_prims_definitions.specs.Arithmetic.{combined, numbers_of, zipped}
use Rattle.g_prims_edits.specs.Words.{on_numbers, result_word}
use Rattle.g_prims_edits.proofs.ArrayLemmas.{of_words, are_words-same}
use Rattle.g_prims_edits.proofs.WordLemmas.{are_words-zip2, numbers-zip2}
use Rattle.g_prims_evaluation.proofs.operands.zipped.Goals as goal

pub invariant_of-result : goal.invariant_of-result
invariant_of-result c =
    let o = c.args.operator in
    let r = c.wider-rep.result in
    let xs = c.xs.inside.words.items in
    let ys = c.ys.inside.words.items in
    let e = c.in_ok-words.ensures ∙ ap (λ l. zip2 (result_word o r) l c.as_slice-2.result.now) c.as_slice.ensures.value ∙ ap (zip2 (result_word o r) xs) c.as_slice-2.ensures.value in
    are_words-same r c.in_ok-words.words.items (zip2 (result_word o r) xs ys) e (are_words-zip2 o r xs ys)

pub returns : goal.returns
returns c =
    let o = c.args.operator in
    let f = on_numbers o in
    let r = c.wider-rep.result in
    let a = c.xs.inside.rep in
    let b = c.ys.inside.rep in
    let xs = c.xs.inside.words.items in
    let ys = c.ys.inside.words.items in
    let e = c.in_ok-words.ensures ∙ ap (λ l. zip2 (result_word o r) l c.as_slice-2.result.now) c.as_slice.ensures.value ∙ ap (zip2 (result_word o r) xs) c.as_slice-2.ensures.value in
    ap (numbers_of r) (ap (map (number r)) e ∙ numbers-zip2 o r a b xs ys c.xs.invariant c.ys.invariant)
    ∙ ap (λ k. numbers_of k (zip2 (combined f k) (map (number a) xs) (map (number b) ys))) c.wider-rep.ensures
    ∙ ap (λ k. zipped f k (of_words b ys)) c.xs.view_is
    ∙ ap (zipped f c.args.xs.now) c.ys.view_is
