use Rattle.std.proofs.Common.{ap, ◌∙◌, map}
use Rattle.std.specs.Simd.Lanes.{zip2}
use Rattle.g_values.specs.Numbers.{number}
use Rattle.g_prims_definitions.specs.Arithmetic.{combined, numbers_of, zipped}
use Rattle.g_prims_edits.specs.Words.{on_numbers, result_word}
use Rattle.g_prims_edits.proofs.ArrayLemmas.{of_words, are_words-same}
use Rattle.g_prims_edits.proofs.WordLemmas.{are_words-zip2, numbers-zip2}
use Rattle.g_arrays.proofs.numbers.zipped.Goals as goal

pub invariant_of-result : goal.invariant_of-result
invariant_of-result c =
    let o = c.args.operator in
    let r = c.wider-rep.result in
    let xs = c.kept.inside.words.items in
    let ys = c.other.inside.words.items in
    let e = c.zip_into.ensures ∙ ap (zip2 (result_word o r) xs) c.as_slice.ensures.value in
    are_words-same r c.zip_into.new.words.items (zip2 (result_word o r) xs ys) e (are_words-zip2 o r xs ys)

pub returns : goal.returns
returns c =
    let o = c.args.operator in
    let f = on_numbers o in
    let r = c.wider-rep.result in
    let a = c.kept.inside.rep in
    let b = c.other.inside.rep in
    let xs = c.kept.inside.words.items in
    let ys = c.other.inside.words.items in
    let e = c.zip_into.ensures ∙ ap (zip2 (result_word o r) xs) c.as_slice.ensures.value in
    ap (numbers_of r) (ap (map (number r)) e ∙ numbers-zip2 o r a b xs ys c.kept.invariant c.other.invariant)
    ∙ ap (λ k. numbers_of k (zip2 (combined f k) (map (number a) xs) (map (number b) ys))) c.wider-rep.ensures
    ∙ ap (λ k. zipped f k (of_words b ys)) c.kept.view_is
    ∙ ap (zipped f c.args.kept) c.other.view_is
