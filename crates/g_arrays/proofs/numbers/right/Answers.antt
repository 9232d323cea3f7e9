use Rattle.std.proofs.Common.{ap, ◌∙◌, map, true}
use Rattle.g_values.specs.Numbers.{number, word}
use Rattle.g_prims_definitions.specs.Arithmetic.{numbers_of, right}
use Rattle.g_prims_edits.specs.Words.{on_numbers, result_word}
use Rattle.g_prims_edits.proofs.ArrayLemmas.{are_words-same}
use Rattle.g_prims_edits.proofs.WordLemmas.{are_words-right, numbers-right}
use Rattle.g_arrays.specs.Lanes.{with_word}
use Rattle.g_arrays.proofs.numbers.right.Goals as goal

pub invariant_of-result : goal.invariant_of-result
invariant_of-result c =
    let o = c.args.operator in
    let r = c.args.rep in
    let xs = c.kept.inside.words.items in
    let e = c.each_into.ensures ∙ ap (λ v. map (with_word o r true v) xs) c.word_of.ensures in
    are_words-same r c.each_into.new.words.items (map (λ w. result_word o r (word c.args.by.n) w) xs) e (are_words-right o r xs (word c.args.by.n))

pub returns : goal.returns
returns c =
    let o = c.args.operator in
    let r = c.args.rep in
    let xs = c.kept.inside.words.items in
    let e = c.each_into.ensures ∙ ap (λ v. map (with_word o r true v) xs) c.word_of.ensures in
    ap (numbers_of r) (ap (map (number r)) e ∙ numbers-right o r c.kept.inside.rep xs c.args.by.n c.kept.invariant)
    ∙ ap (right (on_numbers o) r c.args.by.n) c.kept.view_is
