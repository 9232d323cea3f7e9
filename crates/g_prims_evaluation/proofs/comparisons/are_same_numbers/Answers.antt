use Rattle.std.proofs.Common.{◌∙◌, ap, map}
use Rattle.std.specs.Cmp.Lexicographic.{pointwise}
use Rattle.std.specs.Ordering.{int_eq}
use Rattle.g_values.specs.Numbers.{number}
use Rattle.g_prims_evaluation.proofs.comparisons.are_same_numbers.Goals as goal

pub returns : goal.returns
returns c =
    let a = c.xs.inside.rep in
    let b = c.ys.inside.rep in
    let xs = c.xs.inside.words.items in
    let ys = c.ys.inside.words.items in
    c.are_same_words.ensures
    ∙ ap (λ l. pointwise int_eq (map (number a) l) (map (number b) c.as_slice-2.result.now)) c.as_slice.ensures.value
    ∙ ap (λ l. pointwise int_eq (map (number a) xs) (map (number b) l)) c.as_slice-2.ensures.value
    ∙ ap (λ k. pointwise int_eq k.all (map (number b) ys)) c.xs.view_is
    ∙ ap (λ k. pointwise int_eq c.args.xs.now.all k.all) c.ys.view_is
