use Rattle.std.proofs.Common.{ap, ◌∙◌, map}
use Rattle.g_types.specs.Rep.{wrap}
use Rattle.g_values.specs.Canonical.{canonical}
use Rattle.g_values.specs.Numbers.{number, word}
use Rattle.g_prims_definitions.specs.Arrays.{number_of, replaced_at}
use Rattle.g_prims_edits.proofs.ArrayLemmas.{edited, number-of_word, map-replaced, are_words-same, are_words-replaced}
use Rattle.g_prims_edits.proofs.numbers.replace_number.Goals as goal

pub invariant_of-result : goal.invariant_of-result
invariant_of-result c =
    let r = c.xs.inside.rep in
    let ws = c.xs.inside.words.items in
    let n = number_of c.args.e in
    are_words-same r c.put.new.words.items (replaced_at ws c.args.at (canonical r (word n))) (c.put.ensures ∙ ap (replaced_at ws c.args.at) c.word_in.ensures) (are_words-replaced r c.args.at ws n c.xs.invariant)

pub returns : goal.returns
returns c =
    let r = c.xs.inside.rep in
    let ws = c.xs.inside.words.items in
    let n = number_of c.args.e in
    edited c.args.xs r ws c.put.new.words.items (λ k l. replaced_at l c.args.at (wrap k n)) c.xs.view_is
    (ap (map (number r)) (c.put.ensures ∙ ap (replaced_at ws c.args.at) c.word_in.ensures)
    ∙ map-replaced (number r) c.args.at ws (canonical r (word n))
    ∙ ap (replaced_at (map (number r) ws) c.args.at) (number-of_word r n))
