use Rattle.std.proofs.Common.{◌++◌, ◌∷◌, [], ap, ◌∙◌, map}
use Rattle.g_types.specs.Rep.{wrap}
use Rattle.g_values.specs.Canonical.{canonical}
use Rattle.g_values.specs.Numbers.{number, word}
use Rattle.g_prims_definitions.specs.Arrays.{number_of, within}
use Rattle.g_prims_edits.proofs.ArrayLemmas.{edited, number-of_word, map-within, are_words-same, are_words-within, are_words-one}
use Rattle.g_prims_edits.proofs.numbers.build_number.Goals as goal

pub invariant_of-result : goal.invariant_of-result
invariant_of-result c =
    let r = c.xs.inside.rep in
    let ws = c.xs.inside.words.items in
    let w = canonical r (word (number_of c.args.e)) in
    are_words-same r c.push_within.new.words.items (within (ws ++ w ∷ [])) (c.in_ok-push_within.ensures ∙ ap (λ v. within (ws ++ v ∷ [])) c.word_in.ensures) (are_words-within r ws (w ∷ []) c.xs.invariant (are_words-one r (number_of c.args.e)))

pub returns : goal.returns
returns c =
    let r = c.xs.inside.rep in
    let ws = c.xs.inside.words.items in
    let n = number_of c.args.e in
    edited c.args.xs r ws c.push_within.new.words.items (λ k l. within (l ++ wrap k n ∷ [])) c.xs.view_is
    (ap (map (number r)) (c.in_ok-push_within.ensures ∙ ap (λ v. within (ws ++ v ∷ [])) c.word_in.ensures)
    ∙ map-within (number r) ws (canonical r (word n) ∷ [])
    ∙ ap (λ z. within (map (number r) ws ++ z ∷ [])) (number-of_word r n))
