use Rattle.std.proofs.Common.{◌++◌, ap, ◌∙◌, sym, subst, map}
use Rattle.g_values.specs.Numbers.{AreWords, number}
use Rattle.g_prims_definitions.specs.Arrays.{within}
use Rattle.g_prims_edits.proofs.ArrayLemmas.{edited, map-within, are_words-same, are_words-within}
use Rattle.g_prims_edits.proofs.numbers.concat_numbers.Goals as goal

pub invariant_of-result : goal.invariant_of-result
invariant_of-result c =
    let r = c.xs.inside.rep in
    let ws = c.xs.inside.words.items in
    let vs = c.ys.inside.words.items in
    let same = ap (λ k. k.rep) c.xs.view_is ∙ c.requires ∙ sym (ap (λ k. k.rep) c.ys.view_is) in
    let e = c.truncate.ensures.items ∙ ap within c.in_ok-extend_from_slice.ensures.items ∙ ap (λ l. within (ws ++ l)) c.as_slice.ensures.value in
    are_words-same r c.truncate.new.self.items (within (ws ++ vs)) e (are_words-within r ws vs c.xs.invariant (subst (λ k. AreWords k vs) (sym same) c.ys.invariant))

pub returns : goal.returns
returns c =
    let r = c.xs.inside.rep in
    let ws = c.xs.inside.words.items in
    let vs = c.ys.inside.words.items in
    let same = ap (λ k. k.rep) c.xs.view_is ∙ c.requires ∙ sym (ap (λ k. k.rep) c.ys.view_is) in
    let e = c.truncate.ensures.items ∙ ap within c.in_ok-extend_from_slice.ensures.items ∙ ap (λ l. within (ws ++ l)) c.as_slice.ensures.value in
    edited c.args.xs r ws c.truncate.new.self.items (λ k l. within (l ++ c.args.ys.now.all)) c.xs.view_is
    (ap (map (number r)) e
    ∙ map-within (number r) ws vs
    ∙ ap (λ k. within (map (number r) ws ++ map (number k) vs)) same
    ∙ ap (λ k. within (map (number r) ws ++ k.all)) c.ys.view_is)
