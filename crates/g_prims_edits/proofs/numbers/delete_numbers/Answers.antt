use Rattle.std.proofs.Common.{◌+◌, ◌++◌, ap, ◌∙◌, map, take, drop}
use Rattle.g_values.specs.Numbers.{number}
use Rattle.g_prims_edits.proofs.ArrayLemmas.{edited, map-subset, map-without, are_words-same, are_words-without}
use Rattle.g_prims_edits.proofs.numbers.delete_numbers.Goals as goal

pub invariant_of-result : goal.invariant_of-result
invariant_of-result c =
    let r = c.xs.inside.rep in
    let ws = c.xs.inside.words.items in
    are_words-same r c.in_ok-words.words.items (take c.args.from ws ++ drop (c.args.from + c.args.count) ws) c.in_ok-words.ensures.rest (are_words-without r c.args.from (c.args.from + c.args.count) ws c.xs.invariant)

pub returns-clause-rest : goal.returns-clause-rest
returns-clause-rest c =
    let r = c.xs.inside.rep in
    let ws = c.xs.inside.words.items in
    edited c.args.xs r ws c.in_ok-words.words.items (λ k l. take c.args.from l ++ drop (c.args.from + c.args.count) l) c.xs.view_is
    (ap (map (number r)) c.in_ok-words.ensures.rest ∙ map-without (number r) c.args.from (c.args.from + c.args.count) ws)

pub returns-clause-cut : goal.returns-clause-cut
returns-clause-cut c =
    let r = c.xs.inside.rep in
    let ws = c.xs.inside.words.items in
    edited c.args.xs r ws c.in_ok-words.cut.items (λ k l. take c.args.count (drop c.args.from l)) c.xs.view_is
    (ap (map (number r)) c.in_ok-words.ensures.cut ∙ map-subset (number r) c.args.from c.args.count ws)
