use Rattle.std.proofs.Common.{ap, ◌∙◌, map, reverse}
use Rattle.g_values.specs.Numbers.{number}
use Rattle.g_prims_edits.proofs.ArrayLemmas.{edited, map-reverse}
use Rattle.g_prims_edits.proofs.numbers.reversed_numbers.Goals as goal

pub returns : goal.returns
returns c =
    let r = c.xs.inside.rep in
    let ws = c.xs.inside.words.items in
    edited c.args.xs r ws c.reverse.new.self.items (λ k l. reverse l) c.xs.view_is (ap (map (number r)) c.reverse.ensures.items ∙ map-reverse (number r) ws)
