use Rattle.std.proofs.Common.{ap, ◌∙◌, map, take, drop}
use Rattle.g_values.specs.Numbers.{number}
use Rattle.g_prims_edits.proofs.ArrayLemmas.{edited, map-subset}
use Rattle.g_prims_edits.proofs.numbers.subset_numbers.Goals as goal

pub returns : goal.returns
returns c =
    let r = c.xs.inside.rep in
    let ws = c.xs.inside.words.items in
    edited c.args.xs r ws c.subset-words.result.items (λ k l. take c.args.count (drop c.args.from l)) c.xs.view_is
    (ap (map (number r)) c.subset-words.ensures ∙ map-subset (number r) c.args.from c.args.count ws)
