use Rattle.std.proofs.Common.{◌+◌, ◌%◌, ◌^◌, ap, ◌∙◌, arith, set}
use Rattle.std.proofs.lemmas.List.Edits.{map_over_more}
use Rattle.g_prims_edits.proofs.sorting.add_to_each.Goals as goal

pub loop-at-preserved : goal.loop-at-preserved
loop-at-preserved c =
    ap (set c.loop-at.words.items c.loop-at.at) c.on_two_words.ensures
    ∙ map_over_more (λ w. (w + c.args.by) % 2 ^ 64) c.args.words.now.items c.loop-at.words.items c.loop-at.at c.index.result.now (omega arith) c.loop-at.invariant c.index.ensures
