use Rattle.std.proofs.Common.{ap, ◌∙◌, arith, set}
use Rattle.std.proofs.lemmas.List.Edits.{map_over_more}
use Rattle.g_prims_edits.specs.Words.{absolute_word}
use Rattle.g_arrays.proofs.elements.absolute_words.Goals as goal

pub loop-at-preserved : goal.loop-at-preserved
loop-at-preserved c =
    ap (set c.loop-at.words.items c.loop-at.at) c.absolute_word.ensures
    ∙ map_over_more (absolute_word c.args.rep) c.args.words.now.items c.loop-at.words.items c.loop-at.at c.index.result.now (omega arith) c.loop-at.invariant c.index.ensures
