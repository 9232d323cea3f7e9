use Rattle.std.proofs.Common.{ap, ◌∙◌, arith, set}
use Rattle.g_prims_edits.specs.Words.{result_word}
use Rattle.g_arrays.proofs.Loops.{block_step, one_step, all_done}
use Rattle.g_arrays.proofs.words.zip_words.Goals as goal

pub loop-at-preserved : goal.loop-at-preserved
loop-at-preserved c =
    (omega arith, c.zip_block.ensures ∙ block_step (result_word c.args.operator c.args.rep) c.args.into.now c.args.other.now c.loop-at.into 8 c.loop-at.at (omega arith) (omega arith) c.loop-at.invariant.1)

pub loop-at-2-preserved : goal.loop-at-2-preserved
loop-at-2-preserved c =
    (omega arith, ap (set c.loop-at-2.into c.loop-at-2.at) c.combined_word.ensures ∙ one_step (result_word c.args.operator c.args.rep) c.args.into.now c.args.other.now c.loop-at-2.into c.loop-at-2.at 0 0 (omega arith) (omega arith) c.loop-at-2.invariant.1)

pub returns : goal.returns
returns c =
    c.loop-at-2.invariant.1 ∙ all_done (result_word c.args.operator c.args.rep) c.args.into.now c.args.other.now c.loop-at-2.at (omega arith) (omega arith)
