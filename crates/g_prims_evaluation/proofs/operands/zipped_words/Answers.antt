use Rattle.std.proofs.Common.{◌∙◌, ◌++◌, ◌∷◌, [], ap, sym, get_or, arith}
use Rattle.g_prims_edits.specs.Words.{result_word}
use Rattle.g_prims_evaluation.proofs.ZipLemmas.{zip2_more, zip2_end}
use Rattle.g_prims_evaluation.proofs.operands.zipped_words.Goals as goal

pub loop-at-preserved : goal.loop-at-preserved
loop-at-preserved c =
    let f = result_word c.args.operator c.args.rep in
    c.in_ok-push.ensures.items
    ∙ ap (λ w. c.loop-at.words.items ++ w ∷ []) c.combined_word.ensures
    ∙ ap (λ l. l ++ f (get_or c.args.xs.now c.loop-at.at 0) (get_or c.args.ys.now c.loop-at.at 0) ∷ []) c.loop-at.invariant
    ∙ sym (zip2_more f c.args.xs.now c.args.ys.now c.loop-at.at 0 0 (omega arith) (omega arith))

pub returns : goal.returns
returns c =
    c.loop-at.invariant
    ∙ zip2_end (result_word c.args.operator c.args.rep) c.args.xs.now c.args.ys.now c.loop-at.at (omega arith)
