use Rattle.std.proofs.Common.{◌∙◌, ◌++◌, ap, sym, arith}
use Rattle.std.proofs.lemmas.List.{append-nil}
use Rattle.g_prims_edits.specs.Words.{on_truths}
use Rattle.g_prims_definitions.specs.Bits.{truth}
use Rattle.g_values.specs.declared.value.Value.TheVariants as value
use Rattle.g_prims_evaluation.proofs.ZipLemmas.{zip2_done}
use Rattle.g_prims_evaluation.proofs.bits.zipped_truths.Goals as goal

pub returns : goal.returns
returns c =
    sym (append-nil c.loop-at.all)
    ∙ ap (λ l. c.loop-at.all ++ l) (sym (zip2_done (λ x y. value.Bool (on_truths c.args.operator (truth x) (truth y))) c.args.xs.now c.args.ys.now c.loop-at.at (omega arith)))
    ∙ c.loop-at.invariant
