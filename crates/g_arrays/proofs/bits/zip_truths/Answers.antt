use Rattle.std.proofs.Common.{ap, ap₂, ◌∙◌, arith, set}
use Rattle.std.specs.Simd.Lanes.{zip2}
use Rattle.g_prims_edits.specs.Words.{on_truths}
use Rattle.g_prims_definitions.specs.Bits.{truth}
use Rattle.g_values.specs.declared.value.Value.{Value}
use Rattle.g_values.specs.declared.value.Value.TheVariants as value
use Rattle.g_arrays.proofs.Loops.{one_step, all_done, zip2-take}
use Rattle.g_arrays.proofs.bits.zip_truths.Goals as goal

pub loop-at-preserved : goal.loop-at-preserved
loop-at-preserved c =
    let f : Value → Value → Value = λ x y. value.Bool (on_truths c.args.operator (truth x) (truth y)) in (
      c.loop-at.invariant.0,
      ap (λ b. set c.loop-at.items.items c.loop-at.at (value.Bool b)) (c.combined_truth-b.ensures ∙ ap₂ (on_truths c.args.operator) c.is_true.ensures c.is_true-in-loop-at.ensures)
          ∙ ap₂ (λ x y. set c.loop-at.items.items c.loop-at.at (f x y)) c.index.ensures c.index-other-at.is
          ∙ one_step f c.truncate.new.self.items c.args.other.now c.loop-at.items.items c.loop-at.at c.index.result.now c.index-other-at.result (omega arith) c.loop-at.invariant.0 c.loop-at.invariant.1,
    )

pub returns : goal.returns
returns c =
    let f : Value → Value → Value = λ x y. value.Bool (on_truths c.args.operator (truth x) (truth y)) in
    let other = c.args.other.now in
    c.loop-at.invariant.1
    ∙ all_done f c.truncate.new.self.items other c.loop-at.at (omega arith) c.loop-at.invariant.0
    ∙ ap (λ l. zip2 f l other) c.truncate.ensures.items
    ∙ zip2-take f c.args.items.now.items other
