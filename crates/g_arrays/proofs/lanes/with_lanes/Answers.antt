use Rattle.std.proofs.Common.{ap, ◌∙◌, sym, map}
use Rattle.g_prims_edits.specs.Words.{result_word}
use Rattle.g_arrays.specs.Lanes.{with_word}
use Rattle.g_arrays.proofs.LaneLemmas.{with_same_after, with_same_before}
use Rattle.g_arrays.proofs.lanes.with_lanes.Goals as goal

pub returns-then-before : goal.returns-then-before
returns-then-before c =
    let o = c.args.operator in
    let r = c.args.rep in
    c.result_lanes.ensures ∙ with_same_before (result_word o r) c.args.by 8 c.args.a c.requires ∙ ap (λ b. map (with_word o r b c.args.by) c.args.a) (sym c.if-before.true)

pub returns : goal.returns
returns c =
    let o = c.args.operator in
    let r = c.args.rep in
    c.result_lanes-2.ensures ∙ with_same_after (result_word o r) c.args.by 8 c.args.a c.requires ∙ ap (λ b. map (with_word o r b c.args.by) c.args.a) (sym c.if-before.false)
