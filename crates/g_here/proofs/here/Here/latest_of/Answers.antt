use Rattle.std.proofs.Common.{rules, ◌∙◌, ap, sym}
use Rattle.std.specs.Prelude.{Some, None}
use Rattle.std.specs.Option.{option_copied}
use Rattle.g_here.proofs.LatestLemmas.{latest_found}
use Rattle.g_here.proofs.here.Here.latest_of.Goals as goal

pub returns-in-Some : goal.returns-in-Some
returns-in-Some c h is =
    ap Some (c.wires_in.ensures h is)
    ∙ (sym (latest_found h c.args.numbers.now c.loop-after.after _ (Some c.in-Some.frame.now) (search rules) (c.frame_at.ensures h is ∙ ap option_copied c.in-Some.is)) ∙ c.loop-after.invariant h is)

pub loop-after-preserved : goal.loop-after-preserved
loop-after-preserved c h is =
    sym (latest_found h c.args.numbers.now c.loop-after.after _ None (search rules) (c.frame_at.ensures h is ∙ ap option_copied c.in_default.is)) ∙ c.loop-after.invariant h is
