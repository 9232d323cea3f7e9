use Rattle.std.proofs.Common.{ap, ◌∙◌}
use Rattle.std.specs.Prelude.{Bool}
use Rattle.g_run_ends.proofs.EndLemmas.{printed, scanned}
use Rattle.g_run_ends.proofs.print.print_state.Goals as goal

pub returns : goal.returns
returns c = λ p are.
    let found = c.in_ok-verdicts.ensures p are ∙ ap (λ (b : Bool). scanned p b c.args.state.now) c.has_room.ensures in
    printed p c.args.state.now c.begun.result c.as_slice-2.result.now c.in_ok-end.end c.from_vec.result c.new-out.result.items c.push_panel.new.out.items c.push_end.new.out.items
    c.begun.ensures (c.as_slice-2.ensures.value ∙ found) (c.in_ok-end.ensures p are (c.as_slice.ensures.value ∙ found)) c.new-out.ensures.items (c.in_ok-push_panel.ensures p are)
    c.in_ok-push_end.ensures c.from_vec.ensures
