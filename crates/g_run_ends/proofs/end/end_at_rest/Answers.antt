use Rattle.std.proofs.Common.{false, ap, not, ◌∙◌}
use Rattle.g_frames.specs.Run.{is_at_rest, is_first_complete, with_room}
use Rattle.g_run_ends.proofs.EndLemmas.{first_is, incomplete, rests_with_room}
use Rattle.g_run_ends.proofs.end.end_at_rest.Goals as goal

pub returns-then-some_goes : goal.returns-then-some_goes
returns-then-some_goes c = λ p are.
    incomplete (is_first_complete c.args.state.now.frames) (is_at_rest p (with_room c.args.state.now)) false
    (first_is c.args.state.now.frames c.frames.result.now c.is_first_complete.result false c.is_first_complete.ensures c.frames.ensures c.if-is_first_complete.false)
    (rests_with_room p c.args.state.now c.some_goes.result c.in_ok-with_room.with_room.items c.as_slice.result.now c.some_goes.ensures c.as_slice.ensures.value (c.in_ok-with_room.ensures p are)
    ∙ ap not c.if-some_goes.true)

pub returns : goal.returns
returns c = λ p are.
    incomplete (is_first_complete c.args.state.now.frames) (is_at_rest p (with_room c.args.state.now)) (not false)
    (first_is c.args.state.now.frames c.frames.result.now c.is_first_complete.result false c.is_first_complete.ensures c.frames.ensures c.if-is_first_complete.false)
    (rests_with_room p c.args.state.now c.some_goes.result c.in_ok-with_room.with_room.items c.as_slice.result.now c.some_goes.ensures c.as_slice.ensures.value (c.in_ok-with_room.ensures p are)
    ∙ ap not c.if-some_goes.false)
