use Rattle.std.proofs.Common.{rules, refl}
use Rattle.g_diagram_table.specs.Seen.{seen}
use Rattle.g_firing.proofs.FiredLemmas.{carried}
use Rattle.g_firing.proofs.nodes.fire.Goals as goal

pub returns-in_ok-done-in-Some : goal.returns-in_ok-done-in-Some
returns-in_ok-done-in-Some c p tables =
    carried p c.has_room-has_room.result c.args.state.now c.carry_out.new.state c.args.firing (seen c.in-Some.field-0.entry.now) c.in-Some.field-0.plan c.in_ok-done-in-Some.done
    c.has_room-has_room.ensures (search rules)
    (λ f vi frame_is vi_is. c.in_ok-done-in-Some.ensures p c.has_room-has_room.result f vi (seen c.in-Some.field-0.entry.now) tables frame_is vi_is refl)
