use Rattle.std.proofs.Common.{rules, subst}
use Rattle.g_diagram_table.specs.Seen.{seen}
use Rattle.g_frames.specs.Fire.{here}
use Rattle.g_effects.specs.Requests.{requested}
use Rattle.g_states.specs.States.{progress_at}
use Rattle.g_plans.specs.Plans.{EntersAny}
use Rattle.g_firing.specs.Enters.{enter}
use Rattle.g_firing.proofs.EnterLemmas.{clone_entered, no_entry}
use Rattle.g_firing.proofs.nodes.enter_node.Goals as goal

pub returns-in-Some-clone : goal.returns-in-Some-clone
returns-in-Some-clone c p tables plain cannot =
    clone_entered p c.has_room-has_room.result c.args.state.now c.enter_any.new.state c.args.firing (seen c.in-Some.field-0.entry.now) c.in-Some.field-0.object c.in-Some-clone.clone
    c.has_room-has_room.ensures (search rules)
    (λ f vi. subst
    (λ m. EntersAny p c.args.state.now c.args.firing
    (λ k. requested (here p c.has_room-has_room.result c.args.state.now f vi) (seen c.in-Some.field-0.entry.now) (progress_at p c.args.state.now.frames c.args.firing) (enter c.in-Some.field-0.object k))
    m c.enter_any.new.state)
    c.in-Some-clone.is (c.in_ok-clone-in-Some.ensures p c.has_room-has_room.result f vi tables))

pub returns-in-None-clone : goal.returns-in-None-clone
returns-in-None-clone c p tables plain cannot =
    no_entry p c.has_room-has_room.result c.args.state.now c.enter_any.new.state c.args.firing (seen c.in-Some.field-0.entry.now) c.in-Some.field-0.object
    c.has_room-has_room.ensures plain cannot (search rules)
    (λ f vi. subst
    (λ m. EntersAny p c.args.state.now c.args.firing
    (λ k. requested (here p c.has_room-has_room.result c.args.state.now f vi) (seen c.in-Some.field-0.entry.now) (progress_at p c.args.state.now.frames c.args.firing) (enter c.in-Some.field-0.object k))
    m c.enter_any.new.state)
    c.in-None-clone.is (c.in_ok-clone-in-Some.ensures p c.has_room-has_room.result f vi tables))
