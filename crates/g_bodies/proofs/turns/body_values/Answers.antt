use Rattle.std.proofs.Common.{ap, ◌∙◌}
use Rattle.std.proofs.lemmas.Result.{IfOk-weaker}
use Rattle.g_frames.specs.Program.{FlatVi}
use Rattle.g_bodies.specs.Known.{found}
use Rattle.g_bodies.proofs.TurnLemmas.{IsBody, body_fits, body_read}
use Rattle.g_bodies.proofs.turns.body_values.Goals as goal

pub take_turns-requires : goal.take_turns-requires
take_turns-requires c =
    let vi : FlatVi = c.requires.0 in
    let is = c.requires.1.0 in
    let whole : IsBody vi c.args.body c.args.finish c.args.inside c.inside.result.now c.in_ok-steps.steps.items (found c.in_ok-known.known) =
    record { nodes_are = c.inside.ensures vi is; steps_are = c.in_ok-steps.ensures.steps vi.types; found_is = c.in_ok-known.ensures } in
    (vi, (is, body_fits vi c.args.body c.args.finish c.args.inside c.inside.result.now c.in_ok-steps.steps.items (found c.in_ok-known.known) whole c.in_ok-steps.ensures.fits c.requires.1.1))

pub returns : goal.returns
returns c =
    IfOk-weaker c.values_in.result _ _
    (λ values h vi is name.
    let whole : IsBody vi c.args.body c.args.finish c.args.inside c.inside.result.now c.in_ok-steps.steps.items (found c.in_ok-known.known) =
    record { nodes_are = c.inside.ensures vi is; steps_are = c.in_ok-steps.ensures.steps vi.types; found_is = c.in_ok-known.ensures } in
    ap (λ r. r name)
    (h vi is
    ∙ body_read vi c.args.body c.args.finish c.args.inside c.inside.result.now c.in_ok-steps.steps.items (found c.in_ok-known.known) (found c.take_turns.new.known) whole
    (c.in_ok-take_turns.ensures vi is)))
    c.values_in.ensures
