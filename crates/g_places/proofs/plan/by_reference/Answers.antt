use Rattle.std.proofs.Common.{◌∙◌, ap}
use Rattle.g_values.specs.declared.value.Value.{out-Value}
use Rattle.g_border.specs.Readers.{value_on}
use Rattle.g_crossing.specs.Crossing.{seen_reference}
use Rattle.g_effects.specs.Kinds.{place_at}
use Rattle.g_places.proofs.plan.by_reference.Goals as goal

pub returns : goal.returns
returns c h e is at =
    c.in_ok-plan.ensures h e is at
    ∙ ap (λ v. place_at h e c.args.place.now.lines.now c.args.place.now.body c.args.place.now.finish (seen_reference c.args.reference.now) (out-Value v))
    (c.in_ok-from.ensures ∙ ap (λ r. value_on r c.args.reference.now.from.now) (c.outer-wires.ensures h is))
