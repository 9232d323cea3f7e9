use Rattle.std.proofs.Common.{◌∙◌, ap, sym, subst}
use Rattle.std.specs.Prelude.{Some}
use Rattle.std.specs.Option.{option_map}
use Rattle.g_border.specs.Readers.{Reader}
use Rattle.g_crossing.specs.Crossing.{seen_reference}
use Rattle.g_effects.specs.Requests.{placement}
use Rattle.g_effects.specs.declared.plan.Plan.TheVariants as plan
use Rattle.g_places.specs.Places.{GivesProper}
use Rattle.g_places.proofs.FitLemmas.{live_ready}
use Rattle.g_places.proofs.plan.live_place.Goals as goal

pub values_by-requires : goal.values_by-requires
values_by-requires c =
    let ready = live_ready c.args.here.now c.args.place.now c.args.live c.in-Some.referred c.requires (λ h is. sym c.in-Some.is ∙ c.in_ok-referred.ensures h is) in
    (ready.0, (ready.1.0, ready.1.1.0))

pub placement-requires : goal.placement-requires
placement-requires c =
    let ready = live_ready c.args.here.now c.args.place.now c.args.live c.in-Some.referred c.requires (λ h is. sym c.in-Some.is ∙ c.in_ok-referred.ensures h is) in
    (ready.0, (ready.1.0, subst (λ (r : Reader). GivesProper ready.0 c.args.place.now r) (sym (c.in_ok-values.ensures ready.0 ready.1.0)) ready.1.1.1))

pub returns : goal.returns
returns c h e is at =
    ap (λ q. Some (plan.Placement q)) (c.in_ok-placement.ensures h e c.in-Some.referred is at (c.in_ok-values.ensures h is))
    ∙ ap (λ o. option_map (λ v. plan.Placement (placement h e c.args.place.now.lines.now c.args.place.now.body c.args.place.now.finish (seen_reference c.args.reference.now) c.args.elem.now c.args.live v)) o)
    (sym c.in-Some.is ∙ c.in_ok-referred.ensures h is)
