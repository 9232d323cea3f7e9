use Rattle.std.proofs.Common.{refl}
use Rattle.std.specs.Option.{option_map_or}
use Rattle.g_prims_definitions.specs.Arithmetic.{nothing}
use Rattle.g_border.specs.Lines.{entering}
use Rattle.g_places.proofs.PlaceLemmas.{enters}
use Rattle.g_places.proofs.body.inside.Goals as goal

pub returns : goal.returns
returns c r is =
    c.in_ok-given.ensures (record (entering r) { referred = option_map_or (λ v. v.now) c.args.referred nothing })
    (enters r c.args.place.now.first c.args.place.now.lines.now _ (option_map_or (λ v. v.now) c.args.referred nothing) is refl refl refl refl)
