use Rattle.std.proofs.Common.{sym, subst}
use Rattle.g_values.specs.declared.value.Value.{Value}
use Rattle.g_places.specs.Places.{IsReady}
use Rattle.g_places.proofs.plan.null_place.Goals as goal

pub values_by-requires : goal.values_by-requires
values_by-requires c = subst (λ (v : Value). IsReady c.args.here.now c.args.place.now v) (sym c.in_ok-value.ensures.value) c.requires
