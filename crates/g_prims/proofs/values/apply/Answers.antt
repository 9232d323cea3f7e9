use Rattle.std.proofs.Common.{subst, sym}
use Rattle.std.specs.List.{All}
use Rattle.g_prims_evaluation.proofs.ProperOutputs.{proper-outputs}
use Rattle.g_prims_definitions.specs.Conditions.{HasRow}
use Rattle.g_values.specs.Proper.{IsProper}
use Rattle.g_prims.proofs.values.apply.Goals as goal

pub from_list-requires : goal.from_list-requires
from_list-requires c =
    let p = c.args.primitive.now in
    let vs = c.as_slice.result.now in
    let same = sym c.as_slice.ensures.value in
    let row = subst (HasRow p) same c.requires in
    subst (All IsProper) (sym c.in_ok-outs.ensures) (proper-outputs p vs c.as_slice.ensures.proper row)
