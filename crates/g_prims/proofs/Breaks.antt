-- What the reading of a row refuses breaks off there.
use Rattle.std.proofs.Common.{List, subst}
use Rattle.g_types.specs.declared.ty.Ty.{Ty}
use Rattle.g_values.specs.declared.primitive.Primitive.{Primitive}
use Rattle.g_prims_definitions.specs.Begins.{BreaksOff}
use Rattle.g_prims_definitions.specs.Rows.{row}
use Rattle.g_prims_definitions.proofs.BreakingOff.{breaks_off}
use Rattle.g_prims.specs.Refusals.{IsBreak, IsRefusal}
use Rattle.g_prims.specs.declared.refusal.RowRefused.{RowRefused}
use Rattle.g_prims.specs.declared.refusal.RowRefused.TheVariants.{NoRow, Memory}

pub is_break : (p : Primitive) (ts : List Ty) (e : RowRefused) → IsRefusal (row p) ts e → IsBreak p ts e
is_break p ts (NoRow k) x = subst (BreaksOff p ts) x.1 (breaks_off p ts x.0)
is_break p ts (Memory e) x = tt
