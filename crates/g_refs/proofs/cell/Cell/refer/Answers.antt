use Rattle.std.proofs.Common.{sym, subst}
use Rattle.g_types.specs.declared.ty.Ty.{Ty}
use Rattle.g_types.specs.declared.ty.Ty.TheVariants as ty
use Rattle.g_values.specs.Spelled.{IsSpelled}
use Rattle.g_shared.proofs.References.{proper_cell_ref}
use Rattle.g_refs.proofs.cell.Cell.refer.Goals as goal

pub one_value-requires : goal.one_value-requires
one_value-requires c = proper_cell_ref _ (subst (λ (t : Ty). IsSpelled (ty.ValueRef t)) (sym c.in_ok-elem.ensures) c.self.invariant.spelled)
