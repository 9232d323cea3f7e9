-- Types of values, by the values' variants.
use Rattle.std.proofs.Common.{◌≡◌, ap, sym, ◌∙◌}
use Rattle.g_types.specs.declared.rep.Rep.{Rep}
use Rattle.g_types.specs.declared.rep.Rep.TheVariants.{I8}
use Rattle.g_types.specs.declared.ty.Ty.{Ty, out-Ty}
use Rattle.g_types.specs.declared.ty.Ty.TheVariants as ty
use Rattle.g_types.specs.declared.ty.Ty.TheOpen.{Ty-F}
use Rattle.g_values.specs.Numbers.{Numbers}
use Rattle.g_values.specs.Value.{type_of, type_step}
use Rattle.g_values.specs.declared.value.Value.TheVariants as value
use Rattle.g_values.specs.declared.value.Value.TheOpen.{Value-F}
use Rattle.g_values.specs.declared.value.Value.TheFolds.{fold-roll-Value}

pub type-Nums : (xs : Numbers) → type_of (value.Nums xs) ≡ ty.Arr (ty.Num xs.rep)
type-Nums xs = ap type_of (sym (value.rolls-Nums xs)) ∙ fold-roll-Value Ty type_step (Value-F.Nums xs)

rep_at : Ty-F Ty → Rep
rep_at (Ty-F.Num r) = r
rep_at _ = I8

abbrev rep_in : Ty-F Ty → Rep
rep_in (Ty-F.Arr t) = rep_at (out-Ty t)
rep_in _ = I8

abbrev item_rep : Ty → Rep
item_rep t = rep_in (out-Ty t)

item_rep_of : (r : Rep) → item_rep (ty.Arr (ty.Num r)) ≡ r
unfolding rep_at
item_rep_of r = ap rep_in (ty.outs-Arr (ty.Num r)) ∙ ap rep_at (ty.outs-Num r)

pub same_rep : (xs ys : Numbers) → type_of (value.Nums xs) ≡ type_of (value.Nums ys) → xs.rep ≡ ys.rep
same_rep xs ys e = sym (item_rep_of xs.rep) ∙ ap item_rep (sym (type-Nums xs) ∙ e ∙ type-Nums ys) ∙ item_rep_of ys.rep
