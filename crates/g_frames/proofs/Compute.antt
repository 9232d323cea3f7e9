-- All that a row is computed with beside what always unfolds.
use Rattle.std.specs.Fmt as fmt
use Rattle.g_types.specs.declared.ty.Ty as ty
use Rattle.g_values.specs.declared.value.Value as value
use Rattle.g_border.specs.Bodies.{turns}

unfoldable pub everything : Unit {0}
unfolding
    ty.out-Ty value.out-Value fmt.digits turns
    Rattle.g_values.specs.declared.value.Value.TheBlock.shape-the_row-Value-0 Rattle.g_values.specs.declared.value.Value.TheBlock.hidden-the_row-Value-0
    Rattle.g_values.specs.declared.value.Value.TheBlock.shown-the_row-Value-0
    denote.Hole.Carrier.out denote.Hole.Carrier.shown denote.Hole.Carrier.hidden
everything = tt
