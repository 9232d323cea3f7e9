use Rattle.std.proofs.Common.{◌∙◌, ap}
use Rattle.g_prims_definitions.specs.Arithmetic.{left, plus}
use Rattle.g_values.specs.declared.num.Num.{Num}
use Rattle.g_arrays.proofs.Conversions.{left-is_coerced}
use Rattle.g_arrays.proofs.elements.converted_numbers.Goals as goal

pub returns : goal.returns
returns c =
    c.left.ensures
    ∙ ap (λ (y : Num). left plus c.args.rep c.args.kept y.n) c.wrapped.ensures
    ∙ left-is_coerced c.args.rep c.args.kept
