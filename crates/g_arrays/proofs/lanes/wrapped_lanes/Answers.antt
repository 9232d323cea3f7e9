use Rattle.std.proofs.Common.{◌-◌, bit_and}
use Rattle.g_types.specs.Rep.{half, size}
use Rattle.g_values.specs.Canonical.{canonical}
use Rattle.g_arrays.proofs.LaneLemmas.{chained, plus, minus, wrapped_is}
use Rattle.g_arrays.proofs.lanes.wrapped_lanes.Goals as goal

pub returns : goal.returns
returns c =
    rw (c.half-half.ensures, c.mask-mask.ensures)
    (chained plus bit_and minus (canonical c.args.rep) (half c.args.rep) (size c.args.rep - 1) (wrapped_is c.args.rep) 8 c.args.a c.requires)
