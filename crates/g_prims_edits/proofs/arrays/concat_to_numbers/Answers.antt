use Rattle.std.proofs.Common.{ap, ◌∙◌}
use Rattle.g_values.specs.Value.{type_of}
use Rattle.g_prims_edits.proofs.TypeLemmas.{same_rep}
use Rattle.g_prims_edits.proofs.arrays.concat_to_numbers.Goals as goal

pub concat_numbers-requires : goal.concat_numbers-requires
concat_numbers-requires c = same_rep c.args.xs c.in-Nums.ys (c.requires ∙ ap type_of c.in-Nums.is)
