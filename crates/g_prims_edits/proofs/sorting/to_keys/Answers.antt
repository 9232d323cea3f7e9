use Rattle.std.proofs.Common.{◌+◌, ◌%◌, ◌^◌, ◌∙◌, ap, map}
use Rattle.g_prims_edits.proofs.sorting.to_keys.Goals as goal

pub returns : goal.returns
returns c = c.add_to_each.ensures ∙ ap (λ b. map (λ w. (w + b) % 2 ^ 64) c.args.words.now.items) c.sign.ensures
