use Rattle.std.proofs.Common.{◌%◌, ap, ◌∙◌, map}
use Rattle.g_types.specs.declared.rep.Rep.TheVariants.{U8}
use Rattle.g_prims_definitions.specs.Bits.{bits}
use Rattle.g_prims_edits.proofs.ByteLemmas.{bytes-numbers}
use Rattle.g_prims_edits.proofs.strings.number_bytes.Goals as goal

pub returns : goal.returns
returns c =
    c.in_ok-bytes.ensures
    ∙ ap (map (λ w. w % 256)) c.as_slice.ensures.value
    ∙ bytes-numbers c.xs.inside.rep c.xs.inside.words.items
    ∙ ap (λ k. map (bits U8) k.all) c.xs.view_is
