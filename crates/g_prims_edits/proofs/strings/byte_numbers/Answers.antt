use Rattle.std.proofs.Common.{◌∙◌, ap, map, arith}
use Rattle.g_types.specs.declared.rep.Rep.TheVariants.{U8}
use Rattle.g_values.specs.Numbers.{number}
use Rattle.g_prims_definitions.specs.Arithmetic.{numbers_of}
use Rattle.g_prims_edits.proofs.ArrayLemmas.{are_words-same}
use Rattle.g_prims_edits.proofs.ByteLemmas.{are_bytes, are_words-bytes, numbers-bytes}
use Rattle.g_prims_edits.proofs.strings.byte_numbers.Goals as goal

pub invariant_of-result : goal.invariant_of-result
invariant_of-result c =
    let bytes = c.args.bytes.now in
    are_words-same U8 c.in_ok-words.words.items bytes c.in_ok-words.ensures (are_words-bytes bytes (are_bytes bytes (λ i. let h = c.type_inv.bytes i in omega arith)))

pub returns : goal.returns
returns c =
    let bytes = c.args.bytes.now in
    ap (numbers_of U8) (ap (map (number U8)) c.in_ok-words.ensures ∙ numbers-bytes bytes (are_bytes bytes (λ i. let h = c.type_inv.bytes i in omega arith)))
