use Rattle.std.proofs.Common.{◌∙◌, ap, map, replicate}
use Rattle.g_prims_definitions.specs.Arithmetic.{numbers_of}
use Rattle.g_values.specs.Numbers.{number}
use Rattle.g_prims_evaluation.proofs.KeptLemmas.{copies}
use Rattle.g_prims_evaluation.proofs.reads.copies_of_number.Goals as goal

pub returns : goal.returns
returns c =
    let r = c.args.x.rep in
    ap (numbers_of r) (ap (map (number r)) (c.in_ok-words.ensures ∙ ap (λ w. replicate c.args.n w) c.word_of.ensures) ∙ copies c.args.x c.args.n)
