use Rattle.std.proofs.Common.{◌∙◌, ap, pos}
use Rattle.g_prims_definitions.specs.Arithmetic as spec
use Rattle.g_values.specs.Number.{num_of}
use Rattle.g_prims_evaluation.proofs.QuotientLemmas.{num_of-word}
use Rattle.g_prims_evaluation.proofs.numbers.quotient.Goals as goal

pub returns : goal.returns
returns c =
    c.number_of_word.ensures
    ∙ ap (λ w. num_of c.args.rep (pos w)) c.quotient_word.ensures
    ∙ num_of-word c.args.rep (spec.quotient c.args.x.n c.args.y.n)
