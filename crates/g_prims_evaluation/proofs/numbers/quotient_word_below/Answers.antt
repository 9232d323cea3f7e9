use Rattle.std.proofs.Common.{rules, ◌∙◌, ap, sym}
use Rattle.g_values.specs.Numbers.{word}
use Rattle.g_prims_evaluation.proofs.QuotientLemmas.{quotient-below}
use Rattle.g_prims_evaluation.proofs.numbers.quotient_word_below.Goals as goal

pub returns : goal.returns
returns c = search rules ∙ ap word (sym (quotient-below c.args.x.n c.args.y.n c.requires))
