use Rattle.std.proofs.Common.{ap, sym, ◌∙◌}
use Rattle.std.specs.Prelude.{Ok}
use Rattle.g_grammar.specs.Grammar.{then}
use Rattle.g_values.specs.declared.value.Value.TheVariants as value
use Rattle.g_values.specs.Number.{num_of}
use Rattle.g_valtext.proofs.Steps.{read-Number}
use Rattle.g_valtext.proofs.plain.number_value.Goals as goal

pub returns : goal.returns
returns c =
    let rep = c.args.rep in
    read-Number rep c.args.tokens.now
    ∙ ap (λ r. then r (λ n mid. Ok (value.Num (num_of rep n), mid))) c.in_ok-number.ensures.1
    ∙ ap (λ x. Ok (value.Num x, c.in_ok-number.rest.now)) (sym c.in_ok-number.ensures.0)
