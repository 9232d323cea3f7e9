use Rattle.std.proofs.Common.{◌++◌, ◌∙◌, ap}
use Rattle.g_values.specs.Text.{text}
use Rattle.g_valtext.proofs.Back.{printed_only}
use Rattle.g_valtext.proofs.print.print_value.Goals as goal

pub returns-clause-only : goal.returns-clause-only
returns-clause-only c = λ proper null v is.
    printed_only c.args.value.now c.from_vec.result (c.from_vec.ensures ∙ c.in_ok-push_value.ensures.text ∙ ap (λ l. l ++ text c.args.value.now) c.new-out.ensures.items) c.in_ok-push_value.ensures.ranged proper null v is
