use Rattle.std.proofs.Common.{◌≡◌, true, refl, sym, ap, ◌∙◌}
use Rattle.g_tokens.specs.Tokens.{begins, is_digit}
use Rattle.g_tokens.proofs.Fronts.{end_is, arrow_is, no_arrow}
use Rattle.g_tokens.proofs.Numerals.{signed}
use Rattle.g_tokens.proofs.front.after_minus.Goals as goal

pub returns-in_default : goal.returns-in_default
returns-in_default c = end_is c.args.rest.now 45 refl c.in_default.ensures.cases

pub returns-then-first-eq62 : goal.returns-then-first-eq62
returns-then-first-eq62 c = arrow_is c.args.rest.now c.in-Some.first.now _ c.in-Some.ensures.cases.0 c.if-first-eq62.true

pub returns-then-is_digit : goal.returns-then-is_digit
returns-then-is_digit c =
    let first : begins is_digit c.args.rest.now ≡ true = ap (begins is_digit) c.in-Some.ensures.cases.0 ∙ sym c.is_digit.ensures ∙ c.if-is_digit.true in
    signed c.args.rest.now _ _ first c.number_at-token.ensures.token c.number_at-token.ensures.length

pub returns : goal.returns
returns c = no_arrow c.args.rest.now c.in-Some.first.now _ c.in-Some.ensures.cases.0 c.if-first-eq62.false (sym c.is_digit.ensures ∙ c.if-is_digit.false)
