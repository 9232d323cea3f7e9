use Rattle.std.proofs.Common.{◌≡◌, true, sym, ap, ◌∙◌, refl, arith}
use Rattle.g_tokens.specs.Tokens.{begins, is_digit, is_letter}
use Rattle.g_tokens.proofs.Fronts.{alone_front, no_front}
use Rattle.g_tokens.proofs.Numerals.{plain}
use Rattle.g_tokens.proofs.front.token_at.Goals as goal

pub returns-then-is_digit : goal.returns-then-is_digit
returns-then-is_digit c =
    let first : begins is_digit c.args.bytes.now ≡ true = ap (begins is_digit) c.in-Some.ensures.cases.0 ∙ sym c.is_digit.ensures ∙ c.if-is_digit.true in
    plain c.args.bytes.now _ _ first c.number_at.ensures.token c.number_at.ensures.length

pub returns-in-Some-mark_alone : goal.returns-in-Some-mark_alone
returns-in-Some-mark_alone c = rw c.in-Some.ensures.cases.0 (alone_front c.in-Some.first.now c.in-Some.rest.now c.in-Some-mark_alone.mark c.in-Some-mark_alone.ensures)

pub returns-in-None : goal.returns-in-None
returns-in-None c =
    rw c.in-Some.ensures.cases.0
    (no_front c.in-Some.first.now c.in-Some.rest.now (sym c.is_letter.ensures ∙ c.if-is_letter.false) (sym c.is_digit.ensures ∙ c.if-is_digit.false)
    (λ e. omega (arith, e)) (λ e. omega (arith, e)) (λ e. omega (arith, e)) (λ e. omega (arith, e)) c.in-None.ensures _ refl)
