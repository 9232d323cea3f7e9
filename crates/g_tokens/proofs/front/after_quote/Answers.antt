use Rattle.std.proofs.Common.{arith, ◌∙◌, sym}
use Rattle.g_tokens.proofs.TextEnds.{quoted_front, unclosed_front, text_within}
use Rattle.g_tokens.proofs.front.after_quote.Goals as goal

pub overflow_add-result : goal.overflow_add-result
overflow_add-result c = let le = text_within c.args.rest.now c.in-Some.bytes c.in-Some.length (sym c.in-Some.is ∙ c.in_ok-bytes.ensures) in omega arith

pub returns-in-Some : goal.returns-in-Some
returns-in-Some c = quoted_front c.args.rest.now c.in-Some.bytes c.in-Some.length (sym c.in-Some.is ∙ c.in_ok-bytes.ensures)

pub returns-in-None : goal.returns-in-None
returns-in-None c = unclosed_front c.args.rest.now (sym c.in-None.is ∙ c.in_ok-bytes.ensures)
