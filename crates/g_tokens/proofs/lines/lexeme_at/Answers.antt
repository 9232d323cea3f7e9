use Rattle.std.proofs.Common.{sym, ◌∙◌, ◌-◌, length, drop, arith, length-drop}
use Rattle.std.proofs.lemmas.List.{take_all}
use Rattle.g_tokens.proofs.Gaps.{comment_at, token_next}
use Rattle.g_tokens.proofs.lines.lexeme_at.Goals as goal

pub returns-then-begins_comment : goal.returns-then-begins_comment
returns-then-begins_comment c = comment_at c.args.comments c.args.content.now c.args.at c.requires.within c.requires.filled (sym c.begins_comment.ensures ∙ c.if-begins_comment.true)

pub returns : goal.returns
returns c = token_next c.args.comments c.args.content.now c.args.at c.requires.within c.requires.filled (sym c.begins_comment.ensures ∙ c.if-begins_comment.false) c.in_ok-token.token c.in_ok-token.length (rw (take_all (length c.args.content.now - c.args.at) (drop c.args.at c.args.content.now) (omega (arith, length-drop c.args.at c.args.content.now))) at c.in_ok-token.ensures)
