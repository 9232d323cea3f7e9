use Rattle.std.proofs.Common.{sym, ◌∙◌}
use Rattle.g_tokens.proofs.Gaps.{space_at, none_at}
use Rattle.g_tokens.proofs.lines.next_lexeme.Goals as goal

pub loop-at-preserved : goal.loop-at-preserved
loop-at-preserved c = sym (space_at c.args.comments c.args.content.now c.loop-at.at c.loop-at-test.true (sym c.is_space.ensures ∙ c.if-not-is_space.false)) ∙ c.loop-at.invariant

pub returns : goal.returns
returns c = sym c.loop-at.invariant ∙ none_at c.args.comments c.args.content.now c.loop-at.at c.loop-at-test.false
