use Rattle.std.proofs.Common.{refl}
use Rattle.g_tokens.proofs.Fronts.{end_is, feeds_is, no_feeds}
use Rattle.g_tokens.proofs.front.after_less.Goals as goal

pub returns-in_default : goal.returns-in_default
returns-in_default c = end_is c.args.rest.now 60 refl c.in_default.ensures.cases

pub returns-then-first-eq45 : goal.returns-then-first-eq45
returns-then-first-eq45 c = feeds_is c.args.rest.now c.in-Some.first.now _ c.in-Some.ensures.cases.0 c.if-first-eq45.true

pub returns : goal.returns
returns c = no_feeds c.args.rest.now c.in-Some.first.now _ c.in-Some.ensures.cases.0 c.if-first-eq45.false
