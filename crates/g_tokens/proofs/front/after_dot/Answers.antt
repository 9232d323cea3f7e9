use Rattle.std.proofs.Common.{refl}
use Rattle.g_tokens.proofs.Fronts.{end_is, dots_is, no_dots}
use Rattle.g_tokens.proofs.front.after_dot.Goals as goal

pub returns-in_default : goal.returns-in_default
returns-in_default c = end_is c.args.rest.now 46 refl c.in_default.ensures.cases

pub returns-then-first-eq46 : goal.returns-then-first-eq46
returns-then-first-eq46 c = dots_is c.args.rest.now c.in-Some.first.now _ c.in-Some.ensures.cases.0 c.if-first-eq46.true

pub returns : goal.returns
returns c = no_dots c.args.rest.now c.in-Some.first.now _ c.in-Some.ensures.cases.0 c.if-first-eq46.false
