use Rattle.g_valtext.proofs.Steps.{nums_ok, nums_stop}
use Rattle.g_valtext.proofs.numbers.numbers_value.Goals as goal

pub returns-in-Ok : goal.returns-in-Ok
returns-in-Ok c = nums_ok c.args.rep c.args.tokens.now c.in_ok-rest.rest.now c.in-Ok.rest.now c.in-Ok.numbers c.in_ok-rest.ensures c.in-Ok.ensures.0 c.in-Ok.ensures.1

pub returns-in-Err : goal.returns-in-Err
returns-in-Err c = nums_stop c.args.rep c.args.tokens.now c.in_ok-rest.rest.now c.in-Err.stop c.in_ok-rest.ensures c.in-Err.ensures
