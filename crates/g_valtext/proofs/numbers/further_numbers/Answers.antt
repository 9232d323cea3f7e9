use Rattle.std.proofs.Common.{List, ap, ◌∙◌, ◌+◌, ◌-◌}
use Rattle.g_grammar.specs.Grammar.{read}
use Rattle.g_grammar.specs.Reads.{with_front}
use Rattle.g_values.specs.Numbers.{Numbers}
use Rattle.g_valtext.specs.Spellings.{number, further, most_further}
use Rattle.g_valtext.proofs.Turns.{further_more, further_last, further_stops, further_end, further_end_stops}
use Rattle.g_valtext.proofs.numbers.further_numbers.Goals as goal

pub returns-in-Err : goal.returns-in-Err
returns-in-Err c =
    further_stops (number c.args.rep) c.loop.all.all most_further c.loop.counter c.loop.rest.now _ c.in-Err.stop c.loop-test.true c.in-Err.ensures c.loop.invariant.read

pub returns-in_default : goal.returns-in_default
returns-in_default c =
    let e = rw c.in_default.is at c.in-Ok.ensures.1 in
    (c.loop.invariant.rep, further_last (number c.args.rep) c.loop.all.all most_further c.loop.counter c.loop.rest.now _ c.in-Ok.found.1.now c.loop-test.true e c.loop.invariant.read)

pub loop-preserved : goal.loop-preserved
loop-preserved c =
    let e = rw c.in-Some.is at c.in-Ok.ensures.1 in
    let pushed = c.in_ok-push.ensures.ok in
    let all = ap (λ (xs : Numbers). xs.all) pushed in
    record {
      rep = ap (λ (xs : Numbers). xs.rep) pushed ∙ c.loop.invariant.rep;
      read =
          ap (λ (l : List _). with_front l (read (further (number c.args.rep) (most_further - (c.loop.counter + 1))) c.in-Ok.found.1.now)) all
          ∙ further_more (number c.args.rep) c.loop.all.all most_further c.loop.counter c.loop.rest.now _ c.in-Ok.found.1.now c.in-Some.number.n c.loop-test.true e c.loop.invariant.read;
    }

pub returns-in-Ok-close_bracket : goal.returns-in-Ok-close_bracket
returns-in-Ok-close_bracket c = (c.loop.invariant.rep, further_end (number c.args.rep) c.loop.all.all most_further c.loop.counter c.loop.rest.now _ c.in-Ok-close_bracket.rest.now c.loop-test.false c.in-Ok-close_bracket.ensures c.loop.invariant.read)

pub returns : goal.returns
returns c = further_end_stops (number c.args.rep) c.loop.all.all most_further c.loop.counter c.loop.rest.now _ c.in-Err-close_bracket.stop c.loop-test.false c.in-Err-close_bracket.ensures c.loop.invariant.read
