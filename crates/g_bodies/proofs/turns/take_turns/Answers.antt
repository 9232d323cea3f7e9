use Rattle.std.proofs.Common.{◌≡◌, ◌+◌, suc, length, ap, ◌∙◌, arith}
use Rattle.g_bodies.specs.Known.{found}
use Rattle.g_bodies.specs.Turns.{after}
use Rattle.g_bodies.proofs.turns.take_turns.Goals as goal

pub loop-preserved : goal.loop-preserved
loop-preserved c =
    record {
      turns = λ vi is m.
          let next : c.loop.counter + suc m ≡ c.loop.counter + 1 + m = omega arith in
          c.in_ok-take_turn.ensures.turn vi is m ∙ c.loop.invariant.turns vi is (suc m) ∙ ap (after vi c.args.steps.items (found c.args.known.now)) next;
      fits = (let kept = c.loop.invariant.fits in (kept.0, (kept.1.0, c.in_ok-take_turn.ensures.fits kept.0 kept.1.0 kept.1.1)));
    }

pub returns : goal.returns
returns c = λ vi is.
    let over = c.loop-test.false in
    let within = c.loop.auto.counter-end in
    let count = c.len-end.ensures in
    let all : c.loop.counter + 0 ≡ length c.args.steps.items = omega (arith, over, within, count) in
    c.loop.invariant.turns vi is 0 ∙ ap (after vi c.args.steps.items (found c.args.known.now)) all
