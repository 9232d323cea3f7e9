use Rattle.std.proofs.Common.{sym, ap, ◌∙◌, subst, arith}
use Rattle.g_rules_selectors.specs.Taken.{Intervals, AreApart, meets_any}
use Rattle.std.proofs.lemmas.Result.{on_ok_weaker}
use Rattle.g_rules_selectors.proofs.Ends.{whole_added}
use Rattle.g_rules_selectors.proofs.intervals.add.Goals as goal

pub returns-in-None : goal.returns-in-None
returns-in-None c =
    on_ok_weaker c.put.result (λ given apart.
    let now = c.in-None.ensures.absorbs (c.loop.invariant.apart apart) (c.loop.invariant.rises apart) in
    let P : Intervals → Type 0 = AreApart in
    let none = ap (λ (k : Intervals). meets_any k c.loop.whole.low c.loop.whole.high) now.0 ∙ now.1 in
    whole_added c.args.known.now c.loop.known c.absorb.new.known c.put.new.known c.args.interval c.loop.whole now.0
    (given (subst P (sym now.0) (c.loop.invariant.apart apart)) (c.loop.invariant.rises apart) none) (c.loop.invariant.numbers apart)) c.put.ensures

pub loop-preserved : goal.loop-preserved
loop-preserved c =
    let now = λ (apart : AreApart c.args.known.now). c.in-Some.ensures.absorbs (c.loop.invariant.apart apart) (c.loop.invariant.rises apart) in
    record {
      apart = λ apart. (now apart).0;
      rises = λ apart. (now apart).1;
      numbers = λ apart a b. (now apart).2 a b ∙ c.loop.invariant.numbers apart a b;
      left = omega (arith, c.in-Some.ensures.fewer, c.loop.invariant.left);
    }
