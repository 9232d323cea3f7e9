use Rattle.std.proofs.Common.{rules, ◌≤ℤ◌, ◌<ℤ◌, sym, arith}
use Rattle.std.proofs.lemmas.Int.{ints}
use mir.Syntax.{w128}
use mir.Val.{SFits}
use Rattle.g_rules_selectors.specs.declared.intervals.Interval.{Interval}
use Rattle.g_rules_selectors.specs.Taken.{Intervals, IsLastFrom}
use Rattle.std.proofs.Common.{Some, None}
use Rattle.g_rules_selectors.proofs.Ends.{unpassed, none_from, last_meets, falling_meets}
use Rattle.g_rules_selectors.proofs.intervals.meets.Goals as goal

pub returns-then-interval : goal.returns-then-interval
returns-then-interval c = λ apart.
    let lt : c.args.interval.high <ℤ c.args.interval.low = grind (arith, ints, c.if-interval.true) in
    sym (falling_meets c.args.known.now c.args.interval.low c.args.interval.high lt)

pub returns-in-None : goal.returns-in-None
returns-in-None c = λ apart.
    let m : Intervals = c.args.known.now in
    let high : SFits w128 c.args.interval.high = search rules in
    sym (none_from m c.args.interval.low c.args.interval.high apart (unpassed (λ x. IsLastFrom m x None) c.args.interval.high high c.in-None.ensures))

pub returns-in-Some : goal.returns-in-Some
returns-in-Some c = λ apart.
    let m : Intervals = c.args.known.now in
    let i : Interval = c.args.interval in
    let last : Interval = c.in-Some.last in
    let high : SFits w128 c.args.interval.high = search rules in
    let le : c.args.interval.low ≤ℤ c.args.interval.high = grind (arith, ints, c.if-interval.false) in
    let end : SFits w128 c.in-Some.last.high = search rules in
    let low : SFits w128 c.args.interval.low = search rules in
    let same = last_meets m i.low i.high last apart (unpassed (λ x. IsLastFrom m x (Some last)) c.args.interval.high high c.in-Some.ensures) le in
    grind (arith, ints, same)
