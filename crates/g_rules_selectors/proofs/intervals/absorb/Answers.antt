use Rattle.std.proofs.Common.{rules, ◌≤ℤ◌, ◌<ℤ◌, refl, arith}
use Rattle.std.proofs.lemmas.Int.{ints}
use mir.Syntax.{w128}
use mir.Val.{SFits}
use Rattle.g_rules_selectors.specs.declared.intervals.Interval.{Interval}
use Rattle.g_rules_selectors.specs.Taken.{Intervals, IsLastFrom}
use Rattle.std.proofs.Common.{Some, None}
use Rattle.g_rules_selectors.proofs.Ends.{unpassed, none_from, last_apart, absorbed}
use Rattle.g_rules_selectors.proofs.intervals.absorb.Goals as goal

pub returns-in_default-clause-absorbs : goal.returns-in_default-clause-absorbs
returns-in_default-clause-absorbs c = λ apart rises.
    let m : Intervals = c.args.known.now in
    let high : SFits w128 c.args.interval.high = search rules in
    (refl, none_from m c.args.interval.low c.args.interval.high apart (unpassed (λ x. IsLastFrom m x None) c.args.interval.high high c.in_default.ensures))

pub returns-then-last-interval-clause-absorbs : goal.returns-then-last-interval-clause-absorbs
returns-then-last-interval-clause-absorbs c = λ apart rises.
    let m : Intervals = c.args.known.now in
    let i : Interval = c.args.interval in
    let last : Interval = c.in-Some.last in
    let high : SFits w128 c.args.interval.high = search rules in
    let lt : c.in-Some.last.high <ℤ c.args.interval.low = grind (arith, ints, c.if-last-interval.true) in
    (refl, last_apart m i.low i.high last apart (unpassed (λ x. IsLastFrom m x (Some last)) c.args.interval.high high c.in-Some.ensures) rises lt)

pub returns-clause-absorbs : goal.returns-clause-absorbs
returns-clause-absorbs c = λ apart rises.
    let m : Intervals = c.args.known.now in
    let i : Interval = c.args.interval in
    let last : Interval = c.in-Some.last in
    let high : SFits w128 c.args.interval.high = search rules in
    let up : c.args.interval.low ≤ℤ c.in-Some.last.high = grind (arith, ints, c.if-last-interval.false) in
    absorbed m c.remove-high.new.self last i c.over.result apart rises (unpassed (λ x. IsLastFrom m x (Some last)) c.args.interval.high high c.in-Some.ensures) up c.remove-high.ensures.ordered
    c.remove-high.ensures.updates.0 c.over.ensures.joins c.over.ensures.rises
