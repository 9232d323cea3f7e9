use Rattle.std.proofs.Common.{rules, ℤ}
use mir.Syntax.{w128}
use mir.Val.{SFits, to_z, of_z}
use Rattle.g_rules_selectors.specs.Taken.{Intervals, IsLastFrom}
use Rattle.std.proofs.Common.{Some}
use Rattle.g_rules_selectors.proofs.Ends.{passed, unpassed, last_found}
use Rattle.std.specs.Ordering.{int_cmp}
use Rattle.std.specs.BTreeMap.Range.{IsRangeOf}
use Rattle.std.specs.declared.ops.Bound.TheVariants.{Included, Unbounded}
use Rattle.g_rules_selectors.proofs.intervals.last_from.Goals as goal

pub returns-in-Some : goal.returns-in-Some
returns-in-Some c =
    let m : Intervals = c.args.known.now in
    let l : ℤ = c.in-Some.low.now in
    let h : ℤ = c.in-Some.high.now in
    let low : SFits w128 c.in-Some.low.now = search rules in
    let high : SFits w128 c.in-Some.high.now = search rules in
    passed (λ x. IsLastFrom m c.args.at (Some (record { low = x; high = to_z w128 (of_z w128 h) }))) l low
    (passed (λ y. IsLastFrom m c.args.at (Some (record { low = l; high = y }))) h high
    (last_found m c.args.at c.range.result c.next_back.new.self l h
    (unpassed (λ x. IsRangeOf int_cmp Unbounded (Included x) m c.range.result) c.args.at c.ranges.at (c.range.ensures.in_range tt)) c.in-Some.ensures.steps))
