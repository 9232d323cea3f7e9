use Rattle.std.proofs.Common.{rules}
use mir.Syntax.{w128}
use mir.Val.{SFits, to_z, of_z}
use Rattle.g_rules_selectors.specs.declared.intervals.Interval.{Interval}
use Rattle.g_rules_selectors.specs.Taken.{Intervals}
use Rattle.g_rules_selectors.proofs.Ends.{With, unpassed, put_in}
use Rattle.g_rules_selectors.proofs.intervals.put.Goals as goal

pub returns : goal.returns
returns c = λ apart rises none.
    let m : Intervals = c.args.known.now in
    let n : Intervals = c.insert.new.self in
    let i : Interval = c.args.interval in
    let low : SFits w128 c.args.interval.low = search rules in
    let high : SFits w128 c.args.interval.high = search rules in
    put_in m n i apart c.in_ok-insert.ensures.ordered rises none
    (unpassed (λ x. With m n x i.high) c.args.interval.low low (unpassed (λ y. With m n (to_z w128 (of_z w128 i.low)) y) c.args.interval.high high c.in_ok-insert.ensures.updates.0))
