use Rattle.std.proofs.Common.{rules, ◌≡◌, ◌||◌, ℤ, ◌≤ℤ◌}
use mir.Syntax.{w128}
use mir.Val.{SFits, to_z, of_z}
use Rattle.g_rules_selectors.specs.declared.intervals.Interval.{Interval}
use Rattle.g_rules_selectors.specs.Clashes.{meet}
use Rattle.g_rules_selectors.proofs.Meeting.{over_both, over_rises}
use Rattle.g_rules_selectors.proofs.Ends.{passed}
use Rattle.g_rules_selectors.proofs.intervals.over.Goals as goal

pub returns-clause-joins : goal.returns-clause-joins
returns-clause-joins c = λ met c' d.
    let a : Interval = c.args.a in
    let b : Interval = c.args.b in
    let l : ℤ = c.low_of.result in
    let h : ℤ = c.high_of.result in
    let low : SFits w128 c.low_of.result = search rules in
    let high : SFits w128 c.high_of.result = search rules in
    passed (λ x. meet c' d x (to_z w128 (of_z w128 h)) ≡ (meet c' d a.low a.high || meet c' d b.low b.high)) l low
    (passed (λ y. meet c' d l y ≡ (meet c' d a.low a.high || meet c' d b.low b.high)) h high
    (over_both a.low a.high b.low b.high l h c' d met c.low_of.ensures c.high_of.ensures))

pub returns-clause-rises : goal.returns-clause-rises
returns-clause-rises c = λ met.
    let a : Interval = c.args.a in
    let b : Interval = c.args.b in
    let l : ℤ = c.low_of.result in
    let h : ℤ = c.high_of.result in
    let low : SFits w128 c.low_of.result = search rules in
    let high : SFits w128 c.high_of.result = search rules in
    passed (λ x. x ≤ℤ to_z w128 (of_z w128 h)) l low (passed (λ y. l ≤ℤ y) h high (over_rises a.low a.high b.low b.high l h met c.low_of.ensures c.high_of.ensures))
