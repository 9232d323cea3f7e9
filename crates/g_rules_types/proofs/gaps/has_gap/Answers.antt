use Rattle.std.proofs.Common.{◌≡◌, ℕ, ◌+◌, ℤ, ap, sym, subst, ◌∙◌, to_z, of_z}
use Rattle.std.specs.Prelude.{int_lt}
use Rattle.std.specs.Int.{w128}
use Rattle.std.proofs.lemmas.Int.{to_z-of_z}
use Rattle.g_rules_types.proofs.Sweeping.{Swept, swept_step, tells, none_at_end, none_from}
use Rattle.g_rules_types.proofs.gaps.has_gap.Goals as goal

pub returns-then-begins_after : goal.returns-then-begins_after
returns-then-begins_after c =
    let next : ℤ = to_z w128 c.loop-interval.next-bits in
    let past : to_z w128 (of_z w128 c.args.past) ≡ c.args.past = to_z-of_z w128 c.args.past (record { sfits = c.ranges.past.sfits }) in
    let low : to_z w128 (of_z w128 c.args.low) ≡ c.args.low = to_z-of_z w128 c.args.low (record { sfits = c.ranges.low.sfits }) in
    let s : Swept c.args.low c.args.past c.args.intervals.now next c.loop-interval.interval-index =
    subst (λ (p : ℤ). Swept c.args.low p c.args.intervals.now next c.loop-interval.interval-index) past
    (subst (λ (l : ℤ). Swept l (to_z w128 (of_z w128 c.args.past)) c.args.intervals.now next c.loop-interval.interval-index) low c.loop-interval.invariant) in
    tells c.args.low c.args.past c.args.intervals.now next c.loop-interval.interval-index s _ (ap (int_lt next) (sym past))
    (none_from c.args.low c.args.past c.args.intervals.now next c.loop-interval.interval-index _ c.loop-interval-test.true c.requires (sym c.begins_after.ensures ∙ c.if-begins_after.true) s)

pub returns : goal.returns
returns c =
    let next : ℤ = to_z w128 c.loop-interval.next-bits in
    let past : to_z w128 (of_z w128 c.args.past) ≡ c.args.past = to_z-of_z w128 c.args.past (record { sfits = c.ranges.past.sfits }) in
    let low : to_z w128 (of_z w128 c.args.low) ≡ c.args.low = to_z-of_z w128 c.args.low (record { sfits = c.ranges.low.sfits }) in
    let s : Swept c.args.low c.args.past c.args.intervals.now next c.loop-interval.interval-index =
    subst (λ (p : ℤ). Swept c.args.low p c.args.intervals.now next c.loop-interval.interval-index) past
    (subst (λ (l : ℤ). Swept l (to_z w128 (of_z w128 c.args.past)) c.args.intervals.now next c.loop-interval.interval-index) low c.loop-interval.invariant) in
    tells c.args.low c.args.past c.args.intervals.now next c.loop-interval.interval-index s _ (ap (int_lt next) (sym past))
    (none_at_end c.args.low c.args.past c.args.intervals.now next c.loop-interval.interval-index c.loop-interval-test.false s)

pub loop-interval-preserved : goal.loop-interval-preserved
loop-interval-preserved c =
    let next : ℤ = to_z w128 c.loop-interval.next-bits in
    let i : ℕ = c.loop-interval.interval-index in
    let past : to_z w128 (of_z w128 c.args.past) ≡ c.args.past = to_z-of_z w128 c.args.past (record { sfits = c.ranges.past.sfits }) in
    let result : to_z w128 (of_z w128 c.advanced_by-next.result) ≡ c.advanced_by-next.result =
    to_z-of_z w128 c.advanced_by-next.result (record { sfits = c.advanced_by-next.type_inv }) in
    subst (λ (n : ℤ). Swept (to_z w128 (of_z w128 c.args.low)) (to_z w128 (of_z w128 c.args.past)) c.args.intervals.now n (i + 1)) (sym result)
    (swept_step (to_z w128 (of_z w128 c.args.low)) (to_z w128 (of_z w128 c.args.past)) c.args.intervals.now next c.advanced_by-next.result i _ c.loop-interval-test.true
    (sym c.begins_after.ensures ∙ c.if-begins_after.false) c.loop-interval.invariant c.advanced_by-next.ensures)
