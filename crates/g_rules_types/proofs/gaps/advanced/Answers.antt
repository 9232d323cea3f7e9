use Rattle.std.proofs.Common.{◌≡◌, ℤ, false, pos, ◌+ℤ◌, ap, sym, subst, ◌∙◌, to_z, of_z}
use Rattle.std.specs.Prelude.{int_lt}
use Rattle.std.specs.Int.{w128}
use Rattle.std.proofs.lemmas.Int.{to_z-of_z}
use Rattle.g_rules_types.specs.Gaps.{Advances}
use Rattle.g_rules_types.proofs.Sweeping.{past_end}
use Rattle.g_rules_types.proofs.gaps.advanced.Goals as goal

pub returns : goal.returns
returns c =
    let high : to_z w128 (of_z w128 c.args.high) ≡ c.args.high = to_z-of_z w128 c.args.high (record { sfits = c.ranges.high.sfits }) in
    let next : to_z w128 (of_z w128 c.args.next) ≡ c.args.next = to_z-of_z w128 c.args.next (record { sfits = c.ranges.next.sfits }) in
    let is : to_z w128 (of_z w128 c.after.result) ≡ c.args.high +ℤ pos 1 =
    to_z-of_z w128 c.after.result (record { sfits = c.after.type_inv }) ∙ c.after.ensures ∙ ap (λ (h : ℤ). h +ℤ pos 1) high in
    let P : ℤ → Type 0 = λ h. int_lt h (to_z w128 (of_z w128 c.args.next)) ≡ false in
    let Q : ℤ → Type 0 = λ n. int_lt c.args.high n ≡ false in
    subst (Advances c.args.next c.args.past c.args.high) (sym is) (past_end c.args.next c.args.past c.args.high (subst Q next (subst P high c.if-high-next.false)))
