use Rattle.std.proofs.Common.{true, arith, sym}
use Rattle.g_listing_grammar.specs.Types.{types}
use Rattle.g_listing_forms.proofs.Steps.{types_gives, others_more}
use Rattle.g_listing_forms.proofs.types.+types.Goals as goal

pub more_types-loop-preserved : goal.more_types-loop-preserved
more_types-loop-preserved t c =
    let e = rw c.if-not-again.false at c.in_ok-again.ensures in
    rw c.in_ok-push.ensures (others_more (types c.args.levels true) c.loop.items 63 c.loop.counter c.loop.rest.now c.in_ok-again.after.now c.in_ok-ty.after.now c.in_ok-ty.ty _ c.loop-test.true e c.in_ok-ty.ensures c.loop.invariant)

pub read_type-returns-in-Some-type_first : goal.read_type-returns-in-Some-type_first
read_type-returns-in-Some-type_first t c =
    types_gives c.args.levels c.args.arrays c.args.tokens.now c.in-Some.token.now c.in-Some.rest.now c.in-Some-type_first.word c.type_rest.result (omega arith)
    c.in-Some.ensures.cases.0 (sym c.in-Some-type_first.ensures) c.type_rest.ensures
