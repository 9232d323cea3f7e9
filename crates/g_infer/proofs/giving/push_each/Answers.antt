use Rattle.std.proofs.Common.{ℕ, ◌+◌, List, ◌++◌, drop, map, sym, ap, ◌∙◌}
use Rattle.std.specs.Prelude.{Option}
use Rattle.std.specs.Option.{option_copied}
use Rattle.g_types.specs.declared.ty.Ty.{Ty}
use Rattle.g_diagram.specs.Lines.{Wire}
use Rattle.g_typing.specs.Typing.{given, given_each}
use Rattle.g_infer.specs.Given.{seen_given}
use Rattle.g_infer.proofs.Outputs.{each_step}
use Rattle.g_rules_types.proofs.Loops.{one_more}
use Rattle.g_infer.proofs.giving.push_each.Goals as goal

pub loop-k-preserved : goal.loop-k-preserved
loop-k-preserved c =
    let d : ℕ = c.args.diagram in
    let k : ℕ = c.loop-k.k in
    let ts : List Ty = c.args.types.now in
    let w : Wire = c.index-wires-k.result in
    let rest : List Wire = drop (k + 1) c.args.wires.now in
    one_more (λ (ws : List Wire). given_each d ws (drop k ts)) (λ (ws : List Wire). given_each d ws (drop (k + 1) ts)) (given d w (option_copied c.get.result))
    c.args.wires.now k w (map seen_given c.loop-k.givens.items) (map seen_given c.push_copy.new.givens.items)
    (map seen_given c.args.givens.now.items ++ given_each d c.args.wires.now ts) c.loop-k-test.true c.index-wires-k.is c.in_ok-push_copy.ensures
    (each_step d k w rest ts ∙ ap (λ (o : Option Ty). given d w o ++ given_each d rest (drop (k + 1) ts)) (sym c.get.ensures.value)) c.loop-k.invariant
