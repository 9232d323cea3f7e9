use Rattle.std.proofs.Common.{◌≡◌, ◌++◌, reverse, ap, sym, ◌∙◌, subst}
use Rattle.std.specs.Prelude.{Option, OnOk}
use Rattle.std.proofs.lemmas.List.{append-nil}
use Rattle.g_hier.specs.declared.linked.Outline.{Outline}
use Rattle.g_hier.specs.LinkOrder.{placed_by}
use Rattle.g_hier.proofs.spaces.push_call.Goals as goal

pub returns-in-None : goal.returns-in-None
returns-in-None c = sym (
    ap (λ (o : Option Outline). c.args.pending.now.items ++ reverse (placed_by o c.args.call.vi (record { space = c.args.space; line = c.args.call.line }) c.args.system)) c.in-None.ensures
    ∙ append-nil c.args.pending.now.items)

pub returns-in-Some : goal.returns-in-Some
returns-in-Some c =
    let P : Option Outline → Type 0 = λ o. OnOk c.push_enterable.result (c.push_enterable.new.pending.items ≡ c.args.pending.now.items ++ reverse (placed_by o c.args.call.vi (record { space = c.args.space; line = c.args.call.line }) c.args.system)) in
    subst P (sym c.in-Some.ensures) c.push_enterable.ensures
