use Rattle.std.proofs.Common.{◌≡◌, ◌++◌, List, reverse, ap, sym, ◌∙◌, subst}
use Rattle.std.specs.Prelude.{Option, OnOk}
use Rattle.std.proofs.lemmas.List.{append-nil}
use Rattle.g_hier.specs.declared.linked.CallLine.{CallLine}
use Rattle.g_hier.specs.declared.linked.Outline.{Outline}
use Rattle.g_hier.specs.Outlines.{calls_in}
use Rattle.g_hier.specs.LinkOrder.{entered_by}
use Rattle.g_hier.proofs.spaces.push_entered.Goals as goal

pub returns-in-None : goal.returns-in-None
returns-in-None c = sym (
    ap (λ (o : Option Outline). c.args.pending.now.items ++ reverse (entered_by c.args.outlines.now c.args.space c.args.placed.system (calls_in o))) c.in-None.ensures
    ∙ append-nil c.args.pending.now.items)

pub returns-in-Some : goal.returns-in-Some
returns-in-Some c =
    let P : List CallLine → Type 0 = λ cs. OnOk c.push_calls.result (c.push_calls.new.pending.items ≡ c.args.pending.now.items ++ reverse (entered_by c.args.outlines.now c.args.space c.args.placed.system cs)) in
    let Q : Option Outline → Type 0 = λ o. P (calls_in o) in
    subst Q (sym c.in-Some.ensures) (subst P c.as_slice.ensures c.push_calls.ensures)
