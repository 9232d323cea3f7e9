use Rattle.std.proofs.Common.{◌≡◌, ℕ, sym, ◌∙◌, subst}
use Rattle.std.specs.Prelude.{IfOk}
use Rattle.g_hier.proofs.Names.{number_found, number_absent}
use Rattle.g_hier.proofs.outlines.vi_number.Goals as goal

pub returns-in-None : goal.returns-in-None
returns-in-None c =
    let P : ℕ → Type 0 = λ k. IfOk c.number.result (λ n. n ≡ k) in
    subst P (number_absent c.args.vis.now c.args.name.now (sym (c.requires c.args.name.now) ∙ sym c.in-None.ensures.value)) c.number.ensures

pub returns-in-Some : goal.returns-in-Some
returns-in-Some c = number_found c.args.vis.now c.args.name.now c.in-Some.vi.now (sym (c.requires c.args.name.now) ∙ sym c.in-Some.ensures.value)
