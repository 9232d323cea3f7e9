use Rattle.std.proofs.Common.{ap, sym, ◌∙◌}
use Rattle.std.specs.Prelude.{is_some}
use Rattle.g_wire_values.specs.Names.{named, add_name}
use Rattle.g_wire_values.proofs.NameLemmas.{add_name-present, add_name-absent, numbers}
use Rattle.g_wire_values.proofs.names.SourceNames.add.Goals as goal

pub returns-then-is_some : goal.returns-then-is_some
returns-then-is_some c =
    add_name-present c.args.name.now c.args.number c.args.self.now (ap is_some (sym c.find.ensures) ∙ sym c.is_some.ensures ∙ c.if-is_some.true)

pub returns : goal.returns
returns c =
    ap numbers c.in_ok-insert.ensures.entries
    ∙ add_name-absent c.args.name c.args.number c.self.inside.map.entries
    (ap (λ es. is_some (named es c.args.name.now)) c.self.view_is ∙ ap is_some (sym c.find.ensures) ∙ sym c.is_some.ensures ∙ c.if-is_some.false)
    ∙ ap (λ es. add_name es c.args.name.now c.args.number) c.self.view_is
