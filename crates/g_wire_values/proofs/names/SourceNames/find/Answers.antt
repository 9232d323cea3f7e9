use Rattle.std.proofs.Common.{ap, ◌∙◌}
use Rattle.g_wire_values.specs.Names.{named}
use Rattle.g_wire_values.proofs.NameLemmas.{lookup-named}
use Rattle.g_wire_values.proofs.names.SourceNames.find.Goals as goal

pub returns : goal.returns
returns c =
    c.copied.ensures ∙ c.get.ensures.value ∙ lookup-named c.args.name.now c.self.inside.map.entries
    ∙ ap (λ es. named es c.args.name.now) c.self.view_is
