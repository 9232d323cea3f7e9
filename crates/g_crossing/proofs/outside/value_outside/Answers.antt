use Rattle.std.proofs.Common.{[], ◌∷◌, ap, sym, ◌∙◌}
use Rattle.std.specs.Prelude.{Some}
use Rattle.std.specs.Option.{option_copied}
use Rattle.g_values.specs.declared.value.Value.{Value}
use Rattle.g_diagram.specs.declared.node.Tunnel.{Tunnel}
use Rattle.g_border.specs.Lines.{line_outside, values_outside}
use Rattle.g_prims_definitions.specs.Clusters.{or_nothing}
use Rattle.g_crossing.specs.Kept.{left, placed}
use Rattle.g_crossing.proofs.outside.value_outside.Goals as goal

pub returns-in_ok-all_values-in-Gather-clause-given : goal.returns-in_ok-all_values-in-Gather-clause-given
returns-in_ok-all_values-in-Gather-clause-given c = λ vi is l.
    ap (λ (v : Value). placed l (Some (2, v))) (c.in_ok-all_values-in-Gather.ensures vi is)
    ∙ ap (λ (t : Tunnel). line_outside (left vi c.args.leaving.now (or_nothing (option_copied c.args.kept))) l t) (sym c.in-Gather.is)

pub returns-in_ok-all_values-in-Gather-clause-values : goal.returns-in_ok-all_values-in-Gather-clause-values
returns-in_ok-all_values-in-Gather-clause-values c = λ vi is.
    ap (λ (v : Value). v ∷ []) (c.in_ok-all_values-in-Gather.ensures vi is)
    ∙ ap (λ (t : Tunnel). values_outside (left vi c.args.leaving.now (or_nothing (option_copied c.args.kept))) 0 t) (sym c.in-Gather.is)
