use Rattle.std.proofs.Common.{ap, ◌∙◌, map, length}
use Rattle.g_values.specs.Canonical.{canonical}
use Rattle.g_prims_edits.specs.Words.{on_words}
use Rattle.g_arrays.proofs.LaneLemmas.{result_of, length-zip2_same}
use Rattle.g_arrays.proofs.lanes.result_lanes.Goals as goal

pub wrapped_lanes-requires : goal.wrapped_lanes-requires
wrapped_lanes-requires c = ap length c.on_lanes.ensures ∙ length-zip2_same (on_words c.args.operator) c.args.a c.args.b 8 c.requires.own c.requires.other

pub returns : goal.returns
returns c =
    c.wrapped_lanes.ensures
    ∙ ap (map (canonical c.args.rep)) c.on_lanes.ensures
    ∙ result_of c.args.operator c.args.rep c.args.a c.args.b
