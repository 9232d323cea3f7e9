use Rattle.std.proofs.Common.{List, map, ap, ◌∙◌}
use Rattle.std.proofs.lemmas.Result.{IfOk-weaker}
use Rattle.g_border.specs.declared.place.WireSource.{WireSource}
use Rattle.g_vi_tables.specs.Tables.{reader_at}
use Rattle.g_bodies.specs.Known.{found}
use Rattle.g_bodies.proofs.FoundLemmas.{reader_found}
use Rattle.g_bodies.proofs.known.values_in.Goals as goal

pub returns : goal.returns
returns c =
    IfOk-weaker c.values_at.result _ _
    (λ vs e vi is.
    ap (reader_at vi c.args.diagram) (e ∙ ap (λ (ps : List WireSource). map (found c.args.known.now) ps) (c.sources.ensures vi is)) ∙ reader_found vi c.args.diagram (found c.args.known.now))
    c.values_at.ensures
