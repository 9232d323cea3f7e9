use Rattle.std.proofs.lemmas.Result.{on_ok_weaker}
use Rattle.g_vi_tables.proofs.Growing.{source_places_more}
use Rattle.g_vi_tables.proofs.places.add_source.Goals as goal

pub returns-clause-sources : goal.returns-clause-sources
returns-clause-sources c = on_ok_weaker c.add_place.result (λ h. c.in_ok-place.ensures.sources) c.add_place.ensures

pub returns-clause-places : goal.returns-clause-places
returns-clause-places c =
    on_ok_weaker c.add_place.result
    (source_places_more c.args.sources.now c.push_source.new.sources c.args.places.now c.add_place.new.places c.args.diagram c.args.source c.in_ok-place.place c.requires c.in_ok-place.ensures.place
    c.in_ok-place.ensures.sources)
    c.add_place.ensures
