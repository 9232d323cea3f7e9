use Rattle.std.proofs.Common.{◌∙◌, ap, refl}
use Rattle.g_vi_tables.specs.Tables.{reader_at}
use Rattle.g_places.specs.Places.{leaving_of}
use Rattle.g_places.proofs.PlaceLemmas.{leaves}
use Rattle.g_places.proofs.body.others_of.Goals as goal

pub returns : goal.returns
returns c h table outer =
    c.in_ok-given.ensures h.vi (leaving_of h c.args.place.now.body (reader_at h.vi c.args.place.now.body c.args.values)) table
    (leaves h c.args.place.now.first c.args.place.now.lines.now _ c.wires.result (reader_at h.vi c.args.place.now.body c.args.values) outer refl
    (c.wires.ensures h.vi table ∙ ap (reader_at h.vi c.args.place.now.body) c.as_slice.ensures) refl)
