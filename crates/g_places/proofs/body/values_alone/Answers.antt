use Rattle.std.proofs.Common.{◌∙◌, ap, sym, subst}
use mathlib.Core.Path.{fun_ext}
use Rattle.g_border.specs.Readers.{Given}
use Rattle.g_border.specs.Bodies.{body_reader}
use Rattle.g_needs.specs.Bodies.{BodyNeeds}
use Rattle.g_places.proofs.body.values_alone.Goals as goal

pub body_values-requires : goal.body_values-requires
body_values-requires c =
    let h = c.requires.0 in
    let is = c.requires.1.0 in (
      h.vi,
      (
        is.table_is,
        subst (λ (g : Given). BodyNeeds h.vi c.args.place.now.body c.args.place.now.finish g)
            (sym (c.in_ok-given.ensures h.outer (c.outer.ensures h is))) c.requires.1.1,
      ),
    )

pub returns : goal.returns
returns c h is =
    fun_ext (c.in_ok-values.ensures h.vi is.table_is)
    ∙ ap (λ g. body_reader h.vi.ports h.vi.types h.vi.entries c.args.place.now.body c.args.place.now.finish g)
    (c.in_ok-given.ensures h.outer (c.outer.ensures h is))
