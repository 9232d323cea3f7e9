use Rattle.std.proofs.Common.{◌∙◌, ap, sym}
use Rattle.std.specs.Prelude.{Some}
use Rattle.std.specs.Option.{option_map}
use Rattle.g_border.specs.Lines.{reference_in}
use Rattle.g_crossing.specs.Crossing.{seen_reference}
use Rattle.g_diagram_table.specs.Seen.{seen}
use Rattle.g_effects.specs.Kinds.{place_plan}
use Rattle.g_places.proofs.FitLemmas.{plain_fits, reference_fits}
use Rattle.g_places.proofs.plan.place_plan.Goals as goal

pub by_reference-requires : goal.by_reference-requires
by_reference-requires c =
    let h = c.requires.0 in (
      h,
      (
        c.requires.1.0,
        reference_fits h (seen c.args.entry.now) (record { first = c.in_ok-first.first; lines = c.args.lines; body = c.args.body; finish = c.args.finish }) (seen_reference c.in-Some.reference) c.in_ok-first.ensures
            (ap (option_map seen_reference) (sym c.in-Some.is) ∙ (c.in_ok-reference.ensures ∙ ap (λ l. reference_in l c.args.lines.now) c.in_ok-first.ensures))
            c.requires.1.1.0 c.requires.1.1.1,
      ),
    )

pub plain_place-requires : goal.plain_place-requires
plain_place-requires c =
    let h = c.requires.0 in (
      h,
      (
        c.requires.1.0,
        plain_fits h (seen c.args.entry.now) (record { first = c.in_ok-first.first; lines = c.args.lines; body = c.args.body; finish = c.args.finish }) c.in_ok-first.ensures
            (ap (option_map seen_reference) (sym c.in-None.is) ∙ (c.in_ok-reference.ensures ∙ ap (λ l. reference_in l c.args.lines.now) c.in_ok-first.ensures))
            c.requires.1.1.1,
      ),
    )

pub returns-in_ok-plan-in-None : goal.returns-in_ok-plan-in-None
returns-in_ok-plan-in-None c h is =
    ap Some (c.in_ok-plan-in-None.ensures h (seen c.args.entry.now) is c.in_ok-first.ensures)
    ∙ ap (λ o. place_plan h (seen c.args.entry.now) c.args.lines.now c.args.body c.args.finish o)
    (ap (option_map seen_reference) (sym c.in-None.is) ∙ (c.in_ok-reference.ensures ∙ ap (λ l. reference_in l c.args.lines.now) c.in_ok-first.ensures))
