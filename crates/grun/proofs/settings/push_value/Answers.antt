use Rattle.std.proofs.Common.{[], ◌∷◌, ◌++◌, ap, sym, ◌∙◌}
use Rattle.std.specs.Option.{option_copied}
use Rattle.g_frames.specs.Panels.{default_of}
use Rattle.grun.specs.Settings.{find, item_values, value_or}
use Rattle.grun.specs.Views.{values_in}
use Rattle.grun.proofs.settings.push_value.Goals as goal

pub returns : goal.returns
returns c =
    let vals = values_in c.args.given.now.entries in
    let control = c.in-Control in
    c.in_ok-push.ensures.items
    ∙ ap (λ v. c.args.all.now.items ++ v ∷ [])
    (c.in_ok-value_of.ensures
    ∙ ap (λ n. value_or (default_of (option_copied c.as_ref.result) control.ty) (find n vals)) c.as_slice.ensures
    ∙ ap (λ l. value_or (default_of l control.ty) (find control.name vals)) c.as_ref.ensures.value)
    ∙ ap (λ item. c.args.all.now.items ++ item_values vals item) (sym control.is)
