use Rattle.std.proofs.Common.{◌≡◌, ap, subst, ◌∙◌}
use Rattle.std.specs.Prelude.{IfOk}
use Rattle.std.specs.Option.{option_copied}
use Rattle.g_values.specs.declared.value.Value.{Value}
use Rattle.g_frames.specs.Panels.{default_of}
use Rattle.grun.specs.Settings.{value_or}
use Rattle.grun.proofs.Finding.{find-value}
use Rattle.grun.proofs.settings.value_of.Goals as goal

pub returns : goal.returns
returns c =
    subst (λ (x : Value). IfOk c.copy_or_own.result (λ v. v ≡ x))
    (ap (value_or (default_of (option_copied c.args.literal) c.args.ty.now)) (c.get.ensures.value ∙ find-value c.args.name.now c.args.given.now.entries)) c.copy_or_own.ensures
