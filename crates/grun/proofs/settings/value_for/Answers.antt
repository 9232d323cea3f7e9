use Rattle.std.proofs.Common.{◌≡◌, ap, sym, ◌∙◌, Option, Some, None}
use Rattle.std.specs.Prelude.{MatchOption}
use Rattle.std.specs.Option.{option_copied}
use Rattle.std.proofs.lemmas.Result.{IfOk-weaker}
use Rattle.g_values.specs.declared.value.Value.{Value}
use Rattle.g_valtext.specs.Spellings.{IsSpelling}
use Rattle.grun.specs.Settings.{find, IsValueFor}
use Rattle.grun.specs.Views.{types_in}
use Rattle.grun.proofs.Finding.{find-type, type_held}
use Rattle.grun.proofs.Giving.{value_of, unnamed}
use Rattle.grun.proofs.settings.value_for.Goals as goal

pub returns-in-Some : goal.returns-in-Some
returns-in-Some c =
    let s = c.args.setting.now in
    let cs = types_in c.args.types.now.entries in
    let t = c.in-Some.ty.now.now in
    let text = c.as_slice-in-Some.result.now in
    let found : find s.name cs ≡ Some t =
    ap (λ name. find name cs) (sym c.as_slice.ensures) ∙ sym (find-type c.as_slice.result.now c.args.types.now.entries) ∙ ap type_held (sym c.get.ensures.value ∙ ap option_copied c.in-Some.is) in
    IfOk-weaker c.spelled_value.result
    (λ (read : Option Value). MatchOption read ((v : Value) → IsSpelling t text v → ⊥) (IsSpelling t text))
    (λ (read : Option Value). MatchOption read ((v : Value) → IsValueFor cs s v → ⊥) (IsValueFor cs s))
    (value_of cs s t text found c.as_slice-in-Some.ensures) c.spelled_value.ensures

pub returns-in-None : goal.returns-in-None
returns-in-None c v value =
    let s = c.args.setting.now in
    let es = c.args.types.now.entries in
    let found : find s.name (types_in es) ≡ None =
    ap (λ name. find name (types_in es)) (sym c.as_slice.ensures) ∙ sym (find-type c.as_slice.result.now es) ∙ ap type_held (sym c.get.ensures.value ∙ ap option_copied c.in-None.is) in
    unnamed (types_in es) s found v value
