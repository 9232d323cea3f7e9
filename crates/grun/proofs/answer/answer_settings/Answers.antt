use Rattle.std.proofs.Common.{◌≡◌, [], List, Some, sym, ap, subst, ◌∙◌}
use Rattle.std.proofs.lemmas.Result.{IfOk-weaker}
use Rattle.std.specs.List.{All}
use Rattle.g_types.specs.declared.ty.Ty.{Ty}
use Rattle.g_values.specs.declared.value.Value.{Value}
use Rattle.g_values.specs.Proper.{IsProper}
use Rattle.g_diagram.specs.declared.panel.PanelItem.{PanelItem}
use Rattle.g_frames.specs.declared.firing.Firing.{Firing}
use Rattle.g_hier.specs.Outlines.{number_of}
use Rattle.grun.specs.declared.answer.Answer.{Answer}
use Rattle.grun.specs.Views.{seen_controls, values_in}
use Rattle.grun.specs.Ready.{AreSettled}
use Rattle.grun.specs.Settings.{Named, Give, IsWrongSetting, controls, control_values}
use Rattle.grun.specs.Answer.{reply, Runs, IsRunAnswer}
use Rattle.grun.proofs.Settled.{controls_right, controls_settled}
use Rattle.grun.proofs.Running.{wrong_setting, right_settings}
use Rattle.grun.proofs.answer.answer_settings.Goals as goal

pub returns-in-Wrong : goal.returns-in-Wrong
returns-in-Wrong c =
    let panel = c.main_vi.result.now.panel in
    let settings = c.args.settings.now in
    let cs : seen_controls c.deref.result.now ≡ controls panel = ap seen_controls c.deref.ensures.value ∙ c.in_ok-controls.ensures ∙ ap controls c.as_slice-panel.ensures in
    let told = rw c.in-Wrong.is at c.in_ok-word.ensures in
    rw (c.plain.ensures.trace, c.plain.ensures.status, c.plain.ensures.text, c.in_ok-numbered-in-Wrong.ensures, told.1)
    (wrong_setting c.args.h.now c.args.main.now c.args.found.0.now c.args.found.1.now c.requires c.main_vi.result.now c.main_vi.ensures settings c.args.limit told.0 (subst (λ (ns : Named Ty). IsWrongSetting ns settings told.0) cs told.2))

pub from_list-values-requires : goal.from_list-values-requires
from_list-values-requires c =
    let vi = c.main_vi.result.now in
    let vs = values_in c.in-Right.given.entries in
    let made : seen_controls c.in_ok-controls.controls.items ≡ controls vi.panel = c.in_ok-controls.ensures ∙ ap controls c.as_slice-panel.ensures in
    let right : Give (controls vi.panel) [] c.args.settings.now vs =
    subst (λ (ns : Named Ty). Give ns [] c.args.settings.now vs) (ap seen_controls c.deref.ensures.value ∙ made) (rw c.in-Right.is at c.in_ok-word.ensures) in
    let values : c.from_vec.result ≡ control_values vi.panel vs = c.from_vec.ensures ∙ c.in_ok-values-in-Right.ensures ∙ ap (λ (p : List PanelItem). control_values p vs) c.as_slice-panel.ensures in
    let settled = controls_right c.args.h.now c.args.main.now c.args.found.0.now c.args.found.1.now c.requires vi c.main_vi.ensures c.args.settings.now vs right in
    subst (All IsProper) (sym values) settled.of_types.proper

pub run-requires-clause-controls : goal.run-requires-clause-controls
run-requires-clause-controls c other at =
    let vi = c.main_vi.result.now in
    let vs = values_in c.in-Right.given.entries in
    let made : seen_controls c.in_ok-controls.controls.items ≡ controls vi.panel = c.in_ok-controls.ensures ∙ ap controls c.as_slice-panel.ensures in
    let right : Give (controls vi.panel) [] c.args.settings.now vs =
    subst (λ (ns : Named Ty). Give ns [] c.args.settings.now vs) (ap seen_controls c.deref.ensures.value ∙ made) (rw c.in-Right.is at c.in_ok-word.ensures) in
    let values : c.from_list-values.result ≡ control_values vi.panel vs = c.from_list-values.ensures ∙ c.from_vec.ensures ∙ c.in_ok-values-in-Right.ensures ∙ ap (λ (p : List PanelItem). control_values p vs) c.as_slice-panel.ensures in
    subst (AreSettled other) (sym values)
    (controls_settled c.args.h.now c.args.main.now c.args.found.0.now c.args.found.1.now c.requires vi c.main_vi.ensures c.args.settings.now vs right other at)

pub returns : goal.returns
returns c =
    let h = c.args.h.now in
    let vi = c.main_vi.result.now in
    let vs = values_in c.in-Right.given.entries in
    let limit = c.args.limit in
    let made : seen_controls c.in_ok-controls.controls.items ≡ controls vi.panel = c.in_ok-controls.ensures ∙ ap controls c.as_slice-panel.ensures in
    let right : Give (controls vi.panel) [] c.args.settings.now vs =
    subst (λ (ns : Named Ty). Give ns [] c.args.settings.now vs) (ap seen_controls c.deref.ensures.value ∙ made) (rw c.in-Right.is at c.in_ok-word.ensures) in
    let values : c.from_list-values.result ≡ control_values vi.panel vs = c.from_list-values.ensures ∙ c.from_vec.ensures ∙ c.in_ok-values-in-Right.ensures ∙ ap (λ (p : List PanelItem). control_values p vs) c.as_slice-panel.ensures in
    let number = number_of h.vis c.args.main.now in
    IfOk-weaker c.run.result
    (λ (a : Answer). (trace : List Firing) × ((a.trace ≡ Some trace) × Runs h number c.from_list-values.result limit trace (reply a.status a.text)))
    (λ (a : Answer). IsRunAnswer c.args.main.now c.args.settings.now limit h a.trace (reply a.status a.text))
    (λ a x. rw (x.1.0) (right_settings h c.args.main.now c.args.found.0.now c.args.found.1.now c.requires vi c.main_vi.ensures c.args.settings.now limit vs x.0 (reply a.status a.text) right
    (subst (λ (v : List Value). Runs h number v limit x.0 (reply a.status a.text)) values x.1.1)))
    c.run.ensures
