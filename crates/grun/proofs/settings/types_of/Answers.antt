use Rattle.std.proofs.Common.{◌≡◌, ◌∷◌, ◌++◌, [], ◌+◌, ap, sym, ◌∙◌, arith, drop, append_assoc}
use Rattle.std.proofs.lemmas.List.{drop_more, append-nil, drop_all}
use Rattle.grun.specs.declared.settings.Control.{Control}
use Rattle.grun.specs.Settings.{find}
use Rattle.grun.specs.Views.{seen_control, seen_controls, types_in}
use Rattle.grun.proofs.Finding.{find-front}
use Rattle.grun.proofs.settings.types_of.Goals as goal

pub loop-control-preserved : goal.loop-control-preserved
loop-control-preserved c name =
    let k = c.loop-control.control-index in
    let x = c.control-item.result in
    let old = types_in c.loop-control.types.entries in
    let rest = seen_controls (drop (k + 1) c.args.controls.now) in
    let here : drop k c.args.controls.now ≡ x ∷ drop (k + 1) c.args.controls.now = drop_more c.args.controls.now k x (omega arith) ∙ ap (λ (y : Control). y ∷ drop (k + 1) c.args.controls.now) (sym c.control-item.is) in
    find-front _ (old ++ seen_control x ∷ []) rest c.in_ok-add_type.ensures name
    ∙ ap (find name) (append_assoc old (seen_control x ∷ []) rest)
    ∙ sym (ap (λ cs. find name (old ++ seen_controls cs)) here)
    ∙ c.loop-control.invariant name

pub returns : goal.returns
returns c name =
    let es = types_in c.loop-control.types.entries in
    sym (ap (find name) (append-nil es)) ∙ sym (ap (λ cs. find name (es ++ seen_controls cs)) (drop_all c.loop-control.control-index c.args.controls.now (omega arith))) ∙ c.loop-control.invariant name
