use Rattle.std.proofs.Common.{◌≡◌, List, ◌∷◌, ◌++◌, [], ◌+◌, refl, ap, sym, ◌∙◌, subst, take, drop, arith, Some, None}
use Rattle.std.proofs.lemmas.List.{drop_more, take-append-drop, take_all}
use Rattle.indexmap.proofs.CallerLemmas.{insert_entry-new}
use Rattle.g_line.specs.declared.forms.Setting.{Setting}
use Rattle.grun.specs.Settings.{find, Give}
use Rattle.grun.specs.Views.{seen_controls, types_in, values_in}
use Rattle.grun.proofs.Finding.{find-value, some_of, none_of, values_in-more}
use Rattle.grun.proofs.Giving.{value_known, give_more, wrong_here, front_more}
use Rattle.grun.proofs.settings.go_through.Goals as goal

pub returns-in_default : goal.returns-in_default
returns-in_default c =
    let cs = seen_controls c.args.controls.now in
    let types = types_in c.in_ok-types.types.entries in
    let all = c.args.settings.now in
    let s = c.index-settings-place.result in
    let k = c.loop-place.place in
    let vs = values_in c.loop-place.values.entries in
    let rest = drop (k + 1) all in
    let here : drop k all ≡ s ∷ rest = drop_more all k s (omega arith) ∙ ap (λ (x : Setting). x ∷ rest) (sym c.index-settings-place.is) in
    let none = rw c.in_default.is at c.in_ok-value.ensures in
    let split : all ≡ take k all ++ s ∷ rest = sym (take-append-drop k all) ∙ ap (λ (l : List Setting). take k all ++ l) here in (
      s,
      refl,
      wrong_here cs all (take k all) rest s vs split c.loop-place.invariant (λ v value new. none v (value_known cs types s v (sym (c.in_ok-types.ensures s.name)) value)),
    )

pub returns-then-is_some : goal.returns-then-is_some
returns-then-is_some c =
    let cs = seen_controls c.args.controls.now in
    let all = c.args.settings.now in
    let s = c.index-settings-place.result in
    let k = c.loop-place.place in
    let vs = values_in c.loop-place.values.entries in
    let rest = drop (k + 1) all in
    let here : drop k all ≡ s ∷ rest = drop_more all k s (omega arith) ∙ ap (λ (x : Setting). x ∷ rest) (sym c.index-settings-place.is) in
    let old = some_of c.in_ok-insert.field-0 (sym c.is_some.ensures ∙ c.if-is_some.true) in
    let found : find s.name vs ≡ Some old.0 = ap (λ name. find name vs) (sym c.as_slice.ensures) ∙ sym (find-value c.as_slice.result.now c.loop-place.values.entries) ∙ sym c.in_ok-insert.ensures.old ∙ old.1 in
    let split : all ≡ take k all ++ s ∷ rest = sym (take-append-drop k all) ∙ ap (λ (l : List Setting). take k all ++ l) here in (
      s,
      refl,
      wrong_here cs all (take k all) rest s vs split c.loop-place.invariant (λ v value new. let twice : None ≡ Some old.0 = sym new ∙ found in absurd cc),
    )

pub loop-place-preserved : goal.loop-place-preserved
loop-place-preserved c =
    let cs = seen_controls c.args.controls.now in
    let types = types_in c.in_ok-types.types.entries in
    let all = c.args.settings.now in
    let s = c.index-settings-place.result in
    let k = c.loop-place.place in
    let vs = values_in c.loop-place.values.entries in
    let rest = drop (k + 1) all in
    let here : drop k all ≡ s ∷ rest = drop_more all k s (omega arith) ∙ ap (λ (x : Setting). x ∷ rest) (sym c.index-settings-place.is) in
    let value = rw c.in-Some.is at c.in_ok-value.ensures in
    let get = sym c.in_ok-insert.ensures.old ∙ none_of c.in_ok-insert.field-0 (sym c.is_some.ensures ∙ c.if-is_some.false) in
    let found : find s.name vs ≡ None = ap (λ name. find name vs) (sym c.as_slice.ensures) ∙ sym (find-value c.as_slice.result.now c.loop-place.values.entries) ∙ get in
    let entries = c.in_ok-insert.ensures.entries ∙ insert_entry-new _ c.loop-place.values c.as_slice.result c.in-Some.value get in
    let more = ap values_in entries ∙ values_in-more c.loop-place.values.entries (c.as_slice.result, c.in-Some.value) ∙ ap (λ name. vs ++ (name, c.in-Some.value) ∷ []) c.as_slice.ensures in
    let given = give_more cs [] vs (take k all) s c.in-Some.value c.loop-place.invariant (value_known types cs s c.in-Some.value (c.in_ok-types.ensures s.name) value) found in
    subst (Give cs [] (take (k + 1) all)) (sym more) (subst (λ (l : List Setting). Give cs [] l (vs ++ (s.name, c.in-Some.value) ∷ [])) (sym (front_more all k s rest here)) given)

pub returns : goal.returns
returns c =
    subst (λ (l : List Setting). Give (seen_controls c.args.controls.now) [] l (values_in c.loop-place.values.entries)) (take_all c.loop-place.place c.args.settings.now (omega arith)) c.loop-place.invariant
