use Rattle.std.proofs.Common.{◌≡◌, [], ◌∷◌, IfOk, map, false, true, ap, ap₂, sym, ◌∙◌, subst}
use Rattle.std.specs.Prelude.{is_some}
use Rattle.std.specs.List.{All}
use Rattle.g_prims_evaluation.specs.Conditions.{AreInOrder}
use Rattle.g_prims_evaluation.proofs.InputLemmas.{in_order}
use Rattle.g_prims_definitions.specs.Takes.{takes}
use Rattle.g_prims_definitions.specs.Values.{outputs_of}
use Rattle.g_values.specs.Proper.{IsProper}
use Rattle.g_values.specs.Value.{type_of}
use Rattle.g_values.specs.declared.value.Value.TheVariants as value
use Rattle.g_arrays.specs.Acting.{Acts, ReadsStay, input, placed, takes_both}
use Rattle.g_arrays.proofs.ActLemmas.{both_is, replace_of, select_of, takes_second_of_both, reads_are, taken_out, proper-placed}
use Rattle.g_arrays.proofs.act.acted.Goals as goal

pub replaced-requires : goal.replaced-requires
replaced-requires c = (replace_of c.args.primitive.now c.args.at c.args.kept c.args.others.now c.in-Replace.is c.requires.acts).1

pub returns-in-Replace-clause-value : goal.returns-in-Replace-clause-value
returns-in-Replace-clause-value c =
    let front = (replace_of c.args.primitive.now c.args.at c.args.kept c.args.others.now c.in-Replace.is c.requires.acts).0 in
    ap₂ (λ p n. outputs_of p (placed n c.args.kept c.args.others.now)) c.in-Replace.is front ∙ c.replaced.ensures.value

pub returns-in-Replace-clause-reads : goal.returns-in-Replace-clause-reads
returns-in-Replace-clause-reads c =
    let p = c.args.primitive.now in
    let at = c.args.at in
    let others = c.args.others.now in
    let ts = map type_of (placed at c.args.kept others) in
    let front = (replace_of p at c.args.kept others c.in-Replace.is c.requires.acts).0 in
    let taken : takes p ts (input at 1) ≡ true = ap₂ (λ q n. takes q ts (input n 1)) c.in-Replace.is front in
    subst (ReadsStay p at ts others) (sym c.replaced.ensures.others) (taken_out p at ts others 1 (value.Bool false) taken)

pub selected-requires : goal.selected-requires
selected-requires c = (select_of c.args.primitive.now c.args.at c.args.kept c.args.others.now c.in-Select.is c.requires.acts).1

pub returns-in-Select-clause-value : goal.returns-in-Select-clause-value
returns-in-Select-clause-value c =
    let place = (select_of c.args.primitive.now c.args.at c.args.kept c.args.others.now c.in-Select.is c.requires.acts).0 in
    ap₂ (λ p n. outputs_of p (placed n c.args.kept c.args.others.now)) c.in-Select.is place ∙ c.selected.ensures.value

pub taking_one-requires-clause-one : goal.taking_one-requires-clause-one
taking_one-requires-clause-one c = (both_is c.args.primitive.now c.args.at c.args.kept c.args.others.now (ap takes_both c.in-Build.is) c.requires.acts).1

pub returns-in-Build-clause-value : goal.returns-in-Build-clause-value
returns-in-Build-clause-value c =
    let front = (both_is c.args.primitive.now c.args.at c.args.kept c.args.others.now (ap takes_both c.in-Build.is) c.requires.acts).0 in
    subst (λ n. IfOk c.taking_one.result (λ v. outputs_of c.args.primitive.now (placed n c.args.kept c.args.others.now) ≡ v ∷ [])) (sym front) c.taking_one.ensures.value

pub returns-in-Build-clause-reads : goal.returns-in-Build-clause-reads
returns-in-Build-clause-reads c =
    let p = c.args.primitive.now in
    let at = c.args.at in
    let others = c.args.others.now in
    let ts = map type_of (placed at c.args.kept others) in
    let both : takes_both p ≡ true = ap takes_both c.in-Build.is in
    let front = (both_is p at c.args.kept others both c.requires.acts).0 in
    let taken : takes p ts (input at 0) ≡ true = ap (λ n. takes p ts (input n 0)) front ∙ takes_second_of_both p ts both in
    subst (ReadsStay p at ts others) (sym c.taking_one.ensures.others) (taken_out p at ts others 0 (value.Bool false) taken)

pub taking_one-requires-in-Set-clause-one : goal.taking_one-requires-in-Set-clause-one
taking_one-requires-in-Set-clause-one c = (both_is c.args.primitive.now c.args.at c.args.kept c.args.others.now (ap takes_both c.in-Set.is) c.requires.acts).1

pub returns-in-Set-clause-value : goal.returns-in-Set-clause-value
returns-in-Set-clause-value c =
    let front = (both_is c.args.primitive.now c.args.at c.args.kept c.args.others.now (ap takes_both c.in-Set.is) c.requires.acts).0 in
    subst (λ n. IfOk c.taking_one-in-Set.result (λ v. outputs_of c.args.primitive.now (placed n c.args.kept c.args.others.now) ≡ v ∷ [])) (sym front) c.taking_one-in-Set.ensures.value

pub returns-in-Set-clause-reads : goal.returns-in-Set-clause-reads
returns-in-Set-clause-reads c =
    let p = c.args.primitive.now in
    let at = c.args.at in
    let others = c.args.others.now in
    let ts = map type_of (placed at c.args.kept others) in
    let both : takes_both p ≡ true = ap takes_both c.in-Set.is in
    let front = (both_is p at c.args.kept others both c.requires.acts).0 in
    let taken : takes p ts (input at 0) ≡ true = ap (λ n. takes p ts (input n 0)) front ∙ takes_second_of_both p ts both in
    subst (ReadsStay p at ts others) (sym c.taking_one-in-Set.ensures.others) (taken_out p at ts others 0 (value.Bool false) taken)

pub reading-requires : goal.reading-requires
reading-requires c =
    let p = c.args.primitive.now in
    let at = c.args.at in
    let k = c.args.kept in
    let same = sym c.as_slice.ensures.value in
    let all : All IsProper (placed at k c.args.others.now) = proper-placed at k c.args.others.now c.requires.proper (subst (All IsProper) c.as_slice.ensures.value c.as_slice.ensures.proper) in
    let d = c.in_default in
    record {
      acts = subst (λ l. Acts p at (map type_of (placed at k l))) same c.requires.acts;
      reads = reads_are p d.not-Select d.not-Replace d.not-Bundle d.not-Unbundle d.not-Build d.not-Set;
      order = subst (λ l. AreInOrder p (placed at k l)) same (in_order p (placed at k c.args.others.now) all (ap is_some c.requires.acts.row));
    }
