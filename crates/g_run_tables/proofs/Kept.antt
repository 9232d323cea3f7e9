-- What is kept of types, by what is told of them.
use Rattle.std.proofs.Common.{◌≡◌, ℕ, zero, suc, ◌+◌, ◌<◌, ◌==◌, Bool, true, false, List, [], ◌∷◌, ◌++◌, length, drop, get_or, drop-cons, refl, sym, ap, ◌∙◌, subst, append_assoc, arith}
use Rattle.std.specs.Prelude.{if◌then◌else◌, Option, Some, None, slice_get}
use Rattle.std.specs.Ordering.{nat_cmp}
use Rattle.std.specs.Option.{option_or, option_map, unwrap_or}
use Rattle.std.specs.BTreeMap.{get_by}
use Rattle.std.proofs.lemmas.List.{append-nil}
use denote.Ref.{Bor}
use Rattle.g_infer.specs.declared.typed.BranchCases.{BranchCases}
use Rattle.g_infer.specs.declared.typed.CaseTypes.{CaseTypes}
use Rattle.g_infer.specs.declared.typed.ViTypes.{ViTypes}
use Rattle.g_infer.specs.Answer as told
use Rattle.g_infer.specs.Answer.{types_in}
use Rattle.g_vi_tables.specs.declared.types.WireTypes.{WireTypes}
use Rattle.g_vi_tables.specs.Types.{Scope, Branches, named_type, scope_type, own_type, first_type, numbers, cases_of, types_of}
use Rattle.g_run_tables.specs.Told.{AreScopes, kept_cases, told_cases}

or_none : {A : Type 0} (o : Option A) → option_or o None ≡ o
or_none None = refl
or_none (Some x) = refl

-- what is left of a list from an item on
pub drop_next : {A : Type 0} (xs : List A) (i : ℕ) (x : A) → i < length xs → x ≡ get_or xs i x → drop i xs ≡ x ∷ drop (i + 1) xs
drop_next {A} xs i x lt same =
    drop-cons xs i x lt ∙ ap (λ (y : A). y ∷ drop (suc i) xs) (sym same) ∙ (let e : suc i ≡ i + 1 = omega arith in ap (λ n. x ∷ drop n xs) e)

-- ---- the cases of branches

kept-numbers : (o : Option (Bor (List ℕ))) → numbers o ≡ unwrap_or (option_map (λ cases. cases.now) o) []
kept-numbers None = refl
kept-numbers (Some cases) = refl

numbers_if : (b : Bool) (ks : List ℕ) (o : Option (List ℕ)) → (if b then ks else unwrap_or o []) ≡ unwrap_or (if b then Some ks else o) []
numbers_if true ks o = refl
numbers_if false ks o = refl

told-numbers : (bs : List BranchCases) (d : ℕ) → told.branch_cases bs d ≡ unwrap_or (told_cases bs d) []
told-numbers [] d = refl
told-numbers (b ∷ bs) d = ap (λ ks. if b.diagram == d then b.cases else ks) (told-numbers bs d) ∙ numbers_if (b.diagram == d) b.cases (told_cases bs d)

pub all_branches : (bs rest : List BranchCases) (m : Branches) → rest ≡ []
    → ((d : ℕ) → option_or (kept_cases m d) (told_cases rest d) ≡ told_cases bs d) → (d : ℕ) → cases_of m d ≡ told.branch_cases bs d
all_branches bs rest m end h d =
    kept-numbers (get_by (nat_cmp d) m)
    ∙ ap (λ o. unwrap_or o []) (sym (or_none (kept_cases m d)) ∙ ap (λ (xs : List BranchCases). option_or (kept_cases m d) (told_cases xs d)) (sym end) ∙ h d)
    ∙ sym (told-numbers bs d)

-- ---- what cases give

pub scopes_more : (cases : List CaseTypes) (at : List CaseTypes) (c : CaseTypes) (next : List CaseTypes) (old new : List Scope) (s : Scope) → at ≡ c ∷ next → new ≡ old ++ s ∷ []
    → ((name : List ℕ) → named_type s name ≡ told.named_type c.names name)
    → ((rest : List Scope) → AreScopes at rest → AreScopes cases (old ++ rest)) → (rest : List Scope) → AreScopes next rest → AreScopes cases (new ++ rest)
scopes_more cases at c next old new s ea en is h rest are =
    let P : List CaseTypes → Type 0 = λ cs. AreScopes cs (s ∷ rest) in
    let e : old ++ s ∷ rest ≡ new ++ rest = sym (append_assoc old (s ∷ []) rest) ∙ ap (λ xs. xs ++ rest) (sym en) in
    subst (AreScopes cases) e (h (s ∷ rest) (subst P (sym ea) (is, are)))

pub all_scopes : (cases at : List CaseTypes) (ss : List Scope) → at ≡ [] → ((rest : List Scope) → AreScopes at rest → AreScopes cases (ss ++ rest)) → AreScopes cases ss
all_scopes cases at ss end h =
    let P : List CaseTypes → Type 0 = λ cs. AreScopes cs [] in
    subst (AreScopes cases) (append-nil ss) (h [] (subst P (sym end) tt))

case_at : (cs : List CaseTypes) (ss : List Scope) → AreScopes cs ss → (k : ℕ) (name : List ℕ) → scope_type (slice_get ss k) name ≡ told.case_type (slice_get cs k) name
case_at [] [] are k name = refl
case_at [] (s ∷ ss) are k name = absurd are
case_at (c ∷ cs) [] are k name = absurd are
case_at (c ∷ cs) (s ∷ ss) are zero name = are.0 name
case_at (c ∷ cs) (s ∷ ss) are (suc k) name = case_at cs ss are.1 k name

first_at : (cs : List CaseTypes) (ss : List Scope) → AreScopes cs ss → (ks : List ℕ) (name : List ℕ) → first_type ss ks name ≡ told.branch_type cs ks name
first_at cs ss are [] name = refl
first_at cs ss are (k ∷ ks) name =
    ap (λ o. option_or o (first_type ss ks name)) (case_at cs ss are k name) ∙ ap (option_or (told.case_type (slice_get cs k) name)) (first_at cs ss are ks name)

-- ---- all types

pub types_kept : (m : WireTypes) (t : ViTypes) → ((d : ℕ) (name : List ℕ) → own_type m.own d name ≡ told.source_type t.sources d name) → AreScopes t.cases m.cases.items
    → ((d : ℕ) → cases_of m.branches d ≡ told.branch_cases t.branches d) → (d : ℕ) (name : List ℕ) → types_of m d name ≡ types_in t d name
types_kept m t own cases branches d name =
    ap (λ o. option_or o (first_type m.cases.items (cases_of m.branches d) name)) (own d name)
    ∙ ap (λ ks. option_or (told.source_type t.sources d name) (first_type m.cases.items ks name)) (branches d)
    ∙ ap (option_or (told.source_type t.sources d name)) (first_at t.cases m.cases.items cases (told.branch_cases t.branches d) name)
