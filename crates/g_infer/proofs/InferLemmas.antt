-- The types of a hierarchy and its breaks, from what is found of its VIs.
use Rattle.std.proofs.Common.{◌≡◌, ⊎_elim, ℕ, zero, suc, ◌+◌, ◌<◌, ◌≤◌, ◌==◌, Bool, true, false, cond, ◌&&◌, List, [], ◌∷◌, ◌++◌, map, length, refl, ap, sym, ◌∙◌, subst, append_assoc, length-append, arith}
use Rattle.std.specs.Prelude.{Option, Some, None, slice_get, Vec}
use Rattle.std.specs.declared.alloc.Global.{Global}
use Rattle.std.specs.Ordering.{ordering_then, nat_cmp, is_eq}
use Rattle.std.specs.Cmp.{unsigned_tied, eq_by_cmp_equiv}
use Rattle.std.specs.Cmp.Lexicographic.{slice_cmp}
use Rattle.std.specs.List.{Contains}
use Rattle.std.specs.List.Sorted.{IsStrictlySortedBy}
use Rattle.std.specs.Map.{lookup}
use Rattle.std.specs.Option.{option_map, option_or}
use Rattle.std.specs.Str.{bytes_eq}
use Rattle.std.proofs.lemmas.List.{append-nil}
use Rattle.std.proofs.lemmas.Option.{slice_get_within, slice_get-map}
use Rattle.std.proofs.lemmas.List.Elements.{Contains-append_left, Contains-append_right, Contains-append_cases}
use Rattle.std.proofs.lemmas.Map.Text.{is_eq-slice_cmp}
use Rattle.std.proofs.lemmas.Map.Views.{Contains-from_any, list_any-from_Contains}
use denote.Ref.{Bor}
use mathlib.Core.Path.{fun_ext}
use Rattle.g_types.specs.declared.ty.Ty.{Ty}
use Rattle.g_diagram.specs.declared.hierarchy.Hierarchy.{Hierarchy}
use Rattle.g_diagram.specs.declared.hierarchy.Vi.{Vi}
use Rattle.g_diagram.specs.declared.panel.PanelItem.{PanelItem}
use Rattle.g_diagram.specs.declared.place.Break.{Break}
use Rattle.g_diagram.specs.Leads.{Leads}
use Rattle.g_diagram.specs.Lines.{Entry, entries_of}
use Rattle.g_diagram.specs.Ports.{first_vi, ports_of, has_wire}
use Rattle.g_typing.specs.Types.{Types}
use Rattle.g_typing.specs.Typing.{Callees, Objects, IsTyping, panel_type, panel_of, called_panel}
use Rattle.g_typing.specs.Breaks.{TypeBreak, breaks_by, breaks_with}
use Rattle.g_typing.proofs.Agreed.{Typed as IsTypingBy, one_typing}
use Rattle.g_typing_laws.specs.Typable.{IsTypable}
use Rattle.g_rules_breaks.specs.Breaks.{break_cmp, has_break, ListsEach}
use Rattle.g_rules_breaks.proofs.Ordered.{break_total, same_break}
use Rattle.g_infer.specs.declared.typed.BranchCases.{BranchCases}
use Rattle.g_infer.specs.declared.typed.CaseTypes.{CaseTypes}
use Rattle.g_infer.specs.declared.typed.SourceType.{SourceType}
use Rattle.g_infer.specs.declared.typed.Typed.{Typed}
use Rattle.g_infer.specs.declared.typed.ViTypes.{ViTypes}
use Rattle.g_infer.specs.Answer.{source_type, named_type, case_type, branch_type, branch_cases, types_in, HasTyping, IsTyped}
use Rattle.g_infer.specs.Inferred.{told_source, told_name, told_case, told_branch, AreTypings, all_breaks, Inferred}
use Rattle.g_rules_types.specs.declared.types.WireTypes.{WireTypes}
use Rattle.g_rules_types.specs.Known.{Scope, cases_of, first_type, numbers, own_type, scope_type, types_of}
use Rattle.g_rules_types.proofs.Kept.{is_key, key_is}
use Rattle.g_infer.proofs.Branching.{same_bytes}
use Rattle.g_rules_types.specs.Panels.{or_nothing}
use Rattle.g_infer.proofs.PlaceLemmas.{told_in}

-- ---- what calls mean

panel_same : (o : Option Vi) → or_nothing (option_map (λ (vi : Vi). vi.panel) o) ≡ panel_of o
panel_same None = refl
panel_same (Some vi) = refl

pub callees_same : (called : Callees) (vis : List Vi) → ((name : List ℕ) → called name ≡ or_nothing (option_map (λ (vi : Vi). vi.panel) (first_vi vis name))) → called ≡ called_panel vis
callees_same called vis h = fun_ext (λ name. h name ∙ panel_same (first_vi vis name))

pub objects_same : (objects : Objects) (panel : List PanelItem) → ((name : List ℕ) → objects name ≡ panel_type panel name) → objects ≡ panel_type panel
objects_same objects panel h = fun_ext h

-- ---- a table of types, told

same_number_back : (d e : ℕ) → (d == e) ≡ (e == d)
same_number_back d e = grind arith

told_key : (d : ℕ) (name : List ℕ) (e : ℕ) (other : List ℕ) → is_key d name e other ≡ ((e == d) && bytes_eq other name)
told_key d name e other =
    key_is d name e other ∙ ap (λ b. b && bytes_eq name other) (same_number_back d e) ∙ ap (λ b. (e == d) && b) (same_bytes name other)

abbrev pub TableEntry : Type 0
TableEntry = (ℕ × Bor (List ℕ)) × Ty

abbrev pub NameEntry : Type 0
NameEntry = Bor (List ℕ) × Ty

abbrev pub BranchEntry : Type 0
BranchEntry = ℕ × Vec ℕ Global

-- a list of the entries tells what the table has
told_entries : (es : List TableEntry) (d : ℕ) (name : List ℕ)
    → source_type (map told_source es) d name ≡ lookup (λ (k : ℕ × Bor (List ℕ)). is_eq (ordering_then (nat_cmp d k.0) (slice_cmp nat_cmp name k.1.now))) es
told_entries [] d name = refl
told_entries (e ∷ es) d name =
    ap (λ b. cond b (Some e.1) (source_type (map told_source es) d name)) (sym (told_key d name e.0.0 e.0.1.now))
    ∙ ap (cond (is_eq (ordering_then (nat_cmp d e.0.0) (slice_cmp nat_cmp name e.0.1.now))) (Some e.1)) (told_entries es d name)

told_names : (es : List NameEntry) (name : List ℕ)
    → named_type (map told_name es) name ≡ lookup (λ (k : Bor (List ℕ)). is_eq (slice_cmp nat_cmp name k.now)) es
told_names [] name = refl
told_names (e ∷ es) name =
    ap (λ b. cond b (Some e.1) (named_type (map told_name es) name)) (same_bytes e.0.now name ∙ sym (is_eq-slice_cmp name e.0.now))
    ∙ ap (cond (is_eq (slice_cmp nat_cmp name e.0.now)) (Some e.1)) (told_names es name)

told_scope : (o : Option Scope) (name : List ℕ) → case_type (option_map told_case o) name ≡ scope_type o name
told_scope None name = refl
told_scope (Some scope) name = told_names scope.entries name

told_first : (scopes : List Scope) (ks : List ℕ) (name : List ℕ) → branch_type (map told_case scopes) ks name ≡ first_type scopes ks name
told_first scopes [] name = refl
told_first scopes (k ∷ ks) name =
    ap (λ o. option_or (case_type o name) (branch_type (map told_case scopes) ks name)) (slice_get-map told_case scopes k)
    ∙ ap (λ o. option_or o (branch_type (map told_case scopes) ks name)) (told_scope (slice_get scopes k) name)
    ∙ ap (option_or (scope_type (slice_get scopes k) name)) (told_first scopes ks name)

numbers_if : (b : Bool) (v : Vec ℕ Global) (o : Option (Vec ℕ Global)) → numbers (cond b (Some v) o) ≡ cond b v.items (numbers o)
numbers_if true v o = refl
numbers_if false v o = refl

told_branches : (es : List BranchEntry) (d : ℕ) → branch_cases (map told_branch es) d ≡ numbers (lookup (λ k. is_eq (nat_cmp d k)) es)
told_branches [] d = refl
told_branches (e ∷ es) d =
    ap (λ b. cond b e.1.items (branch_cases (map told_branch es) d)) (same_number_back e.0 d ∙ sym (unsigned_tied d e.0))
    ∙ ap (cond (is_eq (nat_cmp d e.0)) e.1.items) (told_branches es d)
    ∙ sym (numbers_if (is_eq (nat_cmp d e.0)) e.1 (lookup (λ k. is_eq (nat_cmp d k)) es))

pub types_told : (m : WireTypes) (found : ViTypes) → found.sources ≡ map told_source m.own.entries → found.cases ≡ map told_case m.cases.items
    → found.branches ≡ map told_branch m.branches.entries → (d : ℕ) (name : List ℕ) → types_in found d name ≡ types_of m d name
types_told m found es ec eb d name =
    ap (λ (ss : List SourceType). option_or (source_type ss d name) (branch_type found.cases (branch_cases found.branches d) name)) es
    ∙ ap (λ o. option_or o (branch_type found.cases (branch_cases found.branches d) name)) (told_entries m.own.entries d name)
    ∙ ap (λ (cs : List CaseTypes). option_or (own_type m d name) (branch_type cs (branch_cases found.branches d) name)) ec
    ∙ ap (λ (bs : List BranchCases). option_or (own_type m d name) (branch_type (map told_case m.cases.items) (branch_cases bs d) name)) eb
    ∙ ap (λ ks. option_or (own_type m d name) (branch_type (map told_case m.cases.items) ks name)) (told_branches m.branches.entries d)
    ∙ ap (option_or (own_type m d name)) (told_first m.cases.items (cases_of m.branches d) name)

-- ---- the same types, nodes and panels by other names

types_same : (found : ViTypes) (M : Types) → ((d : ℕ) (name : List ℕ) → types_in found d name ≡ M d name) → M ≡ types_in found
types_same found M h = fun_ext (λ d. fun_ext (λ name. sym (h d name)))

pub typing_told : (called : Callees) (panel : List PanelItem) (es : List Entry) (found : ViTypes) (M : Types) → ((d : ℕ) (name : List ℕ) → types_in found d name ≡ M d name)
    → IsTypingBy called panel es M → IsTypingBy called panel es (types_in found)
typing_told called panel es found M h typing =
    let P : Types → Type 0 = λ types. IsTypingBy called panel es types in
    subst P (types_same found M h) typing

pub breaks_told : (called : Callees) (objects : Objects) (panel : List PanelItem) (es : List Entry) (found : ViTypes) (M : Types) (v : ℕ) (old new : List Break) → objects ≡ panel_type panel
    → ((d : ℕ) (name : List ℕ) → types_in found d name ≡ M d name) → new ≡ old ++ breaks_by called objects panel M v es → new ≡ old ++ breaks_with called panel (types_in found) v es
breaks_told called objects panel es found M v old new eo h e =
    e ∙ ap (λ (os : Objects). old ++ breaks_by called os panel M v es) eo ∙ ap (λ (types : Types). old ++ breaks_with called panel types v es) (types_same found M h)

pub typable_at : (called : Callees) (panel own : List PanelItem) (es all : List Entry) → panel ≡ own → es ≡ all → IsTypable called own all → IsTypable called panel es
typable_at called panel own es all ep ee h =
    let P : List PanelItem → Type 0 = λ items. IsTypable called items es in
    let Q : List Entry → Type 0 = λ entries. IsTypable called own entries in
    subst P (sym ep) (subst Q (sym ee) h)

pub typing_at : (called : Callees) (panel own : List PanelItem) (es all : List Entry) (M : Types) → panel ≡ own → es ≡ all → IsTypingBy called panel es M → IsTypingBy called own all M
typing_at called panel own es all M ep ee h =
    let P : List PanelItem → Type 0 = λ items. IsTypingBy called items es M in
    let Q : List Entry → Type 0 = λ entries. IsTypingBy called own entries M in
    subst Q ee (subst P ep h)

pub breaks_at : (called : Callees) (panel own : List PanelItem) (es all : List Entry) (M : Types) (v : ℕ) (old new : List Break) → panel ≡ own → es ≡ all
    → new ≡ old ++ breaks_with called panel M v es → new ≡ old ++ breaks_with called own M v all
breaks_at called panel own es all M v old new ep ee h =
    h ∙ ap (λ (items : List PanelItem). old ++ breaks_with called items M v es) ep ∙ ap (λ (entries : List Entry). old ++ breaks_with called own M v entries) ee

-- ---- one VI more

some_same : {X : Type 0} (x y : X) → Some x ≡ Some y → x ≡ y
some_same x y e = cc

pub typings_more : (called : Callees) (vis : List Vi) (ts : List ViTypes) (vi : Vi) (t : ViTypes) → slice_get vis (length ts) ≡ Some vi → AreTypings called vis ts
    → IsTypingBy called vi.panel (entries_of vi) (types_in t) → AreTypings called vis (ts ++ t ∷ [])
typings_more called [] [] vi t at h k = absurd cc
typings_more called (v ∷ vis) [] vi t at h k =
    let P : Vi → Type 0 = λ w. IsTypingBy called w.panel (entries_of w) (types_in t) in
    (subst P (sym (some_same v vi at)) k, tt)
typings_more called [] (u ∷ ts) vi t at h k = h
typings_more called (v ∷ vis) (u ∷ ts) vi t at h k = (h.0, typings_more called vis ts vi t at h.1 k)

abbrev told_by : Callees → ℕ → Vi → ViTypes → List Break
told_by called number vi t = breaks_with called vi.panel (types_in t) number (entries_of vi)

told_same : (called : Callees) (m n : ℕ) (v w : Vi) (t u : ViTypes) → m ≡ n → v ≡ w → t ≡ u → told_by called m v t ≡ told_by called n w u
told_same called m n v w t u em ev et = ap (λ k. told_by called k v t) em ∙ ap (λ (x : Vi). told_by called n x t) ev ∙ ap (λ (x : ViTypes). told_by called n w x) et

breaks_more : (called : Callees) (number m : ℕ) (vis : List Vi) (ts : List ViTypes) (vi : Vi) (t : ViTypes) → slice_get vis (length ts) ≡ Some vi → m ≡ number + length ts
    → all_breaks called number vis (ts ++ t ∷ []) ≡ all_breaks called number vis ts ++ told_by called m vi t
breaks_more called number m [] [] vi t at e = absurd cc
breaks_more called number m (v ∷ vis) [] vi t at e =
    append-nil (told_by called number v t) ∙ told_same called number m v vi t t (omega (arith, e)) (some_same v vi at) refl
breaks_more called number m [] (u ∷ ts) vi t at e = absurd cc
breaks_more called number m (v ∷ vis) (u ∷ ts) vi t at e =
    ap (λ bs. told_by called number v u ++ bs) (breaks_more called (number + 1) m vis ts vi t at (omega (arith, e)))
    ∙ sym (append_assoc (told_by called number v u) (all_breaks called (number + 1) vis ts) (told_by called m vi t))

pub inferred_none : (called : Callees) (vis : List Vi) (found : List ViTypes) (told : List Break) → found ≡ [] → told ≡ [] → Inferred called vis 0 found told
inferred_none called vis found told e f =
    let P : List ViTypes → Type 0 = λ ts. Inferred called vis 0 ts told in
    subst P (sym e) (record { count = refl; typings = tt; breaks = f })

pub inferred_more : (called : Callees) (vis : List Vi) (n : ℕ) (vi : Vi) (t : ViTypes) (old found : List ViTypes) (before told : List Break) → slice_get vis n ≡ Some vi
    → Inferred called vis n old before → found ≡ old ++ t ∷ [] → IsTypingBy called vi.panel (entries_of vi) (types_in t)
    → told ≡ before ++ breaks_with called vi.panel (types_in t) n (entries_of vi) → Inferred called vis (n + 1) found told
inferred_more called vis n vi t old found before told at i e typing more =
    let here : slice_get vis (length old) ≡ Some vi = ap (slice_get vis) i.count ∙ at in
    let P : List ViTypes → Type 0 = λ ts. Inferred called vis (n + 1) ts told in
    subst P (sym e) (record {
      count = let c = i.count in length-append old (t ∷ []) ∙ ap (λ k. k + 1) c;
      typings = typings_more called vis old vi t here i.typings typing;
      breaks = more ∙ ap (λ bs. bs ++ told_by called n vi t) i.breaks ∙ sym (breaks_more called 0 n vis old vi t here (let c = i.count in omega (arith, c)));
    })

-- the same by what is known of calls, and the number of the VI
pub inferred_next : (known : Callees) (vis : List Vi) (n number : ℕ) (vi : Vi) (t : ViTypes) (old found : List ViTypes) (before told : List Break) → known ≡ called_panel vis → number ≡ n
    → slice_get vis n ≡ Some vi → Inferred (called_panel vis) vis n old before → found ≡ old ++ t ∷ [] → IsTypingBy known vi.panel (entries_of vi) (types_in t)
    → told ≡ before ++ breaks_with known vi.panel (types_in t) number (entries_of vi) → Inferred (called_panel vis) vis (n + 1) found told
inferred_next known vis n number vi t old found before told ek en at i e typing more =
    let P : Callees → Type 0 = λ called. IsTypingBy called vi.panel (entries_of vi) (types_in t) in
    inferred_more (called_panel vis) vis n vi t old found before told at i e (subst P ek typing)
    (more ∙ ap (λ (called : Callees). before ++ breaks_with called vi.panel (types_in t) number (entries_of vi)) ek
    ∙ ap (λ k. before ++ breaks_with (called_panel vis) vi.panel (types_in t) k (entries_of vi)) en)

pub typable_by : (known : Callees) (vis : List Vi) (vi : Vi) → known ≡ called_panel vis → IsTypable (called_panel vis) vi.panel (entries_of vi) → IsTypable known vi.panel (entries_of vi)
typable_by known vis vi ek h =
    let P : Callees → Type 0 = λ called. IsTypable called vi.panel (entries_of vi) in
    subst P (sym ek) h

-- ---- what is found at a VI

record FoundAt (called : Callees) (vi : Vi) (o : Option ViTypes) : Type 0 where
  found : ViTypes
  is : o ≡ Some found
  typing : IsTypingBy called vi.panel (entries_of vi) (types_in found)

found_at : (called : Callees) (vis : List Vi) (ts : List ViTypes) (k : ℕ) (vi : Vi) → AreTypings called vis ts → k < length ts → slice_get vis k ≡ Some vi → FoundAt called vi (slice_get ts k)
found_at called [] ts k vi h lt at = absurd cc
found_at called (v ∷ vis) [] k vi h lt at = absurd (omega arith)
found_at called (v ∷ vis) (t ∷ ts) zero vi h lt at =
    let P : Vi → Type 0 = λ w. IsTypingBy called w.panel (entries_of w) (types_in t) in
    record { found = t; is = refl; typing = subst P (some_same v vi at) h.0 }
found_at called (v ∷ vis) (t ∷ ts) (suc k) vi h lt at = found_at called vis ts k vi h.1 (omega (arith, lt)) at

-- a break told of one VI is told
told_of_one : (called : Callees) (number m : ℕ) (vis : List Vi) (ts : List ViTypes) (k : ℕ) (vi : Vi) (t : ViTypes) (b : Break) → slice_get vis k ≡ Some vi → slice_get ts k ≡ Some t
    → m ≡ number + k → Contains (told_by called m vi t) b → Contains (all_breaks called number vis ts) b
told_of_one called number m [] ts k vi t b at is e h = absurd cc
told_of_one called number m (v ∷ vis) [] k vi t b at is e h = absurd cc
told_of_one called number m (v ∷ vis) (u ∷ ts) zero vi t b at is e h =
    let P : List Break → Type 0 = λ bs. Contains bs b in
    Contains-append_left (told_by called number v u) (all_breaks called (number + 1) vis ts) b
    (subst P (told_same called m number vi v t u (omega (arith, e)) (sym (some_same v vi at)) (sym (some_same u t is))) h)
told_of_one called number m (v ∷ vis) (u ∷ ts) (suc k) vi t b at is e h =
    Contains-append_right (told_by called number v u) (all_breaks called (number + 1) vis ts) b (told_of_one called (number + 1) m vis ts k vi t b at is (omega (arith, e)) h)

-- a break that is told is told of one VI
record ToldAt (called : Callees) (number : ℕ) (vis : List Vi) (ts : List ViTypes) (b : Break) : Type 0 where
  at : ℕ
  vi : Vi
  types : ViTypes
  stands : slice_get vis at ≡ Some vi
  found : slice_get ts at ≡ Some types
  told : Contains (told_by called (number + at) vi types) b

none_in : {X : Type 0} {T : Type 0} (x : X) → Contains [] x → T
none_in x h = let lt = h.1 in absurd (omega (arith, lt))

told_at : (called : Callees) (number : ℕ) (vis : List Vi) (ts : List ViTypes) (b : Break) → Contains (all_breaks called number vis ts) b → ToldAt called number vis ts b
told_at called number vis [] b h = none_in b h
told_at called number [] (t ∷ ts) b h = none_in b h
told_at called number (v ∷ vis) (t ∷ ts) b h =
    let P : List Break → Type 0 = λ bs. Contains bs b in
    ⊎_elim
    (λ c. record { at = zero; vi = v; types = t; stands = refl; found = refl; told = subst P (told_same called number (number + zero) v v t t (omega arith) refl refl) c })
    (λ c. let r : ToldAt called (number + 1) vis ts b = told_at called (number + 1) vis ts b c in
    record { at = suc r.at; vi = r.vi; types = r.types; stands = r.stands; found = r.found; told = subst P (told_same called (number + 1 + r.at) (number + suc r.at) r.vi r.vi r.types r.types (omega arith) refl refl) r.told })
    (Contains-append_cases (told_by called number v t) (all_breaks called (number + 1) vis ts) b h)

-- ---- breaks by their order

has_contained : (bs : List Break) (b : Break) → has_break bs b ≡ true → Contains bs b
has_contained bs b h = Contains-from_any same_break b bs h

contained_has : (bs : List Break) (b : Break) → Contains bs b → has_break bs b ≡ true
contained_has bs b h = list_any-from_Contains (eq_by_cmp_equiv break_total) b bs h

-- ---- the hierarchy

abbrev pub NoneTurn : Hierarchy → Type 0
NoneTurn h = (k : ℕ) (vi : Vi) → slice_get h.vis k ≡ Some vi → (v : ℕ) → Leads (has_wire (ports_of h.vis vi)) v v → ⊥

typing_of : (vis : List Vi) (vi : Vi) (M : Types) → IsTypingBy (called_panel vis) vi.panel (entries_of vi) M → IsTyping vis vi M
typing_of vis vi M m = record { given = m.given; no_more = m.no_more }

abbrev pub AllInferred : List Vi → List ViTypes → List Break → Type 0
AllInferred vis found told = Inferred (called_panel vis) vis (length vis) found told

pub all_inferred : (vis own : List Vi) (found : List ViTypes) (told : List Break) → vis ≡ own → AllInferred vis found told → AllInferred own found told
all_inferred vis own found told e i =
    let P : List Vi → Type 0 = λ vs. AllInferred vs found told in
    subst P e i

abbrev AllTypable : List Vi → Type 0
AllTypable vis = (k : ℕ) (vi : Vi) → slice_get vis k ≡ Some vi → IsTypable (called_panel vis) vi.panel (entries_of vi)

pub all_typable : (vis own : List Vi) → vis ≡ own → AllTypable own → AllTypable vis
all_typable vis own e h = subst AllTypable (sym e) h

module _ (h : Hierarchy) (found : List ViTypes) (told : List Break) (none : NoneTurn h) (i : AllInferred h.vis found told) where
  abbrev called : Callees
  called = called_panel h.vis

  at_vi : (k : ℕ) (vi : Vi) → slice_get h.vis k ≡ Some vi → FoundAt called vi (slice_get found k)
  at_vi k vi at = let lt = slice_get_within h.vis k vi at in let c = i.count in found_at called h.vis found k vi i.typings (omega (arith, lt, c)) at

  each_told : (b : Break) → TypeBreak h b → Contains told b
  each_told b t =
      let f : FoundAt called t.vi (slice_get found b.place.vi) = at_vi b.place.vi t.vi t.stands in
      let same : t.types ≡ types_in f.found = one_typing h.vis t.vi t.types (types_in f.found) (none b.place.vi t.vi t.stands) t.typing (typing_of h.vis t.vi (types_in f.found) f.typing) in
      let P : List Break → Type 0 = λ bs. Contains bs b in
      let Q : Types → Type 0 = λ types. Contains (breaks_with called t.vi.panel types b.place.vi (entries_of t.vi)) b in
      subst P (sym i.breaks) (told_of_one called 0 b.place.vi h.vis found b.place.vi t.vi f.found b t.stands f.is (omega arith) (subst Q same t.is_broken))

  only_told : (b : Break) → Contains told b → TypeBreak h b
  only_told b c =
      let P : List Break → Type 0 = λ bs. Contains bs b in
      let r : ToldAt called 0 h.vis found b = told_at called 0 h.vis found b (subst P i.breaks c) in
      let at : b.place.vi ≡ 0 + r.at = told_in called (panel_type r.vi.panel) r.vi.panel (types_in r.types) (0 + r.at) (entries_of r.vi) b r.told in
      let here : b.place.vi ≡ r.at = omega (arith, at) in
      let f : FoundAt called r.vi (slice_get found r.at) = at_vi r.at r.vi r.stands in
      let same : f.found ≡ r.types = some_same f.found r.types (sym f.is ∙ r.found) in
      let Q : ℕ → Type 0 = λ k. slice_get h.vis k ≡ Some r.vi in
      let R : ℕ → Type 0 = λ k. Contains (told_by called k r.vi r.types) b in
      let T : ViTypes → Type 0 = λ types. IsTypingBy called r.vi.panel (entries_of r.vi) (types_in types) in
      record {
        vi = r.vi;
        stands = subst Q (sym here) r.stands;
        types = types_in r.types;
        typing = typing_of h.vis r.vi (types_in r.types) (subst T same f.typing);
        is_broken = subst R (sym at) r.told;
      }

  pub lists_each : (bs : List Break) → IsStrictlySortedBy break_cmp bs → ((b : Break) → has_break bs b ≡ has_break told b) → ListsEach (TypeBreak h) bs
  lists_each bs order same = record {
    ascending = order;
    only = λ b e. only_told b (has_contained told b (sym (same b) ∙ e));
    each = λ b t. same b ∙ contained_has told b (each_told b t);
  }

  only_typing : (k : ℕ) (vi : Vi) → slice_get h.vis k ≡ Some vi → (o : Option ViTypes) → FoundAt called vi o → HasTyping h.vis vi o
  only_typing k vi at None f = let e = f.is in absurd cc
  only_typing k vi at (Some t) f =
      let same : f.found ≡ t = some_same f.found t (sym f.is) in
      let T : ViTypes → Type 0 = λ types. IsTypingBy called vi.panel (entries_of vi) (types_in types) in
      let typing : IsTyping h.vis vi (types_in t) = typing_of h.vis vi (types_in t) (subst T same f.typing) in
      record { typing = typing; only = λ others m. one_typing h.vis vi others (types_in t) (none k vi at) m typing }

  none_listed : (bs : List Break) (b : Break) → length bs ≤ 0 → has_break bs b ≡ true → ⊥
  none_listed [] b le e = cc
  none_listed (c ∷ bs) b le e = omega arith

  pub is_typed : (typed : Typed) (bs : List Break) → typed.vis ≡ found → length bs ≤ 0 → ((b : Break) → has_break bs b ≡ has_break told b) → IsTyped h typed
  is_typed typed bs e le same =
      let P : List ViTypes → Type 0 = λ ts. (k : ℕ) (vi : Vi) → slice_get h.vis k ≡ Some vi → HasTyping h.vis vi (slice_get ts k) in
      record {
        each = subst P (sym e) (λ k vi at. only_typing k vi at (slice_get found k) (at_vi k vi at));
        unbroken = λ b t. none_listed bs b le (same b ∙ contained_has told b (each_told b t));
      }
