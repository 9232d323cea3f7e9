-- What is read is of its type, proper where its type is within the limits, and refers to nothing.
use Rattle.std.proofs.Common.{◌≡◌, ℕ, zero, suc, ◌≤◌, Bool, true, false, ◌&&◌, List, [], ◌∷◌, length, map, Option, Some, None, refl, sym, ap, ◌∙◌, arith, subst, inl, inr, ◌⊎◌}
use Rattle.std.specs.Prelude.{nat_le, if◌then◌else◌}
use Rattle.std.specs.List.{All, list_all}
use Rattle.std.specs.Option.{option_map}
use Rattle.std.proofs.lemmas.Bool.{leb-true}
use Rattle.std.proofs.lemmas.List.{length-map}
use Rattle.std.proofs.lemmas.List.Elements.{All-nil, All-cons, All-head, All-tail}
use Rattle.g_grammar.specs.Grammar.{Grammar, give, take, first, tail, Has, or_else, ◌>>=◌}
use Rattle.g_grammar.proofs.Live.{either_right}
use Rattle.g_tokens.specs.declared.token.Token.{Token}
use Rattle.g_tokens.specs.declared.token.Token.TheVariants as token
use Rattle.g_types.specs.declared.rep.Rep.{Rep}
use Rattle.g_types.specs.declared.ty.Ty.{Ty, out-Ty}
use Rattle.g_types.specs.declared.ty.Ty.TheVariants as ty
use Rattle.g_types.specs.declared.ty.Ty.TheOpen.{Ty-F}
use Rattle.g_types.specs.declared.ty.Ty.TheViews.{roll-Ty, roll-out-Ty}
use Rattle.g_types.specs.declared.ty.Ty.TheFolds.{ind-Ty, map-Ty}
use Rattle.g_types.specs.Ty.{is_num, is_num_at}
use Rattle.g_values.specs.declared.num.Num.{Num}
use Rattle.g_values.specs.declared.value.ArrOf.{ArrOf}
use Rattle.g_values.specs.declared.value.RefValue.{RefValue}
use Rattle.g_values.specs.declared.value.Value.{Value}
use Rattle.g_values.specs.declared.value.Value.TheVariants as value
use Rattle.g_values.specs.declared.value.Value.TheOpen.{Value-F}
use Rattle.g_values.specs.declared.value.Value.TheFolds.{every_made-Value, fold-roll-Value}
use Rattle.g_values.specs.Number.{num_of}
use Rattle.g_values.specs.Numbers.{Numbers as Several}
use Rattle.g_values.specs.Proper.{IsProper, IsLayer, IsWhole, IsArr, most}
use Rattle.g_values.specs.Spelled.{IsSpelled, IsWholeType}
use Rattle.g_values.specs.Value.{type_of}
use Rattle.g_values.proofs.ProperLemmas.{whole-made_cluster}
use Rattle.g_valtext.specs.Forms.{Form, Number, Truth, Text, Numbers, Items, Parts, Null, form, forms_of, items_of, rep_of}
use Rattle.g_valtext.specs.Plain.{refers_to_none, null_step}
use Rattle.g_valtext.proofs.Ranged.{null-Arr, null-Cluster, null-Queue, null-Cell}
use Rattle.g_valtext.specs.Spellings.{first_of, rest_of, of_form, values, grammars, number_within, truth, text_within, null, close_bracket, turn_rest, after_turn, further, from_first, array_rest, most_further, parts, parts_after}
use Rattle.g_values.proofs.SpelledTypes.{layer-Arr, layer-Cluster, whole-item, whole-parts}
use Rattle.g_values.proofs.TypesOf.{type-Num, type-Bool, type-Str, type-Nums, type-Arr, type-Cluster, type-Queue, type-Cell}
use Rattle.g_valtext.proofs.Steps.{form-Num, form-Bool, form-Str, form-Arr, form-Cluster, form-QueueRef, form-ValueRef, grammars-of}

some_is : {A : Type 0} {x y : A} → Some x ≡ Some y → x ≡ y
some_is e = cc

-- ---- items

turned : {A : Type 0} (g : Grammar Token A) (P : A → Type 0) → ((ts : List Token) (x : A) (rest : List Token) → Has g ts x rest → P x)
    → (again : Bool) (o : Option A) (ts rest : List Token) → Has (turn_rest g again) ts o rest → (x : A) → o ≡ Some x → P x
turned g P each true o ts rest h x e = subst P (some_is (h.3.0 ∙ e)) (each ts h.0 h.1 h.2)
turned {A} g P each false o ts rest h x e = absurd (let f : ◌≡◌ {A = Option A} None (Some x) = h.0 ∙ e in cc)

further_step : {A : Type 0} (g : Grammar Token A) (P : A → Type 0) (n : ℕ) → ((ts : List Token) (xs : List A) (rest : List Token) → Has (further g n) ts xs rest → All P xs × (length xs ≤ n))
    → (o : Option A) (ts : List Token) (xs : List A) (rest : List Token) → ((x : A) → o ≡ Some x → P x) → Has (after_turn (further g n) o) ts xs rest → All P xs × (length xs ≤ suc n)
further_step g P n more None ts xs rest each h = subst (λ xs. All P xs × (length xs ≤ suc n)) h.0 (All-nil P, omega arith)
further_step g P n more (Some x) ts xs rest each h =
    let m = more ts h.0 h.1 h.2 in
    let le = m.1 in
    subst (λ xs. All P xs × (length xs ≤ suc n)) h.3.0 (All-cons P x h.0 (each x refl) m.0, omega arith)

-- what each further item is, and how many there are
further_all : {A : Type 0} (g : Grammar Token A) (P : A → Type 0) → ((ts : List Token) (x : A) (rest : List Token) → Has g ts x rest → P x)
    → (n : ℕ) (ts : List Token) (xs : List A) (rest : List Token) → Has (further g n) ts xs rest → All P xs × (length xs ≤ n)
unfolding further
further_all g P each zero ts xs rest h = subst (λ xs. All P xs × (length xs ≤ 0)) h.3.0 (All-nil P, omega arith)
further_all g P each (suc n) ts xs rest h =
    further_step g P n (further_all g P each n) h.0 h.1 xs rest (turned g P each h.2.0 h.0 h.2.1 h.1 h.2.3) h.3

first_either : {C : Type 0} (p : Token → Option C) (ts : List Token) (c : C) → first (or_else close_bracket p) ts ≡ Some (inr c) → first p ts ≡ Some c
first_either p [] c e = absurd cc
first_either p (t ∷ ts) c e = either_right (close_bracket t) (p t) c e

array_all : {A C : Type 0} (p : Token → Option C) (k : C → Grammar Token A) (P : A → Type 0) → ((ts : List Token) (x : A) (rest : List Token) → Has (take p >>= k) ts x rest → P x)
    → (ts : List Token) (xs : List A) (rest : List Token) → Has (array_rest p k) ts xs rest → All P xs × (length xs ≤ 4194304)
array_all {A} {C} p k P each ts xs rest h = go h.0 h.1 h.2.0 h.2.1 h.3
  where
    go : (c : Unit {0} ⊎ C) (mid : List Token) → first (or_else close_bracket p) ts ≡ Some c → tail ts ≡ mid → Has (from_first k (further (take p >>= k) most_further) c) mid xs rest → All P xs × (length xs ≤ 4194304)
    go (inl end) mid e f h = subst (λ xs. All P xs × (length xs ≤ 4194304)) h.0 (All-nil P, omega arith)
    go (inr c) mid e f h =
        let m = further_all (take p >>= k) P each most_further h.1 h.3.0 h.3.1 h.3.2 in
        let le = m.1 in
        let here = each ts h.0 h.1 (c, mid, (first_either p ts c e, f), h.2) in
        subst (λ xs. All P xs × (length xs ≤ 4194304)) h.3.3.0 (All-cons P h.0 h.3.0 here m.0, omega arith)

-- ---- what is read, one form at a time

from_one : {C : Type 0} (p : Token → Option C) (f : C → Value) (ts : List Token) (v : Value) → first (λ t. option_map f (p t)) ts ≡ Some v → (t : Token) × (c : C) × (p t ≡ Some c) × (f c ≡ v)
from_one p f [] v e = absurd cc
from_one {C} p f (t ∷ ts) v e = go (p t) refl e
  where
    go : (o : Option C) → p t ≡ o → option_map f o ≡ Some v → (t : Token) × (c : C) × (p t ≡ Some c) × (f c ≡ v)
    go None h e = absurd cc
    go (Some c) h e = (t, c, h, some_is e)

text_short : (t : Token) (s : List ℕ) → text_within t ≡ Some s → length s ≤ most
text_short (token.Text bytes) s e = go (nat_le (length bytes) most) refl e
  where
    go : (b : Bool) → nat_le (length bytes) most ≡ b → (if b then Some bytes else None) ≡ Some s → length s ≤ most
    go true h e = subst (λ l. length l ≤ most) (some_is e) (leb-true (length bytes) most h)
    go false h e = absurd cc
text_short _ s e = absurd cc

abbrev IsRead : Ty → Value → Type 0
IsRead t v = (type_of v ≡ t) × (IsWholeType t → IsWhole v) × (refers_to_none v ≡ true)

null-Num : (x : Num) → refers_to_none (value.Num x) ≡ true
null-Num x = ap refers_to_none (sym (value.rolls-Num x)) ∙ fold-roll-Value Bool null_step (Value-F.Num x)

null-Bool : (b : Bool) → refers_to_none (value.Bool b) ≡ true
null-Bool b = ap refers_to_none (sym (value.rolls-Bool b)) ∙ fold-roll-Value Bool null_step (Value-F.Bool b)

null-Str : (s : List ℕ) → refers_to_none (value.Str s) ≡ true
null-Str s = ap refers_to_none (sym (value.rolls-Str s)) ∙ fold-roll-Value Bool null_step (Value-F.Str s)

null-Nums : (xs : Several) → refers_to_none (value.Nums xs) ≡ true
null-Nums xs = ap refers_to_none (sym (value.rolls-Nums xs)) ∙ fold-roll-Value Bool null_step (Value-F.Nums xs)

-- each of these refers to nothing
none_refers : (vs : List Value) → All (λ v. refers_to_none v ≡ true) vs → list_all refers_to_none vs ≡ true
none_refers [] all = refl
none_refers (v ∷ vs) all =
    ap (λ b. b && list_all refers_to_none vs) (All-head (λ v. refers_to_none v ≡ true) v vs all)
    ∙ none_refers vs (All-tail (λ v. refers_to_none v ≡ true) v vs all)

whole-Num : (x : Num) → IsWhole (value.Num x)
whole-Num x = subst IsWhole (value.rolls-Num x) (every_made-Value IsLayer (Value-F.Num x) (Value-F.Num x) refl tt)

whole-Bool : (b : Bool) → IsWhole (value.Bool b)
whole-Bool b = subst IsWhole (value.rolls-Bool b) (every_made-Value IsLayer (Value-F.Bool b) (Value-F.Bool b) refl tt)

whole-Str : (s : List ℕ) → length s ≤ most → IsWhole (value.Str s)
whole-Str s le = subst IsWhole (value.rolls-Str s) (every_made-Value IsLayer (Value-F.Str s) (Value-F.Str s) refl le)

whole-Nums : (xs : Several) → length xs.all ≤ most → IsWhole (value.Nums xs)
whole-Nums xs le = subst IsWhole (value.rolls-Nums xs) (every_made-Value IsLayer (Value-F.Nums xs) (Value-F.Nums xs) refl le)

whole-Queue : (r : RefValue) → IsWhole (value.Queue r)
whole-Queue r = subst IsWhole (value.rolls-Queue r) (every_made-Value IsLayer (Value-F.Queue r) (Value-F.Queue r) refl tt)

whole-Cell : (r : RefValue) → IsWhole (value.Cell r)
whole-Cell r = subst IsWhole (value.rolls-Cell r) (every_made-Value IsLayer (Value-F.Cell r) (Value-F.Cell r) refl tt)

abbrev Wholes : Type 0
Wholes = (v : Value) × IsWhole v

with_proofs : (vs : List Value) → All IsWhole vs → (ps : List Wholes) × (map (λ p. p.0) ps ≡ vs)
with_proofs [] a = ([], refl)
with_proofs (v ∷ vs) a =
    let p = with_proofs vs (All-tail IsWhole v vs a) in
    ((v, All-head IsWhole v vs a) ∷ p.0, ap (λ l. v ∷ l) p.1)

whole-Arr : (xs : ArrOf Value) → IsArr xs → All IsWhole xs.items → IsWhole (value.Arr xs)
whole-Arr xs is a =
    let p = with_proofs xs.items a in
    let q : ArrOf Wholes = record { elem = xs.elem; items = p.0 } in
    let e : ◌≡◌ {A = ArrOf Value} (record { elem = xs.elem; items = map (λ p. p.0) p.0 }) xs = ap (λ (l : List Value). let x : ArrOf Value = record { elem = xs.elem; items = l } in x) p.1 in
    subst IsWhole (value.rolls-Arr xs) (every_made-Value IsLayer (Value-F.Arr xs) (Value-F.Arr q) (ap Value-F.Arr e) is)

read-Number : (r : Rep) (ts : List Token) (v : Value) (rest : List Token) → Has (of_form (Number r)) ts v rest → IsRead (ty.Num r) v
unfolding rest_of grammars
read-Number r ts v rest h =
    let o = from_one (number_within r) (λ n. value.Num (num_of r n)) ts h.0 h.2.0 in
    subst (IsRead (ty.Num r)) (o.3 ∙ h.3.0) (type-Num (num_of r o.1), (λ l. whole-Num (num_of r o.1)), null-Num (num_of r o.1))

read-Truth : (ts : List Token) (v : Value) (rest : List Token) → Has (of_form Truth) ts v rest → IsRead ty.Bool v
unfolding rest_of grammars
read-Truth ts v rest h =
    let o = from_one truth (λ b. value.Bool b) ts h.0 h.2.0 in
    subst (IsRead ty.Bool) (o.3 ∙ h.3.0) (type-Bool o.1, (λ l. whole-Bool o.1), null-Bool o.1)

read-Text : (ts : List Token) (v : Value) (rest : List Token) → Has (of_form Text) ts v rest → IsRead ty.Str v
unfolding rest_of grammars
read-Text ts v rest h =
    let o = from_one text_within (λ s. value.Str s) ts h.0 h.2.0 in
    subst (IsRead ty.Str) (o.3 ∙ h.3.0) (type-Str o.1, (λ l. whole-Str o.1 (text_short o.0 o.1 o.2)), null-Str o.1)

read-Null : (w : Value) (ts : List Token) (v : Value) (rest : List Token) → Has (of_form (Null w)) ts v rest → w ≡ v
unfolding rest_of grammars
read-Null w ts v rest h = (from_one null (λ u. w) ts h.0 h.2.0).3 ∙ h.3.0

read-Numbers : (r : Rep) (ts : List Token) (v : Value) (rest : List Token) → Has (of_form (Numbers r)) ts v rest → IsRead (ty.Arr (ty.Num r)) v
unfolding rest_of grammars
read-Numbers r ts v rest h =
    let all = h.3.0 in
    let few = (array_all (number_within r) (λ n. give n) (λ n. Unit {0}) (λ ts x rest h. tt) h.1 all h.3.1 h.3.2).1 in
    let xs : Several = record { rep = r; all = all } in
    subst (IsRead (ty.Arr (ty.Num r))) h.3.3.0 (type-Nums xs, (λ l. whole-Nums xs few), null-Nums xs)

-- the values of a type are read as such
abbrev Reads : Ty → Type 0
Reads t = (ts : List Token) (v : Value) (rest : List Token) → Has (values t) ts v rest → IsRead t v

abbrev Told : Type 0
Told = (t : Ty) × Reads t

both_all : (t : Ty) (vs : List Value) → All (IsRead t) vs → All (λ v. type_of v ≡ t) vs × (IsWholeType t → All IsWhole vs) × All (λ v. refers_to_none v ≡ true) vs
both_all t vs a = ((λ k d lt. (a k d lt).0), (λ l k d lt. (a k d lt).1 l), (λ k d lt. (a k d lt).2))

read-Items : (t : Ty) → Reads t → is_num t ≡ false → (ts : List Token) (v : Value) (rest : List Token) → Has (of_form (Items t (form t))) ts v rest → IsRead (ty.Arr t) v
unfolding rest_of grammars
read-Items t each apart ts v rest h =
    let items = h.3.0 in
    let f = form t in
    let all = array_all (first_of f) (rest_of f) (IsRead t) each h.1 items h.3.1 h.3.2 in
    let b = both_all t items all.0 in
    let xs : ArrOf Value = record { elem = t; items = items } in
    subst (IsRead (ty.Arr t)) h.3.3.0 (
      type-Arr xs,
      (λ l. whole-Arr xs (record { few = all.1; one_type = b.0; no_number = apart; no_array = layer-Arr t l }) (b.1 (whole-item t l))),
      null-Arr xs ∙ none_refers items b.2,
    )

abbrev AreRead : List Ty → List Value → Type 0
AreRead types vs = (map type_of vs ≡ types) × (All IsWholeType types → All IsWhole vs) × (list_all refers_to_none vs ≡ true)

one_more : (t : Ty) (types : List Ty) (v : Value) (vs : List Value) → IsRead t v → AreRead types vs → AreRead (t ∷ types) (v ∷ vs)
one_more t types v vs r rs = (
  ap (λ u. u ∷ map type_of vs) r.0 ∙ ap (λ l. t ∷ l) rs.0,
  (λ l. All-cons IsWhole v vs (r.1 (All-head IsWholeType t types l)) (rs.1 (All-tail IsWholeType t types l))),
  ap (λ b. b && list_all refers_to_none vs) r.2 ∙ rs.2,
)

no_parts : AreRead [] []
no_parts = (refl, (λ l. All-nil IsWhole), refl)

after_read : (ps : List Told) (ts : List Token) (vs : List Value) (rest : List Token) → Has (parts_after (map values (map (λ p. p.0) ps))) ts vs rest → AreRead (map (λ p. p.0) ps) vs
after_read [] ts vs rest h = subst (AreRead []) h.3.0 no_parts
after_read (p ∷ ps) ts vs rest h =
    subst (AreRead (map (λ (p : Told). p.0) (p ∷ ps))) h.3.3.0 (one_more p.0 (map (λ (p : Told). p.0) ps) h.0 h.3.0 (p.1 h.2.1 h.0 h.1 h.2.3) (after_read ps h.1 h.3.0 h.3.1 h.3.2))

parts_read : (ps : List Told) (ts : List Token) (vs : List Value) (rest : List Token) → Has (parts (map values (map (λ p. p.0) ps))) ts vs rest → AreRead (map (λ p. p.0) ps) vs
parts_read [] ts vs rest h = subst (AreRead []) h.3.0 no_parts
parts_read (p ∷ ps) ts vs rest h =
    subst (AreRead (map (λ (p : Told). p.0) (p ∷ ps))) h.3.3.0 (one_more p.0 (map (λ (p : Told). p.0) ps) h.0 h.3.0 (p.1 ts h.0 h.1 h.2) (after_read ps h.1 h.3.0 h.3.1 h.3.2))

read-Cluster : (ps : List Told) (ts : List Token) (v : Value) (rest : List Token) → Has (of_form (Parts (forms_of (map form (map (λ p. p.0) ps))))) ts v rest → IsRead (ty.Cluster (map (λ p. p.0) ps)) v
unfolding rest_of grammars
read-Cluster ps ts v rest h =
    let types = map (λ (p : Told). p.0) ps in
    let vs = h.3.0 in
    let has : Has (parts (map values types)) h.1 vs h.3.1 = subst (λ gs. Has (parts gs) h.1 vs h.3.1) (grammars-of types) h.3.2 in
    let r = parts_read ps h.1 vs h.3.1 has in
    let long : length vs ≡ length types = sym (length-map vs type_of) ∙ ap length r.0 in
    subst (IsRead (ty.Cluster types)) h.3.3.0 (
      type-Cluster vs ∙ ap ty.Cluster r.0,
      (λ l.
          let is = layer-Cluster types l in
          let some = is.some in
          let few = is.few in
          whole-made_cluster vs (record { some = omega arith; few = omega arith }) (r.1 (whole-parts types l))),
      null-Cluster vs ∙ r.2,
    )

-- ---- all types

by_form : (t : Ty) (f : Form) → form t ≡ f → ((ts : List Token) (v : Value) (rest : List Token) → Has (of_form f) ts v rest → IsRead t v) → Reads t
by_form t f e each ts v rest h = each ts v rest (subst (λ g. Has (of_form g) ts v rest) e h)

array_by : (o : Ty-F Ty) (t : Ty) → out-Ty t ≡ o → Reads t → (ts : List Token) (v : Value) (rest : List Token) → Has (of_form (items_of (rep_of o) t (form t))) ts v rest → IsRead (ty.Arr t) v
array_by (Ty-F.Num r) t e each ts v rest h =
    let same : ty.Num r ≡ t = sym (ty.rolls-Num r) ∙ ap roll-Ty (sym e) ∙ roll-out-Ty t in
    subst (λ t. IsRead (ty.Arr t) v) same (read-Numbers r ts v rest h)
array_by Ty-F.Bool t e each ts v rest h = read-Items t each (ap is_num_at e) ts v rest h
array_by Ty-F.Str t e each ts v rest h = read-Items t each (ap is_num_at e) ts v rest h
array_by (Ty-F.Arr u) t e each ts v rest h = read-Items t each (ap is_num_at e) ts v rest h
array_by (Ty-F.Cluster us) t e each ts v rest h = read-Items t each (ap is_num_at e) ts v rest h
array_by (Ty-F.QueueRef u) t e each ts v rest h = read-Items t each (ap is_num_at e) ts v rest h
array_by (Ty-F.ValueRef u) t e each ts v rest h = read-Items t each (ap is_num_at e) ts v rest h

told : (y : Ty-F Told) → Reads (roll-Ty (map-Ty Told Ty (λ p. p.0) y))
told (Ty-F.Num r) = subst Reads (sym (ty.rolls-Num r)) (by_form (ty.Num r) (Number r) (form-Num r) (read-Number r))
told Ty-F.Bool = subst Reads (sym ty.rolls-Bool) (by_form ty.Bool Truth form-Bool read-Truth)
told Ty-F.Str = subst Reads (sym ty.rolls-Str) (by_form ty.Str Text form-Str read-Text)
told (Ty-F.Arr p) = subst Reads (sym (ty.rolls-Arr p.0)) (by_form (ty.Arr p.0) (items_of (rep_of (out-Ty p.0)) p.0 (form p.0)) (form-Arr p.0) (array_by (out-Ty p.0) p.0 refl p.1))
told (Ty-F.Cluster ps) =
    let types = map (λ (p : Told). p.0) ps in
    subst Reads (sym (ty.rolls-Cluster types)) (by_form (ty.Cluster types) (Parts (forms_of (map form types))) (form-Cluster types) (read-Cluster ps))
told (Ty-F.QueueRef p) =
    let r : RefValue = record { elem = p.0; at = None } in
    subst Reads (sym (ty.rolls-QueueRef p.0)) (by_form (ty.QueueRef p.0) (Null (value.Queue r)) (form-QueueRef p.0)
    (λ ts v rest h. subst (IsRead (ty.QueueRef p.0)) (read-Null (value.Queue r) ts v rest h) (type-Queue r, (λ l. whole-Queue r), null-Queue r)))
told (Ty-F.ValueRef p) =
    let r : RefValue = record { elem = p.0; at = None } in
    subst Reads (sym (ty.rolls-ValueRef p.0)) (by_form (ty.ValueRef p.0) (Null (value.Cell r)) (form-ValueRef p.0)
    (λ ts v rest h. subst (IsRead (ty.ValueRef p.0)) (read-Null (value.Cell r) ts v rest h) (type-Cell r, (λ l. whole-Cell r), null-Cell r)))

reads : (t : Ty) → Reads t
reads = ind-Ty Reads (λ x y is. subst (λ z. Reads (roll-Ty z)) is (told y))

pub typed : (t : Ty) (ts : List Token) (v : Value) → Has (values t) ts v [] → type_of v ≡ t
typed t ts v h = (reads t ts v [] h).0

pub proper : (t : Ty) (ts : List Token) (v : Value) → Has (values t) ts v [] → IsSpelled t → IsProper v
proper t ts v h is =
    let r = reads t ts v [] h in
    record { whole = r.1 is.whole; spelled = subst IsSpelled (sym r.0) is }

pub refers_to_nothing : (t : Ty) (ts : List Token) (v : Value) → Has (values t) ts v [] → refers_to_none v ≡ true
refers_to_nothing t ts v h = (reads t ts v [] h).2
