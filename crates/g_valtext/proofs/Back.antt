-- What is printed spells the value.
use Rattle.std.proofs.Common.{◌≡◌, ℕ, ◌-◌, ◌≤◌, ◌^◌, Bool, true, false, List, [], ◌∷◌, ◌++◌, length, map, Option, Some, None, codes, ℤ, pos, negsuc, neg_ℤ, ◌≤ℤ◌, refl, sym, ap, ◌∙◌, arith, subst, append_assoc, get_or}
use Rattle.std.specs.Prelude.{IsTrue, is_none, nat_le}
use Rattle.std.specs.List.{list_all, All}
use Rattle.std.specs.Fmt.{signed_decimal}
use Rattle.std.specs.Int.Signed.{le_z, le_z_yes}
use Rattle.std.proofs.Math.Dec.{T_prop}
use Rattle.std.proofs.lemmas.Bool.{and_parts}
use Rattle.std.proofs.lemmas.Bool.Decides.{nat_tests}
use Rattle.std.proofs.lemmas.Float.{T_from_true}
use Rattle.std.proofs.lemmas.Int.{ints}
use Rattle.std.proofs.lemmas.List.{append-nil}
use Rattle.std.proofs.lemmas.List.Elements.{All-head, All-tail, All-map, All-same}
use Rattle.std.proofs.lemmas.Simd.{map-map}
use Rattle.g_grammar.specs.Grammar.{Grammar, give, Has}
use Rattle.g_tokens.specs.declared.token.Token.{Token}
use Rattle.g_tokens.specs.declared.token.Token.TheVariants as token
use Rattle.g_tokens.specs.declared.token.Mark.TheVariants as mark
use Rattle.g_types.specs.declared.rep.Rep.{Rep}
use Rattle.g_types.specs.declared.rep.Rep.TheVariants.{I8, I16, I32, I64, U8, U16, U32, U64}
use Rattle.g_types.specs.Rep.{wrap, size, half, InRange}
use Rattle.g_types.specs.declared.ty.Ty.{Ty, out-Ty}
use Rattle.g_types.specs.declared.ty.Ty.TheVariants as ty
use Rattle.g_types.specs.declared.ty.Ty.TheOpen.{Ty-F}
use Rattle.g_types.specs.Ty.{joined, is_num_at}
use Rattle.g_values.specs.declared.num.Num.{Num}
use Rattle.g_values.specs.declared.value.ArrOf.{ArrOf}
use Rattle.g_values.specs.declared.value.Live.{Live}
use Rattle.g_values.specs.declared.value.Value.{Value}
use Rattle.g_values.specs.declared.value.Value.TheVariants as value
use Rattle.g_values.specs.declared.value.Value.TheOpen.{Value-F}
use Rattle.g_values.specs.declared.value.Value.TheViews.{roll-Value}
use Rattle.g_values.specs.declared.value.Value.TheFolds.{ind-Value, map-Value, every_held-Value, every_here-Value}
use Rattle.g_values.specs.Number.{num_of, wrap-in_range}
use Rattle.g_values.specs.Numbers.{Numbers as Several}
use Rattle.g_values.specs.Proper.{IsProper, IsLayer, IsWhole, IsArr, most}
use Rattle.g_values.specs.Text.{text, quoted, bracketed, braced, truth_text, reference_text}
use Rattle.g_values.specs.Value.{type_of}
use Rattle.g_values.proofs.ProperLemmas.{whole-in_cluster}
use Rattle.g_values.proofs.TypesOf.{type-Num, type-Bool, type-Str, type-Nums, type-Arr, type-Cluster, type-Queue, type-Cell}
use Rattle.g_values.proofs.TextLemmas.{text-Num, text-Bool, text-Str, text-Nums, text-Arr, text-Cluster, text-Queue, text-Cell}
use Rattle.g_valtext.specs.Forms.{Form, Number, Truth, Text, Numbers, Items, Parts, Null, form, forms_of, items_of, rep_of}
use Rattle.g_valtext.specs.Plain.{is_byte, is_ranged, refers_to_none}
use Rattle.g_valtext.proofs.Ranged.{within, ranged-Str, ranged-Nums, ranged-Arr, ranged-Cluster, null-Arr, null-Cluster, null-Queue, null-Cell}
use Rattle.g_valtext.specs.Spellings.{first_of, rest_of, of_form, values, grammars, number, number_within, is_within, parts, tokens, IsSpelling}
use Rattle.g_valtext.proofs.Exact.{one_value}
use Rattle.g_valtext.proofs.Pieces.{IsShort, finish, mark_piece, word_piece, number_piece, text_piece}
use Rattle.g_valtext.proofs.Ranges.{kept}
use Rattle.g_valtext.proofs.Spoken.{Spoken, Says, AllSay, Speak, array_says, parts_say}
use Rattle.g_valtext.proofs.Steps.{form-Num, form-Bool, form-Str, form-Arr, form-Cluster, form-QueueRef, form-ValueRef, grammars-of}

says_by : (v : Value) (f : Form) (w : List ℕ) → form (type_of v) ≡ f → text v ≡ w → Says (of_form f) w v → Says (values (type_of v)) (text v) v
says_by v f w e t s bytes ts bound c =
    subst (λ g. Spoken (of_form g) v (text v ++ bytes) ts) (sym e) (subst (λ l. Spoken (of_form f) v (l ++ bytes) ts) (sym t) (s bytes ts bound c))

-- ---- numbers

small : (r : Rep) → (size r ≤ 2 ^ 64) × (half r ≤ 2 ^ 63)
small I8 = (omega arith, omega arith)
small I16 = (omega arith, omega arith)
small I32 = (omega arith, omega arith)
small I64 = (omega arith, omega arith)
small U8 = (omega arith, omega arith)
small U16 = (omega arith, omega arith)
small U32 = (omega arith, omega arith)
small U64 = (omega arith, omega arith)

short_by : (n : ℤ) (s h : ℕ) → s ≤ 2 ^ 64 → h ≤ 2 ^ 63 → neg_ℤ (pos h) ≤ℤ n → n ≤ℤ pos (s - h - 1) → IsShort n
short_by (pos m) s h a b low high = omega (arith, ints)
short_by (negsuc m) s h a b low high = omega (arith, ints)

short : (r : Rep) (n : ℤ) → is_within r n ≡ true → IsShort n
short r n e =
    let b = and_parts (le_z (neg_ℤ (pos (half r))) n) (le_z n (pos (size r - half r - 1))) e in
    short_by n (size r) (half r) (small r).0 (small r).1 (le_z_yes (T_from_true _ b.0)) (le_z_yes (T_from_true _ b.1))

number_says : (r : Rep) (n : ℤ) → is_within r n ≡ true → Says (number r) (signed_decimal n) n
number_says r n e bytes ts bound c = record { tokens = token.Number n ∷ ts; cut = number_piece n (short r n e) bound c; has = (n, ts, (rw e refl, refl), (refl, refl)) }

InRange-prop : (r : Rep) (n : ℤ) → IsProp (InRange r n)
InRange-prop r n = hlevel T_prop

abbrev num_with : (r : Rep) (n : ℤ) → InRange r n → Num
num_with r n p = record { rep = r; n = n; in_range = p }

same_with : (r : Rep) (n m : ℤ) (e : n ≡ m) (p : InRange r n) (q : InRange r m) → num_with r n p ≡ num_with r m q
same_with r n m e p q = subst (λ k. (h : InRange r k) → num_with r n p ≡ num_with r k h) e (λ h. ap (num_with r n) (InRange-prop r n p h)) q

num_says : (x : Num) → Says (of_form (Number x.rep)) (signed_decimal x.n) (value.Num x)
unfolding rest_of grammars
num_says x bytes ts bound c =
    let e = within x.rep x.n x.in_range in
    let same : num_of x.rep x.n ≡ x = same_with x.rep (wrap x.rep x.n) x.n (kept x.rep x.n e) (wrap-in_range x.rep x.n) x.in_range in
    record { tokens = token.Number x.n ∷ ts; cut = number_piece x.n (short x.rep x.n e) bound c; has = (value.Num (num_of x.rep x.n), ts, (rw e refl, refl), (ap value.Num same, refl)) }

-- ---- the other values that hold none

bool_says : (b : Bool) → Says (of_form Truth) (truth_text b) (value.Bool b)
unfolding rest_of grammars
bool_says true bytes ts bound c = record { tokens = token.Word (codes "TRUE") ∷ ts; cut = word_piece 84 (82 ∷ 85 ∷ 69 ∷ []) refl refl (omega arith) bound c; has = (value.Bool true, ts, (refl, refl), (refl, refl)) }
bool_says false bytes ts bound c = record { tokens = token.Word (codes "FALSE") ∷ ts; cut = word_piece 70 (65 ∷ 76 ∷ 83 ∷ 69 ∷ []) refl refl (omega arith) bound c; has = (value.Bool false, ts, (refl, refl), (refl, refl)) }

few : (n : ℕ) → n ≤ most → nat_le n most ≡ true
few n h = grind (arith, nat_tests)

str_says : (s : List ℕ) → length s ≤ most → list_all is_byte s ≡ true → Says (of_form Text) (quoted s) (value.Str s)
unfolding rest_of grammars
str_says s le h bytes ts bound c = record { tokens = token.Text s ∷ ts; cut = text_piece s h c; has = (value.Str s, ts, (rw (few (length s) le) refl, refl), (refl, refl)) }

null_says : (v : Value) → Says (of_form (Null v)) (codes "null") v
unfolding rest_of grammars
null_says v bytes ts bound c = record { tokens = token.Word (codes "null") ∷ ts; cut = word_piece 110 (117 ∷ 108 ∷ 108 ∷ []) refl refl (omega arith) bound c; has = (v, ts, (refl, refl), (refl, refl)) }

-- ---- arrays

numbers_say : (r : Rep) (all : List ℤ) → list_all (is_within r) all ≡ true → AllSay (number r) signed_decimal all
numbers_say r [] h = tt
numbers_say r (n ∷ all) h = let q = and_parts (is_within r n) (list_all (is_within r) all) h in (number_says r n q.0, numbers_say r all q.1)

nums_say : (xs : Several) → length xs.all ≤ most → list_all (is_within xs.rep) xs.all ≡ true → Says (of_form (Numbers xs.rep)) (bracketed (map signed_decimal xs.all)) (value.Nums xs)
unfolding rest_of grammars
nums_say xs le h bytes ts bound c =
    let items = array_says (number_within xs.rep) (λ n. give n) signed_decimal xs.all refl le (numbers_say xs.rep xs.all h) bytes ts c in
    let here : Spoken (of_form (Numbers xs.rep)) (value.Nums xs) (91 ∷ (joined (map signed_decimal xs.all) ++ 93 ∷ bytes)) ts = record {
      tokens = token.Mark mark.OpenBracket ∷ items.tokens;
      cut = mark_piece 91 mark.OpenBracket refl refl items.cut;
      has = (tt, items.tokens, (refl, refl), (xs.all, ts, items.has, (refl, refl)));
    } in
    subst (λ l. Spoken (of_form (Numbers xs.rep)) (value.Nums xs) (91 ∷ l) ts) (sym (append_assoc (joined (map signed_decimal xs.all)) (93 ∷ []) bytes)) here

no_item : (f : Form) → first_of f (token.Mark mark.CloseBracket) ≡ None
no_item (Number r) = refl
no_item Truth = refl
no_item Text = refl
no_item (Null v) = refl
no_item (Numbers r) = refl
no_item (Items t f) = refl
no_item (Parts fs) = refl

abbrev g : Value → Grammar Token Value
g v = values (type_of v)

items_say : (elem : Ty) (vs : List Value) → All (λ v. type_of v ≡ elem) vs → Speak g vs → AllSay (values elem) text vs
items_say elem [] same all = tt
items_say elem (v ∷ vs) same all =
    (subst (λ t. Says (values t) (text v) v) (All-head (λ v. type_of v ≡ elem) v vs same) all.0, items_say elem vs (All-tail (λ v. type_of v ≡ elem) v vs same) all.1)

arr_says : (xs : ArrOf Value) → IsArr xs → Speak g xs.items → Says (of_form (Items xs.elem (form xs.elem))) (bracketed (map text xs.items)) (value.Arr xs)
unfolding rest_of grammars
arr_says xs is all bytes ts bound c =
    let f = form xs.elem in
    let items = array_says (first_of f) (rest_of f) text xs.items (no_item f) is.few (items_say xs.elem xs.items is.one_type all) bytes ts c in
    let here : Spoken (of_form (Items xs.elem f)) (value.Arr xs) (91 ∷ (joined (map text xs.items) ++ 93 ∷ bytes)) ts = record {
      tokens = token.Mark mark.OpenBracket ∷ items.tokens;
      cut = mark_piece 91 mark.OpenBracket refl refl items.cut;
      has = (tt, items.tokens, (refl, refl), (xs.items, ts, items.has, (refl, refl)));
    } in
    subst (λ l. Spoken (of_form (Items xs.elem f)) (value.Arr xs) (91 ∷ l) ts) (sym (append_assoc (joined (map text xs.items)) (93 ∷ []) bytes)) here

-- ---- clusters

grammars-are : (vs : List Value) → grammars (forms_of (map form (map type_of vs))) ≡ map g vs
grammars-are vs = grammars-of (map type_of vs) ∙ map-map values type_of vs

cluster_says : (vs : List Value) → Speak g vs → Says (of_form (Parts (forms_of (map form (map type_of vs))))) (braced (map text vs)) (value.Cluster vs)
unfolding rest_of grammars
cluster_says vs all bytes ts bound c =
    let fs = forms_of (map form (map type_of vs)) in
    let items = parts_say g vs all bytes ts c in
    let has : Has (parts (grammars fs)) items.tokens vs ts = subst (λ gs. Has (parts gs) items.tokens vs ts) (sym (grammars-are vs)) items.has in
    let here : Spoken (of_form (Parts fs)) (value.Cluster vs) (123 ∷ (joined (map text vs) ++ 125 ∷ bytes)) ts = record {
      tokens = token.Mark mark.OpenBrace ∷ items.tokens;
      cut = mark_piece 123 mark.OpenBrace refl refl items.cut;
      has = (tt, items.tokens, (refl, refl), (vs, ts, has, (refl, refl)));
    } in
    subst (λ l. Spoken (of_form (Parts fs)) (value.Cluster vs) (123 ∷ l) ts) (sym (append_assoc (joined (map text vs)) (125 ∷ []) bytes)) here

-- ---- all values

abbrev IsSaid : Value → Type 0
IsSaid v = IsWhole v → is_ranged v ≡ true → refers_to_none v ≡ true → Says (g v) (text v) v

abbrev Said : Type 0
Said = (v : Value) × IsSaid v

abbrev Wholes : Type 0
Wholes = (v : Value) × IsWhole v

held : (y : Value-F Wholes) (xs : ArrOf Value) → map-Value Wholes Value (λ p. p.0) y ≡ Value-F.Arr xs → All IsWhole xs.items
held (Value-F.Arr q) xs e =
    let one : ◌≡◌ {A = ArrOf Value} (record { elem = q.elem; items = map (λ p. p.0) q.items }) xs = cc in
    let m : map (λ p. p.0) q.items ≡ xs.items = ap (λ (a : ArrOf Value). a.items) one in
    All-same IsWhole xs.items (map (λ p. p.0) q.items) (sym m) (All-map IsWhole (λ (p : Wholes). p.0) q.items (λ k d lt. (get_or q.items k d).1))
held (Value-F.Num x) xs e = absurd cc
held (Value-F.Bool x) xs e = absurd cc
held (Value-F.Str x) xs e = absurd cc
held (Value-F.Nums x) xs e = absurd cc
held (Value-F.Cluster x) xs e = absurd cc
held (Value-F.Queue x) xs e = absurd cc
held (Value-F.Cell x) xs e = absurd cc

whole-in_array : (xs : ArrOf Value) → IsWhole (value.Arr xs) → All IsWhole xs.items
whole-in_array xs w =
    let h = every_held-Value IsLayer (value.Arr xs) w in
    held h.0 xs (h.1 ∙ value.outs-Arr xs)

all_said : (ps : List Said) → All IsWhole (map (λ p. p.0) ps) → list_all is_ranged (map (λ p. p.0) ps) ≡ true → list_all refers_to_none (map (λ p. p.0) ps) ≡ true → Speak g (map (λ p. p.0) ps)
all_said [] w k h = tt
all_said (p ∷ ps) w k h =
    let vs = map (λ (q : Said). q.0) ps in
    let r = and_parts (is_ranged p.0) (list_all is_ranged vs) k in
    let q = and_parts (refers_to_none p.0) (list_all refers_to_none vs) h in
    (p.1 (All-head IsWhole p.0 vs w) r.0 q.0, all_said ps (All-tail IsWhole p.0 vs w) r.1 q.1)

none_at : (o : Option Live) → is_none o ≡ true → o ≡ None
none_at None h = refl
none_at (Some live) h = absurd cc

no_rep : (o : Ty-F Ty) → is_num_at o ≡ false → rep_of o ≡ None
no_rep (Ty-F.Num r) h = absurd cc
no_rep _ h = refl

said : (y : Value-F Said) → IsSaid (roll-Value (map-Value Said Value (λ p. p.0) y))
said (Value-F.Num x) = subst IsSaid (sym (value.rolls-Num x)) (λ w k h. says_by (value.Num x) (Number x.rep) (signed_decimal x.n) (ap form (type-Num x) ∙ form-Num x.rep) (text-Num x) (num_says x))
said (Value-F.Bool b) = subst IsSaid (sym (value.rolls-Bool b)) (λ w k h. says_by (value.Bool b) Truth (truth_text b) (ap form (type-Bool b) ∙ form-Bool) (text-Bool b) (bool_says b))
said (Value-F.Str s) = subst IsSaid (sym (value.rolls-Str s)) (λ w k h.
    let le : length s ≤ most = subst IsLayer (value.outs-Str s) (every_here-Value IsLayer (value.Str s) w) in
    says_by (value.Str s) Text (quoted s) (ap form (type-Str s) ∙ form-Str) (text-Str s) (str_says s le (sym (ranged-Str s) ∙ k)))
said (Value-F.Nums xs) = subst IsSaid (sym (value.rolls-Nums xs)) (λ w k h.
    let le : length xs.all ≤ most = subst IsLayer (value.outs-Nums xs) (every_here-Value IsLayer (value.Nums xs) w) in
    let is = ap form (type-Nums xs) ∙ form-Arr (ty.Num xs.rep) ∙ ap (λ o. items_of (rep_of o) (ty.Num xs.rep) (form (ty.Num xs.rep))) (ty.outs-Num xs.rep) in
    says_by (value.Nums xs) (Numbers xs.rep) (bracketed (map signed_decimal xs.all)) is (text-Nums xs) (nums_say xs le (sym (ranged-Nums xs) ∙ k)))
said (Value-F.Arr q) =
    let xs : ArrOf Value = record { elem = q.elem; items = map (λ p. p.0) q.items } in
    subst IsSaid (sym (value.rolls-Arr xs)) (λ w k h.
    let is : IsArr xs = subst IsLayer (value.outs-Arr xs) (every_here-Value IsLayer (value.Arr xs) w) in
    let all = all_said q.items (whole-in_array xs w) (sym (ranged-Arr xs) ∙ k) (sym (null-Arr xs) ∙ h) in
    let f = ap form (type-Arr xs) ∙ form-Arr xs.elem ∙ ap (λ o. items_of o xs.elem (form xs.elem)) (no_rep (out-Ty xs.elem) is.no_number) in
    says_by (value.Arr xs) (Items xs.elem (form xs.elem)) (bracketed (map text xs.items)) f (text-Arr xs) (arr_says xs is all))
said (Value-F.Cluster ps) =
    let vs = map (λ (p : Said). p.0) ps in
    subst IsSaid (sym (value.rolls-Cluster vs)) (λ w k h.
    let all = all_said ps (whole-in_cluster vs w) (sym (ranged-Cluster vs) ∙ k) (sym (null-Cluster vs) ∙ h) in
    says_by (value.Cluster vs) (Parts (forms_of (map form (map type_of vs)))) (braced (map text vs)) (ap form (type-Cluster vs) ∙ form-Cluster (map type_of vs)) (text-Cluster vs) (cluster_says vs all))
said (Value-F.Queue r) = subst IsSaid (sym (value.rolls-Queue r)) (λ w k h.
    let none = none_at r.at (sym (null-Queue r) ∙ h) in
    let same : value.Queue (record { elem = r.elem; at = None }) ≡ value.Queue r = ap (λ o. value.Queue (record { elem = r.elem; at = o })) (sym none) in
    says_by (value.Queue r) (Null (value.Queue r)) (codes "null") (ap form (type-Queue r) ∙ form-QueueRef r.elem ∙ ap Null same) (text-Queue r ∙ ap reference_text none) (null_says (value.Queue r)))
said (Value-F.Cell r) = subst IsSaid (sym (value.rolls-Cell r)) (λ w k h.
    let none = none_at r.at (sym (null-Cell r) ∙ h) in
    let same : value.Cell (record { elem = r.elem; at = None }) ≡ value.Cell r = ap (λ o. value.Cell (record { elem = r.elem; at = o })) (sym none) in
    says_by (value.Cell r) (Null (value.Cell r)) (codes "null") (ap form (type-Cell r) ∙ form-ValueRef r.elem ∙ ap Null same) (text-Cell r ∙ ap reference_text none) (null_says (value.Cell r)))

says : (v : Value) → IsSaid v
says = ind-Value IsSaid (λ x y is. subst (λ z. IsSaid (roll-Value z)) is (said y))

pub spells_back : (v : Value) → IsProper v → is_ranged v ≡ true → refers_to_none v ≡ true → IsSpelling (type_of v) (text v) v
spells_back v p k h =
    let s = says v p.whole k h [] [] refl finish in
    let e : s.tokens ≡ tokens (text v) = sym (s.cut.kinds 0) ∙ ap tokens (append-nil (text v)) in
    subst (λ ts. Has (values (type_of v)) ts v []) e s.has

pub printed_spells : (v : Value) (t : Ty) (w : List ℕ) → IsProper v → IsTrue (is_ranged v) → IsTrue (refers_to_none v) → type_of v ≡ t → w ≡ text v → IsSpelling t w v
printed_spells v t w p k h is e = subst (λ t. IsSpelling t w v) is (subst (λ w. IsSpelling (type_of v) w v) (sym e) (spells_back v p k h))

pub printed : (v : Value) (w : List ℕ) → w ≡ text v → IsTrue (is_ranged v) → IsProper v → IsTrue (refers_to_none v) → IsSpelling (type_of v) w v
printed v w e k p h = printed_spells v (type_of v) w p k h refl e

-- and no other value of its type
pub printed_only : (v : Value) (w : List ℕ) → w ≡ text v → IsTrue (is_ranged v) → IsProper v → IsTrue (refers_to_none v) → (u : Value) → IsSpelling (type_of v) w u → u ≡ v
printed_only v w e k p h u is = one_value (type_of v) w u v is (printed v w e k p h)
