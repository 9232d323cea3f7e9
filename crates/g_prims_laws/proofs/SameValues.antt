-- Proper values of one type without references are the same exactly where the test of their equality passes.
use Rattle.std.proofs.Common.{◌≡◌, ℕ, ℤ, Bool, true, false, not, cond, ◌&&◌, ◌||◌, ◌↔◌, List, [], ◌∷◌, map, Option, None, Some, refl, ap, ap₂, sym, ◌∙◌, subst, arith}
use Rattle.std.specs.Prelude.{nat_eq}
use Rattle.std.specs.Cmp.Lexicographic.{pointwise, same_text, other_text}
use Rattle.std.specs.List.{All, list_any}
use Rattle.std.specs.Ordering.{int_eq}
use Rattle.std.proofs.lemmas.Int.{ints}
use Rattle.std.proofs.lemmas.List.Elements.{All-head, All-tail}
use Rattle.g_types.specs.declared.rep.Rep.{Rep}
use Rattle.g_types.specs.declared.ty.Ty.{Ty, out-Ty}
use Rattle.g_types.specs.declared.ty.Ty.TheOpen.{Ty-F}
use Rattle.g_types.specs.declared.ty.Ty.TheVariants as ty
use Rattle.g_types.specs.declared.ty.Ty.TheFolds.{fold-roll-Ty}
use Rattle.g_types.specs.Rep.{wrap, wider, InRange}
use Rattle.g_values.specs.Numbers.{Numbers}
use Rattle.g_values.specs.Proper.{IsProper}
use Rattle.g_values.specs.Value.{type_of}
use Rattle.g_values.specs.declared.num.Num.{Num}
use Rattle.g_values.specs.declared.value.ArrOf.{ArrOf}
use Rattle.g_values.specs.declared.value.RefValue.{RefValue}
use Rattle.g_values.specs.declared.value.Value.{Value, out-Value}
use Rattle.g_values.specs.declared.value.Value.TheOpen.{Value-F}
use Rattle.g_values.specs.declared.value.Value.TheVariants as value
use Rattle.g_values.specs.declared.value.Value.TheViews.{roll-Value, roll-out-Value}
use Rattle.g_values.specs.declared.value.Value.TheFolds.{fold-roll-Value, ind-Value, map-Value}
use Rattle.g_values.proofs.ProperLemmas.{proper_parts}
use Rattle.g_values.proofs.ProperParts.{layer-of_array, proper_items}
use Rattle.g_values.proofs.TypesOf.{type-Num, type-Bool, type-Str, type-Nums, type-Arr, type-Cluster, type-Queue, type-Cell}
use Rattle.g_prims_definitions.specs.Comparisons.{all_same, equal, equal_at, same, same_level, same_step}
use Rattle.g_prims_definitions.specs.Kinds.{has_reference, reference_step}
use Rattle.g_prims_definitions.proofs.Folds.{equal-Num, equal-Str, equal-Nums, equal-Cluster, reference-Arr, reference-Cluster, reference-QueueRef}
use Rattle.g_prims_edits.proofs.NumLemmas.{num_with, same_with}
use Rattle.g_prims_evaluation.proofs.KeptLemmas.{kept}
use Rattle.g_prims_laws.proofs.Coercing.{wider_itself}
use Rattle.g_prims_laws.specs.Laws.{EqualIsSame}

-- the variants that Folds lacks

equal-Bool : (b : Bool) (w : Value) → same (value.Bool b) w ≡ same_level (Value-F.Bool b) (out-Value w)
equal-Bool b w = ap (λ (f : Value → Bool). f w) (ap same (sym (value.rolls-Bool b)) ∙ fold-roll-Value (Value → Bool) same_step (Value-F.Bool b))

equal-Arr : (xs : ArrOf Value) (w : Value) → same (value.Arr xs) w ≡ same_level (Value-F.Arr (record { elem = xs.elem; items = map same xs.items })) (out-Value w)
equal-Arr xs w = ap (λ (f : Value → Bool). f w) (ap same (sym (value.rolls-Arr xs)) ∙ fold-roll-Value (Value → Bool) same_step (Value-F.Arr xs))

reference-ValueRef : (t : Ty) → has_reference (ty.ValueRef t) ≡ true
reference-ValueRef t = ap has_reference (sym (ty.rolls-ValueRef t)) ∙ fold-roll-Ty Bool reference_step (Ty-F.ValueRef t)

-- what equal types tell

rep_in : Rep → Ty-F Ty → Rep
rep_in d (Ty-F.Num r) = r
rep_in d (Ty-F.Bool) = d
rep_in d (Ty-F.Str) = d
rep_in d (Ty-F.Arr t) = d
rep_in d (Ty-F.Cluster ts) = d
rep_in d (Ty-F.QueueRef t) = d
rep_in d (Ty-F.ValueRef t) = d

elem_in : Ty → Ty-F Ty → Ty
elem_in d (Ty-F.Num r) = d
elem_in d (Ty-F.Bool) = d
elem_in d (Ty-F.Str) = d
elem_in d (Ty-F.Arr t) = t
elem_in d (Ty-F.Cluster ts) = d
elem_in d (Ty-F.QueueRef t) = d
elem_in d (Ty-F.ValueRef t) = d

parts_in : List Ty → Ty-F Ty → List Ty
parts_in d (Ty-F.Num r) = d
parts_in d (Ty-F.Bool) = d
parts_in d (Ty-F.Str) = d
parts_in d (Ty-F.Arr t) = d
parts_in d (Ty-F.Cluster ts) = ts
parts_in d (Ty-F.QueueRef t) = d
parts_in d (Ty-F.ValueRef t) = d

same_reps : (r s : Rep) → ty.Num r ≡ ty.Num s → r ≡ s
unfolding rep_in
same_reps r s e = ap (rep_in r) (sym (ty.outs-Num r) ∙ ap out-Ty e ∙ ty.outs-Num s)

same_elems : (t u : Ty) → ty.Arr t ≡ ty.Arr u → t ≡ u
unfolding elem_in
same_elems t u e = ap (elem_in t) (sym (ty.outs-Arr t) ∙ ap out-Ty e ∙ ty.outs-Arr u)

same_parts : (ts us : List Ty) → ty.Cluster ts ≡ ty.Cluster us → ts ≡ us
unfolding parts_in
same_parts ts us e = ap (parts_in ts) (sym (ty.outs-Cluster ts) ∙ ap out-Ty e ∙ ty.outs-Cluster us)

-- numbers

same_num : (r s : Rep) (e : r ≡ s) (n m : ℤ) → n ≡ m → (p : InRange r n) (q : InRange s m) → num_with r n p ≡ num_with s m q
same_num r s e n m f p q = subst (λ u. (h : InRange u m) → num_with r n p ≡ num_with u m h) e (λ h. same_with r n m f p h) q

int_same : (a b : ℤ) → int_eq a b ≡ true → a ≡ b
int_same a b e = grind (arith, ints)

int_itself : (a : ℤ) → int_eq a a ≡ true
int_itself a = grind (arith, ints)

all_numbers : (xs ys : List ℤ) → pointwise int_eq xs ys ≡ true → xs ≡ ys
all_numbers [] [] e = refl
all_numbers [] (y ∷ ys) e = absurd cc
all_numbers (x ∷ xs) [] e = absurd cc
all_numbers (x ∷ xs) (y ∷ ys) e = let b = both_of (int_eq x y) (pointwise int_eq xs ys) e in ap₂ (λ z zs. z ∷ zs) (int_same x y b.0) (all_numbers xs ys b.1)
  where
    both_of : (a b : Bool) → (a && b) ≡ true → (a ≡ true) × (b ≡ true)
    both_of true b e = (refl, e)
    both_of false b e = absurd cc

numbers_itself : (xs : List ℤ) → pointwise int_eq xs xs ≡ true
numbers_itself [] = refl
numbers_itself (x ∷ xs) = ap (λ b. b && pointwise int_eq xs xs) (int_itself x) ∙ numbers_itself xs

numbers_with : Rep → List ℤ → Numbers
numbers_with r xs = record { rep = r; all = xs }

same_truths : (a b : Bool) → cond a b (not b) ≡ true → a ≡ b
same_truths true true e = refl
same_truths true false e = absurd cc
same_truths false true e = absurd cc
same_truths false false e = refl

truth_itself : (a : Bool) → cond a a (not a) ≡ true
truth_itself true = refl
truth_itself false = refl

text_itself : (s : List ℕ) → pointwise nat_eq s s ≡ true
text_itself s = by (pointwise nat_eq s s) refl
  where
    by : (b : Bool) → b ≡ pointwise nat_eq s s → pointwise nat_eq s s ≡ true
    by true e = sym e
    by false e = absurd (other_text s s e refl)

-- each value is the same as itself

abbrev IsItself : Value → Type 0
IsItself v = IsProper v → has_reference (type_of v) ≡ false → same v v ≡ true

abbrev Itself : Type 0
Itself = (v : Value) × IsItself v

abbrev values : List Itself → List Value
values ps = map (λ p. p.0) ps

both : (a b : Bool) → a ≡ true → b ≡ true → (a && b) ≡ true
both true b e f = f
both false b e f = e

neither : (a b : Bool) → (a || b) ≡ false → (a ≡ false) × (b ≡ false)
neither true b e = absurd cc
neither false b e = (refl, e)

items_itself : (ps : List Itself) (t : Ty) → All (λ v. type_of v ≡ t) (values ps) → All IsProper (values ps) → has_reference t ≡ false → all_same (map same (values ps)) (values ps) ≡ true
items_itself [] t one all n = refl
items_itself (p ∷ ps) t one all n =
    both (same p.0 p.0) (all_same (map same (values ps)) (values ps)) (p.1 (All-head IsProper p.0 (values ps) all) (ap has_reference (All-head (λ v. type_of v ≡ t) p.0 (values ps) one) ∙ n))
    (items_itself ps t (All-tail (λ v. type_of v ≡ t) p.0 (values ps) one) (All-tail IsProper p.0 (values ps) all) n)

parts_itself : (ps : List Itself) → All IsProper (values ps) → list_any (λ b. b) (map has_reference (map type_of (values ps))) ≡ false → all_same (map same (values ps)) (values ps) ≡ true
parts_itself [] all n = refl
parts_itself (p ∷ ps) all n =
    let m = neither (has_reference (type_of p.0)) (list_any (λ b. b) (map has_reference (map type_of (values ps)))) n in
    both (same p.0 p.0) (all_same (map same (values ps)) (values ps)) (p.1 (All-head IsProper p.0 (values ps) all) m.0) (parts_itself ps (All-tail IsProper p.0 (values ps) all) m.1)

level_itself : (y : Value-F Itself) → IsItself (roll-Value (map-Value Itself Value (λ p. p.0) y))
level_itself (Value-F.Num x) = subst IsItself (sym (value.rolls-Num x)) (λ p n. equal-Num x (value.Num x) ∙ ap (same_level (Value-F.Num x)) (value.outs-Num x) ∙ int_itself x.n)
level_itself (Value-F.Bool b) = subst IsItself (sym (value.rolls-Bool b)) (λ p n. equal-Bool b (value.Bool b) ∙ ap (same_level (Value-F.Bool b)) (value.outs-Bool b) ∙ truth_itself b)
level_itself (Value-F.Str s) = subst IsItself (sym (value.rolls-Str s)) (λ p n. equal-Str s (value.Str s) ∙ ap (same_level (Value-F.Str s)) (value.outs-Str s) ∙ text_itself s)
level_itself (Value-F.Nums xs) = subst IsItself (sym (value.rolls-Nums xs)) (λ p n. equal-Nums xs (value.Nums xs) ∙ ap (same_level (Value-F.Nums xs)) (value.outs-Nums xs) ∙ numbers_itself xs.all)
level_itself (Value-F.Arr ps) =
    let xs : ArrOf Value = record { elem = ps.elem; items = values ps.items } in
    subst IsItself (sym (value.rolls-Arr xs)) (λ p n.
    equal-Arr xs (value.Arr xs)
    ∙ ap (same_level (Value-F.Arr (record { elem = xs.elem; items = map same xs.items }))) (value.outs-Arr xs)
    ∙ items_itself ps.items xs.elem ((layer-of_array xs p).one_type) (proper_items xs p) (sym (ap has_reference (type-Arr xs) ∙ reference-Arr xs.elem) ∙ n))
level_itself (Value-F.Cluster ps) =
    let vs = values ps in
    subst IsItself (sym (value.rolls-Cluster vs)) (λ p n.
    equal-Cluster vs (value.Cluster vs)
    ∙ ap (same_level (Value-F.Cluster (map same vs))) (value.outs-Cluster vs)
    ∙ parts_itself ps (proper_parts vs p) (sym (ap has_reference (type-Cluster vs) ∙ reference-Cluster (map type_of vs)) ∙ n))
level_itself (Value-F.Queue r) = subst IsItself (sym (value.rolls-Queue r)) (λ p n. absurd (let e : true ≡ false = sym (ap has_reference (type-Queue r) ∙ reference-QueueRef r.elem) ∙ n in cc))
level_itself (Value-F.Cell r) = subst IsItself (sym (value.rolls-Cell r)) (λ p n. absurd (let e : true ≡ false = sym (ap has_reference (type-Cell r) ∙ reference-ValueRef r.elem) ∙ n in cc))

itself : (v : Value) → IsItself v
itself = ind-Value IsItself (λ x y is. subst (λ z. IsItself (roll-Value z)) is (level_itself y))

-- what passes the test is the same

record Alike (v w : Value) : Type 0 where
  left : IsProper v
  right : IsProper w
  one_type : type_of v ≡ type_of w
  plain : has_reference (type_of v) ≡ false

abbrev Tells : Value → Type 0
Tells v = (w : Value) → Alike v w → same v w ≡ true → v ≡ w

abbrev Told : Type 0
Told = (v : Value) × Tells v

abbrev told : List Told → List Value
told ps = map (λ p. p.0) ps

split : (a b : Bool) → (a && b) ≡ true → (a ≡ true) × (b ≡ true)
split true b e = (refl, e)
split false b e = absurd cc

first_type : Ty → List Ty → Ty
first_type d [] = d
first_type d (t ∷ ts) = t

other_types : List Ty → List Ty
other_types [] = []
other_types (t ∷ ts) = ts

items_tell : (ps : List Told) (ws : List Value) (t : Ty) → All (λ v. type_of v ≡ t) (told ps) → All IsProper (told ps) → All (λ v. type_of v ≡ t) ws → All IsProper ws → has_reference t ≡ false → all_same (map same (told ps)) ws ≡ true → told ps ≡ ws
items_tell [] [] t a b c d n e = refl
items_tell [] (w ∷ ws) t a b c d n e = absurd cc
items_tell (p ∷ ps) [] t a b c d n e = absurd cc
items_tell (p ∷ ps) (w ∷ ws) t a b c d n e =
    let s = split (same p.0 w) (all_same (map same (told ps)) ws) e in
    let left = All-head (λ v. type_of v ≡ t) p.0 (told ps) a in
    let right = All-head (λ v. type_of v ≡ t) w ws c in
    ap₂ (λ z zs. z ∷ zs)
    (p.1 w (record { left = All-head IsProper p.0 (told ps) b; right = All-head IsProper w ws d; one_type = left ∙ sym right; plain = ap has_reference left ∙ n }) s.0)
    (items_tell ps ws t (All-tail (λ v. type_of v ≡ t) p.0 (told ps) a) (All-tail IsProper p.0 (told ps) b) (All-tail (λ v. type_of v ≡ t) w ws c) (All-tail IsProper w ws d) n s.1)

parts_tell : (ps : List Told) (ws : List Value) → All IsProper (told ps) → All IsProper ws → map type_of (told ps) ≡ map type_of ws → list_any (λ b. b) (map has_reference (map type_of (told ps))) ≡ false → all_same (map same (told ps)) ws ≡ true → told ps ≡ ws
unfolding first_type other_types
parts_tell [] [] b d t n e = refl
parts_tell [] (w ∷ ws) b d t n e = absurd cc
parts_tell (p ∷ ps) [] b d t n e = absurd cc
parts_tell (p ∷ ps) (w ∷ ws) b d t n e =
    let s = split (same p.0 w) (all_same (map same (told ps)) ws) e in
    let m = neither (has_reference (type_of p.0)) (list_any (λ b. b) (map has_reference (map type_of (told ps)))) n in
    ap₂ (λ z zs. z ∷ zs)
    (p.1 w (record { left = All-head IsProper p.0 (told ps) b; right = All-head IsProper w ws d; one_type = ap (first_type (type_of p.0)) t; plain = m.0 }) s.0)
    (parts_tell ps ws (All-tail IsProper p.0 (told ps) b) (All-tail IsProper w ws d) (ap other_types t) m.1 s.1)

rolled : (w : Value) (m : Value-F Value) → out-Value w ≡ m → w ≡ roll-Value m
rolled w m e = sym (roll-out-Value w) ∙ ap roll-Value e

num_tells : (x : Num) (w : Value) (m : Value-F Value) → out-Value w ≡ m → type_of (value.Num x) ≡ type_of w → same_level (Value-F.Num x) m ≡ true → value.Num x ≡ w
num_tells x w (Value-F.Num y) e t h =
    let is = rolled w (Value-F.Num y) e ∙ value.rolls-Num y in
    ap value.Num (same_num x.rep y.rep (same_reps x.rep y.rep (sym (type-Num x) ∙ t ∙ ap type_of is ∙ type-Num y)) x.n y.n (int_same x.n y.n h) x.in_range y.in_range) ∙ sym is
num_tells x w _ e t h = absurd cc

bool_tells : (b : Bool) (w : Value) (m : Value-F Value) → out-Value w ≡ m → same_level (Value-F.Bool b) m ≡ true → value.Bool b ≡ w
bool_tells b w (Value-F.Bool c) e h = ap value.Bool (same_truths b c h) ∙ sym (rolled w (Value-F.Bool c) e ∙ value.rolls-Bool c)
bool_tells b w _ e h = absurd cc

text_tells : (s : List ℕ) (w : Value) (m : Value-F Value) → out-Value w ≡ m → same_level (Value-F.Str s) m ≡ true → value.Str s ≡ w
text_tells s w (Value-F.Str u) e h = ap value.Str (same_text s u (sym h)) ∙ sym (rolled w (Value-F.Str u) e ∙ value.rolls-Str u)
text_tells s w _ e h = absurd cc

nums_tell : (xs : Numbers) (w : Value) (m : Value-F Value) → out-Value w ≡ m → type_of (value.Nums xs) ≡ type_of w → same_level (Value-F.Nums xs) m ≡ true → value.Nums xs ≡ w
unfolding numbers_with
nums_tell xs w (Value-F.Nums ys) e t h =
    let is = rolled w (Value-F.Nums ys) e ∙ value.rolls-Nums ys in
    let reps = same_reps xs.rep ys.rep (same_elems (ty.Num xs.rep) (ty.Num ys.rep) (sym (type-Nums xs) ∙ t ∙ ap type_of is ∙ type-Nums ys)) in
    ap value.Nums (ap₂ numbers_with reps (all_numbers xs.all ys.all h)) ∙ sym is
nums_tell xs w _ e t h = absurd cc

array_with : Ty → List Value → ArrOf Value
array_with t vs = record { elem = t; items = vs }

array_tells : (ps : ArrOf Told) (w : Value) (m : Value-F Value) → out-Value w ≡ m → Alike (value.Arr (record { elem = ps.elem; items = told ps.items })) w
    → same_level (Value-F.Arr (record { elem = ps.elem; items = map same (told ps.items) })) m ≡ true → value.Arr (record { elem = ps.elem; items = told ps.items }) ≡ w
unfolding array_with
array_tells ps w (Value-F.Arr ys) e a h =
    let xs : ArrOf Value = record { elem = ps.elem; items = told ps.items } in
    let is = rolled w (Value-F.Arr ys) e ∙ value.rolls-Arr ys in
    let right : IsProper (value.Arr ys) = subst IsProper is a.right in
    let elems = same_elems ps.elem ys.elem (sym (type-Arr xs) ∙ a.one_type ∙ ap type_of is ∙ type-Arr ys) in
    let plain : has_reference ps.elem ≡ false = sym (ap has_reference (type-Arr xs) ∙ reference-Arr ps.elem) ∙ a.plain in
    ap value.Arr (ap₂ array_with elems (items_tell ps.items ys.items ps.elem ((layer-of_array xs a.left).one_type) (proper_items xs a.left)
    (subst (λ t. All (λ v. type_of v ≡ t) ys.items) (sym elems) ((layer-of_array ys right).one_type)) (proper_items ys right) plain h)) ∙ sym is
array_tells ps w _ e a h = absurd cc

cluster_tells : (ps : List Told) (w : Value) (m : Value-F Value) → out-Value w ≡ m → Alike (value.Cluster (told ps)) w → same_level (Value-F.Cluster (map same (told ps))) m ≡ true → value.Cluster (told ps) ≡ w
cluster_tells ps w (Value-F.Cluster ws) e a h =
    let vs = told ps in
    let is = rolled w (Value-F.Cluster ws) e ∙ value.rolls-Cluster ws in
    let right : IsProper (value.Cluster ws) = subst IsProper is a.right in
    let types = same_parts (map type_of vs) (map type_of ws) (sym (type-Cluster vs) ∙ a.one_type ∙ ap type_of is ∙ type-Cluster ws) in
    ap value.Cluster (parts_tell ps ws (proper_parts vs a.left) (proper_parts ws right) types (sym (ap has_reference (type-Cluster vs) ∙ reference-Cluster (map type_of vs)) ∙ a.plain) h) ∙ sym is
cluster_tells ps w _ e a h = absurd cc

level_tells : (y : Value-F Told) → Tells (roll-Value (map-Value Told Value (λ p. p.0) y))
level_tells (Value-F.Num x) = subst Tells (sym (value.rolls-Num x)) (λ w a h. num_tells x w (out-Value w) refl a.one_type (sym (equal-Num x w) ∙ h))
level_tells (Value-F.Bool b) = subst Tells (sym (value.rolls-Bool b)) (λ w a h. bool_tells b w (out-Value w) refl (sym (equal-Bool b w) ∙ h))
level_tells (Value-F.Str s) = subst Tells (sym (value.rolls-Str s)) (λ w a h. text_tells s w (out-Value w) refl (sym (equal-Str s w) ∙ h))
level_tells (Value-F.Nums xs) = subst Tells (sym (value.rolls-Nums xs)) (λ w a h. nums_tell xs w (out-Value w) refl a.one_type (sym (equal-Nums xs w) ∙ h))
level_tells (Value-F.Arr ps) =
    let xs : ArrOf Value = record { elem = ps.elem; items = told ps.items } in
    subst Tells (sym (value.rolls-Arr xs)) (λ w a h. array_tells ps w (out-Value w) refl a (sym (equal-Arr xs w) ∙ h))
level_tells (Value-F.Cluster ps) = subst Tells (sym (value.rolls-Cluster (told ps))) (λ w a h. cluster_tells ps w (out-Value w) refl a (sym (equal-Cluster (told ps) w) ∙ h))
level_tells (Value-F.Queue r) =
    subst Tells (sym (value.rolls-Queue r)) (λ w a h. absurd (let e : true ≡ false = sym (ap has_reference (type-Queue r) ∙ reference-QueueRef r.elem) ∙ a.plain in cc))
level_tells (Value-F.Cell r) =
    subst Tells (sym (value.rolls-Cell r)) (λ w a h. absurd (let e : true ≡ false = sym (ap has_reference (type-Cell r) ∙ reference-ValueRef r.elem) ∙ a.plain in cc))

tells : (v : Value) → Tells v
tells = ind-Value Tells (λ x y is. subst (λ z. Tells (roll-Value z)) is (level_tells y))

-- two numbers of one representation are compared as they stand

equal_level : (v w : Value) (l m : Value-F Value) → out-Value v ≡ l → out-Value w ≡ m → type_of v ≡ type_of w → equal v w ≡ same v w
equal_level v w (Value-F.Num x) (Value-F.Num y) e f t =
    let left = rolled v (Value-F.Num x) e ∙ value.rolls-Num x in
    let right = rolled w (Value-F.Num y) f ∙ value.rolls-Num y in
    let reps = same_reps x.rep y.rep (sym (type-Num x) ∙ sym (ap type_of left) ∙ t ∙ ap type_of right ∙ type-Num y) in
    let wide : wider x.rep y.rep ≡ x.rep = ap (wider x.rep) (sym reps) ∙ wider_itself x.rep in
    let far : wrap x.rep y.n ≡ y.n = ap (λ r. wrap r y.n) reps ∙ kept y.rep y.n y.in_range in
    ap (λ l. equal_at l (out-Value w) v w) e
    ∙ ap (λ m. equal_at (Value-F.Num x) m v w) f
    ∙ ap (λ r. int_eq (wrap r x.n) (wrap r y.n)) wide
    ∙ ap₂ int_eq (kept x.rep x.n x.in_range) far
    ∙ sym (ap (λ z. same z w) left ∙ equal-Num x w ∙ ap (same_level (Value-F.Num x)) f)
equal_level v w (Value-F.Num x) _ e f t = ap (λ k. equal_at k (out-Value w) v w) e ∙ ap (λ k. equal_at (Value-F.Num x) k v w) f
equal_level v w _ m e f t = ap (λ k. equal_at k (out-Value w) v w) e

pub equal_is_same : EqualIsSame
equal_is_same v w p q t n =
    let e = equal_level v w (out-Value v) (out-Value w) refl refl t in (
      λ h. tells v w (record { left = p; right = q; one_type = t; plain = n }) (sym e ∙ h),
      λ h. e ∙ ap (same v) (sym h) ∙ itself v p n,
    )
