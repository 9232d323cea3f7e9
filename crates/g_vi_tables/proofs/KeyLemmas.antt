-- What a map has at each key after a value was kept at one that it had not.
use Rattle.std.proofs.Common.{◌≡◌, ℕ, ◌==◌, Bool, true, false, ◌&&◌, cond, List, refl, ap, ◌∙◌, subst}
use Rattle.std.specs.Prelude.{if◌then◌else◌, Option, Some, None, is_some}
use Rattle.std.specs.declared.cmp.Ordering.{Ordering}
use Rattle.std.specs.declared.cmp.Ordering.TheVariants.{Less, Equal, Greater}
use Rattle.std.specs.Ordering.{ordering_then, nat_cmp, is_eq}
use Rattle.std.specs.Cmp.{unsigned_tied}
use Rattle.std.specs.Cmp.Lexicographic.{slice_cmp}
use Rattle.std.specs.Str.{bytes_eq}
use Rattle.std.specs.Option.{option_copied, option_or}
use Rattle.std.specs.Map.{update}
use Rattle.std.specs.BTreeMap.{BTreeMap, get_by}
use Rattle.std.proofs.lemmas.Bool.{eqb-true}
use Rattle.std.proofs.lemmas.Slice.Eq.{bytes_eq-Decides}
use denote.Ref.{Bor}
use Rattle.g_types.specs.declared.ty.Ty.{Ty}
use Rattle.g_border.specs.declared.place.WireSource.{WireSource}
use Rattle.g_border.specs.Readers.{same_source}
use Rattle.g_vi_tables.specs.Tables.{SourcePlaces, source_place_in}
use Rattle.g_vi_tables.specs.Types.{Scope, named_type}

pub none_of : {V : Type 0} (o : Option V) → is_some o ≡ false → o ≡ None
none_of None h = refl
none_of (Some v) h = cc

-- what is looked up first stays
pub or_new : {V : Type 0} (b : Bool) (o p : Option V) (v : V) → p ≡ cond b (Some v) o → (b ≡ true → o ≡ None) → p ≡ option_or o (if b then Some v else None)
or_new true None p v e h = e
or_new true (Some u) p v e h = let absurd_case : Some u ≡ None = h refl in cc
or_new false None p v e h = e
or_new false (Some u) p v e h = e

-- where there is something already
pub or_old : {V : Type 0} (o : Option V) (b : Bool) (v : V) → (b ≡ true → is_some o ≡ true) → o ≡ option_or o (if b then Some v else None)
or_old None true v h = let e : false ≡ true = h refl in cc
or_old None false v h = refl
or_old (Some u) b v h = refl

and_left : (a b : Bool) → (a && b) ≡ true → a ≡ true
and_left true b h = refl
and_left false b h = h

and_right : (a b : Bool) → (a && b) ≡ true → b ≡ true
and_right true b h = h
and_right false b h = cc

pub is_eq-then : (r o : Ordering) → is_eq (ordering_then r o) ≡ (is_eq r && is_eq o)
is_eq-then Less o = refl
is_eq-then Equal o = refl
is_eq-then Greater o = refl

pub is_eq-pair : (a b c d : ℕ) → is_eq (ordering_then (nat_cmp a c) (nat_cmp b d)) ≡ ((a == c) && (b == d))
is_eq-pair a b c d =
    is_eq-then (nat_cmp a c) (nat_cmp b d) ∙ ap (λ x. x && is_eq (nat_cmp b d)) (unsigned_tied a c) ∙ ap (λ x. (a == c) && x) (unsigned_tied b d)

-- ---- names

abbrev pub by_name : {V : Type 0} → BTreeMap (Bor (List ℕ)) V → List ℕ → Option V
by_name m name = get_by (λ k. slice_cmp nat_cmp name k.now) m

pub name_added : {V : Type 0} (old new : BTreeMap (Bor (List ℕ)) V) (bs : List ℕ) (v : V)
    → ((cs : List ℕ) → by_name new cs ≡ update bytes_eq (by_name old) bs (Some v) cs) → is_some (by_name old bs) ≡ false
    → (cs : List ℕ) → by_name new cs ≡ option_or (by_name old cs) (if bytes_eq bs cs then Some v else None)
name_added {V} old new bs v updates absent cs =
    or_new (bytes_eq bs cs) (by_name old cs) (by_name new cs) v (updates cs)
    (λ same. let P : List ℕ → Type 0 = λ ds. by_name {V = V} old ds ≡ None in subst P ((bytes_eq-Decides bs cs).0 same) (none_of (by_name old bs) absent))

pub name_kept : {V : Type 0} (old : BTreeMap (Bor (List ℕ)) V) (bs : List ℕ) (v : V) → is_some (by_name old bs) ≡ true
    → (cs : List ℕ) → by_name old cs ≡ option_or (by_name old cs) (if bytes_eq bs cs then Some v else None)
name_kept {V} old bs v present cs =
    or_old (by_name old cs) (bytes_eq bs cs) v
    (λ same. let P : List ℕ → Type 0 = λ ds. is_some (by_name {V = V} old ds) ≡ true in subst P ((bytes_eq-Decides bs cs).0 same) present)

copied_or : (o : Option (Bor Ty)) (b : Bool) (t : Bor Ty) → option_copied (option_or o (if b then Some t else None)) ≡ option_or (option_copied o) (if b then Some t.now else None)
copied_or None true t = refl
copied_or None false t = refl
copied_or (Some u) b t = refl

pub type_added : (old new : Scope) (bs : List ℕ) (t : Bor Ty) → ((cs : List ℕ) → by_name new cs ≡ update bytes_eq (by_name old) bs (Some t) cs) → is_some (by_name old bs) ≡ false
    → (cs : List ℕ) → named_type new cs ≡ option_or (named_type old cs) (if bytes_eq bs cs then Some t.now else None)
type_added old new bs t updates absent cs = ap option_copied (name_added old new bs t updates absent cs) ∙ copied_or (by_name old cs) (bytes_eq bs cs) t

pub type_kept : (old : Scope) (bs : List ℕ) (t : Bor Ty) → is_some (by_name old bs) ≡ true
    → (cs : List ℕ) → named_type old cs ≡ option_or (named_type old cs) (if bytes_eq bs cs then Some t.now else None)
type_kept old bs t present cs = ap option_copied (name_kept old bs t present cs) ∙ copied_or (by_name old cs) (bytes_eq bs cs) t

-- ---- pairs of numbers

abbrev pub by_pair : {V : Type 0} → BTreeMap (ℕ × ℕ) V → (a b : ℕ) → Option V
by_pair m a b = get_by (λ k. ordering_then (nat_cmp a k.0) (nat_cmp b k.1)) m

same_pair : {V : Type 0} (P : Option V → Type 0) (m : BTreeMap (ℕ × ℕ) V) (a b c d : ℕ) → ((a == c) && (b == d)) ≡ true → P (by_pair m a b) → P (by_pair m c d)
same_pair {V} P m a b c d h p =
    let e : a ≡ c = eqb-true a c (and_left (a == c) (b == d) h) in
    let f : b ≡ d = eqb-true b d (and_right (a == c) (b == d) h) in
    let Q : ℕ → Type 0 = λ x. P (by_pair {V = V} m x b) in
    let R : ℕ → Type 0 = λ y. P (by_pair {V = V} m c y) in
    subst R f (subst Q e p)

pub pair_added : {V : Type 0} (old new : BTreeMap (ℕ × ℕ) V) (a b : ℕ) (v : V)
    → ((k : ℕ × ℕ) → by_pair new k.0 k.1 ≡ cond (is_eq (ordering_then (nat_cmp a k.0) (nat_cmp b k.1))) (Some v) (by_pair old k.0 k.1)) → is_some (by_pair old a b) ≡ false
    → (c d : ℕ) → by_pair new c d ≡ option_or (by_pair old c d) (if (a == c) && (b == d) then Some v else None)
pair_added old new a b v updates absent c d =
    or_new ((a == c) && (b == d)) (by_pair old c d) (by_pair new c d) v (updates (c, d) ∙ ap (λ x. cond x (Some v) (by_pair old c d)) (is_eq-pair a b c d))
    (λ same. same_pair (λ o. o ≡ None) old a b c d same (none_of (by_pair old a b) absent))

pub pair_kept : {V : Type 0} (old : BTreeMap (ℕ × ℕ) V) (a b : ℕ) (v : V) → is_some (by_pair old a b) ≡ true
    → (c d : ℕ) → by_pair old c d ≡ option_or (by_pair old c d) (if (a == c) && (b == d) then Some v else None)
pair_kept old a b v present c d =
    or_old (by_pair old c d) ((a == c) && (b == d)) v (λ same. same_pair (λ o. is_some o ≡ true) old a b c d same present)

-- ---- sources of diagrams

pub is_eq-source : (a : ℕ) (p : WireSource) (c : ℕ) (q : WireSource)
    → is_eq (ordering_then (nat_cmp a c) (ordering_then (nat_cmp p.line q.line) (nat_cmp p.operand q.operand))) ≡ ((a == c) && same_source p q)
is_eq-source a p c q =
    is_eq-then (nat_cmp a c) (ordering_then (nat_cmp p.line q.line) (nat_cmp p.operand q.operand))
    ∙ ap (λ x. x && is_eq (ordering_then (nat_cmp p.line q.line) (nat_cmp p.operand q.operand))) (unsigned_tied a c)
    ∙ ap (λ x. (a == c) && x) (is_eq-pair p.line p.operand q.line q.operand)

pub source_equal : (p q : WireSource) → same_source p q ≡ true → p ≡ q
source_equal p q h =
    let e : p.line ≡ q.line = eqb-true p.line q.line (and_left (p.line == q.line) (p.operand == q.operand) h) in
    let f : p.operand ≡ q.operand = eqb-true p.operand q.operand (and_right (p.line == q.line) (p.operand == q.operand) h) in
    let made : ℕ → ℕ → WireSource = λ l k. record { line = l; operand = k } in
    ap (λ l. made l p.operand) e ∙ ap (λ k. made q.line k) f

same_key : (P : Option ℕ → Type 0) (m : SourcePlaces) (a : ℕ) (p : WireSource) (c : ℕ) (q : WireSource) → ((a == c) && same_source p q) ≡ true
    → P (source_place_in m a p) → P (source_place_in m c q)
same_key P m a p c q h x =
    let e : a ≡ c = eqb-true a c (and_left (a == c) (same_source p q) h) in
    let f : p ≡ q = source_equal p q (and_right (a == c) (same_source p q) h) in
    let Q : ℕ → Type 0 = λ y. P (source_place_in m y p) in
    let R : WireSource → Type 0 = λ y. P (source_place_in m c y) in
    subst R f (subst Q e x)

pub source_added : (old new : SourcePlaces) (a : ℕ) (p : WireSource) (v : ℕ)
    → ((k : ℕ × WireSource) → source_place_in new k.0 k.1
    ≡ cond (is_eq (ordering_then (nat_cmp a k.0) (ordering_then (nat_cmp p.line k.1.line) (nat_cmp p.operand k.1.operand)))) (Some v) (source_place_in old k.0 k.1))
    → is_some (source_place_in old a p) ≡ false
    → (c : ℕ) (q : WireSource) → source_place_in new c q ≡ option_or (source_place_in old c q) (if (a == c) && same_source p q then Some v else None)
source_added old new a p v updates absent c q =
    or_new ((a == c) && same_source p q) (source_place_in old c q) (source_place_in new c q) v
    (updates (c, q) ∙ ap (λ x. cond x (Some v) (source_place_in old c q)) (is_eq-source a p c q))
    (λ same. same_key (λ o. o ≡ None) old a p c q same (none_of (source_place_in old a p) absent))

pub source_kept : (old : SourcePlaces) (a : ℕ) (p : WireSource) (v : ℕ) → is_some (source_place_in old a p) ≡ true
    → (c : ℕ) (q : WireSource) → source_place_in old c q ≡ option_or (source_place_in old c q) (if (a == c) && same_source p q then Some v else None)
source_kept old a p v present c q =
    or_old (source_place_in old c q) ((a == c) && same_source p q) v (λ same. same_key (λ o. is_some o ≡ true) old a p c q same present)
