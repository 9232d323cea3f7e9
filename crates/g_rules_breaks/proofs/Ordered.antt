-- The order of breaks is total, equal in it are equal breaks alone, and what stands in lists.
use Rattle.std.proofs.Common.{◌≡◌, ℕ, ◌+◌, ◌<◌, Bool, true, false, cond, ◌||◌, ◌&&◌, List, [], ◌∷◌, length, take, get_or, refl, sym, ap, ◌∙◌, arith}
use Rattle.std.specs.declared.cmp.Ordering.{Ordering}
use Rattle.std.specs.declared.cmp.Ordering.TheVariants.{Less, Equal, Greater}
use Rattle.std.specs.Ordering.{is_eq, ordering_then, nat_cmp}
use Rattle.std.specs.Cmp.{unsigned_tied, IsTotalOrder, nat_cmp_total, eq_by_cmp_equiv}
use Rattle.std.specs.BTreeSet.{BTreeSet, contains, Updates}
use Rattle.std.proofs.lemmas.Bool.{and_parts}
use Rattle.std.proofs.lemmas.Cmp.{then_total, on_total}
use Rattle.std.proofs.lemmas.List.Folds.{list_any_more}
use Rattle.g_diagram.specs.declared.place.Break.{Break}
use Rattle.g_diagram.specs.declared.place.Place.{Place}
use Rattle.g_rules_breaks.specs.Breaks.{place_cmp, break_cmp, has_break}

place_total : IsTotalOrder place_cmp
place_total = then_total (on_total (λ (p : Place). p.vi) nat_cmp_total) (then_total (on_total (λ (p : Place). p.line) nat_cmp_total) (on_total (λ (p : Place). p.operand) nat_cmp_total))

pub break_total : IsTotalOrder break_cmp
break_total = then_total (on_total (λ (b : Break). b.place) place_total) (on_total (λ (b : Break). b.rule) nat_cmp_total)

-- ---- equal breaks

is_eq-then : (r o : Ordering) → is_eq (ordering_then r o) ≡ (is_eq r && is_eq o)
is_eq-then Less o = refl
is_eq-then Equal o = refl
is_eq-then Greater o = refl

same_number : (x y : ℕ) → is_eq (nat_cmp x y) ≡ true → x ≡ y
same_number x y e = let same = sym (unsigned_tied x y) ∙ e in grind (arith, same)

same_then : (r o : Ordering) → is_eq (ordering_then r o) ≡ true → (is_eq r ≡ true) × (is_eq o ≡ true)
same_then r o e = and_parts (is_eq r) (is_eq o) (sym (is_eq-then r o) ∙ e)

same_place : (a b : Place) → is_eq (place_cmp a b) ≡ true → a ≡ b
same_place a b e =
    let p = same_then (nat_cmp a.vi b.vi) (ordering_then (nat_cmp a.line b.line) (nat_cmp a.operand b.operand)) e in
    let q = same_then (nat_cmp a.line b.line) (nat_cmp a.operand b.operand) p.1 in
    let vi = same_number a.vi b.vi p.0 in
    let line = same_number a.line b.line q.0 in
    let operand = same_number a.operand b.operand q.1 in
    ap (λ n. let x : Place = record { vi = n; line = a.line; operand = a.operand } in x) vi
    ∙ ap (λ n. let x : Place = record { vi = b.vi; line = n; operand = a.operand } in x) line
    ∙ ap (λ n. let x : Place = record { vi = b.vi; line = b.line; operand = n } in x) operand

pub same_break : (a b : Break) → is_eq (break_cmp a b) ≡ true → a ≡ b
same_break a b e =
    let p = same_then (place_cmp a.place b.place) (nat_cmp a.rule b.rule) e in
    let place = same_place a.place b.place p.0 in
    let rule = same_number a.rule b.rule p.1 in
    ap (λ n. let x : Break = record { place = n; rule = a.rule } in x) place ∙ ap (λ n. let x : Break = record { place = b.place; rule = n } in x) rule

pub same_itself : (b : Break) → is_eq (break_cmp b b) ≡ true
same_itself b = (eq_by_cmp_equiv break_total).refl b

abbrev pub made : (vi line operand rule : ℕ) → Break
made v l o r = record { place = record { vi = v; line = l; operand = o }; rule = r }

-- a break by its parts
pub of_parts : (b : Break) (v l o r : ℕ) → b.place.vi ≡ v → b.place.line ≡ l → b.place.operand ≡ o → b.rule ≡ r → b ≡ made v l o r
of_parts b v l o r ev el eo er =
    ap (λ x. made x b.place.line b.place.operand b.rule) ev ∙ ap (λ x. made v x b.place.operand b.rule) el ∙ ap (λ x. made v l x b.rule) eo ∙ ap (made v l o) er

-- ---- lists of breaks

-- the first break of a list stands in it
pub has_first : (b : Break) (bs : List Break) → has_break (b ∷ bs) b ≡ true
has_first b bs = ap (λ v. v || has_break bs b) (same_itself b)

refute : false ≡ true → ⊥
refute e = absurd cc

pub none_held : (b : Break) → has_break [] b ≡ true → ⊥
none_held b e = refute e

-- a list in which no break stands
pub none_in : (bs : List Break) → ((b : Break) → has_break bs b ≡ true → ⊥) → bs ≡ []
none_in [] none = refl
none_in (b ∷ bs) none = absurd (none b (has_first b bs))

cond_or : (a b : Bool) → cond a true b ≡ (b || a)
cond_or true true = refl
cond_or true false = refl
cond_or false true = refl
cond_or false false = refl

-- one more break in the set
pub break_more : (bs : List Break) (i : ℕ) (d : Break) (s t : BTreeSet Break) → i < length bs → Updates break_cmp s t (get_or bs i d) true
    → ((q : Break) → contains break_cmp s q ≡ has_break (take i bs) q) → (q : Break) → contains break_cmp t q ≡ has_break (take (i + 1) bs) q
break_more bs i d s t lt u h q =
    let x : Break = get_or bs i d in
    u.0 q ∙ cond_or (is_eq (break_cmp x q)) (contains break_cmp s q)
    ∙ ap (λ b. b || is_eq (break_cmp x q)) (h q)
    ∙ ap (λ b. has_break (take i bs) q || b) ((eq_by_cmp_equiv break_total).symm x q)
    ∙ sym (list_any_more (λ b. is_eq (break_cmp q b)) bs i d lt)
