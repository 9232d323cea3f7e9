-- The nodes between two lines stand next to each other.
use Rattle.std.proofs.Common.{◌≡◌, ℕ, zero, suc, ◌+◌, ◌-◌, ◌<◌, ◌≤◌, Bool, true, false, ◌&&◌, List, [], ◌∷◌, map, length, take, drop, get_or, refl, sym, ap, ◌∙◌, arith, leb, ltb}
use Rattle.std.specs.Prelude.{filter, nat_lt, if◌then◌else◌}
use Rattle.std.specs.List.Sorted.{IsNonDecreasingBy, IsPartitionPoint}
use Rattle.std.proofs.lemmas.Bool.{leb-true, leb-false, le-ltb, lt-ltb}
use Rattle.g_diagram.specs.Lines as lines
use Rattle.g_border.specs.Bodies.{inside_of}
use Rattle.g_diagram_table.specs.declared.entry.Entry.{Entry}
use Rattle.g_diagram_table.specs.Seen.{seen}
use Rattle.g_vi_tables.proofs.Lines.{Rises}

-- ---- in the order of lines

later : (low high : ℕ) (es : List lines.Entry) → Rises low high es → (k : ℕ) (d : lines.Entry) → k < length es → low ≤ (get_or es k d).line
later low high [] r k d h = absurd (omega (arith, h))
later low high (e ∷ es) r zero d h = r.0
later low high (e ∷ es) r (suc k) d h = let f : suc e.line ≤ (get_or es k d).line = later (suc e.line) high es r.1 k d (omega (arith, h)) in let g = r.0 in omega (arith, f, g)

seen_at : (es : List Entry) (k : ℕ) (d : Entry) → (get_or (map seen es) k (seen d)).line ≡ (get_or es k d).line
seen_at [] k d = refl
seen_at (e ∷ es) zero d = refl
seen_at (e ∷ es) (suc k) d = seen_at es k d

length-seen : (es : List Entry) → length (map seen es) ≡ length es
length-seen [] = refl
length-seen (e ∷ es) = ap suc (length-seen es)

pub rising : (low high : ℕ) (es : List Entry) → Rises low high (map seen es) → IsNonDecreasingBy (λ e. e.line) es
rising low high [] r i j d le lt = absurd (omega (arith, lt))
rising low high (e ∷ es) r zero zero d le lt = omega arith
rising low high (e ∷ es) r zero (suc j) d le lt =
    let f = later (suc e.line) high (map seen es) r.1 j (seen d) (omega (arith, lt, length-seen es)) in
    let g = seen_at es j d in omega (arith, f, g)
rising low high (e ∷ es) r (suc i) zero d le lt = absurd (omega (arith, le))
rising low high (e ∷ es) r (suc i) (suc j) d le lt = rising (suc e.line) high es r.1 i j d (omega (arith, le)) (omega (arith, lt))

-- ---- a part of the nodes

skipped : {A : Type 0} (p : A → Bool) (i : ℕ) (xs : List A) → i ≤ length xs → ((k : ℕ) (d : A) → k < i → p (get_or xs k d) ≡ false) → filter p xs ≡ filter p (drop i xs)
skipped p zero xs le h = refl
skipped p (suc i) [] le h = refl
skipped {A} p (suc i) (x ∷ xs) le h =
    ap (λ (b : Bool). if b then x ∷ filter p xs else filter p xs) (h zero x (omega arith)) ∙ skipped p i xs (omega (arith, le)) (λ k d lt. h (suc k) d (omega (arith, lt)))

no_more : {A : Type 0} (p : A → Bool) (xs : List A) → ((k : ℕ) (d : A) → k < length xs → p (get_or xs k d) ≡ false) → filter p xs ≡ []
no_more p [] h = refl
no_more p (x ∷ xs) h =
    ap (λ (b : Bool). if b then x ∷ filter p xs else filter p xs) (h zero x (omega arith)) ∙ no_more p xs (λ k d lt. h (suc k) d (omega (arith, lt)))

first_part : {A : Type 0} (p : A → Bool) (n : ℕ) (xs : List A) → n ≤ length xs → ((k : ℕ) (d : A) → k < n → p (get_or xs k d) ≡ true)
    → ((k : ℕ) (d : A) → n ≤ k → k < length xs → p (get_or xs k d) ≡ false) → filter p xs ≡ take n xs
first_part p zero xs le passes fails = no_more p xs (λ k d lt. fails k d (omega arith) lt)
first_part p (suc n) [] le passes fails = refl
first_part p (suc n) (x ∷ xs) le passes fails =
    ap (λ (b : Bool). if b then x ∷ filter p xs else filter p xs) (passes zero x (omega arith))
    ∙ ap (λ ys. x ∷ ys) (first_part p n xs (omega (arith, le)) (λ k d lt. passes (suc k) d (omega (arith, lt))) (λ k d from lt. fails (suc k) d (omega (arith, from)) (omega (arith, lt))))

filter-seen : (p : lines.Entry → Bool) (es : List Entry) → filter p (map seen es) ≡ map seen (filter (λ e. p (seen e)) es)
filter-seen p [] = refl
filter-seen p (e ∷ es) = by (p (seen e)) (filter-seen p es)
  where
    by : (b : Bool) → filter p (map seen es) ≡ map seen (filter (λ e. p (seen e)) es)
        → (if b then seen e ∷ filter p (map seen es) else filter p (map seen es)) ≡ map seen (if b then e ∷ filter (λ e. p (seen e)) es else filter (λ e. p (seen e)) es)
    by true rest = ap (λ ys. seen e ∷ ys) rest
    by false rest = rest

get-drop : {A : Type 0} (i k : ℕ) (xs : List A) (d : A) → get_or (drop i xs) k d ≡ get_or xs (i + k) d
get-drop zero k xs d = let e : k ≡ 0 + k = omega arith in ap (λ n. get_or xs n d) e
get-drop (suc i) k [] d = refl
get-drop (suc i) k (x ∷ xs) d = let e : suc (i + k) ≡ suc i + k = omega arith in get-drop i k xs d ∙ ap (λ n. get_or (x ∷ xs) n d) e

length-rest : {A : Type 0} (i : ℕ) (xs : List A) → i ≤ length xs → i + length (drop i xs) ≡ length xs
length-rest zero xs le = omega arith
length-rest (suc i) [] le = absurd (omega (arith, le))
length-rest (suc i) (x ∷ xs) le = let e = length-rest i xs (omega (arith, le)) in omega (arith, e)

abbrev pub within : (body finish : ℕ) → Entry → Bool
within body finish e = nat_lt body e.line && nat_lt e.line finish

low : (body finish l : ℕ) → leb l body ≡ true → (nat_lt body l && nat_lt l finish) ≡ false
low body finish l h = ap (λ b. b && nat_lt l finish) (le-ltb body l (leb-true l body h))

high : (body finish l : ℕ) → ltb l finish ≡ false → (nat_lt body l && nat_lt l finish) ≡ false
high body finish l h = ap (λ b. nat_lt body l && b) h ∙ none (nat_lt body l)
  where
    none : (b : Bool) → (b && false) ≡ false
    none true = refl
    none false = refl

between : (body finish l : ℕ) → leb l body ≡ false → ltb l finish ≡ true → (nat_lt body l && nat_lt l finish) ≡ true
between body finish l g h = ap (λ b. b && nat_lt l finish) (lt-ltb body l (leb-false l body g)) ∙ h

-- from the first after one line to the last before another
pub inside_is : (es : List Entry) (i n body finish : ℕ) → i ≤ length es → n ≤ length (drop i es)
    → IsPartitionPoint (λ e. leb e.line body ≡ true) (λ e. leb e.line body ≡ false) es i
    → IsPartitionPoint (λ e. ltb e.line finish ≡ true) (λ e. ltb e.line finish ≡ false) (drop i es) n
    → map seen (take n (drop i es)) ≡ inside_of body finish (map seen es)
inside_is es i n body finish le short first end = sym (
    filter-seen (λ e. nat_lt body e.line && nat_lt e.line finish) es
    ∙ ap (map seen) (skipped (within body finish) i es le (λ k d lt. low body finish (get_or es k d).line (first.0 k d (omega arith) lt))
    ∙ first_part (within body finish) n (drop i es) short
    (λ k d lt. between body finish (get_or (drop i es) k d).line (after k d (omega (arith, lt, short))) (end.0 k d (omega arith) lt))
    (λ k d from lt. high body finish (get_or (drop i es) k d).line (end.1 k d from lt))))
  where
    after : (k : ℕ) (d : Entry) → k < length (drop i es) → leb (get_or (drop i es) k d).line body ≡ false
    after k d lt = let e = length-rest i es le in
        ap (λ (x : Entry). leb x.line body) (get-drop i k es d) ∙ first.1 (i + k) d (omega arith) (omega (arith, e, lt))

-- the rest of a list

take-whole : {A : Type 0} (xs : List A) → take (length xs) xs ≡ xs
take-whole [] = refl
take-whole (x ∷ xs) = ap (λ ys. x ∷ ys) (take-whole xs)

take-none : {A : Type 0} (n : ℕ) → take {A = A} n [] ≡ []
take-none zero = refl
take-none (suc n) = refl

pub rest_of : {A : Type 0} (i : ℕ) (xs : List A) → take (length xs - i) (drop i xs) ≡ drop i xs
rest_of zero xs = (let e : length xs - 0 ≡ length xs = omega arith in ap (λ n. take n xs) e) ∙ take-whole xs
rest_of {A} (suc i) [] = take-none {A = A} (0 - suc i)
rest_of (suc i) (x ∷ xs) = let e : suc (length xs) - suc i ≡ length xs - i = omega arith in ap (λ n. take n (drop i xs)) e ∙ rest_of i xs
