-- Where no source has a source of its name before it, each name of a diagram is given once.
use Rattle.std.proofs.Common.{◌≡◌, ◌⊎◌, inl, inr, ⊎_elim, ℕ, ◌+◌, ◌<◌, ◌≤◌, ◌==◌, nat_lt, Bool, true, false, ◌&&◌, ◌||◌, List, [], ◌∷◌, refl, ap, sym, ◌∙◌, arith}
use Rattle.std.specs.Prelude.{Some, None, is_some}
use Rattle.std.specs.Str.{bytes_eq}
use Rattle.std.proofs.lemmas.Bool.{eqb-true}
use Rattle.std.proofs.lemmas.Slice.Eq.{bytes_eq-Decides}
use Rattle.g_diagram.specs.Lines.{Wire}
use Rattle.g_diagram.specs.Ports.{Port, same_wire, are_joined, is_before, is_wired}
use Rattle.g_typing.specs.Typing.{Given, IsGivenTo}
use Rattle.g_typing.proofs.Walked.{AreApart}
use Rattle.g_typing_laws.proofs.Counts.{hit, hit_one, wire_hit, port_hit, given_count, port_count}
use Rattle.g_typing_laws.proofs.Places.{source_at, places_count}

abbrev pub IsIn : Port → List Port → Type 0
IsIn p [] = ⊥
IsIn p (q ∷ ps) = (q ≡ p) ⊎ IsIn p ps

-- no source of a name has a source of it before it
abbrev pub AreFirst : List Port → Type 0
AreFirst ps = (p q : Port) → IsIn p ps → IsIn q ps → p.is_source ≡ true → q.is_source ≡ true → is_wired q ≡ true → is_before p q ≡ true → are_joined p q ≡ true → ⊥

-- a source with this name of diagram d
record Gives (d : ℕ) (n : List ℕ) (p : Port) : Type 0 where
  source : p.is_source ≡ true
  diagram : p.diagram ≡ d
  wire : p.wire ≡ Some n

named_there : (d : ℕ) (n : List ℕ) (b : ℕ) (m : List ℕ) (s t : Bool) → (b == d) ≡ s → bytes_eq m n ≡ t → (hit (s && t) ≡ 0) ⊎ ((b ≡ d) × (m ≡ n))
named_there d n b m true true e f = inr (eqb-true b d e, (bytes_eq-Decides m n).0 f)
named_there d n b m true false e f = inl refl
named_there d n b m false t e f = inl refl

wire_there : (d : ℕ) (n : List ℕ) (b : ℕ) (w : Wire) → (wire_hit d n b w ≡ 0) ⊎ ((b ≡ d) × (w ≡ Some n))
wire_there d n b None = inl refl
wire_there d n b (Some m) = ⊎_elim (λ z. inl z) (λ h. inr (h.0, ap Some h.1)) (named_there d n b m (b == d) (bytes_eq m n) refl refl)

source_there : (d : ℕ) (n : List ℕ) (s : Bool) (b : ℕ) (w : Wire) → (port_hit s d n b w ≡ 0) ⊎ ((s ≡ true) × (b ≡ d) × (w ≡ Some n))
source_there d n false b w = inl refl
source_there d n true b w = ⊎_elim (λ z. inl z) (λ h. inr (refl, h.0, h.1)) (wire_there d n b w)

-- a port gives the name or doesn't count
gives_or : (d : ℕ) (n : List ℕ) (p : Port) → (port_hit p.is_source d n p.diagram p.wire ≡ 0) ⊎ Gives d n p
gives_or d n p = ⊎_elim (λ z. inl z) (λ h. inr (record { source = h.0; diagram = h.1; wire = h.2 })) (source_there d n p.is_source p.diagram p.wire)

wire_one : (d : ℕ) (n : List ℕ) (b : ℕ) (w : Wire) → wire_hit d n b w ≤ 1
wire_one d n b None = omega arith
wire_one d n b (Some m) = hit_one ((b == d) && bytes_eq m n)

source_one : (d : ℕ) (n : List ℕ) (s : Bool) (b : ℕ) (w : Wire) → port_hit s d n b w ≤ 1
source_one d n true b w = wire_one d n b w
source_one d n false b w = omega arith

same_number : (v : ℕ) → (v == v) ≡ true
same_number v = grind arith

same_name : (n : List ℕ) → bytes_eq n n ≡ true
same_name n = (bytes_eq-Decides n n).1 refl

-- two that give it are joined
joined_there : (b c : ℕ) (v w : Wire) (d : ℕ) (n : List ℕ) → b ≡ d → c ≡ d → v ≡ Some n → w ≡ Some n → ((b == c) && same_wire v w) ≡ true
joined_there b c v w d n e f g h = rw e (rw f (rw g (rw h (rw (same_number d) (same_name n)))))

both_join : (d : ℕ) (n : List ℕ) (p q : Port) → Gives d n p → Gives d n q → are_joined p q ≡ true
both_join d n p q g h = joined_there p.diagram q.diagram p.wire q.wire d n g.diagram h.diagram g.wire h.wire

is_wired_there : (d : ℕ) (n : List ℕ) (p : Port) → Gives d n p → is_wired p ≡ true
is_wired_there d n p g = ap is_some g.wire

-- by line and operand, one of two is before the other, or they stand at one place

data Order (a j b k : ℕ) : Type 0 where
  earlier : (nat_lt a b || ((a == b) && nat_lt j k)) ≡ true → Order a j b k
  later : (nat_lt b a || ((b == a) && nat_lt k j)) ≡ true → Order a j b k
  together : a ≡ b → j ≡ k → Order a j b k

or_right : (a b : Bool) → b ≡ true → (a || b) ≡ true
or_right true b h = refl
or_right false b h = h

below : (a b : ℕ) → a < b → nat_lt a b ≡ true
below a b lt = grind (arith, lt)

three : (a b : ℕ) → (a < b) ⊎ ((b < a) ⊎ (a ≡ b))
three a b = grind arith

by_line : (a j b k : ℕ) → a < b → (nat_lt a b || ((a == b) && nat_lt j k)) ≡ true
by_line a j b k lt = ap (λ x. x || ((a == b) && nat_lt j k)) (below a b lt)

by_operand : (a j b k : ℕ) → a ≡ b → j < k → (nat_lt a b || ((a == b) && nat_lt j k)) ≡ true
by_operand a j b k e lt =
    let same : (a == b) ≡ true = grind (arith, e) in
    or_right (nat_lt a b) ((a == b) && nat_lt j k) (ap (λ x. x && nat_lt j k) same ∙ below j k lt)

order : (a j b k : ℕ) → Order a j b k
order a j b k = ⊎_elim
    (λ lt. earlier (by_line a j b k lt))
    (λ more. ⊎_elim
    (λ lt. later (by_line b k a j lt))
    (λ e. ⊎_elim
    (λ lt. earlier (by_operand a j b k e lt))
    (λ rest. ⊎_elim (λ lt. later (by_operand b k a j (sym e) lt)) (λ f. together e f) rest)
    (three j k))
    more)
    (three a b)

-- a source at a place counts there
stands : (s : Bool) (a j v k : ℕ) (d b : ℕ) → s ≡ true → a ≡ v → j ≡ k → b ≡ d → source_at s ((a == v) && (j == k)) d b ≡ 1
stands s a j v k d b e f g h = rw e (rw f (rw g (rw h (rw (same_number v) (rw (same_number k) (rw (same_number d) refl))))))

-- a second one would be before or after the first, or at its place
second : (d : ℕ) (n : List ℕ) (p q : Port) (rest : List Port) → Gives d n p → Gives d n q → (is_before p q ≡ true → ⊥) → (is_before q p ≡ true → ⊥)
    → places_count p.line p.operand d (q ∷ rest) ≡ 0 → ⊥
second d n p q rest g h not_before not_after none = by (order p.line p.operand q.line q.operand)
  where
    by : Order p.line p.operand q.line q.operand → ⊥
    by (earlier e) = not_before e
    by (later e) = not_after e
    by (together e f) =
        let here : source_at q.is_source ((q.line == p.line) && (q.operand == p.operand)) d q.diagram ≡ 1 =
        stands q.is_source q.line q.operand p.line p.operand d q.diagram h.source (sym e) (sym f) h.diagram in
        absurd (omega (arith, here, none))

no_second : (d : ℕ) (n : List ℕ) (p : Port) (rest : List Port) → Gives d n p
    → ((q : Port) → IsIn q rest → Gives d n q → is_before p q ≡ true → ⊥) → ((q : Port) → IsIn q rest → Gives d n q → is_before q p ≡ true → ⊥)
    → places_count p.line p.operand d rest ≡ 0 → port_count d n rest ≡ 0
no_second d n p [] g not_before not_after none = refl
no_second d n p (q ∷ rest) g not_before not_after none =
    let more : places_count p.line p.operand d rest ≡ 0 = omega (arith, none) in
    let later_ones : port_count d n rest ≡ 0 = no_second d n p rest g (λ r is. not_before r (inr is)) (λ r is. not_after r (inr is)) more in
    ⊎_elim
    (λ zero_here. let z : port_hit q.is_source d n q.diagram q.wire ≡ 0 = zero_here in omega (arith, z, later_ones))
    (λ h. absurd (second d n p q rest g h (not_before q (inl refl) h) (not_after q (inl refl) h) none))
    (gives_or d n q)

-- each name of a diagram has one source at most
pub sources_once : (d : ℕ) (n : List ℕ) (ps : List Port) → ((v k : ℕ) → places_count v k d ps ≤ 1) → AreFirst ps → port_count d n ps ≤ 1
sources_once d n [] once first = omega arith
sources_once d n (p ∷ ps) once first =
    ⊎_elim
    (λ zero_here.
    let z : port_hit p.is_source d n p.diagram p.wire ≡ 0 = zero_here in
    let rest : port_count d n ps ≤ 1 = sources_once d n ps
    (λ v k. let o : source_at p.is_source ((p.line == v) && (p.operand == k)) d p.diagram + places_count v k d ps ≤ 1 = once v k in omega (arith, o))
    (λ a b i j. first a b (inr i) (inr j)) in
    omega (arith, z, rest))
    (λ (g : Gives d n p).
    let here : source_at p.is_source ((p.line == p.line) && (p.operand == p.operand)) d p.diagram ≡ 1 =
    stands p.is_source p.line p.operand p.line p.operand d p.diagram g.source refl refl g.diagram in
    let o : source_at p.is_source ((p.line == p.line) && (p.operand == p.operand)) d p.diagram + places_count p.line p.operand d ps ≤ 1 = once p.line p.operand in
    let none : port_count d n ps ≡ 0 = no_second d n p ps g
    (λ q is h e. first p q (inl refl) (inr is) g.source h.source (is_wired_there d n q h) e (both_join d n p q g h))
    (λ q is h e. first q p (inr is) (inl refl) h.source g.source (is_wired_there d n p g) e (both_join d n q p h g))
    (omega (arith, here, o)) in
    let x : port_hit p.is_source d n p.diagram p.wire ≤ 1 = source_one d n p.is_source p.diagram p.wire in
    omega (arith, x, none))
    (gives_or d n p)

-- what is given once at most is apart

given_there : (gs : List Given) (d : ℕ) (n : List ℕ) → IsGivenTo gs d n → 1 ≤ given_count d n gs
given_there [] d n h = absurd h
given_there (g ∷ gs) d n (inl h) = let x : hit ((g.diagram == d) && bytes_eq g.name n) ≡ 1 = counted g.diagram g.name d n h.0 h.1 in omega (arith, x)
  where
    counted : (b : ℕ) (m : List ℕ) (d : ℕ) (n : List ℕ) → b ≡ d → m ≡ n → hit ((b == d) && bytes_eq m n) ≡ 1
    counted b m d n e f = rw e (rw f (rw (same_number d) (rw (same_name n) refl)))
given_there (g ∷ gs) d n (inr h) = let x : 1 ≤ given_count d n gs = given_there gs d n h in omega (arith, x)

pub apart_from : (gs : List Given) → ((d : ℕ) (n : List ℕ) → given_count d n gs ≤ 1) → AreApart gs
apart_from [] once = tt
apart_from (g ∷ gs) once = (
  (λ h.
      let x : 1 ≤ given_count g.diagram g.name gs = given_there gs g.diagram g.name h in
      let y : hit ((g.diagram == g.diagram) && bytes_eq g.name g.name) ≡ 1 = rw (same_number g.diagram) (rw (same_name g.name) refl) in
      let o : hit ((g.diagram == g.diagram) && bytes_eq g.name g.name) + given_count g.diagram g.name gs ≤ 1 = once g.diagram g.name in
      absurd (omega (arith, x, y, o))),
  apart_from gs (λ d n. let o : hit ((g.diagram == d) && bytes_eq g.name n) + given_count d n gs ≤ 1 = once d n in omega (arith, o)),
)
