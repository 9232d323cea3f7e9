-- Where the sources of a VI stand: at most one stands at an operand of a line in a diagram.
use Rattle.std.proofs.Common.{◌≡◌, ◌⊎◌, inl, inr, ⊎_elim, ℕ, ◌+◌, ◌<◌, ◌≤◌, ◌==◌, Bool, true, false, ◌&&◌, List, [], ◌∷◌, ◌++◌, map, refl, ap, ◌∙◌, arith}
use Rattle.std.specs.Prelude.{None}
use Rattle.g_diagram.specs.Operands.{Side, Outside, Inside, Before, Operand, Line}
use Rattle.g_diagram.specs.Ports.{Port, port, ports_on, ports_from, ports_in}
use Rattle.g_typing_laws.proofs.Counts.{hit, hit_one}

-- at this place, with this test of line and operand, in diagram b
abbrev pub source_at : (source at : Bool) → (d b : ℕ) → ℕ
source_at true true d b = hit (b == d)
source_at true false d b = 0
source_at false at d b = 0

abbrev pub places_count : (v k d : ℕ) → List Port → ℕ
places_count v k d [] = 0
places_count v k d (p ∷ ps) = source_at p.is_source ((p.line == v) && (p.operand == k)) d p.diagram + places_count v k d ps

abbrev pub diagrams_count : (d : ℕ) → List ℕ → ℕ
diagrams_count d [] = 0
diagrams_count d (b ∷ bs) = hit (b == d) + diagrams_count d bs

abbrev pub IsOnce : (ds : List ℕ) → Type 0
IsOnce ds = (d : ℕ) → diagrams_count d ds ≤ 1

pub places_both : (v k d : ℕ) (xs ys : List Port) → places_count v k d (xs ++ ys) ≡ places_count v k d xs + places_count v k d ys
places_both v k d [] ys = omega arith
places_both v k d (x ∷ xs) ys = let e : places_count v k d (xs ++ ys) ≡ places_count v k d xs + places_count v k d ys = places_both v k d xs ys in omega (arith, e)

-- one operand

at_most_hit : (s t : Bool) (d b : ℕ) → source_at s t d b ≤ hit (b == d)
at_most_hit true true d b = omega arith
at_most_hit true false d b = omega arith
at_most_hit false t d b = omega arith

not_here : (s : Bool) (d b : ℕ) → source_at s false d b ≡ 0
not_here true d b = refl
not_here false d b = refl

not_at : (s t : Bool) (d b : ℕ) → t ≡ false → source_at s t d b ≡ 0
not_at s t d b e = ap (λ x. source_at s x d b) e ∙ not_here s d b

among_at_most : (v k d : ℕ) (l : Line) (j : ℕ) (o : Operand) (bs : List ℕ) → places_count v k d (map (port l j o None) bs) ≤ diagrams_count d bs
among_at_most v k d l j o [] = omega arith
among_at_most v k d l j o (b ∷ bs) =
    let x : source_at o.is_source ((l.line == v) && (j == k)) d b ≤ hit (b == d) = at_most_hit o.is_source ((l.line == v) && (j == k)) d b in
    let y : places_count v k d (map (port l j o None) bs) ≤ diagrams_count d bs = among_at_most v k d l j o bs in
    omega (arith, x, y)

among_not_at : (v k d : ℕ) (l : Line) (j : ℕ) (o : Operand) (bs : List ℕ) → ((l.line == v) && (j == k)) ≡ false → places_count v k d (map (port l j o None) bs) ≡ 0
among_not_at v k d l j o [] e = refl
among_not_at v k d l j o (b ∷ bs) e =
    let x : source_at o.is_source ((l.line == v) && (j == k)) d b ≡ 0 = not_at o.is_source ((l.line == v) && (j == k)) d b e in
    let y : places_count v k d (map (port l j o None) bs) ≡ 0 = among_not_at v k d l j o bs e in
    omega (arith, x, y)

side_at_most : (v k d : ℕ) (l : Line) (j : ℕ) (o : Operand) (s : Side) → IsOnce l.inside → IsOnce l.before → places_count v k d (ports_on s l j o) ≤ 1
side_at_most v k d l j o Outside i b =
    let x : source_at o.is_source ((l.line == v) && (j == k)) d l.outside ≤ hit (l.outside == d) = at_most_hit o.is_source ((l.line == v) && (j == k)) d l.outside in
    let y : hit (l.outside == d) ≤ 1 = hit_one (l.outside == d) in
    omega (arith, x, y)
side_at_most v k d l j o Inside i b =
    let x : places_count v k d (map (port l j o None) l.inside) ≤ diagrams_count d l.inside = among_at_most v k d l j o l.inside in
    let y : diagrams_count d l.inside ≤ 1 = i d in
    omega (arith, x, y)
side_at_most v k d l j o Before i b =
    let x : places_count v k d (map (port l j o None) l.before) ≤ diagrams_count d l.before = among_at_most v k d l j o l.before in
    let y : diagrams_count d l.before ≤ 1 = b d in
    omega (arith, x, y)

side_not_at : (v k d : ℕ) (l : Line) (j : ℕ) (o : Operand) (s : Side) → ((l.line == v) && (j == k)) ≡ false → places_count v k d (ports_on s l j o) ≡ 0
side_not_at v k d l j o Outside e =
    let x : source_at o.is_source ((l.line == v) && (j == k)) d l.outside ≡ 0 = not_at o.is_source ((l.line == v) && (j == k)) d l.outside e in
    omega (arith, x)
side_not_at v k d l j o Inside e = among_not_at v k d l j o l.inside e
side_not_at v k d l j o Before e = among_not_at v k d l j o l.before e

-- the operands of a line

abbrev NotAt : (v k : ℕ) → Line → (j : ℕ) → Type 0
NotAt v k l j = ((l.line == v) && (j == k)) ≡ false

first_off : (a b : Bool) → a ≡ false → (a && b) ≡ false
first_off a b e = ap (λ x. x && b) e

second_off : (a b : Bool) → b ≡ false → (a && b) ≡ false
second_off true b e = e
second_off false b e = refl

pub apart_off : (x y : ℕ) → (x < y) ⊎ (y < x) → (x == y) ≡ false
apart_off x y (inl h) = grind (arith, h)
apart_off x y (inr h) = grind (arith, h)

none_from : (v k d : ℕ) (l : Line) (j : ℕ) (os : List Operand) → ((i : ℕ) → j ≤ i → NotAt v k l i) → places_count v k d (ports_from l j os) ≡ 0
none_from v k d l j [] h = refl
none_from v k d l j (o ∷ os) h =
    let x : places_count v k d (ports_on o.side l j o) ≡ 0 = side_not_at v k d l j o o.side (h j (omega arith)) in
    let y : places_count v k d (ports_from l (j + 1) os) ≡ 0 = none_from v k d l (j + 1) os (λ i le. h i (omega (arith, le))) in
    let z : places_count v k d (ports_on o.side l j o ++ ports_from l (j + 1) os) ≡ places_count v k d (ports_on o.side l j o) + places_count v k d (ports_from l (j + 1) os) =
    places_both v k d (ports_on o.side l j o) (ports_from l (j + 1) os) in
    omega (arith, x, y, z)

-- no operand of another line stands there
pub other_line : (v k d : ℕ) (l : Line) (j : ℕ) (os : List Operand) → (l.line < v) ⊎ (v < l.line) → places_count v k d (ports_from l j os) ≡ 0
other_line v k d l j os h = none_from v k d l j os (λ i le. first_off (l.line == v) (i == k) (apart_off l.line v h))

later_operands : (v k d : ℕ) (l : Line) (j : ℕ) (os : List Operand) → k < j → places_count v k d (ports_from l j os) ≡ 0
later_operands v k d l j os lt = none_from v k d l j os (λ i le. second_off (l.line == v) (i == k) (apart_off i k (inr (omega (arith, lt, le)))))

here_or : (j k : ℕ) → (k < j + 1) ⊎ (j < k)
here_or j k = grind arith

pub line_once : (v k d : ℕ) (l : Line) (j : ℕ) (os : List Operand) → IsOnce l.inside → IsOnce l.before → places_count v k d (ports_from l j os) ≤ 1
line_once v k d l j [] i b = omega arith
line_once v k d l j (o ∷ os) i b =
    let z : places_count v k d (ports_on o.side l j o ++ ports_from l (j + 1) os) ≡ places_count v k d (ports_on o.side l j o) + places_count v k d (ports_from l (j + 1) os) =
    places_both v k d (ports_on o.side l j o) (ports_from l (j + 1) os) in
    ⊎_elim
    (λ lt.
    let x : places_count v k d (ports_on o.side l j o) ≤ 1 = side_at_most v k d l j o o.side i b in
    let y : places_count v k d (ports_from l (j + 1) os) ≡ 0 = later_operands v k d l (j + 1) os lt in
    omega (arith, x, y, z))
    (λ lt.
    let x : places_count v k d (ports_on o.side l j o) ≡ 0 = side_not_at v k d l j o o.side (second_off (l.line == v) (j == k) (apart_off j k (inl lt))) in
    let y : places_count v k d (ports_from l (j + 1) os) ≤ 1 = line_once v k d l (j + 1) os i b in
    omega (arith, x, y, z))
    (here_or j k)

-- the operands of some lines

abbrev pub lines_at : (v k d : ℕ) → List Line → ℕ
lines_at v k d [] = 0
lines_at v k d (l ∷ ls) = places_count v k d (ports_from l 1 l.operands) + lines_at v k d ls

pub lines_at_both : (v k d : ℕ) (xs ys : List Line) → lines_at v k d (xs ++ ys) ≡ lines_at v k d xs + lines_at v k d ys
lines_at_both v k d [] ys = omega arith
lines_at_both v k d (x ∷ xs) ys = let e : lines_at v k d (xs ++ ys) ≡ lines_at v k d xs + lines_at v k d ys = lines_at_both v k d xs ys in omega (arith, e)

pub ports_at : (v k d : ℕ) (ls : List Line) → places_count v k d (ports_in ls) ≡ lines_at v k d ls
ports_at v k d [] = refl
ports_at v k d (l ∷ ls) = places_both v k d (ports_from l 1 l.operands) (ports_in ls) ∙ ap (λ c. places_count v k d (ports_from l 1 l.operands) + c) (ports_at v k d ls)
