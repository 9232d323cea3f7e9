-- What stands at the ports of a node, so that two nodes with one name outside are joined by a wire.
use Rattle.std.proofs.Common.{◌≡◌, ◌⊎◌, inl, inr, ℕ, ◌+◌, ◌==◌, Bool, true, false, cond, not, ◌&&◌, ◌||◌, List, [], ◌∷◌, ◌++◌, refl, ap, subst, arith}
use Rattle.std.specs.Prelude.{Some}
use Rattle.std.specs.List.{list_any}
use Rattle.std.specs.Str.{bytes_eq}
use Rattle.std.proofs.lemmas.Slice.Eq.{bytes_eq-Decides}
use Rattle.g_diagram.specs.Operands.{Side, Outside, Inside, Before, Operand, Line}
use Rattle.g_diagram.specs.Ports.{Port, ports_on, ports_from, ports_in, sources, consumers, feeds, has_wire}

-- an outer operand of this name
abbrev pub IsOperand : (source : Bool) → (name : List ℕ) → Operand → Type 0
IsOperand b n o = (o.is_source ≡ b) × (o.side ≡ Outside) × (o.wire ≡ Some n)

abbrev pub HasOperand : (source : Bool) → (name : List ℕ) → List Operand → Type 0
HasOperand b n [] = ⊥
HasOperand b n (o ∷ os) = IsOperand b n o ⊎ HasOperand b n os

pub operand_left : (b : Bool) (n : List ℕ) (xs ys : List Operand) → HasOperand b n xs → HasOperand b n (xs ++ ys)
operand_left b n [] ys h = absurd h
operand_left b n (x ∷ xs) ys (inl h) = inl h
operand_left b n (x ∷ xs) ys (inr h) = inr (operand_left b n xs ys h)

pub operand_right : (b : Bool) (n : List ℕ) (xs ys : List Operand) → HasOperand b n ys → HasOperand b n (xs ++ ys)
operand_right b n [] ys h = h
operand_right b n (x ∷ xs) ys h = inr (operand_right b n xs ys h)

-- a port of a node of this name
abbrev pub IsPort : (source : Bool) → (node diagram : ℕ) → (name : List ℕ) → Port → Type 0
IsPort b v d n p = (p.is_source ≡ b) × (p.node ≡ Some v) × (p.diagram ≡ d) × (p.wire ≡ Some n)

abbrev pub HasPort : (source : Bool) → (node diagram : ℕ) → (name : List ℕ) → List Port → Type 0
HasPort b v d n [] = ⊥
HasPort b v d n (p ∷ ps) = IsPort b v d n p ⊎ HasPort b v d n ps

port_left : (b : Bool) (v d : ℕ) (n : List ℕ) (xs ys : List Port) → HasPort b v d n xs → HasPort b v d n (xs ++ ys)
port_left b v d n [] ys h = absurd h
port_left b v d n (x ∷ xs) ys (inl h) = inl h
port_left b v d n (x ∷ xs) ys (inr h) = inr (port_left b v d n xs ys h)

port_right : (b : Bool) (v d : ℕ) (n : List ℕ) (xs ys : List Port) → HasPort b v d n ys → HasPort b v d n (xs ++ ys)
port_right b v d n [] ys h = h
port_right b v d n (x ∷ xs) ys h = inr (port_right b v d n xs ys h)

-- a line of a node with an outer operand of this name
abbrev pub IsLine : (source : Bool) → (node diagram : ℕ) → (name : List ℕ) → Line → Type 0
IsLine b v d n l = (l.node ≡ v) × (l.outside ≡ d) × HasOperand b n l.operands

abbrev pub HasLine : (source : Bool) → (node diagram : ℕ) → (name : List ℕ) → List Line → Type 0
HasLine b v d n [] = ⊥
HasLine b v d n (l ∷ ls) = IsLine b v d n l ⊎ HasLine b v d n ls

pub line_left : (b : Bool) (v d : ℕ) (n : List ℕ) (xs ys : List Line) → HasLine b v d n xs → HasLine b v d n (xs ++ ys)
line_left b v d n [] ys h = absurd h
line_left b v d n (x ∷ xs) ys (inl h) = inl h
line_left b v d n (x ∷ xs) ys (inr h) = inr (line_left b v d n xs ys h)

pub line_right : (b : Bool) (v d : ℕ) (n : List ℕ) (xs ys : List Line) → HasLine b v d n ys → HasLine b v d n (xs ++ ys)
line_right b v d n [] ys h = h
line_right b v d n (x ∷ xs) ys h = inr (line_right b v d n xs ys h)

on_side : (b : Bool) (n : List ℕ) (l : Line) (k : ℕ) (o : Operand) (s : Side) → s ≡ Outside → o.is_source ≡ b → o.wire ≡ Some n → HasPort b l.node l.outside n (ports_on s l k o)
on_side b n l k o Outside e f g = inl (f, refl, refl, g)
on_side b n l k o Inside e f g = absurd (cc e)
on_side b n l k o Before e f g = absurd (cc e)

from_operand : (b : Bool) (n : List ℕ) (l : Line) (k : ℕ) (os : List Operand) → HasOperand b n os → HasPort b l.node l.outside n (ports_from l k os)
from_operand b n l k [] h = absurd h
from_operand b n l k (o ∷ os) (inl h) = port_left b l.node l.outside n (ports_on o.side l k o) (ports_from l (k + 1) os) (on_side b n l k o o.side h.1 h.0 h.2)
from_operand b n l k (o ∷ os) (inr h) = port_right b l.node l.outside n (ports_on o.side l k o) (ports_from l (k + 1) os) (from_operand b n l (k + 1) os h)

of_line : (b : Bool) (v d : ℕ) (n : List ℕ) (l : Line) → IsLine b v d n l → HasPort b v d n (ports_from l 1 l.operands)
of_line b v d n l h =
    let P : ℕ → Type 0 = λ x. HasPort b x d n (ports_from l 1 l.operands) in
    let Q : ℕ → Type 0 = λ x. HasPort b l.node x n (ports_from l 1 l.operands) in
    subst P h.0 (subst Q h.1 (from_operand b n l 1 l.operands h.2))

-- a line's outer operand is a port
pub port_of : (b : Bool) (v d : ℕ) (n : List ℕ) (ls : List Line) → HasLine b v d n ls → HasPort b v d n (ports_in ls)
port_of b v d n [] h = absurd h
port_of b v d n (l ∷ ls) (inl h) = port_left b v d n (ports_from l 1 l.operands) (ports_in ls) (of_line b v d n l h)
port_of b v d n (l ∷ ls) (inr h) = port_right b v d n (ports_from l 1 l.operands) (ports_in ls) (port_of b v d n ls h)

-- a wire leads from a node with a source of a name to one with a consumer of it

same_name : (n : List ℕ) → bytes_eq n n ≡ true
same_name n = (bytes_eq-Decides n n).1 refl

same_number : (v : ℕ) → (v == v) ≡ true
same_number v = grind arith

all_of : (a b c : Bool) → a ≡ true → b ≡ true → c ≡ true → ((a && b) && c) ≡ true
all_of true true true e f g = refl
all_of true true false e f g = g
all_of true false c e f g = absurd (cc f)
all_of false b c e f g = absurd (cc e)

feeds_from : (a b d : ℕ) (n : List ℕ) (s c : Port) → IsPort true a d n s → IsPort false b d n c → feeds a b s c ≡ true
feeds_from a b d n s c p q =
    rw (p.1) (rw (q.1) (rw (p.2) (rw (q.2) (rw (p.3) (rw (q.3) (all_of (a == a) (b == b) ((d == d) && bytes_eq n n) (same_number a) (same_number b) (rw (same_number d) (same_name n))))))))

or_first : (x y : Bool) → x ≡ true → (x || y) ≡ true
or_first true y e = refl
or_first false y e = absurd (cc e)

or_second : (x y : Bool) → y ≡ true → (x || y) ≡ true
or_second true y e = refl
or_second false y e = e

kept : (Q : Port → Bool) (k : Bool) (p : Port) (ps : List Port) → k ≡ true → Q p ≡ true → list_any Q (cond k (p ∷ ps) ps) ≡ true
kept Q true p ps e q = or_first (Q p) (list_any Q ps) q
kept Q false p ps e q = absurd (cc e)

later : (Q : Port → Bool) (k : Bool) (p : Port) (ps : List Port) → list_any Q ps ≡ true → list_any Q (cond k (p ∷ ps) ps) ≡ true
later Q true p ps e = or_second (Q p) (list_any Q ps) e
later Q false p ps e = e

some_source : (Q : Port → Bool) (v d : ℕ) (n : List ℕ) (ps : List Port) → ((p : Port) → IsPort true v d n p → Q p ≡ true) → HasPort true v d n ps → list_any Q (sources ps) ≡ true
some_source Q v d n [] q h = absurd h
some_source Q v d n (p ∷ ps) q (inl h) = kept Q p.is_source p (sources ps) h.0 (q p h)
some_source Q v d n (p ∷ ps) q (inr h) = later Q p.is_source p (sources ps) (some_source Q v d n ps q h)

some_consumer : (Q : Port → Bool) (v d : ℕ) (n : List ℕ) (ps : List Port) → ((p : Port) → IsPort false v d n p → Q p ≡ true) → HasPort false v d n ps → list_any Q (consumers ps) ≡ true
some_consumer Q v d n [] q h = absurd h
some_consumer Q v d n (p ∷ ps) q (inl h) = kept Q (not p.is_source) p (consumers ps) (ap not h.0) (q p h)
some_consumer Q v d n (p ∷ ps) q (inr h) = later Q (not p.is_source) p (consumers ps) (some_consumer Q v d n ps q h)

pub joined : (a b d : ℕ) (n : List ℕ) (ps : List Port) → HasPort true a d n ps → HasPort false b d n ps → has_wire ps a b ≡ true
joined a b d n ps h g =
    some_source (λ s. list_any (feeds a b s) (consumers ps)) a d n ps
    (λ s p. some_consumer (feeds a b s) b d n ps (λ c q. feeds_from a b d n s c p q) g) h
