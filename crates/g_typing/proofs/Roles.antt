-- What the steps of a node read and give: names outside, at its ports, or names of the diagrams inside.
use Rattle.std.proofs.Common.{◌≡◌, ◌⊎◌, inl, inr, ⊎_elim, ℕ, Bool, true, false, List, [], ◌∷◌, ◌++◌, map, refl, ap}
use Rattle.std.specs.Prelude.{Option, Some, None}
use Rattle.g_types.specs.declared.ty.Ty.{Ty}
use Rattle.g_diagram.specs.declared.node.Tunnel.{Tunnel}
use Rattle.g_diagram.specs.declared.node.Tunnel.TheVariants as line
use Rattle.g_diagram.specs.Lines.{Wire, Kind, Loop, Case, Sequence, InPlace}
use Rattle.g_diagram.specs.Operands.{Operand, border}
use Rattle.g_typing.specs.Types.{Types}
use Rattle.g_typing.specs.Typing.{Given, IsGivenTo, given, line_inside, line_outside, lines_inside, lines_outside}
use Rattle.g_typing.proofs.Local.{carry_reads, inside_reads, all_inside_reads, outside_reads, all_outside_reads, miss_reads, all_miss_reads}
use Rattle.g_typing.proofs.Joined.{HasOperand}

-- nothing is known
abbrev pub nothing : Types
nothing d name = None

-- a name is read in a diagram
abbrev pub IsRead : List (ℕ × Wire) → (diagram : ℕ) → (name : List ℕ) → Type 0
IsRead [] z n = ⊥
IsRead (q ∷ qs) z n = ((q.0 ≡ z) × (q.1 ≡ Some n)) ⊎ IsRead qs z n

-- the diagrams inside a node
abbrev pub bodies : Kind → List ℕ
bodies (Loop count stop iteration lines body) = body ∷ []
bodies (Case selector lines arms) = map (λ a. a.body) arms
bodies (Sequence parts) = map (λ p. p.body) parts
bodies (InPlace lines body finish) = body ∷ []
bodies _ = []

abbrev pub IsAmong : ℕ → List ℕ → Type 0
IsAmong b [] = ⊥
IsAmong b (x ∷ xs) = (x ≡ b) ⊎ IsAmong b xs

-- one tunnel

pub given_at : (d : ℕ) (w : Wire) (t : Option Ty) (z : ℕ) (n : List ℕ) → IsGivenTo (given d w t) z n → (d ≡ z) × (w ≡ Some n)
given_at d None t z n h = absurd h
given_at d (Some name) t z n (inl h) = (h.0, ap Some h.1)
given_at d (Some name) t z n (inr h) = absurd h

pub given_append : (xs ys : List Given) (z : ℕ) (n : List ℕ) → IsGivenTo (xs ++ ys) z n → IsGivenTo xs z n ⊎ IsGivenTo ys z n
given_append [] ys z n h = inr h
given_append (x ∷ xs) ys z n (inl h) = inl (inl h)
given_append (x ∷ xs) ys z n (inr h) = ⊎_elim (λ l. inl (inr l)) (λ r. inr r) (given_append xs ys z n h)

pub read_append : (xs ys : List (ℕ × Wire)) (z : ℕ) (n : List ℕ) → IsRead (xs ++ ys) z n → IsRead xs z n ⊎ IsRead ys z n
read_append [] ys z n h = inr h
read_append (x ∷ xs) ys z n (inl h) = inl (inl h)
read_append (x ∷ xs) ys z n (inr h) = ⊎_elim (λ l. inl (inr l)) (λ r. inr r) (read_append xs ys z n h)

line_gives_inside : (M : Types) (d b : ℕ) (before : Option ℕ) (t : Tunnel) (z : ℕ) (n : List ℕ) → IsGivenTo (line_inside M d b before t) z n → b ≡ z
line_gives_inside M d b before (line.Tunnel outer inner) z n h = (given_at b inner _ z n h).0
line_gives_inside M d b before (line.Register initial inner next last) z n h = (given_at b inner _ z n h).0
line_gives_inside M d b before (line.Kept t inner next last) z n h = (given_at b inner _ z n h).0
line_gives_inside M d b before (line.Last inner outer) z n h = absurd h
line_gives_inside M d b before (line.Gather inner outer) z n h = absurd h
line_gives_inside M d b before (line.Index array inner) z n h = (given_at b inner _ z n h).0
line_gives_inside M d b before (line.Result outer default) z n h = absurd h
line_gives_inside M d b before (line.Carry earlier inner) z n h = (given_at b inner _ z n h).0
line_gives_inside M d b before (line.Ref reference inner next same code) z n h = (given_at b inner _ z n h).0
line_gives_inside M d b before (line.Element array index inner next outer) z n h = (given_at b inner _ z n h).0
line_gives_inside M d b before (line.Field k cluster inner next outer) z n h = (given_at b inner _ z n h).0

pub lines_give_inside : (M : Types) (d b : ℕ) (before : Option ℕ) (ts : List Tunnel) (z : ℕ) (n : List ℕ) → IsGivenTo (lines_inside M d b before ts) z n → b ≡ z
lines_give_inside M d b before [] z n h = absurd h
lines_give_inside M d b before (t ∷ ts) z n h =
    ⊎_elim (line_gives_inside M d b before t z n) (lines_give_inside M d b before ts z n) (given_append (line_inside M d b before t) (lines_inside M d b before ts) z n h)

-- a border line with an outer operand of this name
abbrev pub HasBorder : (Tunnel → List Operand) → (source : Bool) → (name : List ℕ) → List Tunnel → Type 0
HasBorder form b n [] = ⊥
HasBorder form b n (t ∷ ts) = HasOperand b n (form t) ⊎ HasBorder form b n ts

line_gives_outside : (M : Types) (ok : Bool) (d b : ℕ) (t : Tunnel) (z : ℕ) (n : List ℕ) → IsGivenTo (line_outside M ok d b t) z n → (d ≡ z) × HasOperand true n (border t)
line_gives_outside M ok d b (line.Tunnel outer inner) z n h = absurd h
line_gives_outside M ok d b (line.Register initial inner next last) z n h = let g = given_at d last _ z n h in (g.0, inr (inr (inr (inl (refl, refl, g.1)))))
line_gives_outside M ok d b (line.Kept t inner next last) z n h = let g = given_at d last _ z n h in (g.0, inr (inr (inr (inl (refl, refl, g.1)))))
line_gives_outside M ok d b (line.Last inner outer) z n h = let g = given_at d outer _ z n h in (g.0, inr (inl (refl, refl, g.1)))
line_gives_outside M ok d b (line.Gather inner outer) z n h = let g = given_at d outer _ z n h in (g.0, inr (inl (refl, refl, g.1)))
line_gives_outside M ok d b (line.Index array inner) z n h = absurd h
line_gives_outside M ok d b (line.Result outer default) z n h = absurd h
line_gives_outside M ok d b (line.Carry earlier inner) z n h = absurd h
line_gives_outside M ok d b (line.Ref reference inner next same code) z n h =
    ⊎_elim
    (λ l. let g = given_at d same _ z n l in (g.0, inr (inr (inr (inl (refl, refl, g.1))))))
    (λ r. let g = given_at d code _ z n r in (g.0, inr (inr (inr (inr (inl (refl, refl, g.1)))))))
    (given_append (given d same _) (given d code _) z n h)
line_gives_outside M ok d b (line.Element array index inner next outer) z n h = let g = given_at d outer _ z n h in (g.0, inr (inr (inr (inr (inl (refl, refl, g.1))))))
line_gives_outside M ok d b (line.Field k cluster inner next outer) z n h = let g = given_at d outer _ z n h in (g.0, inr (inr (inr (inl (refl, refl, g.1)))))

pub lines_give_outside : (M : Types) (ok : Bool) (d b : ℕ) (ts : List Tunnel) (z : ℕ) (n : List ℕ) → IsGivenTo (lines_outside M ok d b ts) z n → (d ≡ z) × HasBorder border true n ts
lines_give_outside M ok d b [] z n h = absurd h
lines_give_outside M ok d b (t ∷ ts) z n h =
    ⊎_elim
    (λ l. let g = line_gives_outside M ok d b t z n l in (g.0, inl g.1))
    (λ r. let g = lines_give_outside M ok d b ts z n r in (g.0, inr g.1))
    (given_append (line_outside M ok d b t) (lines_outside M ok d b ts) z n h)

-- what is read outside, or inside or in the frame before
abbrev pub OuterOr : (d : ℕ) → (outer : List ℕ → Type 0) → (inner : ℕ → Type 0) → (z : ℕ) → (n : List ℕ) → Type 0
OuterOr d outer inner z n = ((d ≡ z) × outer n) ⊎ inner z

read_carried : (before : Option ℕ) (w : Wire) (z : ℕ) (n : List ℕ) → IsRead (carry_reads before w) z n → before ≡ Some z
read_carried None w z n h = absurd h
read_carried (Some b) w z n (inl h) = ap Some h.0
read_carried (Some b) w z n (inr h) = absurd h

line_reads_inside : (d : ℕ) (before : Option ℕ) (t : Tunnel) (z : ℕ) (n : List ℕ) → IsRead (inside_reads d before t) z n → OuterOr d (λ m. HasOperand false m (border t)) (λ y. before ≡ Some y) z n
line_reads_inside d before (line.Tunnel outer inner) z n (inl h) = inl (h.0, inl (refl, refl, h.1))
line_reads_inside d before (line.Tunnel outer inner) z n (inr h) = absurd h
line_reads_inside d before (line.Register initial inner next last) z n (inl h) = inl (h.0, inl (refl, refl, h.1))
line_reads_inside d before (line.Register initial inner next last) z n (inr h) = absurd h
line_reads_inside d before (line.Kept t inner next last) z n h = absurd h
line_reads_inside d before (line.Last inner outer) z n h = absurd h
line_reads_inside d before (line.Gather inner outer) z n h = absurd h
line_reads_inside d before (line.Index array inner) z n (inl h) = inl (h.0, inl (refl, refl, h.1))
line_reads_inside d before (line.Index array inner) z n (inr h) = absurd h
line_reads_inside d before (line.Result outer default) z n h = absurd h
line_reads_inside d before (line.Carry earlier inner) z n h = inr (read_carried before earlier z n h)
line_reads_inside d before (line.Ref reference inner next same code) z n (inl h) = inl (h.0, inl (refl, refl, h.1))
line_reads_inside d before (line.Ref reference inner next same code) z n (inr h) = absurd h
line_reads_inside d before (line.Element array index inner next outer) z n (inl h) = inl (h.0, inl (refl, refl, h.1))
line_reads_inside d before (line.Element array index inner next outer) z n (inr h) = absurd h
line_reads_inside d before (line.Field k cluster inner next outer) z n (inl h) = inl (h.0, inl (refl, refl, h.1))
line_reads_inside d before (line.Field k cluster inner next outer) z n (inr h) = absurd h

pub lines_read_inside : (d : ℕ) (before : Option ℕ) (ts : List Tunnel) (z : ℕ) (n : List ℕ) → IsRead (all_inside_reads d before ts) z n
    → OuterOr d (λ m. HasBorder border false m ts) (λ y. before ≡ Some y) z n
lines_read_inside d before [] z n h = absurd h
lines_read_inside d before (t ∷ ts) z n h =
    ⊎_elim
    (λ l. ⊎_elim (λ o. inl (o.0, inl o.1)) (λ i. inr i) (line_reads_inside d before t z n l))
    (λ r. ⊎_elim (λ o. inl (o.0, inr o.1)) (λ i. inr i) (lines_read_inside d before ts z n r))
    (read_append (inside_reads d before t) (all_inside_reads d before ts) z n h)

line_reads_outside : (d b : ℕ) (t : Tunnel) (z : ℕ) (n : List ℕ) → IsRead (outside_reads d b t) z n → OuterOr d (λ m. HasOperand false m (border t)) (λ y. b ≡ y) z n
line_reads_outside d b (line.Tunnel outer inner) z n h = absurd h
line_reads_outside d b (line.Register initial inner next last) z n (inl h) = inl (h.0, inl (refl, refl, h.1))
line_reads_outside d b (line.Register initial inner next last) z n (inr h) = absurd h
line_reads_outside d b (line.Kept t inner next last) z n h = absurd h
line_reads_outside d b (line.Last inner outer) z n (inl h) = inr h.0
line_reads_outside d b (line.Last inner outer) z n (inr h) = absurd h
line_reads_outside d b (line.Gather inner outer) z n (inl h) = inr h.0
line_reads_outside d b (line.Gather inner outer) z n (inr h) = absurd h
line_reads_outside d b (line.Index array inner) z n h = absurd h
line_reads_outside d b (line.Result outer default) z n h = absurd h
line_reads_outside d b (line.Carry earlier inner) z n h = absurd h
line_reads_outside d b (line.Ref reference inner next same code) z n (inl h) = inl (h.0, inl (refl, refl, h.1))
line_reads_outside d b (line.Ref reference inner next same code) z n (inr h) = absurd h
line_reads_outside d b (line.Element array index inner next outer) z n (inl h) = inl (h.0, inl (refl, refl, h.1))
line_reads_outside d b (line.Element array index inner next outer) z n (inr h) = absurd h
line_reads_outside d b (line.Field k cluster inner next outer) z n (inl h) = inl (h.0, inl (refl, refl, h.1))
line_reads_outside d b (line.Field k cluster inner next outer) z n (inr h) = absurd h

pub lines_read_outside : (d b : ℕ) (ts : List Tunnel) (z : ℕ) (n : List ℕ) → IsRead (all_outside_reads d b ts) z n → OuterOr d (λ m. HasBorder border false m ts) (λ y. b ≡ y) z n
lines_read_outside d b [] z n h = absurd h
lines_read_outside d b (t ∷ ts) z n h =
    ⊎_elim
    (λ l. ⊎_elim (λ o. inl (o.0, inl o.1)) (λ i. inr i) (line_reads_outside d b t z n l))
    (λ r. ⊎_elim (λ o. inl (o.0, inr o.1)) (λ i. inr i) (lines_read_outside d b ts z n r))
    (read_append (outside_reads d b t) (all_outside_reads d b ts) z n h)

line_reads_misses : (d b : ℕ) (t : Tunnel) (z : ℕ) (n : List ℕ) → IsRead (miss_reads d b t) z n → OuterOr d (λ m. HasOperand false m (border t)) (λ y. b ≡ y) z n
line_reads_misses d b (line.Tunnel outer inner) z n h = absurd h
line_reads_misses d b (line.Register initial inner next last) z n h = absurd h
line_reads_misses d b (line.Kept t inner next last) z n h = absurd h
line_reads_misses d b (line.Last inner outer) z n h = absurd h
line_reads_misses d b (line.Gather inner outer) z n (inl h) = inr h.0
line_reads_misses d b (line.Gather inner outer) z n (inr h) = absurd h
line_reads_misses d b (line.Index array inner) z n (inl h) = inl (h.0, inl (refl, refl, h.1))
line_reads_misses d b (line.Index array inner) z n (inr h) = absurd h
line_reads_misses d b (line.Result outer default) z n h = absurd h
line_reads_misses d b (line.Carry earlier inner) z n h = absurd h
line_reads_misses d b (line.Ref reference inner next same code) z n (inl h) = inl (h.0, inl (refl, refl, h.1))
line_reads_misses d b (line.Ref reference inner next same code) z n (inr h) = absurd h
line_reads_misses d b (line.Element array index inner next outer) z n (inl h) = inl (h.0, inl (refl, refl, h.1))
line_reads_misses d b (line.Element array index inner next outer) z n (inr (inl h)) = inl (h.0, inr (inl (refl, refl, h.1)))
line_reads_misses d b (line.Element array index inner next outer) z n (inr (inr h)) = absurd h
line_reads_misses d b (line.Field k cluster inner next outer) z n (inl h) = inl (h.0, inl (refl, refl, h.1))
line_reads_misses d b (line.Field k cluster inner next outer) z n (inr h) = absurd h

pub lines_read_misses : (d b : ℕ) (ts : List Tunnel) (z : ℕ) (n : List ℕ) → IsRead (all_miss_reads d b ts) z n → OuterOr d (λ m. HasBorder border false m ts) (λ y. b ≡ y) z n
lines_read_misses d b [] z n h = absurd h
lines_read_misses d b (t ∷ ts) z n h =
    ⊎_elim
    (λ l. ⊎_elim (λ o. inl (o.0, inl o.1)) (λ i. inr i) (line_reads_misses d b t z n l))
    (λ r. ⊎_elim (λ o. inl (o.0, inr o.1)) (λ i. inr i) (lines_read_misses d b ts z n r))
    (read_append (miss_reads d b t) (all_miss_reads d b ts) z n h)
