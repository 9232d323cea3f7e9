-- Each step of a node opens one of its diagrams, or gives names outside.
use Rattle.std.proofs.Common.{◌≡◌, ◌⊎◌, inl, inr, ⊎_elim, ℕ, zero, suc, ◌+◌, ◌<◌, Bool, true, false, List, [], ◌∷◌, map, refl, subst}
use Rattle.std.specs.Prelude.{Option, Some, None}
use Rattle.g_types.specs.declared.ty.Ty.{Ty}
use Rattle.g_diagram.specs.declared.node.Tunnel.{Tunnel}
use Rattle.g_diagram.specs.declared.node.Tunnel.TheVariants as line
use Rattle.g_diagram.specs.Lines.{Wire, Arm, Part, Entry, Kind, Const, Apply, Shows, Shared, Obtain, Read, Write, Call, Loop, Case, Sequence, InPlace}
use Rattle.g_diagram.specs.Operands.{Outside, Operand, Freedom, source, consumer, border, case_border, border_lines, parts_lines, give_line, loop_header, kind_lines, call_inputs}
use Rattle.g_typing.specs.Types.{or_unwired, wire_at}
use Rattle.g_typing.specs.Typing.{Given, Callees, Objects, IsGivenTo, given, given_each, result_given, next_result}
use Rattle.g_typing.proofs.Unique.{Step}
use Rattle.g_typing.proofs.Local.{all_outside_reads, at_diagram, result_reads, kind_reads}
use Rattle.g_typing.proofs.Steps.{ok_at, fixed, inside, outside, frame_outside, arms_steps, one_result_reads, results_steps, parts_steps, steps_append, loop_steps, kind_steps}
use Rattle.g_typing.proofs.Only.{IsIn}
use Rattle.g_typing.proofs.Joined.{HasOperand, operand_left, operand_right, HasLine, line_left, line_right}
use Rattle.g_typing.proofs.Roles.{nothing, IsRead, bodies, IsAmong, OuterOr, HasBorder, given_at, given_append, read_append, lines_give_inside, lines_give_outside, lines_read_inside, lines_read_outside, lines_read_misses}

abbrev pub GivesIn : Step → (x : ℕ) → Type 0
GivesIn s x = (z : ℕ) (n : List ℕ) → IsGivenTo (s.gives nothing) z n → x ≡ z

-- a source or a consumer of this name outside
abbrev pub Outer : Freedom → Entry → Kind → (source : Bool) → (name : List ℕ) → Type 0
Outer free e k b n = HasLine b e.line e.diagram n (kind_lines free e k)

abbrev pub GivesOut : Freedom → Entry → Kind → Step → Type 0
GivesOut free e k s = (z : ℕ) (n : List ℕ) → IsGivenTo (s.gives nothing) z n → (e.diagram ≡ z) × Outer free e k true n

-- it reads names outside, or in diagrams of these
abbrev pub ReadsFrom : Freedom → Entry → Kind → (inner : ℕ → Type 0) → Step → Type 0
ReadsFrom free e k inner s = (z : ℕ) (n : List ℕ) → IsRead s.reads z n → OuterOr e.diagram (Outer free e k false) inner z n

pub data Role (free : Freedom) (e : Entry) (k : Kind) (s : Step) : Type 0 where
  -- it gives names in diagram x, by those outside and in earlier diagrams of the node
  opens : (x : ℕ) → IsAmong x (bodies k) → GivesIn s x → ReadsFrom free e k (λ y. IsAmong y (bodies k) × y < x) s → Role free e k s
  closes : GivesOut free e k s → ReadsFrom free e k (λ y. IsAmong y (bodies k)) s → Role free e k s

-- later frames stand on later lines
abbrev pub IsAfter : (before : Option ℕ) → (x : ℕ) → Type 0
IsAfter None x = Unit {0}
IsAfter (Some y) x = y < x

abbrev pub Rise : (before : Option ℕ) → List Part → Type 0
Rise before [] = Unit {0}
Rise before (p ∷ ps) = IsAfter before p.body × Rise (Some p.body) ps

abbrev pub FramesRise : Kind → Type 0
FramesRise (Sequence parts) = Rise None parts
FramesRise _ = Unit {0}

-- wires among some

abbrev pub IsWire : (name : List ℕ) → List Wire → Type 0
IsWire n [] = ⊥
IsWire n (w ∷ ws) = (w ≡ Some n) ⊎ IsWire n ws

wire_at-is : (ws : List Wire) (k : ℕ) (n : List ℕ) → wire_at ws k ≡ Some n → IsWire n ws
wire_at-is [] zero n e = absurd (cc e)
wire_at-is [] (suc k) n e = absurd (cc e)
wire_at-is (w ∷ ws) zero n e = inl e
wire_at-is (w ∷ ws) (suc k) n e = inr (wire_at-is ws k n e)

each_given : (d : ℕ) (ws : List Wire) (ts : List Ty) (z : ℕ) (n : List ℕ) → IsGivenTo (given_each d ws ts) z n → (d ≡ z) × IsWire n ws
each_given d [] ts z n h = absurd h
each_given d (w ∷ ws) [] z n h =
    ⊎_elim (λ l. let g = given_at d w None z n l in (g.0, inl g.1)) (λ r. let g = each_given d ws [] z n r in (g.0, inr g.1)) (given_append (given d w None) (given_each d ws []) z n h)
each_given d (w ∷ ws) (t ∷ ts) z n h =
    ⊎_elim (λ l. let g = given_at d w (Some t) z n l in (g.0, inl g.1)) (λ r. let g = each_given d ws ts z n r in (g.0, inr g.1)) (given_append (given d w (Some t)) (given_each d ws ts) z n h)

each_read : (d : ℕ) (ws : List Wire) (z : ℕ) (n : List ℕ) → IsRead (at_diagram d ws) z n → (d ≡ z) × IsWire n ws
each_read d [] z n h = absurd h
each_read d (w ∷ ws) z n (inl h) = (h.0, inl h.1)
each_read d (w ∷ ws) z n (inr h) = let g = each_read d ws z n h in (g.0, inr g.1)

outer_source : (ws : List Wire) (n : List ℕ) → IsWire n ws → HasOperand true n (map (source Outside) ws)
outer_source [] n h = absurd h
outer_source (w ∷ ws) n (inl h) = inl (refl, refl, h)
outer_source (w ∷ ws) n (inr h) = inr (outer_source ws n h)

outer_consumer : (ws : List Wire) (n : List ℕ) → IsWire n ws → HasOperand false n (map (consumer Outside) ws)
outer_consumer [] n h = absurd h
outer_consumer (w ∷ ws) n (inl h) = inl (refl, refl, h)
outer_consumer (w ∷ ws) n (inr h) = inr (outer_consumer ws n h)

-- border lines

on_border : (e : Entry) (inner before : List ℕ) (form : Tunnel → List Operand) (l : ℕ) (b : Bool) (n : List ℕ) (ts : List Tunnel) → HasBorder form b n ts
    → HasLine b e.line e.diagram n (border_lines e inner before form l ts)
on_border e inner before form l b n [] h = absurd h
on_border e inner before form l b n (t ∷ ts) (inl h) = inl (refl, refl, h)
on_border e inner before form l b n (t ∷ ts) (inr h) = inr (on_border e inner before form (l + 1) b n ts h)

case_consumer : (t : Tunnel) (n : List ℕ) → HasOperand false n (border t) → HasOperand false n (case_border t)
case_consumer (line.Tunnel outer inner) n (inl h) = inl h
case_consumer (line.Tunnel outer inner) n (inr (inl h)) = absurd cc
case_consumer (line.Tunnel outer inner) n (inr (inr h)) = absurd h
case_consumer (line.Register initial inner next last) n h = h
case_consumer (line.Kept t inner next last) n h = h
case_consumer (line.Last inner outer) n h = h
case_consumer (line.Gather inner outer) n h = h
case_consumer (line.Index array inner) n h = h
case_consumer (line.Result outer default) n h = h
case_consumer (line.Carry earlier inner) n h = h
case_consumer (line.Ref reference inner next same code) n h = h
case_consumer (line.Element array index inner next outer) n h = h
case_consumer (line.Field k cluster inner next outer) n h = h

on_case_border : (n : List ℕ) (ts : List Tunnel) → HasBorder border false n ts → HasBorder case_border false n ts
on_case_border n [] h = absurd h
on_case_border n (t ∷ ts) (inl h) = inl (case_consumer t n h)
on_case_border n (t ∷ ts) (inr h) = inr (on_case_border n ts h)

-- one step of a node

none_read : (free : Freedom) (e : Entry) (k : Kind) (inner : ℕ → Type 0) (gs : List Given) → ReadsFrom free e k inner (fixed gs)
none_read free e k inner gs z n h = absurd h

from_border : (free : Freedom) (e : Entry) (k : Kind) (inner wanted : ℕ → Type 0) (ts : List Tunnel) (z : ℕ) (n : List ℕ)
    → ((m : List ℕ) → HasBorder border false m ts → Outer free e k false m) → ((y : ℕ) → inner y → wanted y)
    → OuterOr e.diagram (λ m. HasBorder border false m ts) inner z n → OuterOr e.diagram (Outer free e k false) wanted z n
from_border free e k inner wanted ts z n out in_ (inl h) = inl (h.0, out n h.1)
from_border free e k inner wanted ts z n out in_ (inr h) = inr (in_ z h)

-- what a loop or a structure in place gives inside
opening : (free : Freedom) (e : Entry) (k : Kind) (b : ℕ) (ts : List Tunnel) → IsAmong b (bodies k) → ((m : List ℕ) → HasBorder border false m ts → Outer free e k false m)
    → Role free e k (inside e.diagram b None ts)
opening free e k b ts is out = opens b is
    (λ z n h. lines_give_inside nothing e.diagram b None ts z n h)
    (λ z n h. from_border free e k (λ y. None ≡ Some y) (λ y. IsAmong y (bodies k) × y < b) ts z n out (λ y q. absurd (cc q)) (lines_read_inside e.diagram None ts z n h))

-- and outside
closing : (free : Freedom) (e : Entry) (k : Kind) (b : ℕ) (ts : List Tunnel) → IsAmong b (bodies k)
    → ((c : Bool) (m : List ℕ) → HasBorder border c m ts → Outer free e k c m)
    → ((z : ℕ) (n : List ℕ) → IsRead (kind_reads e.diagram k) z n → OuterOr e.diagram (Outer free e k false) (λ y. b ≡ y) z n)
    → Role free e k (outside e.line e.diagram b k ts)
closing free e k b ts is out reads = closes
    (λ z n h. let g = lines_give_outside nothing (ok_at nothing e.line e.diagram k) e.diagram b ts z n h in (g.0, out true n g.1))
    (λ z n h. ⊎_elim
    (λ l. ⊎_elim (λ o. inl o) (λ q. inr (let P : ℕ → Type 0 = λ y. IsAmong y (bodies k) in subst P q is)) (reads z n l))
    (λ r. from_border free e k (λ y. b ≡ y) (λ y. IsAmong y (bodies k)) ts z n (out false) (λ y q. let P : ℕ → Type 0 = λ x. IsAmong x (bodies k) in subst P q is)
    (lines_read_outside e.diagram b ts z n r))
    (read_append (kind_reads e.diagram k) (all_outside_reads e.diagram b ts) z n h))

loop_role : (free : Freedom) (e : Entry) (k : Kind) (b : ℕ) (iteration : Wire) (ts : List Tunnel) → IsAmong b (bodies k)
    → ((c : Bool) (m : List ℕ) → HasBorder border c m ts → Outer free e k c m)
    → ((z : ℕ) (n : List ℕ) → IsRead (kind_reads e.diagram k) z n → OuterOr e.diagram (Outer free e k false) (λ y. b ≡ y) z n)
    → (s : Step) → IsIn s (loop_steps e.line e.diagram b k iteration ts) → Role free e k s
loop_role free e k b iteration ts is out reads s (inl q) =
    subst (Role free e k) q (opens b is (λ z n h. (given_at b iteration _ z n h).0) (λ z n h. absurd h))
loop_role free e k b iteration ts is out reads s (inr (inl q)) = subst (Role free e k) q (opening free e k b ts is (out false))
loop_role free e k b iteration ts is out reads s (inr (inr (inl q))) = subst (Role free e k) q (closing free e k b ts is out reads)
loop_role free e k b iteration ts is out reads s (inr (inr (inr q))) = absurd q

-- branches

arms_role : (free : Freedom) (e : Entry) (k : Kind) (ts : List Tunnel) (arms : List Arm) → ((y : ℕ) → IsAmong y (map (λ a. a.body) arms) → IsAmong y (bodies k))
    → ((m : List ℕ) → HasBorder border false m ts → Outer free e k false m) → (s : Step) → IsIn s (arms_steps e.diagram ts arms) → Role free e k s
arms_role free e k ts [] is out s h = absurd h
arms_role free e k ts (arm ∷ arms) is out s (inl q) = subst (Role free e k) q (opening free e k arm.body ts (is arm.body (inl refl)) out)
arms_role free e k ts (arm ∷ arms) is out s (inr q) = arms_role free e k ts arms (λ y h. is y (inr h)) out s q

read_results : (k : ℕ) (arms : List Arm) (z : ℕ) (n : List ℕ) → IsRead (result_reads k arms) z n → IsAmong z (map (λ a. a.body) arms)
read_results k [] z n h = absurd h
read_results k (arm ∷ arms) z n (inl h) = inl h.0
read_results k (arm ∷ arms) z n (inr h) = inr (read_results k arms z n h)

read_result : (k : ℕ) (arms : List Arm) (t : Tunnel) (z : ℕ) (n : List ℕ) → IsRead (one_result_reads k arms t) z n → IsAmong z (map (λ a. a.body) arms)
read_result k arms (line.Result outer default) z n h = read_results k arms z n h
read_result k arms (line.Tunnel outer inner) z n h = absurd h
read_result k arms (line.Register initial inner next last) z n h = absurd h
read_result k arms (line.Kept t inner next last) z n h = absurd h
read_result k arms (line.Last inner outer) z n h = absurd h
read_result k arms (line.Gather inner outer) z n h = absurd h
read_result k arms (line.Index array inner) z n h = absurd h
read_result k arms (line.Carry earlier inner) z n h = absurd h
read_result k arms (line.Ref reference inner next same code) z n h = absurd h
read_result k arms (line.Element array index inner next outer) z n h = absurd h
read_result k arms (line.Field f cluster inner next outer) z n h = absurd h

give_result : (d k : ℕ) (arms : List Arm) (t : Tunnel) (z : ℕ) (n : List ℕ) → IsGivenTo (result_given nothing d k arms t) z n → (d ≡ z) × HasOperand true n (case_border t)
give_result d k arms (line.Result outer default) z n h = let g = given_at d outer _ z n h in (g.0, inl (refl, refl, g.1))
give_result d k arms (line.Tunnel outer inner) z n h = absurd h
give_result d k arms (line.Register initial inner next last) z n h = absurd h
give_result d k arms (line.Kept t inner next last) z n h = absurd h
give_result d k arms (line.Last inner outer) z n h = absurd h
give_result d k arms (line.Gather inner outer) z n h = absurd h
give_result d k arms (line.Index array inner) z n h = absurd h
give_result d k arms (line.Carry earlier inner) z n h = absurd h
give_result d k arms (line.Ref reference inner next same code) z n h = absurd h
give_result d k arms (line.Element array index inner next outer) z n h = absurd h
give_result d k arms (line.Field f cluster inner next outer) z n h = absurd h

results_role : (free : Freedom) (e : Entry) (kind : Kind) (k : ℕ) (arms : List Arm) (ts : List Tunnel) → ((y : ℕ) → IsAmong y (map (λ a. a.body) arms) → IsAmong y (bodies kind))
    → ((m : List ℕ) → HasBorder case_border true m ts → Outer free e kind true m) → (s : Step) → IsIn s (results_steps e.diagram k arms ts) → Role free e kind s
results_role free e kind k arms [] is out s h = absurd h
results_role free e kind k arms (t ∷ ts) is out s (inl q) =
    subst (Role free e kind) q
    (closes (λ z n h. let g = give_result e.diagram k arms t z n h in (g.0, out n (inl g.1))) (λ z n h. inr (is z (read_result k arms t z n h))))
results_role free e kind k arms (t ∷ ts) is out s (inr q) = results_role free e kind (next_result t k) arms ts is (λ m h. out m (inr h)) s q

pub in_append : (s : Step) (xs ys : List Step) → IsIn s (steps_append xs ys) → IsIn s xs ⊎ IsIn s ys
in_append s [] ys h = inr h
in_append s (x ∷ xs) ys (inl h) = inl (inl h)
in_append s (x ∷ xs) ys (inr h) = ⊎_elim (λ l. inl (inr l)) (λ r. inr r) (in_append s xs ys h)

case_role : (free : Freedom) (e : Entry) (selector : Wire) (ts : List Tunnel) (arms : List Arm) (s : Step)
    → IsIn s (steps_append (arms_steps e.diagram ts arms) (results_steps e.diagram 0 arms ts)) → Role free e (Case selector ts arms) s
case_role free e selector ts arms s h =
    let on : (c : Bool) (m : List ℕ) → HasBorder case_border c m ts → Outer free e (Case selector ts arms) c m =
    λ c m b. inr (line_left c e.line e.diagram m (border_lines e (map (λ a. a.body) arms) [] case_border (e.line + 1) ts) (map (give_line e) arms)
    (on_border e (map (λ a. a.body) arms) [] case_border (e.line + 1) c m ts b)) in
    ⊎_elim
    (λ l. arms_role free e (Case selector ts arms) ts arms (λ y is. is) (λ m b. on false m (on_case_border m ts b)) s l)
    (λ r. results_role free e (Case selector ts arms) 0 arms ts (λ y is. is) (on true) s r)
    (in_append s (arms_steps e.diagram ts arms) (results_steps e.diagram 0 arms ts) h)

-- frames

frame_opens : (free : Freedom) (e : Entry) (k : Kind) (before : Option ℕ) (p : Part) → IsAmong p.body (bodies k) → IsAfter before p.body
    → ((y : ℕ) → before ≡ Some y → IsAmong y (bodies k)) → ((m : List ℕ) → HasBorder border false m p.lines → Outer free e k false m)
    → Role free e k (inside e.diagram p.body before p.lines)
frame_opens free e k before p is after earlier out = opens p.body is
    (λ z n h. lines_give_inside nothing e.diagram p.body before p.lines z n h)
    (λ z n h. from_border free e k (λ y. before ≡ Some y) (λ y. IsAmong y (bodies k) × y < p.body) p.lines z n out
    (λ y q. (earlier y q, (let P : Option ℕ → Type 0 = λ o. IsAfter o p.body in subst P q after)))
    (lines_read_inside e.diagram before p.lines z n h))

frame_closes : (free : Freedom) (e : Entry) (k : Kind) (p : Part) → IsAmong p.body (bodies k) → ((c : Bool) (m : List ℕ) → HasBorder border c m p.lines → Outer free e k c m)
    → Role free e k (frame_outside e.diagram p.body p.lines)
frame_closes free e k p is out = closes
    (λ z n h. let g = lines_give_outside nothing true e.diagram p.body p.lines z n h in (g.0, out true n g.1))
    (λ z n h. from_border free e k (λ y. p.body ≡ y) (λ y. IsAmong y (bodies k)) p.lines z n (out false) (λ y q. let P : ℕ → Type 0 = λ x. IsAmong x (bodies k) in subst P q is)
    (lines_read_outside e.diagram p.body p.lines z n h))

parts_role : (free : Freedom) (e : Entry) (k : Kind) (before : Option ℕ) (numbers : List ℕ) (ps : List Part) → Rise before ps
    → ((y : ℕ) → before ≡ Some y → IsAmong y (bodies k)) → ((y : ℕ) → IsAmong y (map (λ p. p.body) ps) → IsAmong y (bodies k))
    → ((c : Bool) (m : List ℕ) → HasLine c e.line e.diagram m (parts_lines e numbers ps) → Outer free e k c m)
    → (s : Step) → IsIn s (parts_steps e.diagram before ps) → Role free e k s
parts_role free e k before numbers [] rise earlier is out s h = absurd h
parts_role free e k before numbers (p ∷ ps) rise earlier is out s (inl q) =
    subst (Role free e k) q
    (frame_opens free e k before p (is p.body (inl refl)) rise.0 earlier
    (λ m h. out false m (line_left false e.line e.diagram m (border_lines e (p.body ∷ []) numbers border (p.body + 1) p.lines) (parts_lines e (p.body ∷ []) ps)
    (on_border e (p.body ∷ []) numbers border (p.body + 1) false m p.lines h))))
parts_role free e k before numbers (p ∷ ps) rise earlier is out s (inr (inl q)) =
    subst (Role free e k) q
    (frame_closes free e k p (is p.body (inl refl))
    (λ c m h. out c m (line_left c e.line e.diagram m (border_lines e (p.body ∷ []) numbers border (p.body + 1) p.lines) (parts_lines e (p.body ∷ []) ps)
    (on_border e (p.body ∷ []) numbers border (p.body + 1) c m p.lines h))))
parts_role free e k before numbers (p ∷ ps) rise earlier is out s (inr (inr q)) =
    parts_role free e k (Some p.body) (p.body ∷ []) ps rise.1 (λ y same. is y (inl (same_body p.body y same))) (λ y h. is y (inr h))
    (λ c m h. out c m (line_right c e.line e.diagram m (border_lines e (p.body ∷ []) numbers border (p.body + 1) p.lines) (parts_lines e (p.body ∷ []) ps) h)) s q
  where
    same_body : (x y : ℕ) → Some x ≡ Some y → x ≡ y
    same_body x y same = cc same

-- loops

counted : (count stop : Option Wire) (iteration : Wire) (n : List ℕ) → or_unwired count ≡ Some n → HasOperand false n (loop_header count stop iteration)
counted None stop iteration n e = absurd (cc e)
counted (Some w) stop iteration n e = inl (refl, refl, e)

-- the rule on rows reads the count outside, and the stop wire inside
loop_read : (free : Freedom) (e : Entry) (count stop : Option Wire) (iteration : Wire) (ts : List Tunnel) (body z : ℕ) (n : List ℕ)
    → IsRead (kind_reads e.diagram (Loop count stop iteration ts body)) z n
    → OuterOr e.diagram (Outer free e (Loop count stop iteration ts body) false) (λ y. body ≡ y) z n
loop_read free e count stop iteration ts body z n (inl q) = inl (q.0, inl (refl, refl, counted count stop iteration n q.1))
loop_read free e count stop iteration ts body z n (inr (inl q)) = inr q.0
loop_read free e count stop iteration ts body z n (inr (inr q)) =
    from_border free e (Loop count stop iteration ts body) (λ y. body ≡ y) (λ y. body ≡ y) ts z n
    (λ m b. inr (on_border e (body ∷ []) [] border (e.line + 1) false m ts b)) (λ y i. i) (lines_read_misses e.diagram body ts z n q)

-- nodes

pub roles : (free : Freedom) (called : Callees) (objects : Objects) (e : Entry) (k : Kind) → FramesRise k → (s : Step) → IsIn s (kind_steps called objects e.line e.diagram k) → Role free e k s
roles free called objects e (Const t literal out) rise s (inl q) =
    subst (Role free e (Const t literal out)) q (closes (λ z n h. let g = given_at e.diagram out _ z n h in (g.0, inl (refl, refl, inl (refl, refl, g.1)))) (λ z n h. absurd h))
roles free called objects e (Const t literal out) rise s (inr q) = absurd q
roles free called objects e (Apply p inputs outputs) rise s (inl q) =
    subst (Role free e (Apply p inputs outputs)) q
    (closes
    (λ z n h. let g = each_given e.diagram outputs _ z n h in
    (g.0, inl (refl, refl, operand_right true n (map (consumer Outside) inputs) (map (source Outside) outputs) (outer_source outputs n g.1))))
    (λ z n h. let g = each_read e.diagram inputs z n h in
    inl (g.0, inl (refl, refl, operand_left false n (map (consumer Outside) inputs) (map (source Outside) outputs) (outer_consumer inputs n g.1)))))
roles free called objects e (Apply p inputs outputs) rise s (inr q) = absurd q
roles free called objects e (Shows name t input) rise s h = absurd h
roles free called objects e (Shared op inputs outputs) rise s (inl q) =
    subst (Role free e (Shared op inputs outputs)) q
    (closes
    (λ z n h. let g = each_given e.diagram outputs _ z n h in
    (g.0, inl (refl, refl, operand_right true n (map (consumer Outside) inputs) (map (source Outside) outputs) (outer_source outputs n g.1))))
    (λ z n h. ⊎_elim
    (λ g. inl (g.0, inl (refl, refl, operand_left false n (map (consumer Outside) inputs) (map (source Outside) outputs) (outer_consumer inputs n (wire_at-is inputs 0 n g.1)))))
    (λ g. absurd g)
    h))
roles free called objects e (Shared op inputs outputs) rise s (inr q) = absurd q
roles free called objects e (Obtain queue size item out) rise s (inl q) =
    subst (Role free e (Obtain queue size item out)) q (closes (λ z n h. let g = given_at e.diagram out _ z n h in (g.0, inl (refl, refl, inl (refl, refl, g.1)))) (λ z n h. absurd h))
roles free called objects e (Obtain queue size item out) rise s (inr q) = absurd q
roles free called objects e (Read object out) rise s (inl q) =
    subst (Role free e (Read object out)) q (closes (λ z n h. let g = given_at e.diagram out _ z n h in (g.0, inl (refl, refl, inl (refl, refl, g.1)))) (λ z n h. absurd h))
roles free called objects e (Read object out) rise s (inr q) = absurd q
roles free called objects e (Write object input) rise s h = absurd h
roles free called objects e (Call name inputs outputs) rise s (inl q) =
    subst (Role free e (Call name inputs outputs)) q
    (closes
    (λ z n h. let g = each_given e.diagram outputs _ z n h in
    (g.0, inl (refl, refl, operand_right true n (call_inputs (free name) 0 inputs) (map (source Outside) outputs) (outer_source outputs n g.1))))
    (λ z n h. absurd h))
roles free called objects e (Call name inputs outputs) rise s (inr q) = absurd q
roles free called objects e (Loop count stop iteration ts body) rise s h =
    loop_role free e (Loop count stop iteration ts body) body iteration ts (inl refl)
    (λ c m b. inr (on_border e (body ∷ []) [] border (e.line + 1) c m ts b))
    (λ z n r. loop_read free e count stop iteration ts body z n r)
    s h
roles free called objects e (Case selector ts arms) rise s h = case_role free e selector ts arms s h
roles free called objects e (Sequence parts) rise s h =
    parts_role free e (Sequence parts) None [] parts rise (λ y q. absurd (cc q)) (λ y is. is) (λ c m l. l) s h
roles free called objects e (InPlace ts body finish) rise s (inl q) =
    subst (Role free e (InPlace ts body finish)) q
    (opening free e (InPlace ts body finish) body ts (inl refl) (λ m b. on_border e (body ∷ []) [] border (e.line + 1) false m ts b))
roles free called objects e (InPlace ts body finish) rise s (inr (inl q)) =
    subst (Role free e (InPlace ts body finish)) q
    (closing free e (InPlace ts body finish) body ts (inl refl)
    (λ c m b. on_border e (body ∷ []) [] border (e.line + 1) c m ts b)
    (λ z n r. from_border free e (InPlace ts body finish) (λ y. body ≡ y) (λ y. body ≡ y) ts z n (λ m b. on_border e (body ∷ []) [] border (e.line + 1) false m ts b) (λ y i. i)
    (lines_read_misses e.diagram body ts z n r)))
roles free called objects e (InPlace ts body finish) rise s (inr (inr q)) = absurd q
