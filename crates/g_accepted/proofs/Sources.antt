-- The source of a name stands at an operand of one line; where each line with operands has a number of its own, its place tells which.
use Rattle.std.proofs.Common.{◌≡◌, ◌⊎◌, inl, inr, ⊎_elim, ℕ, ◌+◌, ◌<◌, ◌≤◌, ◌==◌, Bool, true, false, cond, ◌&&◌, List, [], ◌∷◌, map, Option, Some, None, refl, ap, sym, ◌∙◌, subst, arith}
use Rattle.std.specs.Prelude.{is_some}
use Rattle.std.proofs.lemmas.Bool.{eqb-true, false≢true}
use Rattle.std.proofs.lemmas.Slice.Eq.{bytes_eq-Decides}
use Rattle.g_diagram.specs.Lines.{Wire}
use Rattle.g_diagram.specs.Operands.{Side, Outside, Inside, Before, Operand, Line}
use Rattle.g_diagram.specs.Ports.{Port, port, ports_on, ports_from, ports_in, same_wire}
use Rattle.g_border.specs.declared.place.WireSource.{WireSource}
use Rattle.g_border.specs.Readers.{source_of}
use Rattle.g_accepted.proofs.Facts.{IsIn, in_left, in_right, in_either, same_number, same_name, and_first, and_second, and_both}
use Rattle.g_accepted.proofs.Laid.{hit, line_hit, lines_at}

-- the operand of a number, where they count from j
abbrev pub OperandAt : (j : ℕ) → List Operand → (k : ℕ) → Operand → Type 0
OperandAt j [] k o = ⊥
OperandAt j (x ∷ xs) k o = ((j ≡ k) × (x ≡ o)) ⊎ OperandAt (j + 1) xs k o

-- a diagram on a side of a line
abbrev pub IsSide : (diagram : ℕ) → Side → Line → Type 0
IsSide d Outside l = l.outside ≡ d
IsSide d Inside l = IsIn d l.inside
IsSide d Before l = IsIn d l.before

-- a source of a name at an operand of a line
pub record SourceOn (d : ℕ) (n : List ℕ) (l : Line) (k : ℕ) : Type 0 where
  pub operand : Operand
  pub at : OperandAt 1 l.operands k operand
  pub source : operand.is_source ≡ true
  pub wire : operand.wire ≡ Some n
  pub side : IsSide d operand.side l

pub record SourceAt (d : ℕ) (n : List ℕ) (w : WireSource) (ls : List Line) : Type 0 where
  pub line : Line
  pub stands : IsIn line ls
  pub number : line.line ≡ w.line
  pub on : SourceOn d n line w.operand

-- ---- ports

record PortAt (d : ℕ) (n : List ℕ) (w : WireSource) (ps : List Port) : Type 0 where
  port : Port
  stands : IsIn port ps
  source : port.is_source ≡ true
  diagram : port.diagram ≡ d
  wire : port.wire ≡ Some n
  line : port.line ≡ w.line
  operand : port.operand ≡ w.operand

port_later : (d : ℕ) (n : List ℕ) (w : WireSource) (p : Port) (ps : List Port) → PortAt d n w ps → PortAt d n w (p ∷ ps)
port_later d n w p ps f = record { port = f.port; stands = inr f.stands; source = f.source; diagram = f.diagram; wire = f.wire; line = f.line; operand = f.operand }

is_named : (w : Wire) (n : List ℕ) → same_wire (Some n) w ≡ true → w ≡ Some n
is_named None n h = absurd (false≢true h)
is_named (Some m) n h = ap Some (sym ((bytes_eq-Decides n m).0 h))

port_found : (d : ℕ) (n : List ℕ) (w : WireSource) (ps : List Port) → source_of ps d n ≡ Some w → PortAt d n w ps
port_found d n w [] e = absurd (let no : None ≡ Some w = e in cc)
port_found d n w (p ∷ ps) e = by (p.is_source && ((p.diagram == d) && same_wire (Some n) p.wire)) refl e (port_found d n w ps)
  where
    by : (b : Bool) → (p.is_source && ((p.diagram == d) && same_wire (Some n) p.wire)) ≡ b → cond b (Some (record { line = p.line; operand = p.operand })) (source_of ps d n) ≡ Some w
        → (source_of ps d n ≡ Some w → PortAt d n w ps) → PortAt d n w (p ∷ ps)
    by true is e later =
        let here : record { line = p.line; operand = p.operand } ≡ w = (let same : Some (record { line = p.line; operand = p.operand }) ≡ Some w = e in cc) in
        let more = and_second p.is_source ((p.diagram == d) && same_wire (Some n) p.wire) is in
        record {
          port = p;
          stands = inl refl;
          source = and_first p.is_source ((p.diagram == d) && same_wire (Some n) p.wire) is;
          diagram = eqb-true p.diagram d (and_first (p.diagram == d) (same_wire (Some n) p.wire) more);
          wire = is_named p.wire n (and_second (p.diagram == d) (same_wire (Some n) p.wire) more);
          line = ap (λ (x : WireSource). x.line) here;
          operand = ap (λ (x : WireSource). x.operand) here;
        }
    by false is e later = port_later d n w p ps (later e)

-- a source of a name makes it found
pub some_source : (d : ℕ) (n : List ℕ) (ps : List Port) (p : Port) → IsIn p ps → p.is_source ≡ true → p.diagram ≡ d → p.wire ≡ Some n → is_some (source_of ps d n) ≡ true
some_source d n [] p is s e f = absurd is
some_source d n (q ∷ ps) p (inl same) s e f =
    let t : (q.is_source && ((q.diagram == d) && same_wire (Some n) q.wire)) ≡ true =
    subst (λ (x : Port). (x.is_source && ((x.diagram == d) && same_wire (Some n) x.wire)) ≡ true) (sym same)
    (and_both p.is_source ((p.diagram == d) && same_wire (Some n) p.wire) s
    (and_both (p.diagram == d) (same_wire (Some n) p.wire) (ap (λ x. x == d) e ∙ same_number d) (ap (same_wire (Some n)) f ∙ same_name n))) in
    ap (λ b. is_some (cond b (Some (record { line = q.line; operand = q.operand })) (source_of ps d n))) t
some_source d n (q ∷ ps) p (inr is) s e f = by (q.is_source && ((q.diagram == d) && same_wire (Some n) q.wire)) (some_source d n ps p is s e f)
  where
    by : (b : Bool) → is_some (source_of ps d n) ≡ true → is_some (cond b (Some (record { line = q.line; operand = q.operand })) (source_of ps d n)) ≡ true
    by true later = refl
    by false later = later

-- ---- the line of a port

record OnOperand (p : Port) (l : Line) (k : ℕ) (o : Operand) : Type 0 where
  line : p.line ≡ l.line
  operand : p.operand ≡ k
  source : p.is_source ≡ o.is_source
  wire : p.wire ≡ o.wire
  side : IsSide p.diagram o.side l

on_one : (l : Line) (k : ℕ) (o : Operand) (at : Option ℕ) (d : ℕ) (p : Port) → port l k o at d ≡ p → IsSide d o.side l → OnOperand p l k o
on_one l k o at d p same side = record {
  line = ap (λ (x : Port). x.line) (sym same);
  operand = ap (λ (x : Port). x.operand) (sym same);
  source = ap (λ (x : Port). x.is_source) (sym same);
  wire = ap (λ (x : Port). x.wire) (sym same);
  side = let e : d ≡ p.diagram = ap (λ (x : Port). x.diagram) same in subst (λ (x : ℕ). IsSide x o.side l) e side;
}

on_among : (l : Line) (k : ℕ) (o : Operand) (p : Port) (bs : List ℕ) → IsIn p (map (port l k o None) bs) → ((b : ℕ) → IsIn b bs → IsSide b o.side l) → OnOperand p l k o
on_among l k o p [] is sides = absurd is
on_among l k o p (b ∷ bs) (inl same) sides = on_one l k o None b p same (sides b (inl refl))
on_among l k o p (b ∷ bs) (inr is) sides = on_among l k o p bs is (λ c h. sides c (inr h))

on_side : (l : Line) (k : ℕ) (o : Operand) (p : Port) (s : Side) → o.side ≡ s → IsIn p (ports_on s l k o) → OnOperand p l k o
on_side l k o p Outside e (inl same) = on_one l k o (Some l.node) l.outside p same (subst (λ (s : Side). IsSide l.outside s l) (sym e) refl)
on_side l k o p Outside e (inr h) = absurd h
on_side l k o p Inside e is = on_among l k o p l.inside is (λ b h. subst (λ (s : Side). IsSide b s l) (sym e) h)
on_side l k o p Before e is = on_among l k o p l.before is (λ b h. subst (λ (s : Side). IsSide b s l) (sym e) h)

of_operands : (l : Line) (j : ℕ) (os : List Operand) (p : Port) → IsIn p (ports_from l j os) → (k : ℕ) × (o : Operand) × OperandAt j os k o × OnOperand p l k o
of_operands l j [] p is = absurd is
of_operands l j (o ∷ os) p is =
    ⊎_elim
    (λ here. (j, o, inl (refl, refl), on_side l j o p o.side refl here))
    (λ later. let r = of_operands l (j + 1) os p later in (r.0, r.1, inr r.2, r.3))
    (in_either p (ports_on o.side l j o) (ports_from l (j + 1) os) is)

of_lines : (ls : List Line) (p : Port) → IsIn p (ports_in ls) → (l : Line) × IsIn l ls × IsIn p (ports_from l 1 l.operands)
of_lines [] p is = absurd is
of_lines (l ∷ ls) p is =
    ⊎_elim
    (λ here. (l, inl refl, here))
    (λ later. let r = of_lines ls p later in (r.0, inr r.1, r.2))
    (in_either p (ports_from l 1 l.operands) (ports_in ls) is)

-- a name's source is at an operand of a line
pub source_at : (ls : List Line) (d : ℕ) (n : List ℕ) (w : WireSource) → source_of (ports_in ls) d n ≡ Some w → SourceAt d n w ls
source_at ls d n w e =
    let f = port_found d n w (ports_in ls) e in
    let l = of_lines ls f.port f.stands in
    let o = of_operands l.0 1 l.0.operands f.port l.2 in
    let k : o.0 ≡ w.operand = sym o.3.operand ∙ f.operand in
    record {
      line = l.0;
      stands = l.1;
      number = sym o.3.line ∙ f.line;
      on = record {
        operand = o.1;
        at = subst (λ (x : ℕ). OperandAt 1 l.0.operands x o.1) k o.2;
        source = sym o.3.source ∙ f.source;
        wire = sym o.3.wire ∙ f.wire;
        side = subst (λ (x : ℕ). IsSide x o.1.side l.0) f.diagram o.3.side;
      };
    }

-- ---- the ports of a line

in_among : (l : Line) (k : ℕ) (o : Operand) (d : ℕ) (bs : List ℕ) → IsIn d bs → IsIn (port l k o None d) (map (port l k o None) bs)
in_among l k o d [] is = absurd is
in_among l k o d (b ∷ bs) (inl same) = inl (ap (port l k o None) same)
in_among l k o d (b ∷ bs) (inr is) = inr (in_among l k o d bs is)

port_on : (l : Line) (k : ℕ) (o : Operand) (d : ℕ) (s : Side) → IsSide d s l → (node : Option ℕ) × IsIn (port l k o node d) (ports_on s l k o)
port_on l k o d Outside side = (Some l.node, inl (ap (port l k o (Some l.node)) side))
port_on l k o d Inside side = (None, in_among l k o d l.inside side)
port_on l k o d Before side = (None, in_among l k o d l.before side)

in_operands : (l : Line) (j : ℕ) (os : List Operand) (k : ℕ) (o : Operand) (d : ℕ) → OperandAt j os k o → IsSide d o.side l → (node : Option ℕ) × IsIn (port l k o node d) (ports_from l j os)
in_operands l j [] k o d at side = absurd at
in_operands l j (x ∷ os) k o d (inl same) side =
    let p = port_on l k o d o.side side in (
      p.0,
      in_left (port l k o p.0 d) (ports_on x.side l j x) (ports_from l (j + 1) os)
          (subst (λ (y : ℕ). IsIn (port l k o p.0 d) (ports_on x.side l y x)) (sym same.0) (subst (λ (y : Operand). IsIn (port l k o p.0 d) (ports_on y.side l k y)) (sym same.1) p.1)),
    )
in_operands l j (x ∷ os) k o d (inr at) side =
    let p = in_operands l (j + 1) os k o d at side in
    (p.0, in_right (port l k o p.0 d) (ports_on x.side l j x) (ports_from l (j + 1) os) p.1)

in_lines : (ls : List Line) (l : Line) (p : Port) → IsIn l ls → IsIn p (ports_from l 1 l.operands) → IsIn p (ports_in ls)
in_lines [] l p is h = absurd is
in_lines (m ∷ ls) l p (inl same) h = in_left p (ports_from m 1 m.operands) (ports_in ls) (subst (λ (x : Line). IsIn p (ports_from x 1 x.operands)) (sym same) h)
in_lines (m ∷ ls) l p (inr is) h = in_right p (ports_from m 1 m.operands) (ports_in ls) (in_lines ls l p is h)

-- a source at an operand of a line is found
pub source_there : (ls : List Line) (l : Line) (d : ℕ) (n : List ℕ) (k : ℕ) → IsIn l ls → SourceOn d n l k → is_some (source_of (ports_in ls) d n) ≡ true
source_there ls l d n k is on =
    let p = in_operands l 1 l.operands k on.operand d on.at on.side in
    some_source d n (ports_in ls) (port l k on.operand p.0 d) (in_lines ls l (port l k on.operand p.0 d) is p.1) on.source refl on.wire

-- ---- one line of a number

pub has_operand : (j : ℕ) (os : List Operand) (k : ℕ) (o : Operand) (b : Bool) → OperandAt j os k o → b ≡ true → line_hit os b ≡ 1
has_operand j [] k o b at e = absurd at
has_operand j (x ∷ os) k o b at e = ap hit e

some_at : (v : ℕ) (l : Line) (ls : List Line) → IsIn l ls → line_hit l.operands (l.line == v) ≡ 1 → 1 ≤ lines_at v ls
some_at v l [] is h = absurd is
some_at v l (m ∷ ls) (inl same) h =
    let x : line_hit m.operands (m.line == v) ≡ 1 = subst (λ (y : Line). line_hit y.operands (y.line == v) ≡ 1) (sym same) h in
    omega (arith, x)
some_at v l (m ∷ ls) (inr is) h = let x : 1 ≤ lines_at v ls = some_at v l ls is h in omega (arith, x)

pub one_line : (v : ℕ) (l m : Line) (ls : List Line) → lines_at v ls ≤ 1 → IsIn l ls → IsIn m ls → line_hit l.operands (l.line == v) ≡ 1 → line_hit m.operands (m.line == v) ≡ 1 → l ≡ m
one_line v l m [] once is also h k = absurd is
one_line v l m (x ∷ ls) once (inl e) (inl f) h k = sym e ∙ f
one_line v l m (x ∷ ls) once (inl e) (inr also) h k =
    let a : line_hit x.operands (x.line == v) ≡ 1 = subst (λ (y : Line). line_hit y.operands (y.line == v) ≡ 1) (sym e) h in
    let b : 1 ≤ lines_at v ls = some_at v m ls also k in
    absurd (omega (arith, a, b, once))
one_line v l m (x ∷ ls) once (inr is) (inl f) h k =
    let a : line_hit x.operands (x.line == v) ≡ 1 = subst (λ (y : Line). line_hit y.operands (y.line == v) ≡ 1) (sym f) k in
    let b : 1 ≤ lines_at v ls = some_at v l ls is h in
    absurd (omega (arith, a, b, once))
one_line v l m (x ∷ ls) once (inr is) (inr also) h k = one_line v l m ls (omega (arith, once)) is also h k

not_later : (j : ℕ) (os : List Operand) (k : ℕ) (o : Operand) → k < j → OperandAt j os k o → ⊥
not_later j [] k o lt at = absurd at
not_later j (x ∷ os) k o lt (inl same) = absurd (let e : j ≡ k = same.0 in omega (arith, e, lt))
not_later j (x ∷ os) k o lt (inr at) = not_later (j + 1) os k o (omega (arith, lt)) at

pub one_operand : (j : ℕ) (os : List Operand) (k : ℕ) (o p : Operand) → OperandAt j os k o → OperandAt j os k p → o ≡ p
one_operand j [] k o p at also = absurd at
one_operand j (x ∷ os) k o p (inl e) (inl f) = sym e.1 ∙ f.1
one_operand j (x ∷ os) k o p (inl e) (inr also) = absurd (not_later (j + 1) os k p (let s : j ≡ k = e.0 in omega (arith, s)) also)
one_operand j (x ∷ os) k o p (inr at) (inl f) = absurd (not_later (j + 1) os k o (let s : j ≡ k = f.0 in omega (arith, s)) at)
one_operand j (x ∷ os) k o p (inr at) (inr also) = one_operand (j + 1) os k o p at also

-- a source of a name at a line's operand is that operand
pub at_own_line : (ls : List Line) → ((v : ℕ) → lines_at v ls ≤ 1) → (l : Line) → IsIn l ls → (k : ℕ) (o : Operand) → OperandAt 1 l.operands k o
    → (d : ℕ) (n : List ℕ) → source_of (ports_in ls) d n ≡ Some (record { line = l.line; operand = k }) → (o.is_source ≡ true) × (o.wire ≡ Some n) × IsSide d o.side l
at_own_line ls once l is k o at d n e =
    let s = source_at ls d n (record { line = l.line; operand = k }) e in
    let here : l ≡ s.line =
    one_line l.line l s.line ls (once l.line) is s.stands
    (has_operand 1 l.operands k o (l.line == l.line) at (same_number l.line))
    (has_operand 1 s.line.operands k s.on.operand (s.line.line == l.line) s.on.at (ap (λ v. v == l.line) s.number ∙ same_number l.line)) in
    let same : s.on.operand ≡ o = one_operand 1 l.operands k s.on.operand o (subst (λ (y : Line). OperandAt 1 y.operands k s.on.operand) (sym here) s.on.at) at in (
      subst (λ (x : Operand). x.is_source ≡ true) same s.on.source,
      subst (λ (x : Operand). x.wire ≡ Some n) same s.on.wire,
      subst (λ (y : Line). IsSide d o.side y) (sym here) (subst (λ (x : Operand). IsSide d x.side s.line) same s.on.side),
    )
