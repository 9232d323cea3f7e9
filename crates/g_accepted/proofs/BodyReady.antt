-- The steps of a body in place: each waits for finitely many others alone.
use Rattle.std.proofs.Common.{◌≡◌, ◌⊎◌, ◌<◌, inl, inr, ⊎_elim, ℕ, ◌+◌, nat_lt, Bool, true, false, cond, not, ◌&&◌, List, [], ◌∷◌, ◌++◌, map, Some, refl, ap, sym, ◌∙◌, subst, arith}
use Rattle.std.proofs.lemmas.Bool.{false≢true}
use Rattle.std.proofs.lemmas.Bool.Decides.{nat_tests}
use Rattle.std.specs.List.{AllByRecursion}
use Rattle.g_diagram.specs.declared.node.Tunnel.{Tunnel}
use Rattle.g_diagram.specs.Lines.{Wire, Arm, Part, Entry, Kind, Const, Apply, Shows, Shared, Obtain, Read, Write, Call, Loop, Case, Sequence, InPlace}
use Rattle.g_diagram.specs.Operands.{Side, Outside, Inside, Before, Operand, Line, Freedom, source, consumer, free_consumer, border, case_border, border_lines, parts_lines, give_line, kind_lines}
use Rattle.g_typing.proofs.Joined.{HasOperand, HasLine}
use Rattle.g_typing.proofs.Roles.{bodies}
use Rattle.g_border.specs.declared.place.WireSource.{WireSource}
use Rattle.g_border.specs.Readers.{is_on, sources_on, place_all, lines_sources, wires_taken, wires_taken_on, inputs_of, node_lines}
use Rattle.g_border.specs.Bodies.{in_diagram, arms_read, inside_of}
use Rattle.g_typed_states.specs.Places.{lines_places}
use Rattle.g_typed_states.specs.Bodies.{BodyStep, kind_body_steps, body_steps}
use Rattle.g_accepted.proofs.Facts.{IsIn, in_left, in_right, in_either, and_first, and_second, of_one}
use Rattle.g_accepted.proofs.Sources.{OperandAt}
use Rattle.g_accepted.proofs.Supplied.{IsLineOf, lines_of_kind, border_sources, case_border_sources}
use Rattle.g_accepted.proofs.Owners.{sources_append, case_inside_sources}

-- ---- nodes between two lines

pub in_range : (b f : ℕ) (es : List Entry) (e : Entry) → IsIn e es → b < e.line → e.line < f → IsIn e (inside_of b f es)
in_range b f [] e is l h = absurd is
in_range b f (x ∷ es) e (inl same) l h =
    subst (λ (t : Bool). IsIn e (cond t (x ∷ inside_of b f es) (inside_of b f es))) (sym (ap (λ (y : Entry). nat_lt b y.line && nat_lt y.line f) same ∙ tests b e.line f l h)) (inl same)
  where
    tests : (b l f : ℕ) → b < l → l < f → (nat_lt b l && nat_lt l f) ≡ true
    tests b l f lt gt = grind (arith, nat_tests)
in_range b f (x ∷ es) e (inr is) l h = by (nat_lt b x.line && nat_lt x.line f) (in_range b f es e is l h)
  where
    by : (t : Bool) → IsIn e (inside_of b f es) → IsIn e (cond t (x ∷ inside_of b f es) (inside_of b f es))
    by true more = inr more
    by false more = more

pub of_range : (b f : ℕ) (es : List Entry) (e : Entry) → IsIn e (inside_of b f es) → IsIn e es × (b < e.line) × (e.line < f)
of_range b f [] e is = absurd is
of_range b f (x ∷ es) e is = by (nat_lt b x.line && nat_lt x.line f) refl is (of_range b f es e)
  where
    lower : (b l f : ℕ) → (nat_lt b l && nat_lt l f) ≡ true → b < l
    lower b l f t = grind (arith, nat_tests)

    upper : (b l f : ℕ) → (nat_lt b l && nat_lt l f) ≡ true → l < f
    upper b l f t = grind (arith, nat_tests)

    by : (t : Bool) → (nat_lt b x.line && nat_lt x.line f) ≡ t → IsIn e (cond t (x ∷ inside_of b f es) (inside_of b f es)) → (IsIn e (inside_of b f es) → IsIn e es × (b < e.line) × (e.line < f))
        → IsIn e (x ∷ es) × (b < e.line) × (e.line < f)
    by true t (inl same) more =
        let P : Entry → Type 0 = λ (y : Entry). (b < y.line) × (y.line < f) in
        let r = subst P same (lower b x.line f t, upper b x.line f t) in
        (inl same, r.0, r.1)
    by true t (inr is) more = let r = more is in (inr r.0, r.1, r.2)
    by false t is more = let r = more is in (inr r.0, r.1, r.2)

pub step_origin : (es : List Entry) (s : BodyStep) → IsIn s (body_steps es) → (e : Entry) × IsIn e es × IsIn s (kind_body_steps e e.kind)
step_origin [] s is = absurd is
step_origin (x ∷ es) s is =
    ⊎_elim
    (λ here. (x, inl refl, here))
    (λ later. let r = step_origin es s later in (r.0, inr r.1, r.2))
    (in_either s (kind_body_steps x x.kind) (body_steps es) is)

pub step_of : (es : List Entry) (e : Entry) (s : BodyStep) → IsIn e es → IsIn s (kind_body_steps e e.kind) → IsIn s (body_steps es)
step_of [] e s is h = absurd is
step_of (x ∷ es) e s (inl same) h = in_left s (kind_body_steps x x.kind) (body_steps es) (subst (λ (y : Entry). IsIn s (kind_body_steps y y.kind)) (sym same) h)
step_of (x ∷ es) e s (inr is) h = in_right s (kind_body_steps x x.kind) (body_steps es) (step_of es e s is h)

-- ---- wires that are taken

pub record Takes (s : Side) (n : List ℕ) (ls : List Line) : Type 0 where
  pub line : Line
  pub stands : IsIn line ls
  pub operand : Operand
  pub at : IsIn operand line.operands
  pub consumer : operand.is_source ≡ false
  pub side : operand.side ≡ s
  pub wire : operand.wire ≡ Some n

side_same : (a b : Side) → is_on a b ≡ true → a ≡ b
side_same Outside Outside e = refl
side_same Outside Inside e = absurd (false≢true e)
side_same Outside Before e = absurd (false≢true e)
side_same Inside Outside e = absurd (false≢true e)
side_same Inside Inside e = refl
side_same Inside Before e = absurd (false≢true e)
side_same Before Outside e = absurd (false≢true e)
side_same Before Inside e = absurd (false≢true e)
side_same Before Before e = refl

taken_at : (s : Side) (n : List ℕ) (os : List Operand) → IsIn (Some n) (wires_taken s os) → (o : Operand) × IsIn o os × (o.is_source ≡ false) × (o.side ≡ s) × (o.wire ≡ Some n)
taken_at s n [] is = absurd is
taken_at s n (x ∷ os) is = by (not x.is_source && is_on x.side s) refl is (taken_at s n os)
  where
    by : (t : Bool) → (not x.is_source && is_on x.side s) ≡ t → IsIn (Some n) (cond t (x.wire ∷ wires_taken s os) (wires_taken s os))
        → (IsIn (Some n) (wires_taken s os) → (o : Operand) × IsIn o os × (o.is_source ≡ false) × (o.side ≡ s) × (o.wire ≡ Some n))
        → (o : Operand) × IsIn o (x ∷ os) × (o.is_source ≡ false) × (o.side ≡ s) × (o.wire ≡ Some n)
    by true t (inl w) more =
        (x, inl refl, negated x.is_source (and_first (not x.is_source) (is_on x.side s) t), side_same x.side s (and_second (not x.is_source) (is_on x.side s) t), w)
      where
        negated : (b : Bool) → not b ≡ true → b ≡ false
        negated true e = absurd (false≢true e)
        negated false e = refl
    by true t (inr is) more = let r = more is in (r.0, inr r.1, r.2, r.3, r.4)
    by false t is more = let r = more is in (r.0, inr r.1, r.2, r.3, r.4)

pub taken_on : (s : Side) (n : List ℕ) (ls : List Line) → IsIn (Some n) (wires_taken_on s ls) → Takes s n ls
taken_on s n [] is = absurd is
taken_on s n (l ∷ ls) is =
    ⊎_elim
    (λ here. let r = taken_at s n l.operands here in record { line = l; stands = inl refl; operand = r.0; at = r.1; consumer = r.2; side = r.3; wire = r.4 })
    (λ later. let r : Takes s n ls = taken_on s n ls later in
    record { line = r.line; stands = inr r.stands; operand = r.operand; at = r.at; consumer = r.consumer; side = r.side; wire = r.wire })
    (in_either (Some n) (wires_taken s l.operands) (wires_taken_on s ls) is)

pub has_operand : (b : Bool) (n : List ℕ) (os : List Operand) (o : Operand) → IsIn o os → o.is_source ≡ b → o.side ≡ Outside → o.wire ≡ Some n → HasOperand b n os
has_operand b n [] o is e f g = absurd is
has_operand b n (x ∷ os) o (inl same) e f g = inl (subst (λ (y : Operand). (y.is_source ≡ b) × (y.side ≡ Outside) × (y.wire ≡ Some n)) (sym same) (e, f, g))
has_operand b n (x ∷ os) o (inr is) e f g = inr (has_operand b n os o is e f g)

-- ---- the lines of a node are its own

border_nodes : (e : Entry) (bs bl : List ℕ) (form : Tunnel → List Operand) (l : ℕ) (ts : List Tunnel) → AllByRecursion (λ (m : Line). m.node ≡ e.line) (border_lines e bs bl form l ts)
border_nodes e bs bl form l [] = tt
border_nodes e bs bl form l (t ∷ ts) = (refl, border_nodes e bs bl form (l + 1) ts)

all_both : {A : Type 0} (P : A → Type 0) (xs ys : List A) → AllByRecursion P xs → AllByRecursion P ys → AllByRecursion P (xs ++ ys)
all_both P [] ys h g = g
all_both P (x ∷ xs) ys h g = (h.0, all_both P xs ys h.1 g)

give_nodes : (e : Entry) (arms : List Arm) → AllByRecursion (λ (m : Line). m.node ≡ e.line) (map (give_line e) arms)
give_nodes e [] = tt
give_nodes e (arm ∷ arms) = (refl, give_nodes e arms)

part_nodes : (e : Entry) (numbers : List ℕ) (ps : List Part) → AllByRecursion (λ (m : Line). m.node ≡ e.line) (parts_lines e numbers ps)
part_nodes e numbers [] = tt
part_nodes e numbers (p ∷ ps) =
    all_both (λ (m : Line). m.node ≡ e.line) (border_lines e (p.body ∷ []) numbers border (p.body + 1) p.lines) (parts_lines e (p.body ∷ []) ps)
    (border_nodes e (p.body ∷ []) numbers border (p.body + 1) p.lines) (part_nodes e (p.body ∷ []) ps)

pub own_nodes : (free : Freedom) (e : Entry) (k : Kind) → AllByRecursion (λ (m : Line). m.node ≡ e.line) (kind_lines free e k)
own_nodes free e (Const t literal out) = (refl, tt)
own_nodes free e (Apply op inputs outputs) = (refl, tt)
own_nodes free e (Shows name t w) = (refl, tt)
own_nodes free e (Shared op inputs outputs) = (refl, tt)
own_nodes free e (Obtain queue size item out) = (refl, tt)
own_nodes free e (Read object out) = (refl, tt)
own_nodes free e (Write object w) = (refl, tt)
own_nodes free e (Call name inputs outputs) = (refl, tt)
own_nodes free e (Loop count stop i ts body) = (refl, border_nodes e (body ∷ []) [] border (e.line + 1) ts)
own_nodes free e (Case selector ts arms) = (
  refl,
  all_both (λ (m : Line). m.node ≡ e.line) (border_lines e (map (λ a. a.body) arms) [] case_border (e.line + 1) ts) (map (give_line e) arms)
      (border_nodes e (map (λ a. a.body) arms) [] case_border (e.line + 1) ts) (give_nodes e arms),
)
own_nodes free e (Sequence parts) = part_nodes e [] parts
own_nodes free e (InPlace ts body finish) = border_nodes e (body ∷ []) [] border (e.line + 1) ts

-- a place among the sources of lines
pub record OfSources (s : Side) (ls : List Line) (w : WireSource) : Type 0 where
  pub line : Line
  pub stands : IsIn line ls
  pub operand : Operand
  pub at : OperandAt 1 line.operands w.operand operand
  pub source : operand.is_source ≡ true
  pub side : operand.side ≡ s
  pub number : line.line ≡ w.line

of_sources_on : (s : Side) (j : ℕ) (os : List Operand) (k : ℕ) → IsIn k (sources_on s j os) → (o : Operand) × OperandAt j os k o × (o.is_source ≡ true) × (o.side ≡ s)
of_sources_on s j [] k is = absurd is
of_sources_on s j (x ∷ os) k is = by (x.is_source && is_on x.side s) refl is (of_sources_on s (j + 1) os k)
  where
    by : (t : Bool) → (x.is_source && is_on x.side s) ≡ t → IsIn k (cond t (j ∷ sources_on s (j + 1) os) (sources_on s (j + 1) os))
        → (IsIn k (sources_on s (j + 1) os) → (o : Operand) × OperandAt (j + 1) os k o × (o.is_source ≡ true) × (o.side ≡ s)) → (o : Operand) × OperandAt j (x ∷ os) k o × (o.is_source ≡ true) × (o.side ≡ s)
    by true t (inl same) more = (x, inl (same, refl), and_first x.is_source (is_on x.side s) t, side_same x.side s (and_second x.is_source (is_on x.side s) t))
    by true t (inr is) more = let r = more is in (r.0, inr r.1, r.2, r.3)
    by false t is more = let r = more is in (r.0, inr r.1, r.2, r.3)

of_placed : (l : ℕ) (ks : List ℕ) (w : WireSource) → IsIn w (place_all l ks) → (l ≡ w.line) × IsIn w.operand ks
of_placed l [] w is = absurd is
of_placed l (k ∷ ks) w (inl same) = (ap (λ (x : WireSource). x.line) same, inl (ap (λ (x : WireSource). x.operand) same))
of_placed l (k ∷ ks) w (inr is) = let r = of_placed l ks w is in (r.0, inr r.1)

pub of_lines_sources : (s : Side) (ls : List Line) (w : WireSource) → IsIn w (lines_sources s ls) → OfSources s ls w
of_lines_sources s [] w is = absurd is
of_lines_sources s (l ∷ ls) w is =
    ⊎_elim
    (λ here.
    let r = of_placed l.line (sources_on s 1 l.operands) w here in
    let o = of_sources_on s 1 l.operands w.operand r.1 in
    record { line = l; stands = inl refl; operand = o.0; at = o.1; source = o.2; side = o.3; number = r.0 })
    (λ later.
    let r : OfSources s ls w = of_lines_sources s ls w later in
    record { line = r.line; stands = inr r.stands; operand = r.operand; at = r.at; source = r.source; side = r.side; number = r.number })
    (in_either w (place_all l.line (sources_on s 1 l.operands)) (lines_sources s ls) is)

pub at_in : (j : ℕ) (os : List Operand) (k : ℕ) (o : Operand) → OperandAt j os k o → IsIn o os
at_in j [] k o at = absurd at
at_in j (x ∷ os) k o (inl same) = inl same.1
at_in j (x ∷ os) k o (inr at) = inr (at_in (j + 1) os k o at)

-- ---- what a step of a node reads and where it gives

-- in the node's diagram
abbrev pub ReadsOut : Freedom → Entry → Kind → ℕ → List ℕ → Type 0
ReadsOut free e k d n = (e.diagram ≡ d) × HasLine false e.line e.diagram n (kind_lines free e k)

pub data StepRole (free : Freedom) (e : Entry) (k : Kind) (s : BodyStep) : Type 0 where
  -- it reads in the node's diagram and gives in those inside
  opens : ((d : ℕ) (n : List ℕ) → IsIn (d, Some n) s.reads → ReadsOut free e k d n) → ((w : WireSource) → IsIn w s.places → IsIn w (lines_sources Inside (kind_lines free e k))) → StepRole free e k s
  -- it gives in the node's diagram
  closes : ((d : ℕ) (n : List ℕ) → IsIn (d, Some n) s.reads → ReadsOut free e k d n ⊎ IsIn d (bodies k)) → ((w : WireSource) → IsIn w s.places → IsIn w (lines_sources Outside (kind_lines free e k)))
      → StepRole free e k s

pub in_one : (z : ℕ) (ws : List Wire) (d : ℕ) (n : List ℕ) → IsIn (d, Some n) (in_diagram z ws) → (z ≡ d) × IsIn (Some n) ws
in_one z [] d n is = absurd is
in_one z (w ∷ ws) d n (inl same) = (ap (λ (q : ℕ × Wire). q.0) same, inl (ap (λ (q : ℕ × Wire). q.1) same))
in_one z (w ∷ ws) d n (inr is) = let r = in_one z ws d n is in (r.0, inr r.1)

in_arm : (arms : List Arm) (d : ℕ) (n : List ℕ) → IsIn (d, Some n) (arms_read arms) → IsIn d (map (λ a. a.body) arms)
in_arm [] d n is = absurd is
in_arm (arm ∷ arms) d n is =
    ⊎_elim (λ here. inl (in_one arm.body arm.gives d n here).0) (λ later. inr (in_arm arms d n later)) (in_either (d, Some n) (in_diagram arm.body arm.gives) (arms_read arms) is)

module _ (free : Freedom) (e : Entry) where
  outer_line : (k : Kind) (n : List ℕ) (t : Takes Outside n (kind_lines free e k)) → HasLine false e.line e.diagram n (kind_lines free e k)
  outer_line k n t = among (kind_lines free e k) t.stands
    where
      lo : IsLineOf e k t.line
      lo = of_one (IsLineOf e k) (kind_lines free e k) (lines_of_kind free e k) t.line t.stands

      among : (ls : List Line) → IsIn t.line ls → HasLine false e.line e.diagram n ls
      among [] is = absurd is
      among (l ∷ ls) (inl same) =
          inl (subst (λ (m : Line). (m.node ≡ e.line) × (m.outside ≡ e.diagram) × HasOperand false n m.operands) (sym same)
          (of_one (λ (m : Line). m.node ≡ e.line) (kind_lines free e k) (own_nodes free e k) t.line t.stands, lo.outside, has_operand false n t.line.operands t.operand t.at t.consumer t.side t.wire))
      among (l ∷ ls) (inr is) = inr (among ls is)

  -- what a node reads in its diagram, on all its lines
  inputs_read : (k : Kind) (ws : List Wire) → ws ≡ wires_taken_on Outside (kind_lines free e k) → (d : ℕ) (n : List ℕ) → IsIn (d, Some n) (in_diagram e.diagram ws)
      → ReadsOut free e k d n
  inputs_read k ws are d n is =
      let r = in_one e.diagram ws d n is in
      (r.0, outer_line k n (taken_on Outside n (kind_lines free e k) (subst (λ (xs : List Wire). IsIn (Some n) xs) are r.1)))

named_input : (n : List ℕ) (ws : List Wire) (os : List Operand) → IsIn (Some n) ws → HasOperand false n (map (consumer Outside) ws ++ os)
named_input n [] os is = absurd is
named_input n (w ∷ ws) os (inl same) = inl (refl, refl, same)
named_input n (w ∷ ws) os (inr is) = inr (named_input n ws os is)

-- what stands outside on the lines of a case
outside_gives : (e : Entry) (arms : List Arm) → lines_sources Outside (map (give_line e) arms) ≡ []
outside_gives e [] = refl
outside_gives e (arm ∷ arms) = ap (λ ks. place_all (arm.body + 1) ks ++ lines_sources Outside (map (give_line e) arms)) (none 1 arm.gives) ∙ outside_gives e arms
  where
    none : (j : ℕ) (ws : List Wire) → sources_on Outside j (map (free_consumer Inside) ws) ≡ []
    none j [] = refl
    none j (w ∷ ws) = none (j + 1) ws

pub case_outside_sources : (free : Freedom) (e : Entry) (selector : Wire) (ts : List Tunnel) (arms : List Arm) → lines_sources Outside (kind_lines free e (Case selector ts arms)) ≡ lines_places Outside (e.line + 1) ts
case_outside_sources free e selector ts arms =
    let ls : List Line = border_lines e (map (λ a. a.body) arms) [] case_border (e.line + 1) ts in
    sources_append (λ l. place_all l.line (sources_on Outside 1 l.operands)) ls (map (give_line e) arms) (lines_sources Outside) refl (λ l more. refl)
    ∙ (ap (λ ws. lines_sources Outside ls ++ ws) (outside_gives e arms) ∙ (append_none (lines_sources Outside ls) ∙ case_border_sources Outside e (map (λ a. a.body) arms) [] (e.line + 1) ts))
  where
    append_none : (ws : List WireSource) → ws ++ [] ≡ ws
    append_none [] = refl
    append_none (w ∷ ws) = ap (λ xs. w ∷ xs) (append_none ws)

-- the role of each step of a node
pub step_role : (free : Freedom) (e : Entry) (k : Kind) → e.kind ≡ k → (s : BodyStep) → IsIn s (kind_body_steps e k) → StepRole free e k s
step_role free e (Const t literal out) kind s (inl same) =
    subst (StepRole free e (Const t literal out)) same
    (closes (λ d n is. absurd is)
    (λ w is. subst (λ (x : Kind). IsIn w (lines_sources Outside (kind_lines (λ n i. false) e x))) kind is))
step_role free e (Const t literal out) kind s (inr is) = absurd is
step_role free e (Apply op inputs outputs) kind s (inl same) =
    subst (StepRole free e (Apply op inputs outputs)) same
    (closes (λ d n is. let r = in_one e.diagram inputs d n is in inl (r.0, inl (refl, refl, named_input n inputs (map (source Outside) outputs) r.1)))
    (λ w is. subst (λ (x : Kind). IsIn w (lines_sources Outside (kind_lines (λ n i. false) e x))) kind is))
step_role free e (Apply op inputs outputs) kind s (inr is) = absurd is
step_role free e (Case selector ts arms) kind s (inl same) =
    let k : Kind = Case selector ts arms in
    let are : inputs_of e ≡ wires_taken_on Outside (kind_lines free e k) = ap (λ (x : Kind). wires_taken_on Outside (kind_lines (λ n i. false) e x)) kind in
    subst (StepRole free e k) same
    (opens (λ d n is. inputs_read free e k (inputs_of e) are d n is)
    (λ w is. subst (λ (ws : List WireSource). IsIn w ws) (sym (case_inside_sources free e selector ts arms)) is))
step_role free e (Case selector ts arms) kind s (inr (inl same)) =
    subst (StepRole free e (Case selector ts arms)) same
    (closes
    (λ d n is. ⊎_elim
    (λ q. inl (ap (λ (x : ℕ × Wire). x.0) q, inl (refl, refl, inl (refl, refl, ap (λ (x : ℕ × Wire). x.1) q))))
    (λ a. inr (in_arm arms d n a))
    is)
    (λ w is. subst (λ (ws : List WireSource). IsIn w ws) (sym (case_outside_sources free e selector ts arms)) is))
step_role free e (Case selector ts arms) kind s (inr (inr is)) = absurd is
step_role free e (InPlace ts body finish) kind s (inl same) =
    let k : Kind = InPlace ts body finish in
    let are : inputs_of e ≡ wires_taken_on Outside (kind_lines free e k) = ap (λ (x : Kind). wires_taken_on Outside (kind_lines (λ n i. false) e x)) kind in
    subst (StepRole free e k) same
    (opens (λ d n is. inputs_read free e k (inputs_of e) are d n is)
    (λ w is. subst (λ (ws : List WireSource). IsIn w ws) (sym (border_sources Inside e (body ∷ []) [] (e.line + 1) ts)) is))
step_role free e (InPlace ts body finish) kind s (inr (inl same)) =
    let k : Kind = InPlace ts body finish in
    let are : inputs_of e ≡ wires_taken_on Outside (kind_lines free e k) = ap (λ (x : Kind). wires_taken_on Outside (kind_lines (λ n i. false) e x)) kind in
    subst (StepRole free e k) same
    (closes
    (λ d n is. ⊎_elim
    (λ a. inl (inputs_read free e k (inputs_of e) are d n a))
    (λ a. inr (inl (in_one body (wires_taken_on Inside (node_lines e)) d n a).0))
    (in_either (d, Some n) (in_diagram e.diagram (inputs_of e)) (in_diagram body (wires_taken_on Inside (node_lines e))) is))
    (λ w is. subst (λ (ws : List WireSource). IsIn w ws) (sym (border_sources Outside e (body ∷ []) [] (e.line + 1) ts)) is))
step_role free e (InPlace ts body finish) kind s (inr (inr is)) = absurd is
step_role free e (Shows name t w) kind s is = absurd is
step_role free e (Shared op inputs outputs) kind s is = absurd is
step_role free e (Obtain name size item out) kind s is = absurd is
step_role free e (Read name out) kind s is = absurd is
step_role free e (Write name w) kind s is = absurd is
step_role free e (Call name inputs outputs) kind s is = absurd is
step_role free e (Loop count stop i ts body) kind s is = absurd is
step_role free e (Sequence parts) kind s is = absurd is
