-- The ports that are kept stand for all.
use Rattle.std.proofs.Common.{◌≡◌, ◌⊎◌, inl, inr, ⊎_elim, ℕ, ◌+◌, ◌≤◌, ◌<◌, ◌==◌, true, ◌&&◌, ◌||◌, List, [], ◌∷◌, ◌++◌, map, refl, ap, sym, ◌∙◌, subst, arith}
use Rattle.std.specs.Prelude.{nat_lt, Option, Some, None}
use Rattle.std.proofs.lemmas.Bool.{or_cases, or_left, or_right}
use Rattle.std.proofs.lemmas.List.{append-nil}
use Rattle.g_diagram.specs.declared.node.Tunnel.{Tunnel}
use Rattle.g_diagram.specs.declared.node.Tunnel.TheVariants as line
use Rattle.g_diagram.specs.declared.hierarchy.Vi.{Vi}
use Rattle.g_diagram.specs.Lines.{Wire, Arm, Entry, Kind, Const, Apply, Shows, Shared, Obtain, Read, Write, Call, Loop, Case, Sequence, InPlace}
use Rattle.g_diagram.specs.Operands.{Freedom, Line, Operand, Outside, case_border, border_lines, consumer, control_lines, entries_lines, give_line, kind_lines, plain_line}
use Rattle.g_diagram.specs.Ports.{Port, are_joined, is_before, port, ports_from, ports_in}
use Rattle.g_diagram_ports.specs.Standing.{HasStandIn, IsAmong, IsSecond, Replaces, StandFor}
use Rattle.g_diagram_ports.specs.Tunnels.{HaveOwnBranches, LookUp, all_first_tunnels, all_looked_up, all_outer_lines, case_of, inner_wire, is_arm, kept_ports, look_after, named_line, no_branch, nowhere, outer_border, outer_lines, outer_ports, tunnel_port}
use Rattle.g_diagram_ports.proofs.Among.{AreJoined, FirstNamed, HasTunnel, IsHere, LookedUp, among_either, among_left, among_right, are_alike, first_named, joined, looked_among, looked_from, named_has}
use Rattle.g_diagram_ports.proofs.Cases.{HasCase, InFirst, IsCase, IsCaseOf, IsFirstArm, Meant, first_among, first_is_arm, has_first, in_first_from, looks_own, meant}
use Rattle.g_diagram_ports.proofs.Lines.{ports_append}

-- what a tunnel of a case gives in a branch
pub record IsInner (es : List Entry) (p : Port) : Type 0 where
  pub first : ℕ
  pub tunnels : List Tunnel
  pub arms : List Arm
  pub case : HasCase es first tunnels arms
  pub diagram : ℕ
  pub arm : is_arm arms diagram ≡ true
  pub line : ℕ
  pub wire : Wire
  pub has : HasTunnel first tunnels line wire
  pub is : p ≡ tunnel_port line diagram wire

-- a diagram stands in a list
abbrev IsDiagram : ℕ → List ℕ → Type 0
IsDiagram d [] = ⊥
IsDiagram d (b ∷ bs) = (b ≡ d) ⊎ IsDiagram d bs

-- what a tunnel gives in these branches
abbrev inner_ports : (bodies : List ℕ) → (l : ℕ) → Option Wire → List Port
inner_ports bodies l None = []
inner_ports bodies l (Some w) = map (λ d. tunnel_port l d w) bodies

-- what border lines give in these branches
record InBorder (bodies : List ℕ) (first : ℕ) (ts : List Tunnel) (p : Port) : Type 0 where
  diagram : ℕ
  body : IsDiagram diagram bodies
  line : ℕ
  wire : Wire
  has : HasTunnel first ts line wire
  is : p ≡ tunnel_port line diagram wire

each_from : (bodies : List ℕ) (l : ℕ) (w : Wire) (p : Port) {R : Type 0} → IsAmong p (map (λ d. tunnel_port l d w) bodies) → ((d : ℕ) → IsDiagram d bodies → p ≡ tunnel_port l d w → R) → R
each_from [] l w p h next = absurd h
each_from (b ∷ bodies) l w p h next = ⊎_elim (λ e. next b (inl refl) (sym e)) (λ r. each_from bodies l w p r (λ d body. next d (inr body))) h

inner_from : (bodies : List ℕ) (l : ℕ) (o : Option Wire) (p : Port) {R : Type 0} → IsAmong p (inner_ports bodies l o) → ((d : ℕ) (w : Wire) → IsDiagram d bodies → IsHere l o l w → p ≡ tunnel_port l d w → R) → R
inner_from bodies l None p h next = absurd h
inner_from bodies l (Some w) p h next = each_from bodies l w p h (λ d body is. next d w body (refl, refl) is)

each_among : (bodies : List ℕ) (l d : ℕ) (w : Wire) → IsDiagram d bodies → IsAmong (tunnel_port l d w) (map (λ b. tunnel_port l b w) bodies)
each_among [] l d w h = absurd h
each_among (b ∷ bodies) l d w h = ⊎_elim (λ e. inl (ap (λ k. tunnel_port l k w) e)) (λ r. inr (each_among bodies l d w r)) h

inner_among : (bodies : List ℕ) (here : ℕ) (o : Option Wire) (l d : ℕ) (w : Wire) → IsHere here o l w → IsDiagram d bodies → IsAmong (tunnel_port l d w) (inner_ports bodies here o)
inner_among bodies here None l d w h body = absurd h
inner_among bodies here (Some v) l d w h body =
    let P : ℕ → Type 0 = λ k. IsAmong (tunnel_port l d w) (map (λ b. tunnel_port k b v) bodies) in
    let Q : Wire → Type 0 = λ x. IsAmong (tunnel_port l d w) (map (λ b. tunnel_port l b x) bodies) in
    subst P (sym h.0) (subst Q (sym h.1) (each_among bodies l d w body))

module _ (e : Entry) (bodies : List ℕ) where
  abbrev line_of : (Tunnel → List Operand) → (l : ℕ) → Tunnel → Line
  line_of form l t = record { line = l; node = e.line; outside = e.diagram; inside = bodies; before = []; operands = form t }

  abbrev ports_at : (Tunnel → List Operand) → (l : ℕ) → Tunnel → List Port
  ports_at form l t = ports_from (line_of form l t) 1 (form t)

  -- the ports of a border line: those of the outer border, and what its tunnel gives
  split_line : (l : ℕ) (t : Tunnel) → ports_at case_border l t ≡ ports_at outer_border l t ++ inner_ports bodies l (inner_wire t)
  split_line l (line.Tunnel outer inner) = ap (λ ps. port (line_of case_border l (line.Tunnel outer inner)) 1 (consumer Outside outer) (Some e.line) e.diagram ∷ ps) (append-nil (map (λ d. tunnel_port l d inner) bodies))
  split_line l (line.Register initial inner next last) = sym (append-nil (ports_at outer_border l (line.Register initial inner next last)))
  split_line l (line.Kept t inner next last) = sym (append-nil (ports_at outer_border l (line.Kept t inner next last)))
  split_line l (line.Last inner outer) = sym (append-nil (ports_at outer_border l (line.Last inner outer)))
  split_line l (line.Gather inner outer) = sym (append-nil (ports_at outer_border l (line.Gather inner outer)))
  split_line l (line.Index array inner) = sym (append-nil (ports_at outer_border l (line.Index array inner)))
  split_line l (line.Result outer default) = sym (append-nil (ports_at outer_border l (line.Result outer default)))
  split_line l (line.Carry before inner) = sym (append-nil (ports_at outer_border l (line.Carry before inner)))
  split_line l (line.Ref reference inner next same code) = sym (append-nil (ports_at outer_border l (line.Ref reference inner next same code)))
  split_line l (line.Element array index inner next outer) = sym (append-nil (ports_at outer_border l (line.Element array index inner next outer)))
  split_line l (line.Field field cluster inner next outer) = sym (append-nil (ports_at outer_border l (line.Field field cluster inner next outer)))

  abbrev all : (l : ℕ) → List Tunnel → List Port
  all l ts = ports_in (border_lines e bodies [] case_border l ts)

  abbrev outer : (l : ℕ) → List Tunnel → List Port
  outer l ts = ports_in (border_lines e bodies [] outer_border l ts)

  -- a port of border lines is one of the outer border, or what a tunnel gives
  border_either : (l : ℕ) (ts : List Tunnel) (p : Port) → IsAmong p (all l ts) → IsAmong p (outer l ts) ⊎ InBorder bodies l ts p
  border_either l [] p h = inl h
  border_either l (t ∷ ts) p h =
      let P : List Port → Type 0 = IsAmong p in
      ⊎_elim
      (λ here. ⊎_elim
      (λ out. inl (among_left p (ports_at outer_border l t) (outer (l + 1) ts) out))
      (λ inside. inner_from bodies l (inner_wire t) p inside (λ d w body at is. inr (record { diagram = d; body = body; line = l; wire = w; has = inl at; is = is })))
      (among_either p (ports_at outer_border l t) (inner_ports bodies l (inner_wire t)) (subst P (split_line l t) here)))
      (λ later. ⊎_elim
      (λ out. inl (among_right p (ports_at outer_border l t) (outer (l + 1) ts) out))
      (λ (r : InBorder bodies (l + 1) ts p). inr (record { diagram = r.diagram; body = r.body; line = r.line; wire = r.wire; has = inr r.has; is = r.is }))
      (border_either (l + 1) ts p later))
      (among_either p (ports_at case_border l t) (all (l + 1) ts) h)

  border_outer : (l : ℕ) (ts : List Tunnel) (p : Port) → IsAmong p (outer l ts) → IsAmong p (all l ts)
  border_outer l [] p h = h
  border_outer l (t ∷ ts) p h =
      let P : List Port → Type 0 = IsAmong p in
      ⊎_elim
      (λ here. among_left p (ports_at case_border l t) (all (l + 1) ts) (subst P (sym (split_line l t)) (among_left p (ports_at outer_border l t) (inner_ports bodies l (inner_wire t)) here)))
      (λ later. among_right p (ports_at case_border l t) (all (l + 1) ts) (border_outer (l + 1) ts p later))
      (among_either p (ports_at outer_border l t) (outer (l + 1) ts) h)

  -- what a tunnel gives stands in each of these branches
  border_inner : (first : ℕ) (ts : List Tunnel) (l d : ℕ) (w : Wire) → HasTunnel first ts l w → IsDiagram d bodies → IsAmong (tunnel_port l d w) (all first ts)
  border_inner first [] l d w h body = absurd h
  border_inner first (t ∷ ts) l d w h body =
      let P : List Port → Type 0 = IsAmong (tunnel_port l d w) in
      ⊎_elim
      (λ here. among_left (tunnel_port l d w) (ports_at case_border first t) (all (first + 1) ts)
      (subst P (sym (split_line first t)) (among_right (tunnel_port l d w) (ports_at outer_border first t) (inner_ports bodies first (inner_wire t)) (inner_among bodies first (inner_wire t) l d w here body))))
      (λ later. among_right (tunnel_port l d w) (ports_at case_border first t) (all (first + 1) ts) (border_inner (first + 1) ts l d w later body))
      h

-- diagrams of branches
body_arm : (arms : List Arm) (d : ℕ) → IsDiagram d (map (λ a. a.body) arms) → is_arm arms d ≡ true
body_arm [] d h = absurd h
body_arm (a ∷ arms) d h = ⊎_elim
    (λ e. or_left (a.body == d) (is_arm arms d) (grind (arith, e)))
    (λ r. or_right (a.body == d) (is_arm arms d) (body_arm arms d r)) h

arm_body : (arms : List Arm) (d : ℕ) → is_arm arms d ≡ true → IsDiagram d (map (λ a. a.body) arms)
arm_body [] d h = cc
arm_body (a ∷ arms) d h = ⊎_elim (λ e. inl (grind (arith, e))) (λ r. inr (arm_body arms d r)) (or_cases (a.body == d) (is_arm arms d) h)

module _ (free : Freedom) where
  -- cases, and the other kinds
  by_case : (e : Entry) (P : Kind → Type 0) → ((k : Kind) → outer_lines free e k ≡ kind_lines free e k → case_of k ≡ None → P k) → ((selector : Wire) (ts : List Tunnel) (arms : List Arm) → P (Case selector ts arms)) → (k : Kind) → P k
  by_case e P plain case (Const t literal out) = plain (Const t literal out) refl refl
  by_case e P plain case (Apply op inputs outputs) = plain (Apply op inputs outputs) refl refl
  by_case e P plain case (Shows name t w) = plain (Shows name t w) refl refl
  by_case e P plain case (Shared op inputs outputs) = plain (Shared op inputs outputs) refl refl
  by_case e P plain case (Obtain queue size item out) = plain (Obtain queue size item out) refl refl
  by_case e P plain case (Read object out) = plain (Read object out) refl refl
  by_case e P plain case (Write object input) = plain (Write object input) refl refl
  by_case e P plain case (Call vi inputs outputs) = plain (Call vi inputs outputs) refl refl
  by_case e P plain case (Loop count stop iteration lines body) = plain (Loop count stop iteration lines body) refl refl
  by_case e P plain case (Case selector ts arms) = case selector ts arms
  by_case e P plain case (Sequence parts) = plain (Sequence parts) refl refl
  by_case e P plain case (InPlace lines body finish) = plain (InPlace lines body finish) refl refl

  -- what a node gives in branches, if it is a case
  record InKind (e : Entry) (k : Kind) (p : Port) : Type 0 where
    selector : Wire
    tunnels : List Tunnel
    arms : List Arm
    kind : k ≡ Case selector tunnels arms
    inside : InBorder (map (λ a. a.body) arms) (e.line + 1) tunnels p

  abbrev bodies_of : List Arm → List ℕ
  bodies_of arms = map (λ a. a.body) arms

  -- a port of a node is one of its outer lines, or what a tunnel gives
  kind_either : (e : Entry) (k : Kind) (p : Port) → IsAmong p (ports_in (kind_lines free e k)) → IsAmong p (ports_in (outer_lines free e k)) ⊎ InKind e k p
  kind_either e k p = by_case e (λ k. IsAmong p (ports_in (kind_lines free e k)) → IsAmong p (ports_in (outer_lines free e k)) ⊎ InKind e k p)
      (λ k same none h. let P : List Line → Type 0 = λ ls. IsAmong p (ports_in ls) in inl (subst P (sym same) h)) case k
    where
      case : (selector : Wire) (ts : List Tunnel) (arms : List Arm) → IsAmong p (ports_in (kind_lines free e (Case selector ts arms)))
          → IsAmong p (ports_in (outer_lines free e (Case selector ts arms))) ⊎ InKind e (Case selector ts arms) p
      case selector ts arms h =
          let gives : List Line = map (give_line e) arms in
          let inner : List Line = border_lines e (bodies_of arms) [] case_border (e.line + 1) ts in
          let outside : List Line = border_lines e (bodies_of arms) [] outer_border (e.line + 1) ts in
          let head : List Port = ports_in (plain_line e (consumer Outside selector ∷ []) ∷ []) in
          let P : List Port → Type 0 = IsAmong p in
          ⊎_elim
          (λ here. inl (inl here))
          (λ later. ⊎_elim
          (λ b. ⊎_elim
          (λ out. inl (inr (subst P (sym (ports_append outside gives)) (among_left p (ports_in outside) (ports_in gives) out))))
          (λ inside. inr (record { selector = selector; tunnels = ts; arms = arms; kind = refl; inside = inside }))
          (border_either e (bodies_of arms) (e.line + 1) ts p b))
          (λ g. inl (inr (subst P (sym (ports_append outside gives)) (among_right p (ports_in outside) (ports_in gives) g))))
          (among_either p (ports_in inner) (ports_in gives) (subst P (ports_append inner gives) later)))
          h

  kind_outer : (e : Entry) (k : Kind) (p : Port) → IsAmong p (ports_in (outer_lines free e k)) → IsAmong p (ports_in (kind_lines free e k))
  kind_outer e k p = by_case e (λ k. IsAmong p (ports_in (outer_lines free e k)) → IsAmong p (ports_in (kind_lines free e k)))
      (λ k same none h. let P : List Line → Type 0 = λ ls. IsAmong p (ports_in ls) in subst P same h) case k
    where
      case : (selector : Wire) (ts : List Tunnel) (arms : List Arm) → IsAmong p (ports_in (outer_lines free e (Case selector ts arms))) → IsAmong p (ports_in (kind_lines free e (Case selector ts arms)))
      case selector ts arms h =
          let gives : List Line = map (give_line e) arms in
          let inner : List Line = border_lines e (bodies_of arms) [] case_border (e.line + 1) ts in
          let outside : List Line = border_lines e (bodies_of arms) [] outer_border (e.line + 1) ts in
          let P : List Port → Type 0 = IsAmong p in
          ⊎_elim inl
          (λ later. inr (subst P (sym (ports_append inner gives)) (⊎_elim
          (λ out. among_left p (ports_in inner) (ports_in gives) (border_outer e (bodies_of arms) (e.line + 1) ts p out))
          (λ g. among_right p (ports_in inner) (ports_in gives) g)
          (among_either p (ports_in outside) (ports_in gives) (subst P (ports_append outside gives) later)))))
          h

  -- what a tunnel of a case gives stands in each branch
  case_inner : (e : Entry) (k : Kind) (first : ℕ) (ts : List Tunnel) (arms : List Arm) (l d : ℕ) (w : Wire) → IsCase e.line (case_of k) first ts arms → HasTunnel first ts l w → is_arm arms d ≡ true
      → IsAmong (tunnel_port l d w) (ports_in (kind_lines free e k))
  case_inner e k first ts arms l d w = by_case e (λ k. IsCase e.line (case_of k) first ts arms → HasTunnel first ts l w → is_arm arms d ≡ true → IsAmong (tunnel_port l d w) (ports_in (kind_lines free e k)))
      (λ k same none is has arm. let P : Option (List Tunnel × List Arm) → Type 0 = λ c. IsCase e.line c first ts arms in absurd (subst P none is))
      case k
    where
      case : (selector : Wire) (us : List Tunnel) (bs : List Arm) → IsCaseOf e.line (us, bs) first ts arms → HasTunnel first ts l w → is_arm arms d ≡ true
          → IsAmong (tunnel_port l d w) (ports_in (kind_lines free e (Case selector us bs)))
      case selector us bs is has arm =
          let P : ℕ → Type 0 = λ n. HasTunnel n us l w in
          let Q : List Tunnel → Type 0 = λ xs. HasTunnel first xs l w in
          let R : List Arm → Type 0 = λ xs. is_arm xs d ≡ true in
          let there : HasTunnel (e.line + 1) us l w = subst P (sym is.at) (subst Q (sym is.lines) has) in
          let body : IsDiagram d (bodies_of bs) = arm_body bs d (subst R (sym is.branches) arm) in
          let gives : List Line = map (give_line e) bs in
          let inner : List Line = border_lines e (bodies_of bs) [] case_border (e.line + 1) us in
          let S : List Port → Type 0 = IsAmong (tunnel_port l d w) in
          inr (subst S (sym (ports_append inner gives)) (among_left (tunnel_port l d w) (ports_in inner) (ports_in gives) (border_inner e (bodies_of bs) (e.line + 1) us l d w there body)))

  entries_either : (es : List Entry) (p : Port) → IsAmong p (ports_in (entries_lines free es)) → IsAmong p (ports_in (all_outer_lines free es)) ⊎ IsInner es p
  entries_either [] p h = inl h
  entries_either (e ∷ es) p h =
      let P : List Port → Type 0 = IsAmong p in
      let now : List Line = outer_lines free e e.kind in
      let later : List Line = all_outer_lines free es in
      ⊎_elim
      (λ here. ⊎_elim
      (λ out. inl (subst P (sym (ports_append now later)) (among_left p (ports_in now) (ports_in later) out)))
      (λ (r : InKind e e.kind p). let Q : Kind → Type 0 = λ k. IsCase e.line (case_of k) (e.line + 1) r.tunnels r.arms in
      inr (record {
        first = e.line + 1;
        tunnels = r.tunnels;
        arms = r.arms;
        case = inl (subst Q (sym r.kind) (record { at = refl; lines = refl; branches = refl }));
        diagram = r.inside.diagram;
        arm = body_arm r.arms r.inside.diagram r.inside.body;
        line = r.inside.line;
        wire = r.inside.wire;
        has = r.inside.has;
        is = r.inside.is;
      }))
      (kind_either e e.kind p here))
      (λ after. ⊎_elim
      (λ out. inl (subst P (sym (ports_append now later)) (among_right p (ports_in now) (ports_in later) out)))
      (λ (r : IsInner es p). inr (record { first = r.first; tunnels = r.tunnels; arms = r.arms; case = inr r.case; diagram = r.diagram; arm = r.arm; line = r.line; wire = r.wire; has = r.has; is = r.is }))
      (entries_either es p after))
      (among_either p (ports_in (kind_lines free e e.kind)) (ports_in (entries_lines free es)) (subst P (ports_append (kind_lines free e e.kind) (entries_lines free es)) h))

  entries_outer : (es : List Entry) (p : Port) → IsAmong p (ports_in (all_outer_lines free es)) → IsAmong p (ports_in (entries_lines free es))
  entries_outer [] p h = h
  entries_outer (e ∷ es) p h =
      let P : List Port → Type 0 = IsAmong p in
      let now : List Line = kind_lines free e e.kind in
      let later : List Line = entries_lines free es in
      subst P (sym (ports_append now later)) (⊎_elim
      (λ here. among_left p (ports_in now) (ports_in later) (kind_outer e e.kind p here))
      (λ after. among_right p (ports_in now) (ports_in later) (entries_outer es p after))
      (among_either p (ports_in (outer_lines free e e.kind)) (ports_in (all_outer_lines free es)) (subst P (ports_append (outer_lines free e e.kind) (all_outer_lines free es)) h)))

  entries_inner : (es : List Entry) (first : ℕ) (ts : List Tunnel) (arms : List Arm) (l d : ℕ) (w : Wire) → HasCase es first ts arms → HasTunnel first ts l w → is_arm arms d ≡ true
      → IsAmong (tunnel_port l d w) (ports_in (entries_lines free es))
  entries_inner [] first ts arms l d w h has arm = absurd h
  entries_inner (e ∷ es) first ts arms l d w h has arm =
      let p : Port = tunnel_port l d w in
      let P : List Port → Type 0 = IsAmong p in
      let now : List Line = kind_lines free e e.kind in
      let later : List Line = entries_lines free es in
      subst P (sym (ports_append now later)) (⊎_elim
      (λ here. among_left p (ports_in now) (ports_in later) (case_inner e e.kind first ts arms l d w here has arm))
      (λ after. among_right p (ports_in now) (ports_in later) (entries_inner es first ts arms l d w after has arm)) h)

-- places
-- a tunnel on no later line stands before the same ports
line_before : (l k : ℕ) (q : Port) → k ≤ l → (nat_lt l q.line || ((l == q.line) && nat_lt 2 q.operand)) ≡ true → (nat_lt k q.line || ((k == q.line) && nat_lt 2 q.operand)) ≡ true
line_before l k q le h = grind (arith, le, h)

not_before : (l k : ℕ) → l ≤ k → (nat_lt k l || ((k == l) && nat_lt 2 2)) ≡ true → ⊥
not_before l k le h = grind (arith, le, h)

is_same_or_less : (k l : ℕ) → k ≤ l → (k < l) ⊎ (k ≡ l)
is_same_or_less k l le = grind (arith, le)

less_before : (k l : ℕ) → k < l → (nat_lt k l || ((k == l) && nat_lt 2 2)) ≡ true
less_before k l lt = grind (arith, lt)

module _ (free : Freedom) (vi : Vi) (es : List Entry) (own_branches : HaveOwnBranches no_branch es) where
  abbrev ps : List Port
  ps = ports_in (control_lines 1 vi.panel ++ entries_lines free es)

  abbrev own : List Port
  own = outer_ports free vi es

  abbrev look : LookUp
  look = look_after nowhere es

  abbrev firsts : List Port
  firsts = all_first_tunnels es

  abbrev looked : List Port
  looked = all_looked_up look own

  abbrev qs : List Port
  qs = own ++ (firsts ++ looked)

  own_kept : (p : Port) → IsAmong p own → IsAmong p qs
  own_kept p h = among_left p own (firsts ++ looked) h

  first_kept : (p : Port) → IsAmong p firsts → IsAmong p qs
  first_kept p h = among_right p own (firsts ++ looked) (among_left p firsts looked h)

  looked_kept : (p : Port) → IsAmong p looked → IsAmong p qs
  looked_kept p h = among_right p own (firsts ++ looked) (among_right p firsts looked h)

  inner_within : (first : ℕ) (ts : List Tunnel) (arms : List Arm) (l d : ℕ) (w : Wire) → HasCase es first ts arms → HasTunnel first ts l w → is_arm arms d ≡ true → IsAmong (tunnel_port l d w) ps
  inner_within first ts arms l d w case has arm =
      let P : List Port → Type 0 = IsAmong (tunnel_port l d w) in
      subst P (sym (ports_append (control_lines 1 vi.panel) (entries_lines free es)))
      (among_right (tunnel_port l d w) (ports_in (control_lines 1 vi.panel)) (ports_in (entries_lines free es)) (entries_inner free es first ts arms l d w case has arm))

  own_within : (p : Port) → IsAmong p own → IsAmong p ps
  own_within p h =
      let P : List Port → Type 0 = IsAmong p in
      let controls : List Port = ports_in (control_lines 1 vi.panel) in
      subst P (sym (ports_append (control_lines 1 vi.panel) (entries_lines free es))) (⊎_elim
      (λ here. among_left p controls (ports_in (entries_lines free es)) here)
      (λ after. among_right p controls (ports_in (entries_lines free es)) (entries_outer free es p after))
      (among_either p controls (ports_in (all_outer_lines free es)) (subst P (ports_append (control_lines 1 vi.panel) (all_outer_lines free es)) h)))

  first_within : (p : Port) → InFirst es p → IsAmong p ps
  first_within p r = let P : Port → Type 0 = λ q. IsAmong q ps in
      subst P (sym r.from.is) (inner_within r.first r.tunnels r.arms r.from.line r.diagram r.from.wire r.case r.from.has (first_is_arm r.arms r.diagram r.arm))

  is_meant : (d : ℕ) (name : List ℕ) (l : ℕ) → look d name ≡ Some l → Meant es d name l
  is_meant d name l h = ⊎_elim (λ m. m) (λ no. cc) (meant nowhere es d name l h)

  looked_within : (p : Port) → LookedUp look own p → IsAmong p ps
  looked_within p r =
      let P : Port → Type 0 = λ q. IsAmong q ps in
      let m : Meant es r.by.diagram r.name r.line = is_meant r.by.diagram r.name r.line r.found in
      subst P (sym r.is) (inner_within m.first m.tunnels m.arms r.line r.by.diagram (Some r.name) m.case (named_has m.first m.tunnels r.name r.line m.named) m.arm)

  within : (p : Port) → IsAmong p qs → IsAmong p ps
  within p h = ⊎_elim (own_within p)
      (λ more. ⊎_elim (λ f. first_within p (in_first_from es p f)) (λ l. looked_within p (looked_from look own p l)) (among_either p firsts looked more))
      (among_either p own (firsts ++ looked) h)

  -- a port of the VI is one of the outer lines, or what a tunnel gives
  ps_either : (p : Port) → IsAmong p ps → IsAmong p own ⊎ IsInner es p
  ps_either p h =
      let P : List Port → Type 0 = IsAmong p in
      let controls : List Port = ports_in (control_lines 1 vi.panel) in
      let outside : List Port = ports_in (all_outer_lines free es) in
      let joint : own ≡ controls ++ outside = ports_append (control_lines 1 vi.panel) (all_outer_lines free es) in
      ⊎_elim
      (λ here. inl (subst P (sym joint) (among_left p controls outside here)))
      (λ after. ⊎_elim (λ out. inl (subst P (sym joint) (among_right p controls outside out))) inr (entries_either free es p after))
      (among_either p controls (ports_in (entries_lines free es)) (subst P (ports_append (control_lines 1 vi.panel) (entries_lines free es)) h))

  -- the tunnel that a name means, in a branch of its case
  tunnel_looked : (first : ℕ) (ts : List Tunnel) (arms : List Arm) (d : ℕ) (name : List ℕ) (k : ℕ) → HasCase es first ts arms → is_arm arms d ≡ true → named_line first ts name ≡ Some k → look d name ≡ Some k
  tunnel_looked first ts arms d name k case arm named = looks_own nowhere no_branch es first ts arms d name own_branches case arm ∙ named

  module _ (first : ℕ) (ts : List Tunnel) (arms : List Arm) (case : HasCase es first ts arms) (d : ℕ) (arm : is_arm arms d ≡ true) (l : ℕ) (name : List ℕ) (has : HasTunnel first ts l (Some name)) where
    abbrev inner : Port
    inner = tunnel_port l d (Some name)

    named : FirstNamed first ts name l
    named = first_named first ts l name has

    meant_by : look d name ≡ Some named.line
    meant_by = tunnel_looked first ts arms d name named.line case arm named.found

    -- the first tunnel of the name, in this branch
    abbrev stand : Port
    stand = tunnel_port named.line d (Some name)

    replaced : (q : Port) → IsAmong stand qs → d ≡ q.diagram → q.wire ≡ Some name → Replaces qs inner q
    replaced q among diagram wire = record {
      by = stand;
      among = among;
      source = refl;
      joined = are_alike stand q name diagram refl wire;
      before = line_before l named.line q named.before;
    }

    -- it is kept where a port of this branch has the name: an outer one, one in the first branch, or one that was looked up
    by_own : (q : Port) → IsAmong q own → d ≡ q.diagram → q.wire ≡ Some name → IsAmong stand qs
    by_own q among diagram wire =
        let P : ℕ → Type 0 = λ b. IsAmong (tunnel_port named.line b (Some name)) looked in
        looked_kept stand (subst P (sym diagram) (looked_among look own q name named.line among wire (ap (λ b. look b name) (sym diagram) ∙ meant_by)))

    by_first : (q : Port) → InFirst es q → d ≡ q.diagram → q.wire ≡ Some name → IsAmong stand qs
    by_first q r diagram wire =
        let at : r.diagram ≡ d = sym (diagram ∙ ap (λ (p : Port). p.diagram) r.from.is) in
        let there : named_line r.first r.tunnels name ≡ Some named.line =
        sym (looks_own nowhere no_branch es r.first r.tunnels r.arms r.diagram name own_branches r.case (first_is_arm r.arms r.diagram r.arm)) ∙ ap (λ b. look b name) at ∙ meant_by in
        let P : ℕ → Type 0 = λ b. IsAmong (tunnel_port named.line b (Some name)) firsts in
        first_kept stand (subst P at (first_among es r.first r.tunnels r.arms r.diagram named.line (Some name) r.case r.arm (named_has r.first r.tunnels name named.line there)))

    by_looked : (q : Port) → LookedUp look own q → d ≡ q.diagram → q.wire ≡ Some name → IsAmong stand qs
    by_looked q r diagram wire =
        let at : d ≡ r.by.diagram = diagram ∙ ap (λ (p : Port). p.diagram) r.is in
        let same : Some r.name ≡ Some name = sym (ap (λ (p : Port). p.wire) r.is) ∙ wire in
        by_own r.by r.among at (r.wire ∙ same)

    kept_with : (q : Port) → IsAmong q qs → d ≡ q.diagram → q.wire ≡ Some name → IsAmong stand qs
    kept_with q among diagram wire = ⊎_elim
        (λ o. by_own q o diagram wire)
        (λ more. ⊎_elim (λ f. by_first q (in_first_from es q f) diagram wire) (λ k. by_looked q (looked_from look own q k) diagram wire) (among_either q firsts looked more))
        (among_either q own (firsts ++ looked) among)

    wire_is : {a b : List ℕ} → Some a ≡ Some b → a ≡ b
    wire_is e = cc

    others : (q : Port) → IsAmong q qs → are_joined inner q ≡ true → Replaces qs inner q
    others q among h =
        let j : AreJoined inner q = joined inner q h in
        let wire : q.wire ≡ Some name = j.right ∙ ap Some (wire_is (sym j.left)) in
        replaced q (kept_with q among j.diagram wire) j.diagram wire

    -- where another tunnel of the case has the name before
    second_tunnel : named.line < l → IsSecond qs inner
    second_tunnel lt =
        let f : (b : ℕ) × IsFirstArm arms b = has_first arms d arm in
        record {
          first = tunnel_port named.line f.0 (Some name);
          second = tunnel_port l f.0 (Some name);
          among = first_kept (tunnel_port named.line f.0 (Some name)) (first_among es first ts arms f.0 named.line (Some name) case f.1 (named_has first ts name named.line named.found));
          also = first_kept (tunnel_port l f.0 (Some name)) (first_among es first ts arms f.0 l (Some name) case f.1 has);
          source = refl;
          later = refl;
          before = less_before named.line l lt;
          joined = are_alike (tunnel_port named.line f.0 (Some name)) (tunnel_port l f.0 (Some name)) name refl refl refl;
          line = refl;
          operand = refl;
        }

    inner_kept : named.line ≡ l → (s : Port) → IsAmong s own → s.diagram ≡ d → s.wire ≡ Some name → IsAmong inner qs
    inner_kept same s among diagram wire = let P : ℕ → Type 0 = λ k. IsAmong (tunnel_port k d (Some name)) qs in subst P same (by_own s among (sym diagram) wire)

    -- where the tunnel is the first of its name, and another port has the name before
    by_port : named.line ≡ l → (s : Port) → IsAmong s own → s.is_source ≡ true → is_before s inner ≡ true → are_joined s inner ≡ true → IsSecond qs inner
    by_port same s among source before h =
        let j : AreJoined s inner = joined s inner h in
        record {
          first = s;
          second = inner;
          among = own_kept s among;
          also = inner_kept same s among j.diagram (j.left ∙ ap Some (wire_is (sym j.right)));
          source = source;
          later = refl;
          before = before;
          joined = h;
          line = refl;
          operand = refl;
        }

    -- no tunnel of the name stands before the first one
    by_tunnel : named.line ≡ l → (s : Port) → IsInner es s → is_before s inner ≡ true → are_joined s inner ≡ true → IsSecond qs inner
    by_tunnel same s r before h =
        let j : AreJoined s inner = joined s inner h in
        let at : r.diagram ≡ d = sym (ap (λ (p : Port). p.diagram) r.is) ∙ j.diagram in
        let wire : r.wire ≡ Some name = sym (ap (λ (p : Port). p.wire) r.is) ∙ j.left ∙ ap Some (wire_is (sym j.right)) in
        let P : Wire → Type 0 = HasTunnel r.first r.tunnels r.line in
        let f : FirstNamed r.first r.tunnels name r.line = first_named r.first r.tunnels r.line name (subst P wire r.has) in
        let meant : Some f.line ≡ Some named.line =
        sym (tunnel_looked r.first r.tunnels r.arms r.diagram name f.line r.case r.arm f.found) ∙ ap (λ b. look b name) at ∙ meant_by in
        let low : f.line ≤ r.line = f.before in
        let one : f.line ≡ named.line = cc in
        let le : l ≤ r.line = omega (arith, low, one, same) in
        let Q : Port → Type 0 = λ p. is_before p inner ≡ true in
        absurd (not_before l r.line le (subst Q r.is before))

    again : (s : Port) → IsAmong s ps → s.is_source ≡ true → is_before s inner ≡ true → are_joined s inner ≡ true → IsSecond qs inner
    again s among source before h = ⊎_elim second_tunnel
        (λ same. ⊎_elim (λ o. by_port same s o source before h) (λ r. by_tunnel same s r before h) (ps_either s among))
        (is_same_or_less named.line l named.before)

    stands : HasStandIn ps qs inner
    stands = record { source = refl; free = refl; border = refl; others = others; again = again }

  -- nothing is joined with a tunnel without a name
  no_name : (name : List ℕ) → None ≡ Some name → ⊥
  no_name name e = cc

  inner_stands : (first : ℕ) (ts : List Tunnel) (arms : List Arm) (case : HasCase es first ts arms) (d : ℕ) (arm : is_arm arms d ≡ true) (l : ℕ) (w : Wire) → HasTunnel first ts l w → HasStandIn ps qs (tunnel_port l d w)
  inner_stands first ts arms case d arm l None has = record {
    source = refl;
    free = refl;
    border = refl;
    others = λ q among h. let j : AreJoined (tunnel_port l d None) q = joined (tunnel_port l d None) q h in absurd (no_name j.name j.left);
    again = λ s among source before h. let j : AreJoined s (tunnel_port l d None) = joined s (tunnel_port l d None) h in absurd (no_name j.name j.right);
  }
  inner_stands first ts arms case d arm l (Some name) has = stands first ts arms case d arm l name has

  -- a port is kept, or others stand for it
  each : (p : Port) → IsAmong p ps → IsAmong p qs ⊎ HasStandIn ps qs p
  each p h = ⊎_elim (λ o. inl (own_kept p o))
      (λ (r : IsInner es p). let P : Port → Type 0 = HasStandIn ps qs in inr (subst P (sym r.is) (inner_stands r.first r.tunnels r.arms r.case r.diagram r.arm r.line r.wire r.has)))
      (ps_either p h)

  pub stand_for : StandFor ps (kept_ports free vi es)
  stand_for = record { within = within; each = each }
