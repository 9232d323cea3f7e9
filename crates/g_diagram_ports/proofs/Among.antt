-- Ports in lists, and the tunnels among them.
use Rattle.std.proofs.Common.{◌≡◌, ◌⊎◌, inl, inr, ⊎_elim, ℕ, ◌+◌, ◌≤◌, ◌==◌, Bool, true, false, List, [], ◌∷◌, ◌++◌, refl, ap, sym, ◌∙◌, subst, arith}
use Rattle.std.specs.Prelude.{if◌then◌else◌, Option, Some, None}
use Rattle.std.specs.List.{list_any}
use Rattle.std.specs.Option.{option_or}
use Rattle.std.specs.Str.{bytes_eq}
use Rattle.std.proofs.lemmas.Bool.{and_from, and_parts, or_left, or_right}
use Rattle.std.proofs.lemmas.Slice.Eq.{bytes_eq-Decides}
use Rattle.g_diagram.specs.declared.node.Tunnel.{Tunnel}
use Rattle.g_diagram.specs.Lines.{Wire}
use Rattle.g_diagram.specs.Ports.{Port, are_joined, same_wire}
use Rattle.g_diagram_ports.specs.Standing.{IsAmong}
use Rattle.g_diagram_ports.specs.Tunnels.{LookUp, all_looked_up, inner_wire, line_ports, looked_up, named_here, named_line, tunnel_port, tunnel_ports, tunnels_in}

pub among_left : (p : Port) (xs ys : List Port) → IsAmong p xs → IsAmong p (xs ++ ys)
among_left p [] ys h = absurd h
among_left p (x ∷ xs) ys h = ⊎_elim inl (λ r. inr (among_left p xs ys r)) h

pub among_right : (p : Port) (xs ys : List Port) → IsAmong p ys → IsAmong p (xs ++ ys)
among_right p [] ys h = h
among_right p (x ∷ xs) ys h = inr (among_right p xs ys h)

pub among_either : (p : Port) (xs ys : List Port) → IsAmong p (xs ++ ys) → IsAmong p xs ⊎ IsAmong p ys
among_either p [] ys h = inr h
among_either p (x ∷ xs) ys h = ⊎_elim (λ e. inl (inl e)) (λ r. ⊎_elim (λ l. inl (inr l)) inr (among_either p xs ys r)) h

-- a test that one of some ports passes
pub is_had : (test : Port → Bool) (ps : List Port) (p : Port) → IsAmong p ps → test p ≡ true → list_any test ps ≡ true
is_had test [] p among h = absurd among
is_had test (q ∷ ps) p among h = ⊎_elim
    (λ e. let P : Port → Type 0 = λ x. test x ≡ true in or_left (test q) (list_any test ps) (subst P (sym e) h))
    (λ r. or_right (test q) (list_any test ps) (is_had test ps p r h)) among

-- a tunnel stands on a line, with what it gives inside
abbrev pub IsHere : (here : ℕ) → Option Wire → (line : ℕ) → Wire → Type 0
IsHere here None l w = ⊥
IsHere here (Some inner) l w = (here ≡ l) × (inner ≡ w)

abbrev pub HasTunnel : (first : ℕ) → List Tunnel → (line : ℕ) → Wire → Type 0
HasTunnel first [] l w = ⊥
HasTunnel first (t ∷ ts) l w = IsHere first (inner_wire t) l w ⊎ HasTunnel (first + 1) ts l w

here_among : (d here : ℕ) (o : Option Wire) (l : ℕ) (w : Wire) → IsHere here o l w → IsAmong (tunnel_port l d w) (tunnel_ports here d o)
here_among d here None l w h = absurd h
here_among d here (Some inner) l w h = inl (ap (λ k. tunnel_port k d inner) h.0 ∙ ap (tunnel_port l d) h.1)

pub tunnel_among : (d first : ℕ) (ts : List Tunnel) (l : ℕ) (w : Wire) → HasTunnel first ts l w → IsAmong (tunnel_port l d w) (tunnels_in d first ts)
tunnel_among d first [] l w h = absurd h
tunnel_among d first (t ∷ ts) l w h = ⊎_elim
    (λ e. among_left (tunnel_port l d w) (tunnel_ports first d (inner_wire t)) (tunnels_in d (first + 1) ts) (here_among d first (inner_wire t) l w e))
    (λ r. among_right (tunnel_port l d w) (tunnel_ports first d (inner_wire t)) (tunnels_in d (first + 1) ts) (tunnel_among d (first + 1) ts l w r)) h

-- what a port of a tunnel is
pub record FromTunnel (d first : ℕ) (ts : List Tunnel) (p : Port) : Type 0 where
  pub line : ℕ
  pub wire : Wire
  pub has : HasTunnel first ts line wire
  pub is : p ≡ tunnel_port line d wire

here_from : (d first : ℕ) (o : Option Wire) (p : Port) {R : Type 0} → IsAmong p (tunnel_ports first d o) → ((w : Wire) → IsHere first o first w → p ≡ tunnel_port first d w → R) → R
here_from d first None p h next = absurd h
here_from d first (Some w) p h next = ⊎_elim (λ e. next w (refl, refl) (sym e)) (λ r. absurd r) h

pub tunnel_from : (d first : ℕ) (ts : List Tunnel) (p : Port) → IsAmong p (tunnels_in d first ts) → FromTunnel d first ts p
tunnel_from d first [] p h = absurd h
tunnel_from d first (t ∷ ts) p h = ⊎_elim
    (λ e. here_from d first (inner_wire t) p e (λ w here is. record { line = first; wire = w; has = inl here; is = is }))
    (λ r. let f : FromTunnel d (first + 1) ts p = tunnel_from d (first + 1) ts p r in record { line = f.line; wire = f.wire; has = inr f.has; is = f.is })
    (among_either p (tunnel_ports first d (inner_wire t)) (tunnels_in d (first + 1) ts) h)

here_line : (here : ℕ) (o : Option Wire) (l : ℕ) (w : Wire) → IsHere here o l w → here ≡ l
here_line here None l w h = absurd h
here_line here (Some inner) l w h = h.0

pub tunnel_low : (first : ℕ) (ts : List Tunnel) (l : ℕ) (w : Wire) → HasTunnel first ts l w → first ≤ l
tunnel_low first [] l w h = absurd h
tunnel_low first (t ∷ ts) l w h = ⊎_elim
    (λ e. let x : first ≡ l = here_line first (inner_wire t) l w e in omega (arith, x))
    (λ r. let x : first + 1 ≤ l = tunnel_low (first + 1) ts l w r in omega (arith, x)) h

-- the first tunnel of a name, none after a tunnel of this name
pub record FirstNamed (first : ℕ) (ts : List Tunnel) (name : List ℕ) (l : ℕ) : Type 0 where
  pub line : ℕ
  pub found : named_line first ts name ≡ Some line
  pub before : line ≤ l

named_step : (b : Bool) (first l : ℕ) (rest : Option ℕ) {R : Type 0} → (b ≡ true → first ≤ l) → ((k : ℕ) → option_or (if b then Some first else None) rest ≡ Some k → k ≤ l → R)
    → (b ≡ false → ((k : ℕ) → rest ≡ Some k → k ≤ l → R) → R) → R
named_step true first l rest here give later = give first refl (here refl)
named_step false first l rest here give later = later refl give

here_named : (first : ℕ) (o : Option Wire) (ts : List Tunnel) (l : ℕ) (name : List ℕ) (rest : Option ℕ) {R : Type 0} → IsHere first o l (Some name) ⊎ HasTunnel (first + 1) ts l (Some name)
    → (first ≤ l) → ((k : ℕ) → option_or (named_here first o name) rest ≡ Some k → k ≤ l → R)
    → (HasTunnel (first + 1) ts l (Some name) → ((k : ℕ) → rest ≡ Some k → k ≤ l → R) → R) → R
here_named first None ts l name rest h low give later = later (⊎_elim (λ e. absurd e) (λ r. r) h) give
here_named first (Some None) ts l name rest h low give later = later (⊎_elim (λ e. let no = e.1 in cc) (λ r. r) h) give
here_named first (Some (Some n)) ts l name rest h low give later = named_step (bytes_eq n name) first l rest (λ e. low) give
    (λ differ next. later (⊎_elim (λ e. absurd (apart e.1 differ)) (λ r. r) h) next)
  where
    apart : Some n ≡ Some name → bytes_eq n name ≡ false → ⊥
    apart e differ = let same : n ≡ name = cc in let yes : bytes_eq n name ≡ true = (bytes_eq-Decides n name).1 same in let no : true ≡ false = sym yes ∙ differ in cc

pub first_named : (first : ℕ) (ts : List Tunnel) (l : ℕ) (name : List ℕ) → HasTunnel first ts l (Some name) → FirstNamed first ts name l
first_named first [] l name h = absurd h
first_named first (t ∷ ts) l name h = here_named first (inner_wire t) ts l name (named_line (first + 1) ts name) h (tunnel_low first (t ∷ ts) l (Some name) h)
    (λ k is le. record { line = k; found = is; before = le })
    (λ r give. let f : FirstNamed (first + 1) ts name l = first_named (first + 1) ts l name r in give f.line f.found f.before)

name_step : (b : Bool) (n name : List ℕ) (first l : ℕ) (rest : Option ℕ) {R : Type 0} → (b ≡ true → n ≡ name) → option_or (if b then Some first else None) rest ≡ Some l
    → ((first ≡ l) → (n ≡ name) → R) → (rest ≡ Some l → R) → R
name_step true n name first l rest is h here later = here (let e : first ≡ l = cc in e) (is refl)
name_step false n name first l rest is h here later = later h

here_has : (first : ℕ) (o : Option Wire) (name : List ℕ) (l : ℕ) (rest : Option ℕ) {R : Type 0} → option_or (named_here first o name) rest ≡ Some l → (IsHere first o l (Some name) → R) → (rest ≡ Some l → R) → R
here_has first None name l rest h here later = later h
here_has first (Some None) name l rest h here later = later h
here_has first (Some (Some n)) name l rest h here later = name_step (bytes_eq n name) n name first l rest (bytes_eq-Decides n name).0 h (λ e f. here (e, ap Some f)) later

pub named_has : (first : ℕ) (ts : List Tunnel) (name : List ℕ) (l : ℕ) → named_line first ts name ≡ Some l → HasTunnel first ts l (Some name)
named_has first [] name l h = cc
named_has first (t ∷ ts) name l h = here_has first (inner_wire t) name l (named_line (first + 1) ts name) h inl (λ r. inr (named_has (first + 1) ts name l r))

-- two joined ports have one name in one diagram
pub record AreJoined (p q : Port) : Type 0 where
  pub name : List ℕ
  pub diagram : p.diagram ≡ q.diagram
  pub left : p.wire ≡ Some name
  pub right : q.wire ≡ Some name

one_name : (v w : Wire) {R : Type 0} → same_wire v w ≡ true → ((name : List ℕ) → v ≡ Some name → w ≡ Some name → R) → R
one_name None w h next = cc
one_name (Some a) None h next = cc
one_name (Some a) (Some b) h next = next a refl (ap Some (sym ((bytes_eq-Decides a b).0 h)))

pub joined : (p q : Port) → are_joined p q ≡ true → AreJoined p q
joined p q h = one_name p.wire q.wire (and_parts (p.diagram == q.diagram) (same_wire p.wire q.wire) h).1
    (λ name l r. record { name = name; diagram = (let e = (and_parts (p.diagram == q.diagram) (same_wire p.wire q.wire) h).0 in grind (arith, e)); left = l; right = r })

pub are_alike : (p q : Port) (name : List ℕ) → p.diagram ≡ q.diagram → p.wire ≡ Some name → q.wire ≡ Some name → are_joined p q ≡ true
are_alike p q name d l r = and_from (p.diagram == q.diagram) (same_wire p.wire q.wire) (grind (arith, d))
    (ap (λ w. same_wire w q.wire) l ∙ ap (same_wire (Some name)) r ∙ (bytes_eq-Decides name name).1 refl)

-- tunnels that names of ports mean
pub record LookedUp (look : LookUp) (own : List Port) (p : Port) : Type 0 where
  pub by : Port
  pub among : IsAmong by own
  pub name : List ℕ
  pub line : ℕ
  pub wire : by.wire ≡ Some name
  pub found : look by.diagram name ≡ Some line
  pub is : p ≡ tunnel_port line by.diagram (Some name)

line_one : (d : ℕ) (name : List ℕ) (o : Option ℕ) (p : Port) {R : Type 0} → IsAmong p (line_ports d (Some name) o) → ((l : ℕ) → o ≡ Some l → p ≡ tunnel_port l d (Some name) → R) → R
line_one d name None p h next = absurd h
line_one d name (Some l) p h next = ⊎_elim (λ e. next l refl (sym e)) (λ r. absurd r) h

wire_one : (look : LookUp) (d : ℕ) (w : Wire) (p : Port) {R : Type 0} → IsAmong p (looked_up look d w)
    → ((name : List ℕ) (l : ℕ) → w ≡ Some name → look d name ≡ Some l → p ≡ tunnel_port l d (Some name) → R) → R
wire_one look d None p h next = absurd h
wire_one look d (Some name) p h next = line_one d name (look d name) p h (λ l e is. next name l refl e is)

pub looked_from : (look : LookUp) (own : List Port) (p : Port) → IsAmong p (all_looked_up look own) → LookedUp look own p
looked_from look [] p h = absurd h
looked_from look (q ∷ own) p h = ⊎_elim
    (λ here. wire_one look q.diagram q.wire p here (λ name l w e is. record { by = q; among = inl refl; name = name; line = l; wire = w; found = e; is = is }))
    (λ later. let r : LookedUp look own p = looked_from look own p later in
    record { by = r.by; among = inr r.among; name = r.name; line = r.line; wire = r.wire; found = r.found; is = r.is })
    (among_either p (looked_up look q.diagram q.wire) (all_looked_up look own) h)

wire_among : (look : LookUp) (d : ℕ) (w : Wire) (name : List ℕ) (l : ℕ) → w ≡ Some name → look d name ≡ Some l → IsAmong (tunnel_port l d (Some name)) (looked_up look d w)
wire_among look d w name l is found =
    let P : Wire → Type 0 = λ v. IsAmong (tunnel_port l d (Some name)) (looked_up look d v) in
    let Q : Option ℕ → Type 0 = λ o. IsAmong (tunnel_port l d (Some name)) (line_ports d (Some name) o) in
    subst P (sym is) (subst Q (sym found) (inl refl))

pub looked_among : (look : LookUp) (own : List Port) (q : Port) (name : List ℕ) (l : ℕ) → IsAmong q own → q.wire ≡ Some name → look q.diagram name ≡ Some l
    → IsAmong (tunnel_port l q.diagram (Some name)) (all_looked_up look own)
looked_among look [] q name l among w found = absurd among
looked_among look (x ∷ own) q name l among w found = ⊎_elim
    (λ same. let P : Port → Type 0 = λ y. IsAmong (tunnel_port l q.diagram (Some name)) (looked_up look y.diagram y.wire) in
    among_left (tunnel_port l q.diagram (Some name)) (looked_up look x.diagram x.wire) (all_looked_up look own) (subst P (sym same) (wire_among look q.diagram q.wire name l w found)))
    (λ later. among_right (tunnel_port l q.diagram (Some name)) (looked_up look x.diagram x.wire) (all_looked_up look own) (looked_among look own q name l later w found))
    among
