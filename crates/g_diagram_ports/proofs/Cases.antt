-- The cases among nodes, and what their branches look up.
use Rattle.std.proofs.Common.{◌≡◌, ◌⊎◌, inl, inr, ⊎_elim, ℕ, ◌+◌, ◌==◌, Bool, true, false, List, [], ◌∷◌, refl, ap, sym, ◌∙◌, subst, arith}
use Rattle.std.specs.Prelude.{if◌then◌else◌, Option, Some, None}
use Rattle.std.proofs.lemmas.Bool.{or_left}
use Rattle.g_diagram.specs.declared.node.Tunnel.{Tunnel}
use Rattle.g_diagram.specs.Lines.{Wire, Arm, Entry}
use Rattle.g_diagram.specs.Ports.{Port}
use Rattle.g_diagram_ports.specs.Standing.{IsAmong}
use Rattle.g_diagram_ports.specs.Tunnels.{AreNewBy, HaveOwnBranches, LookUp, all_first_tunnels, branches_by, branches_past, case_of, first_by, first_tunnels, in_first, is_arm, look_after, look_by, look_past, named_line, tunnel_port, tunnels_in}
use Rattle.g_diagram_ports.proofs.Among.{FromTunnel, HasTunnel, among_either, among_left, among_right, tunnel_among, tunnel_from}

pub record IsCaseOf (l : ℕ) (c : List Tunnel × List Arm) (first : ℕ) (ts : List Tunnel) (arms : List Arm) : Type 0 where
  pub at : l + 1 ≡ first
  pub lines : c.0 ≡ ts
  pub branches : c.1 ≡ arms

-- a case with these border lines, from a line on, and these branches
abbrev pub IsCase : (line : ℕ) → Option (List Tunnel × List Arm) → (first : ℕ) → List Tunnel → List Arm → Type 0
IsCase l None first ts arms = ⊥
IsCase l (Some c) first ts arms = IsCaseOf l c first ts arms

abbrev pub HasCase : List Entry → (first : ℕ) → List Tunnel → List Arm → Type 0
HasCase [] first ts arms = ⊥
HasCase (e ∷ es) first ts arms = IsCase e.line (case_of e.kind) first ts arms ⊎ HasCase es first ts arms

arm_kept : (arm before : Bool) → (arm ≡ true → before ≡ false) → before ≡ true → arm ≡ false
arm_kept false before h b = refl
arm_kept true before h b = let no : true ≡ false = sym b ∙ h refl in cc

look_same : {V : Type 0} (b : Bool) (v w : V) → b ≡ false → (if b then v else w) ≡ w
look_same false v w h = refl
look_same true v w h = cc

look_here : {V : Type 0} (b : Bool) (v w : V) → b ≡ true → (if b then v else w) ≡ v
look_here true v w h = refl
look_here false v w h = cc

if_true : (b c : Bool) → c ≡ true → (if b then true else c) ≡ true
if_true true c h = refl
if_true false c h = h

still_step : (look : LookUp) (l : ℕ) (before : ℕ → Bool) (c : Option (List Tunnel × List Arm)) (d : ℕ) (name : List ℕ) → AreNewBy before c → before d ≡ true → look_by look l c d name ≡ look d name
still_step look l before None d name new b = refl
still_step look l before (Some c) d name new b = look_same (is_arm c.1 d) (named_line (l + 1) c.0 name) (look d name) (arm_kept (is_arm c.1 d) (before d) (new d) b)

still_branch : (before : ℕ → Bool) (c : Option (List Tunnel × List Arm)) (d : ℕ) → before d ≡ true → branches_by before c d ≡ true
still_branch before None d b = b
still_branch before (Some c) d b = if_true (is_arm c.1 d) (before d) b

-- what a branch of an earlier case looks up stays
looks_still : (look : LookUp) (before : ℕ → Bool) (es : List Entry) (d : ℕ) (name : List ℕ) → HaveOwnBranches before es → before d ≡ true → look_after look es d name ≡ look d name
looks_still look before [] d name own b = refl
looks_still look before (e ∷ es) d name own b =
    looks_still (look_past look e.line e.kind) (branches_past before e.kind) es d name own.1 (still_branch before (case_of e.kind) d b)
    ∙ still_step look e.line before (case_of e.kind) d name own.0 b

here_looks : (look : LookUp) (l : ℕ) (c : Option (List Tunnel × List Arm)) (first : ℕ) (ts : List Tunnel) (arms : List Arm) (d : ℕ) (name : List ℕ) → IsCase l c first ts arms → is_arm arms d ≡ true
    → look_by look l c d name ≡ named_line first ts name
here_looks look l None first ts arms d name h arm = absurd h
here_looks look l (Some c) first ts arms d name h arm =
    look_here (is_arm c.1 d) (named_line (l + 1) c.0 name) (look d name) (ap (λ (bs : List Arm). is_arm bs d) h.branches ∙ arm)
    ∙ ap (λ k. named_line k c.0 name) h.at ∙ ap (λ (us : List Tunnel). named_line first us name) h.lines

here_branch : (before : ℕ → Bool) (l : ℕ) (c : Option (List Tunnel × List Arm)) (first : ℕ) (ts : List Tunnel) (arms : List Arm) (d : ℕ) → IsCase l c first ts arms → is_arm arms d ≡ true → branches_by before c d ≡ true
here_branch before l None first ts arms d h arm = absurd h
here_branch before l (Some c) first ts arms d h arm = look_here (is_arm c.1 d) true (before d) (ap (λ (bs : List Arm). is_arm bs d) h.branches ∙ arm)

-- a branch looks up the tunnels of its own case
pub looks_own : (look : LookUp) (before : ℕ → Bool) (es : List Entry) (first : ℕ) (ts : List Tunnel) (arms : List Arm) (d : ℕ) (name : List ℕ) → HaveOwnBranches before es → HasCase es first ts arms
    → is_arm arms d ≡ true → look_after look es d name ≡ named_line first ts name
looks_own look before [] first ts arms d name own h arm = absurd h
looks_own look before (e ∷ es) first ts arms d name own h arm = ⊎_elim
    (λ here. looks_still (look_past look e.line e.kind) (branches_past before e.kind) es d name own.1 (here_branch before e.line (case_of e.kind) first ts arms d here arm)
    ∙ here_looks look e.line (case_of e.kind) first ts arms d name here arm)
    (λ later. looks_own (look_past look e.line e.kind) (branches_past before e.kind) es first ts arms d name own.1 later arm) h

-- what is looked up stands in a case with that branch
pub record Meant (es : List Entry) (d : ℕ) (name : List ℕ) (l : ℕ) : Type 0 where
  pub first : ℕ
  pub tunnels : List Tunnel
  pub arms : List Arm
  pub case : HasCase es first tunnels arms
  pub arm : is_arm arms d ≡ true
  pub named : named_line first tunnels name ≡ Some l

meant_if : (b : Bool) (v w : Option ℕ) (l : ℕ) {R : Type 0} → (if b then v else w) ≡ Some l → (b ≡ true → v ≡ Some l → R) → (w ≡ Some l → R) → R
meant_if true v w l h here later = here refl h
meant_if false v w l h here later = later h

meant_here : (look : LookUp) (l0 : ℕ) (c : Option (List Tunnel × List Arm)) (d : ℕ) (name : List ℕ) (l : ℕ) {R : Type 0} → look_by look l0 c d name ≡ Some l
    → ((ts : List Tunnel) (arms : List Arm) → IsCase l0 c (l0 + 1) ts arms → is_arm arms d ≡ true → named_line (l0 + 1) ts name ≡ Some l → R) → (look d name ≡ Some l → R) → R
meant_here look l0 None d name l h here later = later h
meant_here look l0 (Some c) d name l h here later = meant_if (is_arm c.1 d) (named_line (l0 + 1) c.0 name) (look d name) l h (λ arm found. here c.0 c.1 (record { at = refl; lines = refl; branches = refl }) arm found) later

pub meant : (look : LookUp) (es : List Entry) (d : ℕ) (name : List ℕ) (l : ℕ) → look_after look es d name ≡ Some l → Meant es d name l ⊎ (look d name ≡ Some l)
meant look [] d name l h = inr h
meant look (e ∷ es) d name l h = ⊎_elim
    (λ m. inl (record { first = m.first; tunnels = m.tunnels; arms = m.arms; case = inr m.case; arm = m.arm; named = m.named }))
    (λ now. meant_here look e.line (case_of e.kind) d name l now
    (λ ts arms is arm found. inl (record { first = e.line + 1; tunnels = ts; arms = arms; case = inl is; arm = arm; named = found })) inr)
    (meant (look_past look e.line e.kind) es d name l h)

-- the first branch of a case
abbrev pub IsFirstArm : List Arm → (diagram : ℕ) → Type 0
IsFirstArm [] d = ⊥
IsFirstArm (a ∷ arms) d = a.body ≡ d

pub first_is_arm : (arms : List Arm) (d : ℕ) → IsFirstArm arms d → is_arm arms d ≡ true
first_is_arm [] d h = absurd h
first_is_arm (a ∷ arms) d h = or_left (a.body == d) (is_arm arms d) (let e : a.body ≡ d = h in grind (arith, e))

pub has_first : (arms : List Arm) (d : ℕ) → is_arm arms d ≡ true → (b : ℕ) × IsFirstArm arms b
has_first [] d h = cc
has_first (a ∷ arms) d h = (a.body, refl)

-- a tunnel in the first branch of its case
pub record InFirst (es : List Entry) (p : Port) : Type 0 where
  pub first : ℕ
  pub tunnels : List Tunnel
  pub arms : List Arm
  pub case : HasCase es first tunnels arms
  pub diagram : ℕ
  pub arm : IsFirstArm arms diagram
  pub from : FromTunnel diagram first tunnels p

arm_first : (first : ℕ) (ts : List Tunnel) (arms : List Arm) (p : Port) {R : Type 0} → IsAmong p (in_first first ts arms) → ((d : ℕ) → IsFirstArm arms d → FromTunnel d first ts p → R) → R
arm_first first ts [] p h next = absurd h
arm_first first ts (a ∷ arms) p h next = next a.body refl (tunnel_from a.body first ts p h)

here_first : (l : ℕ) (c : Option (List Tunnel × List Arm)) (p : Port) {R : Type 0} → IsAmong p (first_by l c)
    → ((ts : List Tunnel) (arms : List Arm) → IsCase l c (l + 1) ts arms → (d : ℕ) → IsFirstArm arms d → FromTunnel d (l + 1) ts p → R) → R
here_first l None p h next = absurd h
here_first l (Some c) p h next = arm_first (l + 1) c.0 c.1 p h (next c.0 c.1 (record { at = refl; lines = refl; branches = refl }))

pub in_first_from : (es : List Entry) (p : Port) → IsAmong p (all_first_tunnels es) → InFirst es p
in_first_from [] p h = absurd h
in_first_from (e ∷ es) p h = ⊎_elim
    (λ here. here_first e.line (case_of e.kind) p here
    (λ ts arms is d arm from. record { first = e.line + 1; tunnels = ts; arms = arms; case = inl is; diagram = d; arm = arm; from = from }))
    (λ later. let r : InFirst es p = in_first_from es p later in
    record { first = r.first; tunnels = r.tunnels; arms = r.arms; case = inr r.case; diagram = r.diagram; arm = r.arm; from = r.from })
    (among_either p (first_tunnels e.line e.kind) (all_first_tunnels es) h)

arm_among : (first : ℕ) (ts : List Tunnel) (arms : List Arm) (d l : ℕ) (w : Wire) → IsFirstArm arms d → HasTunnel first ts l w → IsAmong (tunnel_port l d w) (in_first first ts arms)
arm_among first ts [] d l w arm has = absurd arm
arm_among first ts (a ∷ arms) d l w arm has = let P : ℕ → Type 0 = λ b. IsAmong (tunnel_port l d w) (tunnels_in b first ts) in subst P (sym arm) (tunnel_among d first ts l w has)

first_here : (l0 : ℕ) (c : Option (List Tunnel × List Arm)) (first : ℕ) (ts : List Tunnel) (arms : List Arm) (d l : ℕ) (w : Wire) → IsCase l0 c first ts arms → IsFirstArm arms d → HasTunnel first ts l w
    → IsAmong (tunnel_port l d w) (first_by l0 c)
first_here l0 None first ts arms d l w is arm has = absurd is
first_here l0 (Some c) first ts arms d l w is arm has =
    let P : ℕ → Type 0 = λ k. IsAmong (tunnel_port l d w) (in_first k c.0 c.1) in
    let Q : List Tunnel → Type 0 = λ us. IsAmong (tunnel_port l d w) (in_first first us c.1) in
    let R : List Arm → Type 0 = λ bs. IsAmong (tunnel_port l d w) (in_first first ts bs) in
    subst P (sym is.at) (subst Q (sym is.lines) (subst R (sym is.branches) (arm_among first ts arms d l w arm has)))

pub first_among : (es : List Entry) (first : ℕ) (ts : List Tunnel) (arms : List Arm) (d l : ℕ) (w : Wire) → HasCase es first ts arms → IsFirstArm arms d → HasTunnel first ts l w
    → IsAmong (tunnel_port l d w) (all_first_tunnels es)
first_among [] first ts arms d l w h arm has = absurd h
first_among (e ∷ es) first ts arms d l w h arm has = ⊎_elim
    (λ here. among_left (tunnel_port l d w) (first_tunnels e.line e.kind) (all_first_tunnels es) (first_here e.line (case_of e.kind) first ts arms d l w here arm has))
    (λ later. among_right (tunnel_port l d w) (first_tunnels e.line e.kind) (all_first_tunnels es) (first_among es first ts arms d l w later arm has)) h
