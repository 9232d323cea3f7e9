-- Where no node leads to itself, each step of a VI waits for finitely many others alone.
use Rattle.std.proofs.Common.{◌≡◌, ◌⊎◌, inl, inr, ⊎_elim, ℕ, zero, suc, ◌+◌, ◌<◌, ◌≤◌, Bool, true, false, List, [], ◌∷◌, ◌++◌, refl, sym, subst, arith}
use Rattle.g_diagram.specs.declared.panel.PanelItem.{PanelItem}
use Rattle.g_diagram.specs.Lines.{Entry}
use Rattle.g_diagram.specs.Operands.{Line, Freedom, kind_lines, entries_lines}
use Rattle.g_diagram.specs.Ports.{Port, ports_in, has_wire}
use Rattle.g_diagram.specs.Leads.{Walk, Leads}
use Rattle.g_typing.specs.Typing.{Callees, Objects, IsGivenTo, panel_type, controls_given}
use Rattle.g_typing.proofs.Unique.{Step}
use Rattle.g_typing.proofs.Steps.{fixed, kind_steps}
use Rattle.g_typing.proofs.Only.{IsIn, entries_steps, vi_steps}
use Rattle.g_typing.proofs.Founded.{Ends, ends, all_end, leads_on}
use Rattle.g_typing.proofs.Joined.{HasPort, HasLine, line_left, line_right, port_of, joined}
use Rattle.g_typing.proofs.Roles.{nothing, IsRead, bodies, IsAmong, OuterOr}
use Rattle.g_typing.proofs.NodeRoles.{Outer, Role, opens, closes, FramesRise, roles, in_append}

-- a node among some
abbrev pub IsOf : Entry → List Entry → Type 0
IsOf e [] = ⊥
IsOf e (x ∷ xs) = (x ≡ e) ⊎ IsOf e xs

-- how the diagrams of nodes with numbers below n lie in one another
pub record IsNested (n : ℕ) (es : List Entry) : Type 0 where
  pub lines : (e : Entry) → IsOf e es → e.line < n
  pub below : (e : Entry) → IsOf e es → (b : ℕ) → IsAmong b (bodies e.kind) → b < n
  pub inner : (e : Entry) → IsOf e es → (b : ℕ) → IsAmong b (bodies e.kind) → e.diagram < b
  -- each diagram is of one node
  pub one : (e f : Entry) → IsOf e es → IsOf f es → (b : ℕ) → IsAmong b (bodies e.kind) → IsAmong b (bodies f.kind) → f ≡ e
  pub frames : (e : Entry) → IsOf e es → FramesRise e.kind

-- step t gives a name that step s reads
pub record Feeds (t s : Step) : Type 0 where
  pub diagram : ℕ
  pub name : List ℕ
  pub reads : IsRead s.reads diagram name
  pub gives : IsGivenTo (t.gives nothing) diagram name

-- all chains of steps that lead to a step end
pub data Ready (ss : List Step) : Step → Type 0 where
  ready : (s : Step) → ((t : Step) → IsIn t ss → Feeds t s → Ready ss t) → Ready ss s

node_lines : (free : Freedom) (b : Bool) (n : List ℕ) (e : Entry) (es : List Entry) → IsOf e es → Outer free e e.kind b n → HasLine b e.line e.diagram n (entries_lines free es)
node_lines free b n e [] is h = absurd is
node_lines free b n e (x ∷ es) (inl q) h =
    line_left b e.line e.diagram n (kind_lines free x x.kind) (entries_lines free es)
    (let P : Entry → Type 0 = λ (y : Entry). HasLine b e.line e.diagram n (kind_lines free y y.kind) in subst P (sym q) h)
node_lines free b n e (x ∷ es) (inr is) h = line_right b e.line e.diagram n (kind_lines free x x.kind) (entries_lines free es) (node_lines free b n e es is h)

-- the node of a step
record Origin (called : Callees) (objects : Objects) (es : List Entry) (s : Step) : Type 0 where
  entry : Entry
  is : IsOf entry es
  step : IsIn s (kind_steps called objects entry.line entry.diagram entry.kind)

origin : (called : Callees) (objects : Objects) (es : List Entry) (s : Step) → IsIn s (entries_steps called objects es) → Origin called objects es s
origin called objects [] s h = absurd h
origin called objects (e ∷ es) s h =
    ⊎_elim
    (λ l. record { entry = e; is = inl refl; step = l })
    (λ r. let o : Origin called objects es s = origin called objects es s r in record { entry = o.entry; is = inr o.is; step = o.step })
    (in_append s (kind_steps called objects e.line e.diagram e.kind) (entries_steps called objects es) h)

module _ (called : Callees) (panel : List PanelItem) (free : Freedom) (before : List Line) (es : List Entry) (n : ℕ) (nested : IsNested n es)
    (apart : (v : ℕ) → Leads (has_wire (ports_in (before ++ entries_lines free es))) v v → ⊥) where
  abbrev all : List Step
  all = vi_steps called panel es

  abbrev ports : List Port
  ports = ports_in (before ++ entries_lines free es)

  abbrev steps_of : Entry → List Step
  steps_of e = kind_steps called (panel_type panel) e.line e.diagram e.kind

  abbrev IsReady : Entry → Type 0
  IsReady e = (s : Step) → IsIn s (steps_of e) → Ready all s

  -- all that gives a name is ready
  abbrev Wired : ℕ → List ℕ → Type 0
  Wired d name = (t : Step) → IsIn t all → IsGivenTo (t.gives nothing) d name → Ready all t

  -- all that gives names in a diagram from its border is ready
  abbrev Opened : ℕ → Type 0
  Opened d = (e : Entry) → IsOf e es → IsAmong d (bodies e.kind) → (s : Step) → IsIn s (steps_of e) → (name : List ℕ) → IsGivenTo (s.gives nothing) d name → Ready all s

  -- all nodes in a diagram are
  abbrev Done : ℕ → Type 0
  Done d = (e : Entry) → IsOf e es → e.diagram ≡ d → IsReady e

  port : (b : Bool) (e : Entry) (name : List ℕ) → IsOf e es → Outer free e e.kind b name → HasPort b e.line e.diagram name ports
  port b e name is h =
      port_of b e.line e.diagram name (before ++ entries_lines free es)
      (line_right b e.line e.diagram name before (entries_lines free es) (node_lines free b name e es is h))

  role : (e : Entry) → IsOf e es → (s : Step) → IsIn s (steps_of e) → Role free e e.kind s
  role e is s h = roles free called (panel_type panel) e e.kind (nested.frames e is) s h

  controls_ready : (t : Step) → fixed (controls_given panel) ≡ t → Ready all t
  controls_ready t q = subst (Ready all) q (ready (fixed (controls_given panel)) (λ u is f. absurd f.reads))

  -- a giver of a name is a control's, one at the diagram's border, or one of a node of the diagram
  by_giver : (d : ℕ) (name : List ℕ) (t : Step) → IsIn t all → IsGivenTo (t.gives nothing) d name
      → ((e : Entry) → IsOf e es → IsAmong d (bodies e.kind) → IsIn t (steps_of e) → Ready all t)
      → ((e : Entry) → IsOf e es → e.diagram ≡ d → HasPort true e.line d name ports → IsIn t (steps_of e) → Ready all t) → Ready all t
  by_giver d name t (inl q) gives border node_ = controls_ready t q
  by_giver d name t (inr h) gives border node_ =
      let o : Origin called (panel_type panel) es t = origin called (panel_type panel) es t h in
      by_role d name t o.entry o.is o.step gives (role o.entry o.is t o.step) (border o.entry) (node_ o.entry)
    where
      by_role : (d : ℕ) (name : List ℕ) (t : Step) (e : Entry) → IsOf e es → IsIn t (steps_of e) → IsGivenTo (t.gives nothing) d name → Role free e e.kind t
          → (IsOf e es → IsAmong d (bodies e.kind) → IsIn t (steps_of e) → Ready all t)
          → (IsOf e es → e.diagram ≡ d → HasPort true e.line d name ports → IsIn t (steps_of e) → Ready all t) → Ready all t
      by_role d name t e is step gives (opens x among gives_in reads) border node_ =
          border is (let P : ℕ → Type 0 = λ y. IsAmong y (bodies e.kind) in subst P (gives_in d name gives) among) step
      by_role d name t e is step gives (closes gives_out reads) border node_ =
          let g = gives_out d name gives in
          node_ is g.0 (let P : ℕ → Type 0 = λ y. HasPort true e.line y name ports in subst P g.0 (port true e name is g.1)) step

  wired : (d : ℕ) (name : List ℕ) → Opened d → Done d → Wired d name
  wired d name opened done t is gives =
      by_giver d name t is gives (λ e of among step. opened e of among t step name gives) (λ e of same p step. done e of same t step)

  -- a step whose names are wired
  step_ready : (e : Entry) (inner : ℕ → Type 0) (s : Step) → IsOf e es
      → ((name : List ℕ) → HasPort false e.line e.diagram name ports → Wired e.diagram name)
      → ((y : ℕ) (name : List ℕ) → inner y → Wired y name)
      → ((z : ℕ) (name : List ℕ) → IsRead s.reads z name → OuterOr e.diagram (Outer free e e.kind false) inner z name) → Ready all s
  step_ready e inner s is outer inside reads = ready s (λ t in_ f.
      ⊎_elim
      (λ o. outer f.name (port false e f.name is o.1) t in_ (let P : ℕ → Type 0 = λ y. IsGivenTo (t.gives nothing) y f.name in subst P (sym o.0) f.gives))
      (λ i. inside f.diagram f.name i t in_ f.gives)
      (reads f.diagram f.name f.reads))

  module _ (e : Entry) (is : IsOf e es) (outer : (name : List ℕ) → HasPort false e.line e.diagram name ports → Wired e.diagram name)
      (inner : (b : ℕ) → IsAmong b (bodies e.kind) → Opened b → Done b) where
    opening_ready : (x : ℕ) → IsAmong x (bodies e.kind) → ((z : ℕ) → z < x → IsAmong z (bodies e.kind) → Opened z) → (s : Step) → (name : List ℕ)
        → IsGivenTo (s.gives nothing) x name → Role free e e.kind s → Ready all s
    opening_ready x among earlier s name gives (opens y is_y gives_in reads) =
        step_ready e (λ z. IsAmong z (bodies e.kind) × z < y) s is outer
        (λ z other i. let o : Opened z = earlier z (let w : y ≡ x = gives_in x name gives in let less : z < y = i.1 in omega (arith, w, less)) i.0 in wired z other o (inner z i.0 o))
        reads
    opening_ready x among earlier s name gives (closes gives_out reads) =
        let w : e.diagram ≡ x = (gives_out x name gives).0 in
        absurd (let u : e.diagram < x = nested.inner e is x among in omega (arith, w, u))

    -- the diagrams of a node are opened one after another
    opened_below : (m x : ℕ) → x < m → IsAmong x (bodies e.kind) → Opened x
    opened_below zero x lt among f of also s step name gives = absurd (omega (arith, lt))
    opened_below (suc m) x lt among f of also s step name gives =
        let same : f ≡ e = nested.one e f is of x among also in
        let step_ : IsIn s (steps_of e) = let P : Entry → Type 0 = λ (y : Entry). IsIn s (steps_of y) in subst P same step in
        opening_ready x among (λ z less i. opened_below m z (omega (arith, lt, less)) i) s name gives (role e is s step_)

    entry_ready : IsReady e
    entry_ready s step = by_role (role e is s step)
      where
        inside : (y : ℕ) (name : List ℕ) → IsAmong y (bodies e.kind) → Wired y name
        inside y name among = let o : Opened y = opened_below (suc y) y (omega arith) among in wired y name o (inner y among o)

        by_role : Role free e e.kind s → Ready all s
        by_role (opens x among gives_in reads) = step_ready e (λ z. IsAmong z (bodies e.kind) × z < x) s is outer (λ z other i. inside z other i.0) reads
        by_role (closes gives_out reads) = step_ready e (λ z. IsAmong z (bodies e.kind)) s is outer inside reads

  abbrev R : ℕ → ℕ → Type 0
  R = Leads (has_wire ports)

  one_wire : (a b : ℕ) → has_wire ports a b ≡ true → R a b
  one_wire a b h = (zero, h)

  -- the nodes of a diagram are ready where its border is, and the diagrams inside them
  node_ready : (d : ℕ) → Opened d → ((e : Entry) → IsOf e es → e.diagram ≡ d → (b : ℕ) → IsAmong b (bodies e.kind) → Opened b → Done b)
      → (v : ℕ) → Ends R n v → (e : Entry) → IsOf e es → e.diagram ≡ d → e.line ≡ v → IsReady e
  node_ready d opened deeper v (ends _ h) e is same at =
      entry_ready e is
      (λ name p t in_ gives.
      let g : IsGivenTo (t.gives nothing) d name = (let P : ℕ → Type 0 = λ y. IsGivenTo (t.gives nothing) y name in subst P same gives) in
      let q : HasPort false e.line d name ports = (let P : ℕ → Type 0 = λ y. HasPort false e.line y name ports in subst P same p) in
      by_giver d name t in_ g
      (λ f of among step. opened f of among t step name g)
      (λ f of where_ source step.
      node_ready d opened deeper f.line
      (h f.line (nested.lines f of) (let P : ℕ → Type 0 = λ y. R f.line y in subst P at (one_wire f.line e.line (joined f.line e.line d name ports source q))))
      f of where_ refl t step))
      (deeper e is same)

  chains : (v : ℕ) → Ends R n v
  chains v = all_end R (leads_on (has_wire ports)) apart n v

  diagram_ready : (k d : ℕ) → n ≤ d + k → Opened d → Done d
  diagram_ready zero d le opened e is same =
      node_ready d opened
      (λ f of w b among o. absurd (let x : f.diagram < b = nested.inner f of b among in let y : b < n = nested.below f of b among in omega (arith, w, x, y, le)))
      e.line (chains e.line) e is same refl
  diagram_ready (suc k) d le opened e is same =
      node_ready d opened
      (λ f of w b among o. diagram_ready k b (let x : f.diagram < b = nested.inner f of b among in omega (arith, w, x, le)) o)
      e.line (chains e.line) e is same refl

  all_opened : (m d : ℕ) → d < m → Opened d
  all_opened zero d lt e is among s step name gives = absurd (omega (arith, lt))
  all_opened (suc m) d lt e is among s step name gives =
      diagram_ready n e.diagram (omega arith) (all_opened m e.diagram (let x : e.diagram < d = nested.inner e is d among in omega (arith, lt, x))) e is refl s step

  all_ready : (e : Entry) → IsOf e es → IsReady e
  all_ready e is = diagram_ready n e.diagram (omega arith) (all_opened (suc e.diagram) e.diagram (omega arith)) e is refl

  -- each step of the VI waits for finitely many others alone
  pub every_ready : (t : Step) → IsIn t all → Ready all t
  every_ready t (inl q) = controls_ready t q
  every_ready t (inr h) = let o : Origin called (panel_type panel) es t = origin called (panel_type panel) es t h in all_ready o.entry o.is t o.step

-- and so there is no cycle of steps

prepend : (step : ℕ → ℕ → Bool) (m a b c : ℕ) → step a b ≡ true → Walk step m b c → Walk step (suc m) a c
prepend step zero a b c q w = (b, q, w)
prepend step (suc m) a b c q w = (w.0, prepend step m a b w.0 q w.1, w.2)

from_ready : (ss : List Step) (step : ℕ → ℕ → Bool) (at : ℕ → Step) → ((a b : ℕ) → step a b ≡ true → IsIn (at a) ss × Feeds (at a) (at b))
    → (s : Step) → Ready ss s → (v : ℕ) → at v ≡ s → Leads step v v → ⊥
from_ready ss step at feeds s (ready _ h) v same (zero, w) =
    let f = feeds v v w in
    from_ready ss step at feeds (at v) (h (at v) f.0 (subst (Feeds (at v)) same f.1)) v refl (zero, w)
from_ready ss step at feeds s (ready _ h) v same (suc m, (c, w, q)) =
    let f = feeds c v q in
    from_ready ss step at feeds (at c) (h (at c) f.0 (subst (Feeds (at c)) same f.1)) c refl (suc m, prepend step m c v c q w)

-- where one number leads to another only if its step gives what the other's reads, none leads to itself
pub no_cycle : (ss : List Step) (step : ℕ → ℕ → Bool) (at : ℕ → Step) → ((a b : ℕ) → step a b ≡ true → IsIn (at a) ss × Feeds (at a) (at b))
    → ((t : Step) → IsIn t ss → Ready ss t) → (v : ℕ) → IsIn (at v) ss → Leads step v v → ⊥
no_cycle ss step at feeds every v is l = from_ready ss step at feeds (at v) (every (at v) is) v refl l
