-- How the diagrams of a VI lie in one another: each is named by a line inside its node's lines.
use Rattle.std.proofs.Common.{◌≡◌, ◌⊎◌, inl, inr, ⊎_elim, ℕ, suc, ◌+◌, ◌<◌, ◌≤◌, List, [], ◌∷◌, ◌++◌, map, length, refl, sym, ◌∙◌, subst, arith}
use Rattle.std.specs.Prelude.{Option, Some, None}
use Rattle.std.proofs.lemmas.List.{append-nil}
use Rattle.g_types.specs.declared.ty.Ty.{Ty}
use Rattle.g_diagram.specs.declared.node.Tunnel.{Tunnel}
use Rattle.g_diagram.specs.declared.node.Node.{Node}
use Rattle.g_diagram.specs.declared.node.Branch.{Branch}
use Rattle.g_diagram.specs.declared.node.Diagram.{Diagram}
use Rattle.g_diagram.specs.declared.node.SequenceFrame.{SequenceFrame}
use Rattle.g_diagram.specs.declared.node.Node.TheVariants as node
use Rattle.g_diagram.specs.declared.node.Node.TheViews.{roll-Node, roll-Branch, roll-Diagram, roll-SequenceFrame}
use Rattle.g_diagram.specs.declared.node.Node.TheOpen.{Node-F, Branch-F, Diagram-F, SequenceFrame-F}
use Rattle.g_diagram.specs.declared.node.Node.TheFolds.{ind-Node, map-Node, map-Branch, map-Diagram, map-SequenceFrame}
use Rattle.g_diagram.specs.declared.panel.PanelItem.{PanelItem}
use Rattle.g_diagram.specs.declared.panel.PanelItem.TheVariants.{Control, Indicator}
use Rattle.g_diagram.specs.declared.hierarchy.Vi.{Vi}
use Rattle.g_diagram.specs.Lines.{Wire, Lines, BranchLines, FrameLines, Entry, Kind, entry, one_line, loop_lines, in_order, count_of, entries_in, give_lines, branch_count, branches_count, branches_entries, arms, frame_count, frames_count, frames_entries, parts, lines_of, nodes_entries, panel_entries, entries_of, Shows}
use Rattle.g_diagram.specs.Lines as kind
use Rattle.g_diagram.proofs.LineLemmas.{diagram_lines, branch_lines, frame_lines, case_lines, sequence_lines}
use Rattle.g_diagram.proofs.LineLemmas as by
use Rattle.g_typing.proofs.Roles.{bodies, IsAmong}
use Rattle.g_typing.proofs.NodeRoles.{IsAfter, Rise, FramesRise}
use Rattle.g_typing.proofs.Ready.{IsOf, IsNested}

-- nodes with diagrams named by lines from low on and below high
record Within (low high : ℕ) (es : List Entry) : Type 0 where
  lines : (e : Entry) → IsOf e es → e.line < high
  from : (e : Entry) → IsOf e es → (b : ℕ) → IsAmong b (bodies e.kind) → low ≤ b
  below : (e : Entry) → IsOf e es → (b : ℕ) → IsAmong b (bodies e.kind) → b < high
  inner : (e : Entry) → IsOf e es → (b : ℕ) → IsAmong b (bodies e.kind) → e.diagram < b
  one : (e f : Entry) → IsOf e es → IsOf f es → (b : ℕ) → IsAmong b (bodies e.kind) → IsAmong b (bodies f.kind) → f ≡ e
  frames : (e : Entry) → IsOf e es → FramesRise e.kind

none_within : (low high : ℕ) → Within low high []
none_within low high = record {
  lines = λ e is. absurd is;
  from = λ e is b h. absurd is;
  below = λ e is b h. absurd is;
  inner = λ e is b h. absurd is;
  one = λ e f is also b h g. absurd is;
  frames = λ e is. absurd is;
}

wider : (low lower high higher : ℕ) (es : List Entry) → lower ≤ low → high ≤ higher → Within low high es → Within lower higher es
wider low lower high higher es l h w = record {
  lines = λ e is. let x : e.line < high = w.lines e is in omega (arith, x, h);
  from = λ e is b a. let x : low ≤ b = w.from e is b a in omega (arith, x, l);
  below = λ e is b a. let x : b < high = w.below e is b a in omega (arith, x, h);
  inner = w.inner;
  one = w.one;
  frames = w.frames;
}

of_append : (e : Entry) (xs ys : List Entry) → IsOf e (xs ++ ys) → IsOf e xs ⊎ IsOf e ys
of_append e [] ys h = inr h
of_append e (x ∷ xs) ys (inl h) = inl (inl h)
of_append e (x ∷ xs) ys (inr h) = ⊎_elim (λ l. inl (inr l)) (λ r. inr r) (of_append e xs ys h)

one_of : (low mid high : ℕ) (xs ys : List Entry) → Within low mid xs → Within mid high ys → (e f : Entry) → IsOf e xs ⊎ IsOf e ys → IsOf f xs ⊎ IsOf f ys
    → (b : ℕ) → IsAmong b (bodies e.kind) → IsAmong b (bodies f.kind) → f ≡ e
one_of low mid high xs ys v w e f (inl is) (inl also) b h g = v.one e f is also b h g
one_of low mid high xs ys v w e f (inl is) (inr also) b h g = absurd (let x : b < mid = v.below e is b h in let y : mid ≤ b = w.from f also b g in omega (arith, x, y))
one_of low mid high xs ys v w e f (inr is) (inl also) b h g = absurd (let x : b < mid = v.below f also b g in let y : mid ≤ b = w.from e is b h in omega (arith, x, y))
one_of low mid high xs ys v w e f (inr is) (inr also) b h g = w.one e f is also b h g

both : (low mid high : ℕ) (xs ys : List Entry) → low ≤ mid → mid ≤ high → Within low mid xs → Within mid high ys → Within low high (xs ++ ys)
both low mid high xs ys l h v w = record {
  lines = λ e is. ⊎_elim (λ a. let x : e.line < mid = v.lines e a in omega (arith, x, h)) (λ a. w.lines e a) (of_append e xs ys is);
  from = λ e is b i. ⊎_elim (λ a. v.from e a b i) (λ a. let x : mid ≤ b = w.from e a b i in omega (arith, x, l)) (of_append e xs ys is);
  below = λ e is b i. ⊎_elim (λ a. let x : b < mid = v.below e a b i in omega (arith, x, h)) (λ a. w.below e a b i) (of_append e xs ys is);
  inner = λ e is b i. ⊎_elim (λ a. v.inner e a b i) (λ a. w.inner e a b i) (of_append e xs ys is);
  one = λ e f is also b i j. one_of low mid high xs ys v w e f (of_append e xs ys is) (of_append f xs ys also) b i j;
  frames = λ e is. ⊎_elim (λ a. v.frames e a) (λ a. w.frames e a) (of_append e xs ys is);
}

-- numbers of diagrams, and the nodes in them
record Spread (low high : ℕ) (xs : List ℕ) (es : List Entry) : Type 0 where
  within : Within low high es
  from : (x : ℕ) → IsAmong x xs → low ≤ x
  below : (x : ℕ) → IsAmong x xs → x < high
  apart : (x : ℕ) → IsAmong x xs → (f : Entry) → IsOf f es → IsAmong x (bodies f.kind) → ⊥

no_spread : (low high : ℕ) → Spread low high [] []
no_spread low high = record {
  within = none_within low high;
  from = λ x is. absurd is;
  below = λ x is. absurd is;
  apart = λ x is f of h. absurd is;
}

-- one more diagram, on line x, and its nodes
spread_more : (x mid high : ℕ) (xs : List ℕ) (es fs : List Entry) → x < mid → mid ≤ high → Within (suc x) mid es → Spread mid high xs fs → Spread x high (x ∷ xs) (es ++ fs)
spread_more x mid high xs es fs l h w s = record {
  within = both x mid high es fs (omega (arith, l)) h (wider (suc x) x mid mid es (omega arith) (omega arith) w) s.within;
  from = λ y is. ⊎_elim (λ q. let e : x ≡ y = q in omega (arith, e)) (λ i. let g : mid ≤ y = s.from y i in omega (arith, g, l)) is;
  below = λ y is. ⊎_elim (λ q. let e : x ≡ y = q in omega (arith, e, l, h)) (λ i. s.below y i) is;
  apart = λ y is f of among. ⊎_elim
      (λ q. let e : x ≡ y = q in
      ⊎_elim
      (λ a. let g : suc x ≤ y = w.from f a y among in omega (arith, e, g))
      (λ a. let g : mid ≤ y = s.within.from f a y among in omega (arith, e, g, l))
      (of_append f es fs of))
      (λ i. ⊎_elim
      (λ a. let g : y < mid = w.below f a y among in let k : mid ≤ y = s.from y i in omega (arith, g, k))
      (λ a. s.apart y i f a among)
      (of_append f es fs of))
      is;
}

one_on : (low high : ℕ) (e0 : Entry) (es : List Entry) → Spread low high (bodies e0.kind) es → (e f : Entry) → IsOf e (e0 ∷ es) → IsOf f (e0 ∷ es)
    → (b : ℕ) → IsAmong b (bodies e.kind) → IsAmong b (bodies f.kind) → f ≡ e
one_on low high e0 es s e f (inl p) (inl q) b h g = sym q ∙ p
one_on low high e0 es s e f (inl p) (inr q) b h g =
    absurd (s.apart b (let P : Entry → Type 0 = λ (y : Entry). IsAmong b (bodies y.kind) in subst P (sym p) h) f q g)
one_on low high e0 es s e f (inr p) (inl q) b h g =
    absurd (s.apart b (let P : Entry → Type 0 = λ (y : Entry). IsAmong b (bodies y.kind) in subst P (sym q) g) e p h)
one_on low high e0 es s e f (inr p) (inr q) b h g = s.within.one e f p q b h g

-- a node before the nodes of its diagrams
node_first : (low first high : ℕ) (e0 : Entry) (es : List Entry) → low ≤ first → e0.line < high → e0.diagram < first → FramesRise e0.kind → Spread first high (bodies e0.kind) es
    → Within low high (e0 ∷ es)
node_first low first high e0 es l k d rise s = record {
  lines = λ e is. ⊎_elim (λ q. let P : Entry → Type 0 = λ (y : Entry). y.line < high in subst P q k) (λ a. s.within.lines e a) is;
  from = λ e is b i. ⊎_elim
      (λ q. let g : first ≤ b = s.from b (let P : Entry → Type 0 = λ (y : Entry). IsAmong b (bodies y.kind) in subst P (sym q) i) in omega (arith, g, l))
      (λ a. let g : first ≤ b = s.within.from e a b i in omega (arith, g, l))
      is;
  below = λ e is b i. ⊎_elim
      (λ q. s.below b (let P : Entry → Type 0 = λ (y : Entry). IsAmong b (bodies y.kind) in subst P (sym q) i))
      (λ a. s.within.below e a b i)
      is;
  inner = λ e is b i. ⊎_elim
      (λ q. let g : first ≤ b = s.from b (let P : Entry → Type 0 = λ (y : Entry). IsAmong b (bodies y.kind) in subst P (sym q) i) in
      let P : Entry → Type 0 = λ (y : Entry). y.diagram < b in subst P q (omega (arith, g, d)))
      (λ a. s.within.inner e a b i)
      is;
  one = one_on first high e0 es s;
  frames = λ e is. ⊎_elim (λ q. let P : Entry → Type 0 = λ (y : Entry). FramesRise y.kind in subst P q rise) (λ a. s.within.frames e a) is;
}

-- lines whose nodes lie so, wherever they stand
abbrev Good : Lines → Type 0
Good n = (line d : ℕ) → d < line → Within line (line + n.count) (n.entries line d)

one_good : (k : Kind) → bodies k ≡ [] → FramesRise k → Good (one_line k)
one_good k none rise line d lt =
    node_first line (suc line) (line + 1) (entry line d k) [] (omega arith) (omega arith) (omega (arith, lt)) rise
    (let P : List ℕ → Type 0 = λ xs. Spread (suc line) (line + 1) xs [] in subst P (sym none) (no_spread (suc line) (line + 1)))

abbrev AllGood : List Lines → Type 0
AllGood [] = Unit {0}
AllGood (n ∷ ns) = Good n × AllGood ns

all_good : (ns : List Lines) → AllGood ns → Good (in_order ns)
all_good [] h line d lt = none_within line (line + 0)
all_good (n ∷ ns) h line d lt =
    let rest : Within (line + n.count) ((line + n.count) + count_of ns) (entries_in ns (line + n.count) d) = all_good ns h.1 (line + n.count) d (omega (arith, lt)) in
    let w : Within (line + n.count) (line + (n.count + count_of ns)) (entries_in ns (line + n.count) d) =
    wider (line + n.count) (line + n.count) ((line + n.count) + count_of ns) (line + (n.count + count_of ns)) _ (omega arith) (omega arith) rest in
    both line (line + n.count) (line + (n.count + count_of ns)) (n.entries line d) (entries_in ns (line + n.count) d) (omega arith) (omega arith) (h.0 line d lt) w

spread_one : (x high : ℕ) (es : List Entry) → x < high → Within (suc x) high es → Spread x high (x ∷ []) es
spread_one x high es l w =
    let P : List Entry → Type 0 = λ fs. Spread x high (x ∷ []) fs in
    subst P (append-nil es) (spread_more x high high [] es [] l (omega arith) w (no_spread high high))

taller : (low high higher : ℕ) (xs : List ℕ) (es : List Entry) → high ≤ higher → Spread low high xs es → Spread low higher xs es
taller low high higher xs es h s = record {
  within = wider low low high higher es (omega arith) h s.within;
  from = s.from;
  below = λ x is. let l : x < high = s.below x is in omega (arith, l, h);
  apart = s.apart;
}

loop_good : (ts : List Tunnel) (body : Lines) (k : (body finish : ℕ) → Kind) → ((b f : ℕ) → bodies (k b f) ≡ b ∷ []) → ((b f : ℕ) → FramesRise (k b f)) → Good body → Good (loop_lines ts body k)
loop_good ts body k is rise good line d lt =
    let first : ℕ = line + 1 + length ts in
    let high : ℕ = line + (3 + length ts + body.count) in
    let es : List Entry = body.entries (first + 1) first in
    let w : Within (suc first) high es = wider (first + 1) (suc first) ((first + 1) + body.count) high es (omega arith) (omega arith) (good (first + 1) first (omega arith)) in
    let P : List ℕ → Type 0 = λ xs. Spread first high xs es in
    node_first line first high (entry line d (k first (first + 1 + body.count))) es (omega arith) (omega arith) (omega (arith, lt)) (rise first (first + 1 + body.count))
    (subst P (sym (is first (first + 1 + body.count))) (spread_one first high es (omega arith) w))

abbrev AllBranches : List BranchLines → Type 0
AllBranches [] = Unit {0}
AllBranches (b ∷ bs) = Good b.body × AllBranches bs

branches_spread : (line : ℕ) (bs : List BranchLines) → AllBranches bs → Spread line (line + branches_count bs) (map (λ a. a.body) (arms line bs)) (branches_entries line bs)
branches_spread line [] h = no_spread line (line + 0)
branches_spread line (b ∷ bs) h =
    let mid : ℕ = line + branch_count b in
    let high : ℕ = line + (branch_count b + branches_count bs) in
    let es : List Entry = b.body.entries (line + 1 + give_lines b.gives) line in
    let w : Within (suc line) mid es =
    wider (line + 1 + give_lines b.gives) (suc line) ((line + 1 + give_lines b.gives) + b.body.count) mid es (omega arith) (omega arith) (h.0 (line + 1 + give_lines b.gives) line (omega arith)) in
    spread_more line mid high (map (λ a. a.body) (arms mid bs)) es (branches_entries mid bs) (omega arith) (omega arith) w
    (taller mid (mid + branches_count bs) high (map (λ a. a.body) (arms mid bs)) (branches_entries mid bs) (omega arith) (branches_spread mid bs h.1))

case_good : (selector : Wire) (ts : List Tunnel) (bs : List BranchLines) → AllBranches bs → Good (case_lines selector ts bs)
case_good selector ts bs h line d lt =
    let first : ℕ = line + 1 + length ts in
    let high : ℕ = line + (2 + length ts + branches_count bs) in
    node_first line first high (entry line d (kind.Case selector ts (arms first bs))) (branches_entries first bs) (omega arith) (omega arith) (omega (arith, lt)) tt
    (taller first (first + branches_count bs) high (map (λ a. a.body) (arms first bs)) (branches_entries first bs) (omega arith) (branches_spread first bs h))

abbrev AllFrames : List FrameLines → Type 0
AllFrames [] = Unit {0}
AllFrames (f ∷ fs) = Good f.body × AllFrames fs

frames_spread : (line : ℕ) (fs : List FrameLines) → AllFrames fs → Spread line (line + frames_count fs) (map (λ p. p.body) (parts line fs)) (frames_entries line fs)
frames_spread line [] h = no_spread line (line + 0)
frames_spread line (f ∷ fs) h =
    let mid : ℕ = line + frame_count f in
    let high : ℕ = line + (frame_count f + frames_count fs) in
    let es : List Entry = f.body.entries (line + 2 + length f.lines) line in
    let w : Within (suc line) mid es =
    wider (line + 2 + length f.lines) (suc line) ((line + 2 + length f.lines) + f.body.count) mid es (omega arith) (omega arith) (h.0 (line + 2 + length f.lines) line (omega arith)) in
    spread_more line mid high (map (λ p. p.body) (parts mid fs)) es (frames_entries mid fs) (omega arith) (omega arith) w
    (taller mid (mid + frames_count fs) high (map (λ p. p.body) (parts mid fs)) (frames_entries mid fs) (omega arith) (frames_spread mid fs h.1))

rising : (before : Option ℕ) (line : ℕ) (fs : List FrameLines) → IsAfter before line → Rise before (parts line fs)
rising before line [] h = tt
rising before line (f ∷ fs) h = (h, rising (Some line) (line + frame_count f) fs (omega arith))

sequence_good : (fs : List FrameLines) → AllFrames fs → Good (sequence_lines fs)
sequence_good fs h line d lt =
    let first : ℕ = line + 1 in
    let high : ℕ = line + (2 + frames_count fs) in
    node_first line first high (entry line d (kind.Sequence (parts first fs))) (frames_entries first fs) (omega arith) (omega arith) (omega (arith, lt)) (rising None first fs tt)
    (taller first (first + frames_count fs) high (map (λ p. p.body) (parts first fs)) (frames_entries first fs) (omega arith) (frames_spread first fs h))

-- each node

abbrev IsGood : Node → Type 0
IsGood n = Good (lines_of n)

abbrev GoodDiagram : Diagram → Type 0
GoodDiagram d = Good (diagram_lines d)

abbrev GoodBranch : Branch → Type 0
GoodBranch b = Good (branch_lines b).body

abbrev GoodFrame : SequenceFrame → Type 0
GoodFrame f = Good (frame_lines f).body

abbrev Node' : Type 0
Node' = (n : Node) × IsGood n

abbrev Branch' : Type 0
Branch' = (b : Branch) × GoodBranch b

abbrev Diagram' : Type 0
Diagram' = (d : Diagram) × GoodDiagram d

abbrev Frame' : Type 0
Frame' = (f : SequenceFrame) × GoodFrame f

nodes_good : (ps : List Node') → AllGood (map lines_of (map (λ p. p.0) ps))
nodes_good [] = tt
nodes_good (p ∷ ps) = (p.1, nodes_good ps)

all_branches : (ps : List Branch') → AllBranches (map branch_lines (map (λ p. p.0) ps))
all_branches [] = tt
all_branches (p ∷ ps) = (p.1, all_branches ps)

all_frames : (ps : List Frame') → AllFrames (map frame_lines (map (λ p. p.0) ps))
all_frames [] = tt
all_frames (p ∷ ps) = (p.1, all_frames ps)

-- a node made by its variant
rolled : (m n : Node) (l : Lines) → m ≡ n → lines_of n ≡ l → Good l → IsGood m
rolled m n l e f g = subst IsGood (sym e) (subst Good (sym f) g)

level : (y : Node-F Node' Branch' Diagram' Frame') → IsGood (roll-Node (map-Node Node' Branch' Diagram' Frame' Node Branch Diagram SequenceFrame (λ p. p.0) (λ p. p.0) (λ p. p.0) (λ p. p.0) y))
level (Node-F.Const t l out) = rolled _ (node.Const t l out) _ (node.rolls-Const t l out) (by.lines-Const t l out) (one_good (kind.Const t l out) refl tt)
level (Node-F.Apply op inputs outputs) = rolled _ (node.Apply op inputs outputs) _ (node.rolls-Apply op inputs outputs) (by.lines-Apply op inputs outputs) (one_good (kind.Apply op inputs outputs) refl tt)
level (Node-F.Shared op inputs outputs) = rolled _ (node.Shared op inputs outputs) _ (node.rolls-Shared op inputs outputs) (by.lines-Shared op inputs outputs) (one_good (kind.Shared op inputs outputs) refl tt)
level (Node-F.Obtain queue size item out) = rolled _ (node.Obtain queue size item out) _ (node.rolls-Obtain queue size item out) (by.lines-Obtain queue size item out) (one_good (kind.Obtain queue size item out) refl tt)
level (Node-F.Read object out) = rolled _ (node.Read object out) _ (node.rolls-Read object out) (by.lines-Read object out) (one_good (kind.Read object out) refl tt)
level (Node-F.Write object input) = rolled _ (node.Write object input) _ (node.rolls-Write object input) (by.lines-Write object input) (one_good (kind.Write object input) refl tt)
level (Node-F.Call vi inputs outputs) = rolled _ (node.Call vi inputs outputs) _ (node.rolls-Call vi inputs outputs) (by.lines-Call vi inputs outputs) (one_good (kind.Call vi inputs outputs) refl tt)
level (Node-F.For count iteration ts body) =
    rolled _ (node.For count iteration ts body.0) _ (node.rolls-For count iteration ts body.0) (by.lines-For count iteration ts body.0)
    (loop_good ts (diagram_lines body.0) (λ first finish. kind.Loop (Some count) None iteration ts first) (λ b f. refl) (λ b f. tt) body.1)
level (Node-F.While stop iteration ts body) =
    rolled _ (node.While stop iteration ts body.0) _ (node.rolls-While stop iteration ts body.0) (by.lines-While stop iteration ts body.0)
    (loop_good ts (diagram_lines body.0) (λ first finish. kind.Loop None (Some stop) iteration ts first) (λ b f. refl) (λ b f. tt) body.1)
level (Node-F.Case selector ts branches) =
    let bs : List Branch = map (λ (p : Branch'). p.0) branches in
    rolled _ (node.Case selector ts bs) _ (node.rolls-Case selector ts bs) (by.lines-Case selector ts bs) (case_good selector ts (map branch_lines bs) (all_branches branches))
level (Node-F.Sequence frames) =
    let fs : List SequenceFrame = map (λ (p : Frame'). p.0) frames in
    rolled _ (node.Sequence fs) _ (node.rolls-Sequence fs) (by.lines-Sequence fs) (sequence_good (map frame_lines fs) (all_frames frames))
level (Node-F.InPlace ts body) =
    rolled _ (node.InPlace ts body.0) _ (node.rolls-InPlace ts body.0) (by.lines-InPlace ts body.0)
    (loop_good ts (diagram_lines body.0) (kind.InPlace ts) (λ b f. refl) (λ b f. tt) body.1)

branch_level : (y : Branch-F Node' Branch' Diagram' Frame') → GoodBranch (roll-Branch (map-Branch Node' Branch' Diagram' Frame' Node Branch Diagram SequenceFrame (λ p. p.0) (λ p. p.0) (λ p. p.0) (λ p. p.0) y))
branch_level y =
    subst (λ (l : BranchLines). Good l.body) (sym (by.lines-branch (roll-Branch (map-Branch Node' Branch' Diagram' Frame' Node Branch Diagram SequenceFrame (λ p. p.0) (λ p. p.0) (λ p. p.0) (λ p. p.0) y)))) y.body.1

frame_level : (y : SequenceFrame-F Node' Branch' Diagram' Frame')
    → GoodFrame (roll-SequenceFrame (map-SequenceFrame Node' Branch' Diagram' Frame' Node Branch Diagram SequenceFrame (λ p. p.0) (λ p. p.0) (λ p. p.0) (λ p. p.0) y))
frame_level y =
    subst (λ (l : FrameLines). Good l.body)
    (sym (by.lines-frame (roll-SequenceFrame (map-SequenceFrame Node' Branch' Diagram' Frame' Node Branch Diagram SequenceFrame (λ p. p.0) (λ p. p.0) (λ p. p.0) (λ p. p.0) y)))) y.body.1

diagram_level : (y : Diagram-F Node' Branch' Diagram' Frame') → GoodDiagram (roll-Diagram (map-Diagram Node' Branch' Diagram' Frame' Node Branch Diagram SequenceFrame (λ p. p.0) (λ p. p.0) (λ p. p.0) (λ p. p.0) y))
diagram_level y =
    subst Good (sym (by.lines-diagram (roll-Diagram (map-Diagram Node' Branch' Diagram' Frame' Node Branch Diagram SequenceFrame (λ p. p.0) (λ p. p.0) (λ p. p.0) (λ p. p.0) y))))
    (all_good (map lines_of (map (λ p. p.0) y.nodes)) (nodes_good y.nodes))

node_good : (n : Node) → IsGood n
node_good = ind-Node IsGood GoodBranch GoodDiagram GoodFrame
    (λ x y is. subst (λ z. IsGood (roll-Node z)) is (level y))
    (λ x y is. subst (λ z. GoodBranch (roll-Branch z)) is (branch_level y))
    (λ x y is. subst (λ z. GoodDiagram (roll-Diagram z)) is (diagram_level y))
    (λ x y is. subst (λ z. GoodFrame (roll-SequenceFrame z)) is (frame_level y))

-- the nodes of a VI

all_nodes : (ns : List Node) (line d : ℕ) → d < line → Within line (line + count_of (map lines_of ns)) (nodes_entries ns line d)
all_nodes [] line d lt = none_within line (line + 0)
all_nodes (n ∷ ns) line d lt =
    let c : ℕ = (lines_of n).count in
    let high : ℕ = line + (c + count_of (map lines_of ns)) in
    both line (line + c) high ((lines_of n).entries line d) (nodes_entries ns (line + c) d) (omega arith) (omega arith) (node_good n line d lt)
    (wider (line + c) (line + c) ((line + c) + count_of (map lines_of ns)) high (nodes_entries ns (line + c) d) (omega arith) (omega arith) (all_nodes ns (line + c) d (omega (arith, lt))))

shown : (name : List ℕ) (t : Ty) (w : List ℕ) (line : ℕ) (items : List PanelItem) → Within (suc line) (suc line + length items) (panel_entries items (line + 1))
    → Within line (line + suc (length items)) (panel_entries (Indicator name t (Some w) ∷ items) line)
shown name t w line items h =
    let high : ℕ = line + suc (length items) in
    node_first line (suc line) high (entry line 0 (Shows name t (Some w))) (panel_entries items (line + 1)) (omega arith) (omega arith) (omega arith) tt
    (record {
      within = wider (suc line) (suc line) (suc line + length items) high (panel_entries items (line + 1)) (omega arith) (omega arith) h;
      from = λ x is. absurd is;
      below = λ x is. absurd is;
      apart = λ x is f of g. absurd is;
    })

next : (line : ℕ) (items : List PanelItem) → Within (line + 1) ((line + 1) + length items) (panel_entries items (line + 1)) → Within (suc line) (suc line + length items) (panel_entries items (line + 1))
next line items h = wider (line + 1) (suc line) ((line + 1) + length items) (suc line + length items) (panel_entries items (line + 1)) (omega arith) (omega arith) h

panel_within : (items : List PanelItem) (line : ℕ) → Within line (line + length items) (panel_entries items line)
panel_within [] line = none_within line (line + 0)
panel_within (Indicator name t (Some w) ∷ items) line = shown name t w line items (next line items (panel_within items (line + 1)))
panel_within (Indicator name t None ∷ items) line = wider (line + 1) line ((line + 1) + length items) (line + suc (length items)) _ (omega arith) (omega arith) (panel_within items (line + 1))
panel_within (Control name t required default out ∷ items) line = wider (line + 1) line ((line + 1) + length items) (line + suc (length items)) _ (omega arith) (omega arith) (panel_within items (line + 1))

-- the number of a VI's lines, but for its `end`
abbrev pub line_count : Vi → ℕ
line_count vi = (1 + length vi.panel) + count_of (map lines_of vi.top.nodes)

-- the diagrams of a VI lie in one another
pub nested : (vi : Vi) → IsNested (line_count vi) (entries_of vi)
nested vi =
    let w : Within 1 (line_count vi) (entries_of vi) =
    both 1 (1 + length vi.panel) (line_count vi) (panel_entries vi.panel 1) (nodes_entries vi.top.nodes (1 + length vi.panel) 0) (omega arith) (omega arith)
    (panel_within vi.panel 1) (all_nodes vi.top.nodes (1 + length vi.panel) 0 (omega arith)) in
    record { lines = w.lines; below = w.below; inner = w.inner; one = w.one; frames = w.frames }
