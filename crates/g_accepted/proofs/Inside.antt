-- How the nodes of a whole VI lie in one another.
use Rattle.std.proofs.Common.{◌≡◌, ◌⊎◌, inl, inr, ⊎_elim, ℕ, suc, ◌+◌, ◌<◌, List, [], ◌∷◌, map, length, Some, None, refl, ap, sym, subst, arith}
use Rattle.g_types.specs.declared.ty.Ty.{Ty}
use Rattle.g_diagram.specs.declared.node.Tunnel.{Tunnel}
use Rattle.g_diagram.specs.declared.node.Node.{Node}
use Rattle.g_diagram.specs.declared.node.Branch.{Branch}
use Rattle.g_diagram.specs.declared.node.Diagram.{Diagram}
use Rattle.g_diagram.specs.declared.node.SequenceFrame.{SequenceFrame}
use Rattle.g_diagram.specs.declared.node.Node.TheViews.{roll-Node, roll-Branch, roll-Diagram, roll-SequenceFrame}
use Rattle.g_diagram.specs.declared.node.Node.TheOpen.{Node-F, Branch-F, Diagram-F, SequenceFrame-F}
use Rattle.g_diagram.specs.declared.node.Node.TheFolds.{ind-Node, map-Node, map-Branch, map-Diagram, map-SequenceFrame, fold-roll-Node}
use Rattle.g_diagram.specs.declared.panel.PanelItem.{PanelItem}
use Rattle.g_diagram.specs.declared.panel.PanelItem.TheVariants.{Control, Indicator}
use Rattle.g_diagram.specs.declared.hierarchy.Vi.{Vi}
use Rattle.g_diagram.specs.Lines.{Wire, Lines, BranchLines, FrameLines, Entry, Kind, entry, arms, branches_count, branches_entries, parts, frames_count, frames_entries, count_of, lines_of, node_step, branch_step, diagram_step, frame_step, nodes_entries, panel_entries, entries_of, Case, Sequence, InPlace, Shows}
use Rattle.g_diagram.specs.Lines as kind
use Rattle.g_diagram.proofs.LineLemmas.{diagram_lines, branch_lines, frame_lines, case_lines, sequence_lines, lines-diagram, lines-branch, lines-frame, in_turn}
use Rattle.g_typing.proofs.Roles.{bodies}
use Rattle.g_accepted.proofs.Facts.{IsIn, in_right, in_either}
use Rattle.g_accepted.proofs.Ranged.{IsApart, before_it, IsOwned, Ranged, wider, Only, Nowhere, node_first, Good, one_good, AllGood, all_good, loop_good, AllBranches, branch_bodies, branches_ranged, AllFrames, frame_bodies, frames_ranged}

-- no node of a diagram is an indicator
abbrev pub NotShown : Entry → Type 0
NotShown e = (name : List ℕ) (t : Ty) (w : Wire) → e.kind ≡ Shows name t w → ⊥

case_good : (selector : Wire) (ts : List Tunnel) (bs : List BranchLines) → AllBranches NotShown bs → Good NotShown (case_lines selector ts bs)
case_good selector ts bs h line z lt =
    let first : ℕ = line + 1 + length ts in
    let high : ℕ = line + (2 + length ts + branches_count bs) in
    let e : Entry = entry line z (Case selector ts (arms first bs)) in
    node_first NotShown z first high e (branches_entries first bs) lt (omega arith) (omega arith) refl
    (λ x i. let a = branch_bodies NotShown first bs x i in let u = a.0 in let w = a.1 in (u, omega (arith, w)))
    (λ n t w same. absurd (cc same))
    (wider NotShown (Nowhere NotShown) (map (λ a. a.body) (arms first bs)) first first (first + branches_count bs) high (branches_entries first bs) (omega arith) (omega arith) (branches_ranged NotShown first bs h))
    (λ us b f same. absurd (cc same))

sequence_good : (fs : List FrameLines) → AllFrames NotShown fs → Good NotShown (sequence_lines fs)
sequence_good fs h line z lt =
    let first : ℕ = line + 1 in
    let high : ℕ = line + (2 + frames_count fs) in
    let e : Entry = entry line z (Sequence (parts first fs)) in
    node_first NotShown z first high e (frames_entries first fs) lt (omega arith) (omega arith) refl
    (λ x i. let a = frame_bodies NotShown first fs x i in let u = a.0 in let w = a.1 in (u, omega (arith, w)))
    (λ n t w same. absurd (cc same))
    (wider NotShown (Nowhere NotShown) (map (λ p. p.body) (parts first fs)) first first (first + frames_count fs) high (frames_entries first fs) (omega arith) (omega arith) (frames_ranged NotShown first fs h))
    (λ us b f same. absurd (cc same))

-- ---- each node

abbrev IsGood : Node → Type 0
IsGood n = Good NotShown (lines_of n)

abbrev GoodDiagram : Diagram → Type 0
GoodDiagram x = Good NotShown (diagram_lines x)

abbrev GoodBranch : Branch → Type 0
GoodBranch b = Good NotShown (branch_lines b).body

abbrev GoodFrame : SequenceFrame → Type 0
GoodFrame f = Good NotShown (frame_lines f).body

abbrev Node' : Type 0
Node' = (n : Node) × IsGood n

abbrev Branch' : Type 0
Branch' = (b : Branch) × GoodBranch b

abbrev Diagram' : Type 0
Diagram' = (x : Diagram) × GoodDiagram x

abbrev Frame' : Type 0
Frame' = (f : SequenceFrame) × GoodFrame f

nodes_good : (ps : List Node') → AllGood NotShown (map lines_of (map (λ p. p.0) ps))
nodes_good [] = tt
nodes_good (p ∷ ps) = (p.1, nodes_good ps)

all_branches : (ps : List Branch') → AllBranches NotShown (map branch_lines (map (λ p. p.0) ps))
all_branches [] = tt
all_branches (p ∷ ps) = (p.1, all_branches ps)

all_frames : (ps : List Frame') → AllFrames NotShown (map frame_lines (map (λ p. p.0) ps))
all_frames [] = tt
all_frames (p ∷ ps) = (p.1, all_frames ps)

-- a node without what is said of its parts
abbrev bare : Node-F Node' Branch' Diagram' Frame' → Node-F Node Branch Diagram SequenceFrame
bare = map-Node Node' Branch' Diagram' Frame' Node Branch Diagram SequenceFrame (λ p. p.0) (λ p. p.0) (λ p. p.0) (λ p. p.0)

step_good : (y : Node-F Node' Branch' Diagram' Frame') → Good NotShown (node_step (map-Node Node Branch Diagram SequenceFrame Lines BranchLines Lines FrameLines lines_of branch_lines diagram_lines frame_lines (bare y)))
step_good (Node-F.Const t l out) = one_good NotShown (kind.Const t l out) refl (λ ts b f e. absurd (cc e)) (λ line z n u w e. absurd (cc e))
step_good (Node-F.Apply op inputs outputs) = one_good NotShown (kind.Apply op inputs outputs) refl (λ ts b f e. absurd (cc e)) (λ line z n u w e. absurd (cc e))
step_good (Node-F.Shared op inputs outputs) = one_good NotShown (kind.Shared op inputs outputs) refl (λ ts b f e. absurd (cc e)) (λ line z n u w e. absurd (cc e))
step_good (Node-F.Obtain queue size item out) = one_good NotShown (kind.Obtain queue size item out) refl (λ ts b f e. absurd (cc e)) (λ line z n u w e. absurd (cc e))
step_good (Node-F.Read object out) = one_good NotShown (kind.Read object out) refl (λ ts b f e. absurd (cc e)) (λ line z n u w e. absurd (cc e))
step_good (Node-F.Write object input) = one_good NotShown (kind.Write object input) refl (λ ts b f e. absurd (cc e)) (λ line z n u w e. absurd (cc e))
step_good (Node-F.Call vi inputs outputs) = one_good NotShown (kind.Call vi inputs outputs) refl (λ ts b f e. absurd (cc e)) (λ line z n u w e. absurd (cc e))
step_good (Node-F.For count iteration ts body) =
    loop_good NotShown ts (diagram_lines body.0) (λ first finish. kind.Loop (Some count) None iteration ts first) (λ b f. refl) (λ b f us c g e. absurd (cc e)) (λ line z b f n u w e. absurd (cc e)) body.1
step_good (Node-F.While stop iteration ts body) =
    loop_good NotShown ts (diagram_lines body.0) (λ first finish. kind.Loop None (Some stop) iteration ts first) (λ b f. refl) (λ b f us c g e. absurd (cc e)) (λ line z b f n u w e. absurd (cc e)) body.1
step_good (Node-F.InPlace ts body) =
    loop_good NotShown ts (diagram_lines body.0) (kind.InPlace ts) (λ b f. refl) (λ b f us c g e. (ap body_of e, ap finish_of e)) (λ line z b f n u w e. absurd (cc e)) body.1
  where
    body_of : Kind → ℕ
    body_of (kind.InPlace ts b f) = b
    body_of _ = 0

    finish_of : Kind → ℕ
    finish_of (kind.InPlace ts b f) = f
    finish_of _ = 0
step_good (Node-F.Case selector ts branches) = case_good selector ts _ (all_branches branches)
step_good (Node-F.Sequence frames) = sequence_good _ (all_frames frames)

level : (y : Node-F Node' Branch' Diagram' Frame') → IsGood (roll-Node (bare y))
level y = subst (Good NotShown) (sym (fold-roll-Node Lines BranchLines Lines FrameLines node_step branch_step diagram_step frame_step (bare y))) (step_good y)

abbrev bare_branch : Branch-F Node' Branch' Diagram' Frame' → Branch-F Node Branch Diagram SequenceFrame
bare_branch = map-Branch Node' Branch' Diagram' Frame' Node Branch Diagram SequenceFrame (λ p. p.0) (λ p. p.0) (λ p. p.0) (λ p. p.0)

branch_level : (y : Branch-F Node' Branch' Diagram' Frame') → GoodBranch (roll-Branch (bare_branch y))
branch_level y = subst (λ (l : BranchLines). Good NotShown l.body) (sym (lines-branch (roll-Branch (bare_branch y)))) y.body.1

abbrev bare_frame : SequenceFrame-F Node' Branch' Diagram' Frame' → SequenceFrame-F Node Branch Diagram SequenceFrame
bare_frame = map-SequenceFrame Node' Branch' Diagram' Frame' Node Branch Diagram SequenceFrame (λ p. p.0) (λ p. p.0) (λ p. p.0) (λ p. p.0)

frame_level : (y : SequenceFrame-F Node' Branch' Diagram' Frame') → GoodFrame (roll-SequenceFrame (bare_frame y))
frame_level y = subst (λ (l : FrameLines). Good NotShown l.body) (sym (lines-frame (roll-SequenceFrame (bare_frame y)))) y.body.1

abbrev bare_diagram : Diagram-F Node' Branch' Diagram' Frame' → Diagram-F Node Branch Diagram SequenceFrame
bare_diagram = map-Diagram Node' Branch' Diagram' Frame' Node Branch Diagram SequenceFrame (λ p. p.0) (λ p. p.0) (λ p. p.0) (λ p. p.0)

diagram_level : (y : Diagram-F Node' Branch' Diagram' Frame') → GoodDiagram (roll-Diagram (bare_diagram y))
diagram_level y = subst (Good NotShown) (sym (lines-diagram (roll-Diagram (bare_diagram y)))) (all_good NotShown (map lines_of (map (λ p. p.0) y.nodes)) (nodes_good y.nodes))

node_good : (n : Node) → IsGood n
node_good = ind-Node IsGood GoodBranch GoodDiagram GoodFrame
    (λ x y is. subst (λ z. IsGood (roll-Node z)) is (level y))
    (λ x y is. subst (λ z. GoodBranch (roll-Branch z)) is (branch_level y))
    (λ x y is. subst (λ z. GoodDiagram (roll-Diagram z)) is (diagram_level y))
    (λ x y is. subst (λ z. GoodFrame (roll-SequenceFrame z)) is (frame_level y))

every_good : (ns : List Node) → AllGood NotShown (map lines_of ns)
every_good [] = tt
every_good (n ∷ ns) = (node_good n, every_good ns)

-- ---- a VI

-- the nodes of a VI below its panel
pub top_ranged : (vi : Vi) → Ranged NotShown (Only NotShown 0) [] (1 + length vi.panel) ((1 + length vi.panel) + count_of (map lines_of vi.top.nodes)) (nodes_entries vi.top.nodes (1 + length vi.panel) 0)
top_ranged vi =
    let low : ℕ = 1 + length vi.panel in
    subst (Ranged NotShown (Only NotShown 0) [] low (low + count_of (map lines_of vi.top.nodes))) (sym (in_turn vi.top.nodes low 0))
    (all_good NotShown (map lines_of vi.top.nodes) (every_good vi.top.nodes) low 0 (omega arith))

-- an indicator is a node of the VI's own diagram, on its panel
pub record IsPanelEntry (high : ℕ) (e : Entry) : Type 0 where
  pub above : e.line < high
  pub diagram : e.diagram ≡ 0
  pub none_inside : bodies e.kind ≡ []
  pub no_place : (ts : List Tunnel) (b f : ℕ) → e.kind ≡ InPlace ts b f → ⊥

panel_entry : (items : List PanelItem) (l : ℕ) (e : Entry) → IsIn e (panel_entries items l) → IsPanelEntry (l + length items) e
panel_entry [] l e is = absurd is
panel_entry (Indicator name t (Some n) ∷ items) l e (inl same) =
    subst (IsPanelEntry (l + suc (length items))) same (record { above = omega arith; diagram = refl; none_inside = refl; no_place = λ ts b f k. absurd (cc k) })
panel_entry (Indicator name t (Some n) ∷ items) l e (inr is) = let r = panel_entry items (l + 1) e is in let a = r.above in record { above = omega (arith, a); diagram = r.diagram; none_inside = r.none_inside; no_place = r.no_place }
panel_entry (Indicator name t None ∷ items) l e is = let r = panel_entry items (l + 1) e is in let a = r.above in record { above = omega (arith, a); diagram = r.diagram; none_inside = r.none_inside; no_place = r.no_place }
panel_entry (Control name t required default out ∷ items) l e is = let r = panel_entry items (l + 1) e is in let a = r.above in record { above = omega (arith, a); diagram = r.diagram; none_inside = r.none_inside; no_place = r.no_place }

pub of_vi : (vi : Vi) (e : Entry) → IsIn e (entries_of vi) → IsPanelEntry (1 + length vi.panel) e ⊎ IsIn e (nodes_entries vi.top.nodes (1 + length vi.panel) 0)
of_vi vi e is = ⊎_elim (λ a. inl (panel_entry vi.panel 1 e a)) inr (in_either e (panel_entries vi.panel 1) (nodes_entries vi.top.nodes (1 + length vi.panel) 0) is)

-- a structure in place of a VI, with its body and `end`
pub record IsPlaced (vi : Vi) (p : Entry) (b f : ℕ) : Type 0 where
  pub line : p.line < b
  pub body : b < f
  pub apart : (e : Entry) → IsIn e (entries_of vi) → IsApart b f e

pub placed : (vi : Vi) (p : Entry) → IsIn p (entries_of vi) → (ts : List Tunnel) (b f : ℕ) → p.kind ≡ InPlace ts b f → IsPlaced vi p b f
placed vi p is ts b f k = ⊎_elim
    (λ (a : IsPanelEntry (1 + length vi.panel) p). absurd (a.no_place ts b f k))
    (λ i.
    let r = top_ranged vi in
    let a = r.places p i ts b f k in
    let low_p = (r.lines p i).0 in
    let p_b = a.0 in
    record {
      line = a.0;
      body = a.1;
      apart = λ e also. ⊎_elim
          (λ (x : IsPanelEntry (1 + length vi.panel) e).
          let up = x.above in
          let d = x.diagram in
          before_it b f e (omega (arith, up, low_p, p_b)) (inl (omega (arith, d, p_b))) (λ y h. absurd (subst (λ (ys : List ℕ). IsIn y ys) x.none_inside h)))
          (r.apart p i ts b f k e)
          (of_vi vi e also);
    })
    (of_vi vi p is)

-- the node whose diagram a node stands in
pub owner_of : (vi : Vi) (e : Entry) → IsIn e (entries_of vi) → (e.diagram ≡ 0) ⊎ IsOwned NotShown (entries_of vi) e
owner_of vi e is = ⊎_elim
    (λ (a : IsPanelEntry (1 + length vi.panel) e). inl a.diagram)
    (λ i. ⊎_elim inl
    (λ r. ⊎_elim (λ none. absurd none)
    (λ (o : IsOwned NotShown (nodes_entries vi.top.nodes (1 + length vi.panel) 0) e).
    inr (record { owner = o.owner; stands = in_right o.owner (panel_entries vi.panel 1) (nodes_entries vi.top.nodes (1 + length vi.panel) 0) o.stands; body = o.body; before = o.before }))
    r)
    ((top_ranged vi).owned e i))
    (of_vi vi e is)
