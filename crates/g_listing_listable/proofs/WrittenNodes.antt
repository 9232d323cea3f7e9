-- The canonical text of what can be listed is bytes: nodes, panels and hierarchies.
use Rattle.std.proofs.Common.{◌≡◌, ◌≤◌, ℕ, zero, suc, ℤ, pos, negsuc, Bool, true, false, List, [], ◌∷◌, map, get_or, Option, Some, None, refl, sym, subst, arith, codes}
use Rattle.std.specs.Fmt.{signed_decimal}
use Rattle.std.specs.List.{All}
use Rattle.std.proofs.lemmas.List.Elements.{All-head, All-tail}
use Rattle.g_types.specs.Ty as types
use Rattle.g_values.specs.declared.primitive.Primitive.{Primitive}
use Rattle.g_values.specs.declared.primitive.Primitive.TheVariants as primitive
use Rattle.g_operations.specs.Rows.{primitive_row}
use Rattle.g_operations.specs.declared.shared.SharedOp.{SharedOp}
use Rattle.g_diagram.specs.declared.panel.Lit.{Lit}
use Rattle.g_diagram.specs.declared.panel.PanelItem.{PanelItem}
use Rattle.g_diagram.specs.declared.panel.PanelItem.TheVariants as panel
use Rattle.g_diagram.specs.declared.node.Tunnel.{Tunnel}
use Rattle.g_diagram.specs.declared.node.Branch.{Branch}
use Rattle.g_diagram.specs.declared.node.Diagram.{Diagram}
use Rattle.g_diagram.specs.declared.node.SequenceFrame.{SequenceFrame}
use Rattle.g_diagram.specs.declared.node.Node.{Node}
use Rattle.g_diagram.specs.declared.node.Node.TheVariants as node
use Rattle.g_diagram.specs.declared.node.Node.TheOpen.{Node-F}
use Rattle.g_diagram.specs.declared.node.Node.TheViews.{out-Node, roll-Node, roll-out-Node}
use Rattle.g_diagram.specs.declared.hierarchy.Clones.{Clones}
use Rattle.g_diagram.specs.declared.hierarchy.Clones.TheVariants as clones
use Rattle.g_diagram.specs.declared.hierarchy.System.{System}
use Rattle.g_diagram.specs.declared.hierarchy.Vi.{Vi}
use Rattle.g_diagram.specs.declared.hierarchy.Hierarchy.{Hierarchy}
use Rattle.g_diagram.specs.Lines.{Wire}
use Rattle.g_diagram.specs.Text as text
use Rattle.g_diagram.specs.Words.{primitive_text, shared_text, clones_text, system_text}
use Rattle.g_listing_words.specs.declared.Operation.TheVariants as operation
use Rattle.g_listing_grammar.specs.declared.Border.{Border}
use Rattle.g_listing_grammar.specs.declared.Border.TheVariants as border
use Rattle.g_listing_grammar.specs.Nodes.{results}
use Rattle.g_listing_laws.specs.Spelled.{IsPoolSize, IsQueueSize}
use Rattle.g_print_laws.specs.Bytes.{IsBytes}
use Rattle.g_print_laws.proofs.TextLemmas.{node-Const, node-Apply, node-Shared, node-Obtain, node-Read, node-Write, node-Call, node-For, node-While, node-Case, node-Sequence, node-InPlace, diagram-nodes, branch-parts, frame-parts}
use Rattle.g_listing_listable.specs.Listable.{IsWire, IsLine, HasElement, IsBranch, IsFrame, AreFrames, IsNodeAt, HasNodes, Nowhere, IsNode, IsDefault, IsItem, IsVi, CanBeListed}
use Rattle.g_listing_listable.proofs.PlainNodes.{is_plain, only_plain}
use Rattle.g_listing_listable.proofs.MakeNodes.{operation_named, shared_named}
use Rattle.g_listing_listable.proofs.MakeListing.{system_named}
use Rattle.g_listing_listable.proofs.WrittenTexts.{Keeps, front, name_bytes, decimal_bytes, quoted_keeps, ty_bytes, listed_keeps, literal_keeps, wire_keeps, wires_keeps, operands_keeps, across_keeps, line_keeps, bare_keeps, borders_keeps, selector_keeps}

abbrev AtDepths : (ℕ → List ℕ → List ℕ) → Type 0
AtDepths block = (depth : ℕ) → Keeps (block depth)

abbrev NodeKeeps : Node → Type 0
NodeKeeps x = AtDepths (text.node x)

-- ---- nodes without diagrams

operation_bytes : (p : Primitive) → HasElement (primitive_row p).field → IsBytes (primitive_text p)
operation_bytes (primitive.Get k) is = decimal_bytes k (let le : k ≤ 63 = is in omega arith)
operation_bytes (primitive.Set k) is = decimal_bytes k (let le : k ≤ 63 = is in omega arith)
operation_bytes _ is = refl

shared_bytes : (s : SharedOp) → IsBytes (shared_text s)
shared_bytes s = name_bytes (shared_text s) (operation_named (shared_text s) (operation.Shared s) (shared_named s))

size_bytes : (z : ℤ) → IsQueueSize z → IsBytes (signed_decimal z)
size_bytes (pos n) is = decimal_bytes n (let few : n ≤ 1000000 = is.1 in omega arith)
size_bytes (negsuc n) is = decimal_bytes (suc n) (let none : n ≡ 0 = is in omega arith)

plain_keeps : (inside : Diagram → Type 0) (y : Node-F Node Branch Diagram SequenceFrame) → is_plain y ≡ true → IsNodeAt inside y → NodeKeeps (roll-Node y)
plain_keeps inside (Node-F.Const t l o) e is = subst NodeKeeps (sym (node.rolls-Const t l o)) λ depth rest h.
    subst IsBytes (sym (node-Const t l o depth rest))
    (line_keeps depth (codes "const") (λ more. text.word (types.text t) (32 ∷ text.literal l (text.arrow (text.wire o more)))) refl
    (λ more k. front (types.text t) (32 ∷ text.literal l (text.arrow (text.wire o more))) (ty_bytes t) (literal_keeps 8 l is.1 (text.arrow (text.wire o more)) (wire_keeps o is.2 more k))) rest h)
plain_keeps inside (Node-F.Apply p ins outs) e is = subst NodeKeeps (sym (node.rolls-Apply p ins outs)) λ depth rest h.
    subst IsBytes (sym (node-Apply p ins outs depth rest)) (line_keeps depth (primitive_text p) (text.operands ins outs) (operation_bytes p is.0) (operands_keeps ins outs is.1) rest h)
plain_keeps inside (Node-F.Shared s ins outs) e is = subst NodeKeeps (sym (node.rolls-Shared s ins outs)) λ depth rest h.
    subst IsBytes (sym (node-Shared s ins outs depth rest)) (line_keeps depth (shared_text s) (text.operands ins outs) (shared_bytes s) (operands_keeps ins outs is) rest h)
plain_keeps inside (Node-F.Obtain q z t o) e is = subst NodeKeeps (sym (node.rolls-Obtain q z t o)) λ depth rest h.
    subst IsBytes (sym (node-Obtain q z t o depth rest))
    (line_keeps depth (codes "obtain") (λ more. 32 ∷ text.quoted q (text.word (signed_decimal z) (text.word (types.text t) (text.arrow (text.wire o more))))) refl
    (λ more k. quoted_keeps q is.0 (text.word (signed_decimal z) (text.word (types.text t) (text.arrow (text.wire o more))))
    (front (signed_decimal z) (text.word (types.text t) (text.arrow (text.wire o more))) (size_bytes z is.1) (front (types.text t) (text.arrow (text.wire o more)) (ty_bytes t) (wire_keeps o is.3 more k)))) rest h)
plain_keeps inside (Node-F.Read x o) e is = subst NodeKeeps (sym (node.rolls-Read x o)) λ depth rest h.
    subst IsBytes (sym (node-Read x o depth rest))
    (line_keeps depth (codes "read") (λ more. text.word x (text.arrow (text.wire o more))) refl (λ more k. front x (text.arrow (text.wire o more)) (name_bytes x is.0) (wire_keeps o is.1 more k)) rest h)
plain_keeps inside (Node-F.Write x i) e is = subst NodeKeeps (sym (node.rolls-Write x i)) λ depth rest h.
    subst IsBytes (sym (node-Write x i depth rest))
    (line_keeps depth (codes "write") (λ more. text.word x (text.wire i more)) refl (λ more k. front x (text.wire i more) (name_bytes x is.0) (wire_keeps i is.1 more k)) rest h)
plain_keeps inside (Node-F.Call x ins outs) e is = subst NodeKeeps (sym (node.rolls-Call x ins outs)) λ depth rest h.
    subst IsBytes (sym (node-Call x ins outs depth rest))
    (line_keeps depth (codes "call") (λ more. text.word x (text.operands ins outs more)) refl (λ more k. front x (text.operands ins outs more) (name_bytes x is.0) (operands_keeps ins outs is.1 more k)) rest h)
plain_keeps inside y e is = absurd cc

-- ---- structures

blocks_keeps : {A : Type 0} (s : A → ℕ → List ℕ → List ℕ) (xs : List A) → All (λ x. AtDepths (s x)) xs → AtDepths (text.blocks (map s xs))
blocks_keeps s [] all depth rest h = h
blocks_keeps s (x ∷ xs) all depth rest h =
    All-head (λ x. AtDepths (s x)) x xs all depth (text.blocks (map s xs) depth rest) (blocks_keeps s xs (All-tail (λ x. AtDepths (s x)) x xs all) depth rest h)

gives_keeps : (ws : List Wire) → All IsWire ws → AtDepths (text.give_text ws)
gives_keeps [] all depth rest h = h
gives_keeps (w ∷ ws) all depth rest h = line_keeps depth (codes "give") (text.wires (w ∷ ws)) refl (wires_keeps (w ∷ ws) all) rest h

module _ (P : Node → Type 0) (each : (x : Node) → P x → NodeKeeps x) where
  body_keeps : (body : Diagram) → (HasNodes P) body → AtDepths (text.diagram body)
  body_keeps body all depth rest h =
      subst IsBytes (sym (diagram-nodes body depth rest)) (blocks_keeps text.node body.nodes (λ k d lt. each (get_or body.nodes k d) (all k d lt)) depth rest h)

  with_body_keeps : (b : Border) (ls : List Tunnel) (body : Diagram) → All (IsLine b) ls → (HasNodes P) body → AtDepths (text.with_body ls (text.diagram body))
  with_body_keeps b ls body lines all depth rest h =
      let inner : List ℕ = text.diagram body (suc depth) rest in
      borders_keeps b ls lines (suc depth) (text.bare_line depth (codes "do") inner) (bare_keeps depth (codes "do") refl inner (body_keeps body all (suc depth) rest h))

  ended_keeps : (block : ℕ → List ℕ → List ℕ) → AtDepths block → AtDepths (text.ended block)
  ended_keeps block k depth rest h = k depth (text.bare_line depth (codes "end") rest) (bare_keeps depth (codes "end") refl rest h)

  branch_keeps : (n : ℕ) (b : Branch) → IsBranch (HasNodes P) n b → AtDepths (text.branch b)
  branch_keeps n b is depth rest h =
      let inner : List ℕ = text.diagram b.body (suc depth) rest in
      subst IsBytes (sym (branch-parts b depth rest))
      (line_keeps depth (codes "when") (λ more. 32 ∷ text.listed (map text.selector_text b.selectors) more) refl
      (λ more k. listed_keeps text.selector_text b.selectors (λ i d lt. selector_keeps (get_or b.selectors i d) (is.selectors i d lt)) more k)
      (text.give_text b.gives (suc depth) inner) (gives_keeps b.gives is.gives (suc depth) inner (body_keeps b.body is.body (suc depth) rest h)))

  frame_keeps : (b : Border) (f : SequenceFrame) → IsFrame (HasNodes P) b f → AtDepths (text.frame f)
  frame_keeps b f is depth rest h =
      let inner : List ℕ = text.with_body f.lines (text.diagram f.body) depth rest in
      subst IsBytes (sym (frame-parts f depth rest)) (bare_keeps depth (codes "frame") refl inner (with_body_keeps b f.lines f.body is.lines is.body depth rest h))

  frames_keeps : (fs : List SequenceFrame) → AreFrames (HasNodes P) fs → AtDepths (text.blocks (map text.frame fs))
  frames_keeps [] is depth rest h = absurd is
  frames_keeps (f ∷ fs) is depth rest h =
      frame_keeps border.FirstFrame f is.0 depth (text.blocks (map text.frame fs) depth rest)
      (blocks_keeps text.frame fs (λ k d lt. frame_keeps border.Frame (get_or fs k d) (is.1 k d lt)) depth rest h)

  loop_keeps : (head : List ℕ) → IsBytes head → (b : Border) (x y : Wire) (ls : List Tunnel) (body : Diagram) → IsWire x → IsWire y → All (IsLine b) ls → (HasNodes P) body → AtDepths (text.loop_block head x y ls (text.diagram body))
  loop_keeps head hb b x y ls body is so lines all depth rest h =
      line_keeps depth head (text.across x y) hb (across_keeps x y is so) (text.ended (text.with_body ls (text.diagram body)) depth rest)
      (ended_keeps (text.with_body ls (text.diagram body)) (with_body_keeps b ls body lines all) depth rest h)

  case_keeps : (w : Wire) (ls : List Tunnel) (bs : List Branch) → IsWire w → All (IsLine border.Case) ls → All (IsBranch (HasNodes P) (results ls)) bs → AtDepths (text.case_block w ls (map text.branch bs))
  case_keeps w ls bs is lines all depth rest h =
      let inner : List ℕ = text.ended (text.blocks (map text.branch bs)) depth rest in
      line_keeps depth (codes "case") (text.wire w) refl (wire_keeps w is) (text.borders ls (suc depth) inner)
      (borders_keeps border.Case ls lines (suc depth) inner
      (ended_keeps (text.blocks (map text.branch bs)) (blocks_keeps text.branch bs (λ k d lt. branch_keeps (results ls) (get_or bs k d) (all k d lt))) depth rest h))

  deep_keeps : (y : Node-F Node Branch Diagram SequenceFrame) → IsNodeAt (HasNodes P) y → NodeKeeps (roll-Node y)
  deep_keeps (Node-F.For a b ls body) is = subst NodeKeeps (sym (node.rolls-For a b ls body)) λ depth rest h.
      subst IsBytes (sym (node-For a b ls body depth rest)) (loop_keeps (codes "for") refl border.For a b ls body is.0 is.1 is.2 is.3 depth rest h)
  deep_keeps (Node-F.While a b ls body) is = subst NodeKeeps (sym (node.rolls-While a b ls body)) λ depth rest h.
      subst IsBytes (sym (node-While a b ls body depth rest)) (loop_keeps (codes "while") refl border.While a b ls body is.0 is.1 is.2 is.3 depth rest h)
  deep_keeps (Node-F.Case w ls bs) is = subst NodeKeeps (sym (node.rolls-Case w ls bs)) λ depth rest h.
      subst IsBytes (sym (node-Case w ls bs depth rest)) (case_keeps w ls bs is.0 is.1 is.3 depth rest h)
  deep_keeps (Node-F.Sequence fs) is = subst NodeKeeps (sym (node.rolls-Sequence fs)) λ depth rest h.
      subst IsBytes (sym (node-Sequence fs depth rest))
      (bare_keeps depth (codes "sequence") refl (text.ended (text.blocks (map text.frame fs)) depth rest) (ended_keeps (text.blocks (map text.frame fs)) (frames_keeps fs is) depth rest h))
  deep_keeps (Node-F.InPlace ls body) is = subst NodeKeeps (sym (node.rolls-InPlace ls body)) λ depth rest h.
      subst IsBytes (sym (node-InPlace ls body depth rest))
      (bare_keeps depth (codes "inplace") refl (text.ended (text.with_body ls (text.diagram body)) depth rest)
      (ended_keeps (text.with_body ls (text.diagram body)) (with_body_keeps border.InPlace ls body is.0 is.1) depth rest h))
  deep_keeps y is = plain_keeps (HasNodes P) y refl is

node_keeps : (n : ℕ) (x : Node) → IsNode n x → NodeKeeps x
unfolding IsNode
node_keeps zero x is = subst NodeKeeps (roll-out-Node x) (plain_keeps Nowhere (out-Node x) (only_plain (out-Node x) is) is)
node_keeps (suc n) x is = subst NodeKeeps (roll-out-Node x) (deep_keeps (IsNode n) (node_keeps n) (out-Node x) is)

-- ---- panels

required_keeps : (required : Bool) → Keeps (text.required_text required)
required_keeps true rest h = h
required_keeps false rest h = h

default_keeps : (default : Option Lit) → IsDefault default → Keeps (text.default_text default)
default_keeps None is rest h = h
default_keeps (Some l) is rest h = literal_keeps 8 l is rest h

item_keeps : (i : PanelItem) → IsItem i → Keeps (text.item i)
item_keeps (panel.Control n t required default out) is =
    line_keeps 1 (codes "control") (text.item_parts (panel.Control n t required default out)) refl λ more k.
    let last : List ℕ = text.arrow (text.wire out more) in
    front n (text.word (types.text t) (text.required_text required (text.default_text default last))) (name_bytes n is.0)
    (front (types.text t) (text.required_text required (text.default_text default last)) (ty_bytes t)
    (required_keeps required (text.default_text default last) (default_keeps default is.2 last (wire_keeps out is.3 more k))))
item_keeps (panel.Indicator n t i) is =
    line_keeps 1 (codes "indicator") (text.item_parts (panel.Indicator n t i)) refl λ more k.
    front n (text.word (types.text t) (text.word (codes "<-") (text.wire i more))) (name_bytes n is.0)
    (front (types.text t) (text.word (codes "<-") (text.wire i more)) (ty_bytes t) (wire_keeps i is.2 more k))

items_keeps : (is : List PanelItem) → All IsItem is → Keeps (text.items is)
items_keeps [] all rest h = h
items_keeps (i ∷ is) all rest h = item_keeps i (All-head IsItem i is all) (text.items is rest) (items_keeps is (All-tail IsItem i is all) rest h)

-- ---- VIs

clones_bytes : (c : Clones) → IsPoolSize c → IsBytes (clones_text c)
clones_bytes clones.NonReentrant size = refl
clones_bytes clones.Preallocated size = refl
clones_bytes (clones.Pool n) size = decimal_bytes n (let few : n ≤ 64 = size.1 in omega arith)

system_bytes : (s : System) → IsBytes (system_text s)
system_bytes s = name_bytes (system_text s) (system_named s)

vi_keeps : (vi : Vi) → IsVi vi → Keeps (text.vi_text vi)
vi_keeps vi is rest h =
    let inner : List ℕ = text.diagram vi.top 1 (text.bare_line 0 (codes "end") rest) in
    line_keeps 0 (codes "vi") (λ more. text.word vi.name (text.word (clones_text vi.clones) (text.word (system_text vi.system) more))) refl
    (λ more k. front vi.name (text.word (clones_text vi.clones) (text.word (system_text vi.system) more)) (name_bytes vi.name is.name)
    (front (clones_text vi.clones) (text.word (system_text vi.system) more) (clones_bytes vi.clones is.clones) (front (system_text vi.system) more (system_bytes vi.system) k)))
    (text.items vi.panel inner)
    (items_keeps vi.panel is.panel inner (body_keeps (IsNode 32) (node_keeps 32) vi.top is.top 1 (text.bare_line 0 (codes "end") rest) (bare_keeps 0 (codes "end") refl rest h)))

vis_keeps : (is : List Vi) → All IsVi is → Keeps (text.vis_text is)
vis_keeps [] all rest h = h
vis_keeps (x ∷ xs) all rest h = vi_keeps x (All-head IsVi x xs all) (text.vis_text xs rest) (vis_keeps xs (All-tail IsVi x xs all) rest h)

pub text_bytes : (h : Hierarchy) → CanBeListed h → IsBytes (text.text_of h)
text_bytes h can = bare_keeps 0 (codes "glisting 1") refl (text.vis_text h.vis []) (vis_keeps h.vis can.vis [] refl)
