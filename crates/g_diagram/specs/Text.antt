-- The canonical text of a hierarchy. Each spelling takes the bytes that follow it, so that nothing is cut or regrouped: tokens with one
-- space between them, two spaces before a line for each VI or structure around it, numbers without a needless zero, every wire's name or
-- `_`, both words of the `vi` line.
use Rattle.std.specs.Prelude.{ℕ, zero, suc, ◌+◌, Bool, true, false, List, [], ◌∷◌, ◌++◌, map, Option, Some, None, ℤ, codes}
use Rattle.std.specs.Fmt.{signed_decimal, decimal}
use Rattle.g_types.specs.Ty as types
use Rattle.g_values.specs.Text as values
use Rattle.g_types.specs.declared.ty.Ty.{Ty}
use Rattle.g_diagram.specs.declared.panel.Lit.{Lit}
use Rattle.g_diagram.specs.declared.panel.Lit.TheOpen.{Lit-F}
use Rattle.g_diagram.specs.declared.panel.Lit.TheFolds.{fold-Lit}
use Rattle.g_diagram.specs.declared.panel.PanelItem.{PanelItem}
use Rattle.g_diagram.specs.declared.panel.PanelItem.TheVariants.{Control, Indicator}
use Rattle.g_diagram.specs.declared.node.Selector.{Selector}
use Rattle.g_diagram.specs.declared.node.Selector.TheVariants as selector
use Rattle.g_diagram.specs.declared.node.Tunnel.{Tunnel}
use Rattle.g_diagram.specs.declared.node.Tunnel.TheVariants as line
use Rattle.g_diagram.specs.declared.node.Branch.{Branch}
use Rattle.g_diagram.specs.declared.node.SequenceFrame.{SequenceFrame}
use Rattle.g_diagram.specs.declared.node.Diagram.{Diagram}
use Rattle.g_diagram.specs.declared.node.Node.{Node}
use Rattle.g_diagram.specs.declared.node.Node.TheOpen.{Node-F, Branch-F, Diagram-F, SequenceFrame-F}
use Rattle.g_diagram.specs.declared.node.Node.TheFolds.{fold-Node, fold-Diagram, fold-Branch, fold-SequenceFrame}
use Rattle.g_diagram.specs.declared.hierarchy.Vi.{Vi}
use Rattle.g_diagram.specs.declared.hierarchy.Hierarchy.{Hierarchy}
use Rattle.g_diagram.specs.Words.{primitive_text, shared_text, clones_text, system_text}

abbrev pub Wire : Type 0
Wire = Option (List ℕ)

-- a spelling: what stands before the bytes that follow
abbrev pub Spelling : Type 0
Spelling = List ℕ → List ℕ

-- one spelling after another
abbrev pub each : List Spelling → Spelling
each [] rest = rest
each (s ∷ ss) rest = s (each ss rest)

abbrev pub fixed : List ℕ → Spelling
fixed text rest = text ++ rest

-- ---- the parts of a line

abbrev pub wire_text : Wire → List ℕ
wire_text None = codes "_"
wire_text (Some name) = name

-- a space and a token
abbrev pub word : List ℕ → Spelling
word text rest = 32 ∷ (text ++ rest)

abbrev pub wire : Wire → Spelling
wire w rest = word (wire_text w) rest

abbrev pub wires : List Wire → Spelling
wires [] rest = rest
wires (w ∷ ws) rest = wire w (wires ws rest)

abbrev pub arrow : Spelling
arrow rest = word (codes "->") rest

-- where there are outputs, an arrow and them
abbrev pub outputs : List Wire → Spelling
outputs [] rest = rest
outputs (w ∷ ws) rest = arrow (wire w (wires ws rest))

abbrev pub indent : (depth : ℕ) → Spelling
indent zero rest = rest
indent (suc depth) rest = 32 ∷ 32 ∷ indent depth rest

-- the first word of a line and what follows it up to the line's end
abbrev pub line_from : (depth : ℕ) → List ℕ → Spelling → Spelling
line_from depth head tail rest = indent depth (head ++ tail (10 ∷ rest))

abbrev pub bare_line : (depth : ℕ) → List ℕ → Spelling
bare_line depth head rest = indent depth (head ++ (10 ∷ rest))

-- ---- texts and literals

abbrev pub quoted : List ℕ → Spelling
quoted text = fixed (values.quoted text)

abbrev pub after_comma : List Spelling → Spelling
after_comma [] rest = rest
after_comma (s ∷ ss) rest = 44 ∷ 32 ∷ s (after_comma ss rest)

abbrev pub listed : List Spelling → Spelling
listed [] rest = rest
listed (s ∷ ss) rest = s (after_comma ss rest)

abbrev pub literal_step : Lit-F Spelling → Spelling
literal_step (Lit-F.Number n) = fixed (signed_decimal n)
literal_step (Lit-F.Truth b) = fixed (values.truth_text b)
literal_step (Lit-F.Text text) = quoted text
literal_step Lit-F.Null = fixed (codes "null")
literal_step (Lit-F.Array items) = λ rest. 91 ∷ listed items (93 ∷ rest)
literal_step (Lit-F.Cluster items) = λ rest. 123 ∷ listed items (125 ∷ rest)

abbrev pub literal : Lit → Spelling
literal = fold-Lit Spelling literal_step

-- ---- the panel

abbrev pub required_text : Bool → Spelling
required_text true rest = word (codes "required") rest
required_text false rest = rest

abbrev pub default_text : Option Lit → Spelling
default_text None rest = rest
default_text (Some l) rest = 32 ∷ 61 ∷ 32 ∷ literal l rest

abbrev pub item_word : PanelItem → List ℕ
item_word (Control name t required default out) = codes "control"
item_word (Indicator name t input) = codes "indicator"

abbrev pub item_parts : PanelItem → Spelling
item_parts (Control name t required default out) rest = word name (word (types.text t) (required_text required (default_text default (arrow (wire out rest)))))
item_parts (Indicator name t input) rest = word name (word (types.text t) (word (codes "<-") (wire input rest)))

abbrev pub item : PanelItem → Spelling
item i rest = line_from 1 (item_word i) (item_parts i) rest

abbrev pub items : List PanelItem → Spelling
items [] rest = rest
items (i ∷ is) rest = item i (items is rest)

-- ---- lines at the border of a structure

abbrev pub bar : Spelling
bar rest = word (codes "|") rest

-- in -> out
abbrev pub across : Wire → Wire → Spelling
across a b rest = wire a (arrow (wire b rest))

-- | in -> out
abbrev pub back : Wire → Wire → Spelling
back a b rest = bar (across a b rest)

abbrev pub default_word : Bool → Spelling
default_word true rest = word (codes "default") rest
default_word false rest = rest

abbrev pub border_word : Tunnel → List ℕ
border_word (line.Tunnel a b) = codes "tunnel"
border_word (line.Register a b next z) = codes "register"
border_word (line.Kept t b next z) = codes "register"
border_word (line.Last a b) = codes "last"
border_word (line.Gather a b) = codes "gather"
border_word (line.Index a b) = codes "index"
border_word (line.Result out default) = codes "result"
border_word (line.Carry a b) = codes "carry"
border_word (line.Ref r v next same code) = codes "ref"
border_word (line.Element a i v next z) = codes "index"
border_word (line.Field k c v next z) = codes "field"

abbrev pub border_operands : Tunnel → Spelling
border_operands (line.Tunnel a b) rest = across a b rest
border_operands (line.Register a b next z) rest = across a b (back next z rest)
border_operands (line.Kept t b next z) rest = word (codes "_") (word (types.text t) (arrow (wire b (back next z rest))))
border_operands (line.Last a b) rest = across a b rest
border_operands (line.Gather a b) rest = across a b rest
border_operands (line.Index a b) rest = across a b rest
border_operands (line.Result out default) rest = wire out (default_word default rest)
border_operands (line.Carry a b) rest = across a b rest
border_operands (line.Ref r v next same code) rest = across r v (back next same (wire code rest))
border_operands (line.Element a i v next z) rest = wire a (across i v (back next z rest))
border_operands (line.Field k c v next z) rest = word (decimal k) (across c v (back next z rest))

abbrev pub border : Tunnel → (depth : ℕ) → Spelling
border t depth rest = line_from depth (border_word t) (border_operands t) rest

abbrev pub borders : List Tunnel → (depth : ℕ) → Spelling
borders [] depth rest = rest
borders (t ∷ ts) depth rest = border t depth (borders ts depth rest)

abbrev pub selector_text : Selector → Spelling
selector_text (selector.Number n) rest = signed_decimal n ++ rest
selector_text (selector.Range low high) rest = signed_decimal low ++ (codes ".." ++ (signed_decimal high ++ rest))
selector_text (selector.Truth b) rest = values.truth_text b ++ rest
selector_text (selector.Text text) rest = quoted text rest
selector_text selector.Default rest = codes "default" ++ rest

-- `give` stands where there is something to give
abbrev pub give_text : List Wire → (depth : ℕ) → Spelling
give_text [] depth rest = rest
give_text (w ∷ ws) depth rest = line_from depth (codes "give") (wires (w ∷ ws)) rest

-- ---- nodes

-- what stands at a depth
abbrev pub Block : Type 0
Block = (depth : ℕ) → Spelling

abbrev pub blocks : List Block → Block
blocks [] depth rest = rest
blocks (b ∷ bs) depth rest = b depth (blocks bs depth rest)

-- `do`, `frame`, `when` and `end` stand at their header's depth
abbrev pub with_body : List Tunnel → Block → Block
with_body lines body depth rest = borders lines (suc depth) (bare_line depth (codes "do") (body (suc depth) rest))

abbrev pub ended : Block → Block
ended block depth rest = block depth (bare_line depth (codes "end") rest)

abbrev pub operands : List Wire → List Wire → Spelling
operands ins outs rest = wires ins (outputs outs rest)

abbrev pub const_line : Ty → Lit → Wire → Block
const_line t l out depth rest = line_from depth (codes "const") (λ more. word (types.text t) (32 ∷ literal l (arrow (wire out more)))) rest

abbrev pub obtain_line : (queue : List ℕ) → (size : ℤ) → Ty → Wire → Block
obtain_line queue size t out depth rest = line_from depth (codes "obtain") (λ more. 32 ∷ quoted queue (word (signed_decimal size) (word (types.text t) (arrow (wire out more))))) rest

abbrev pub read_line : (object : List ℕ) → Wire → Block
read_line object out depth rest = line_from depth (codes "read") (λ more. word object (arrow (wire out more))) rest

abbrev pub write_line : (object : List ℕ) → Wire → Block
write_line object input depth rest = line_from depth (codes "write") (λ more. word object (wire input more)) rest

abbrev pub call_line : (vi : List ℕ) → List Wire → List Wire → Block
call_line vi ins outs depth rest = line_from depth (codes "call") (λ more. word vi (operands ins outs more)) rest

abbrev pub loop_block : List ℕ → Wire → Wire → List Tunnel → Block → Block
loop_block head a b lines body depth rest = line_from depth head (across a b) (ended (with_body lines body) depth rest)

abbrev pub case_block : Wire → List Tunnel → List Block → Block
case_block selector lines branches depth rest = line_from depth (codes "case") (wire selector) (borders lines (suc depth) (ended (blocks branches) depth rest))

abbrev pub node_step : Node-F Block Block Block Block → Block
node_step (Node-F.Const t l out) = const_line t l out
node_step (Node-F.Apply op ins outs) = λ depth. line_from depth (primitive_text op) (operands ins outs)
node_step (Node-F.Shared op ins outs) = λ depth. line_from depth (shared_text op) (operands ins outs)
node_step (Node-F.Obtain queue size t out) = obtain_line queue size t out
node_step (Node-F.Read object out) = read_line object out
node_step (Node-F.Write object input) = write_line object input
node_step (Node-F.Call vi ins outs) = call_line vi ins outs
node_step (Node-F.For count iteration lines body) = loop_block (codes "for") count iteration lines body
node_step (Node-F.While stop iteration lines body) = loop_block (codes "while") stop iteration lines body
node_step (Node-F.Case selector lines branches) = case_block selector lines branches
node_step (Node-F.Sequence frames) = λ depth rest. bare_line depth (codes "sequence") (ended (blocks frames) depth rest)
node_step (Node-F.InPlace lines body) = λ depth rest. bare_line depth (codes "inplace") (ended (with_body lines body) depth rest)

abbrev pub branch_step : Branch-F Block Block Block Block → Block
branch_step b = λ depth rest. line_from depth (codes "when") (λ more. 32 ∷ listed (map selector_text b.selectors) more) (give_text b.gives (suc depth) (b.body (suc depth) rest))

abbrev pub diagram_step : Diagram-F Block Block Block Block → Block
diagram_step d = blocks d.nodes

abbrev pub frame_step : SequenceFrame-F Block Block Block Block → Block
frame_step f = λ depth rest. bare_line depth (codes "frame") (with_body f.lines f.body depth rest)

abbrev pub node : Node → Block
node = fold-Node Block Block Block Block node_step branch_step diagram_step frame_step

abbrev pub diagram : Diagram → Block
diagram = fold-Diagram Block Block Block Block node_step branch_step diagram_step frame_step

abbrev pub branch : Branch → Block
branch = fold-Branch Block Block Block Block node_step branch_step diagram_step frame_step

abbrev pub frame : SequenceFrame → Block
frame = fold-SequenceFrame Block Block Block Block node_step branch_step diagram_step frame_step

-- ---- VIs

abbrev pub vi_text : Vi → Spelling
vi_text vi rest = line_from 0 (codes "vi") (λ more. word vi.name (word (clones_text vi.clones) (word (system_text vi.system) more))) (items vi.panel (diagram vi.top 1 (bare_line 0 (codes "end") rest)))

abbrev pub vis_text : List Vi → Spelling
vis_text [] rest = rest
vis_text (vi ∷ vis) rest = vi_text vi (vis_text vis rest)

-- the canonical text of a hierarchy
abbrev pub text_of : Hierarchy → List ℕ
text_of h = bare_line 0 (codes "glisting 1") (vis_text h.vis [])
