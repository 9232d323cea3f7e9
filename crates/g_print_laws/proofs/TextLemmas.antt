-- The text of a node and of a literal, by its variants.
use Rattle.std.proofs.Common.{◌≡◌, ℕ, ℤ, Bool, List, ◌∷◌, ◌++◌, map, suc, ◌+◌, ap, sym, ◌∙◌, codes}
use Rattle.std.specs.Fmt.{signed_decimal}
use Rattle.g_types.specs.declared.ty.Ty.{Ty}
use Rattle.g_values.specs.declared.primitive.Primitive.{Primitive}
use Rattle.g_diagram.specs.declared.panel.Lit.{Lit}
use Rattle.g_diagram.specs.declared.panel.Lit.TheVariants as lit
use Rattle.g_diagram.specs.declared.panel.Lit.TheOpen.{Lit-F}
use Rattle.g_diagram.specs.declared.panel.Lit.TheFolds.{fold-roll-Lit}
use Rattle.g_operations.specs.declared.shared.SharedOp.{SharedOp}
use Rattle.g_diagram.specs.declared.node.Tunnel.{Tunnel}
use Rattle.g_diagram.specs.declared.node.Branch.{Branch}
use Rattle.g_diagram.specs.declared.node.Diagram.{Diagram}
use Rattle.g_diagram.specs.declared.node.SequenceFrame.{SequenceFrame}
use Rattle.g_diagram.specs.declared.node.Node.TheVariants as variant
use Rattle.g_diagram.specs.declared.node.Node.TheOpen.{Node-F}
use Rattle.g_diagram.specs.declared.node.Node.TheFolds.{fold-roll-Node, fold_out-Diagram, fold_out-Branch, fold_out-SequenceFrame}
use Rattle.g_values.specs.Text.{truth_text}
use Rattle.g_diagram.specs.Words.{primitive_text, shared_text}
use Rattle.g_diagram.specs.Text.{Wire, Spelling, Block, quoted, listed, literal, literal_step, line_from, bare_line, ended, blocks, with_body, operands, const_line, obtain_line, read_line, write_line, call_line, loop_block, case_block, give_text, selector_text, node, diagram, branch, frame, node_step, branch_step, diagram_step, frame_step}

pub literal-Number : (n : ℤ) (rest : List ℕ) → literal (lit.Number n) rest ≡ signed_decimal n ++ rest
literal-Number n rest = ap (λ l. literal l rest) (sym (lit.rolls-Number n)) ∙ ap (λ (s : Spelling). s rest) (fold-roll-Lit Spelling literal_step (Lit-F.Number n))

pub literal-Truth : (b : Bool) (rest : List ℕ) → literal (lit.Truth b) rest ≡ truth_text b ++ rest
literal-Truth b rest = ap (λ l. literal l rest) (sym (lit.rolls-Truth b)) ∙ ap (λ (s : Spelling). s rest) (fold-roll-Lit Spelling literal_step (Lit-F.Truth b))

pub literal-Text : (text : List ℕ) (rest : List ℕ) → literal (lit.Text text) rest ≡ quoted text rest
literal-Text text rest = ap (λ l. literal l rest) (sym (lit.rolls-Text text)) ∙ ap (λ (s : Spelling). s rest) (fold-roll-Lit Spelling literal_step (Lit-F.Text text))

pub literal-Null : (rest : List ℕ) → literal lit.Null rest ≡ codes "null" ++ rest
literal-Null rest = ap (λ l. literal l rest) (sym lit.rolls-Null) ∙ ap (λ (s : Spelling). s rest) (fold-roll-Lit Spelling literal_step Lit-F.Null)

pub literal-Array : (items : List Lit) (rest : List ℕ) → literal (lit.Array items) rest ≡ 91 ∷ listed (map literal items) (93 ∷ rest)
literal-Array items rest = ap (λ l. literal l rest) (sym (lit.rolls-Array items)) ∙ ap (λ (s : Spelling). s rest) (fold-roll-Lit Spelling literal_step (Lit-F.Array items))

pub literal-Cluster : (items : List Lit) (rest : List ℕ) → literal (lit.Cluster items) rest ≡ 123 ∷ listed (map literal items) (125 ∷ rest)
literal-Cluster items rest = ap (λ l. literal l rest) (sym (lit.rolls-Cluster items)) ∙ ap (λ (s : Spelling). s rest) (fold-roll-Lit Spelling literal_step (Lit-F.Cluster items))

pub node-Const : (t : Ty) (l : Lit) (out : Wire) (depth : ℕ) (rest : List ℕ) → node (variant.Const t l out) depth rest ≡ const_line t l out depth rest
node-Const t l out depth rest =
    ap (λ n. node n depth rest) (sym (variant.rolls-Const t l out)) ∙ ap (λ (s : Block). s depth rest) (fold-roll-Node Block Block Block Block node_step branch_step diagram_step frame_step (Node-F.Const t l out))

pub node-Apply : (op : Primitive) (ins outs : List Wire) (depth : ℕ) (rest : List ℕ) → node (variant.Apply op ins outs) depth rest ≡ line_from depth (primitive_text op) (operands ins outs) rest
node-Apply op ins outs depth rest =
    ap (λ n. node n depth rest) (sym (variant.rolls-Apply op ins outs)) ∙ ap (λ (s : Block). s depth rest) (fold-roll-Node Block Block Block Block node_step branch_step diagram_step frame_step (Node-F.Apply op ins outs))

pub node-Shared : (op : SharedOp) (ins outs : List Wire) (depth : ℕ) (rest : List ℕ) → node (variant.Shared op ins outs) depth rest ≡ line_from depth (shared_text op) (operands ins outs) rest
node-Shared op ins outs depth rest =
    ap (λ n. node n depth rest) (sym (variant.rolls-Shared op ins outs)) ∙ ap (λ (s : Block). s depth rest) (fold-roll-Node Block Block Block Block node_step branch_step diagram_step frame_step (Node-F.Shared op ins outs))

pub node-Obtain : (queue : List ℕ) (size : ℤ) (t : Ty) (out : Wire) (depth : ℕ) (rest : List ℕ) → node (variant.Obtain queue size t out) depth rest ≡ obtain_line queue size t out depth rest
node-Obtain queue size t out depth rest =
    ap (λ n. node n depth rest) (sym (variant.rolls-Obtain queue size t out)) ∙ ap (λ (s : Block). s depth rest) (fold-roll-Node Block Block Block Block node_step branch_step diagram_step frame_step (Node-F.Obtain queue size t out))

pub node-Read : (object : List ℕ) (out : Wire) (depth : ℕ) (rest : List ℕ) → node (variant.Read object out) depth rest ≡ read_line object out depth rest
node-Read object out depth rest =
    ap (λ n. node n depth rest) (sym (variant.rolls-Read object out)) ∙ ap (λ (s : Block). s depth rest) (fold-roll-Node Block Block Block Block node_step branch_step diagram_step frame_step (Node-F.Read object out))

pub node-Write : (object : List ℕ) (input : Wire) (depth : ℕ) (rest : List ℕ) → node (variant.Write object input) depth rest ≡ write_line object input depth rest
node-Write object input depth rest =
    ap (λ n. node n depth rest) (sym (variant.rolls-Write object input)) ∙ ap (λ (s : Block). s depth rest) (fold-roll-Node Block Block Block Block node_step branch_step diagram_step frame_step (Node-F.Write object input))

pub node-Call : (vi : List ℕ) (ins outs : List Wire) (depth : ℕ) (rest : List ℕ) → node (variant.Call vi ins outs) depth rest ≡ call_line vi ins outs depth rest
node-Call vi ins outs depth rest =
    ap (λ n. node n depth rest) (sym (variant.rolls-Call vi ins outs)) ∙ ap (λ (s : Block). s depth rest) (fold-roll-Node Block Block Block Block node_step branch_step diagram_step frame_step (Node-F.Call vi ins outs))

pub node-For : (a b : Wire) (lines : List Tunnel) (body : Diagram) (depth : ℕ) (rest : List ℕ) → node (variant.For a b lines body) depth rest ≡ loop_block (codes "for") a b lines (diagram body) depth rest
node-For a b lines body depth rest =
    ap (λ n. node n depth rest) (sym (variant.rolls-For a b lines body)) ∙ ap (λ (s : Block). s depth rest) (fold-roll-Node Block Block Block Block node_step branch_step diagram_step frame_step (Node-F.For a b lines body))

pub node-While : (a b : Wire) (lines : List Tunnel) (body : Diagram) (depth : ℕ) (rest : List ℕ) → node (variant.While a b lines body) depth rest ≡ loop_block (codes "while") a b lines (diagram body) depth rest
node-While a b lines body depth rest =
    ap (λ n. node n depth rest) (sym (variant.rolls-While a b lines body)) ∙ ap (λ (s : Block). s depth rest) (fold-roll-Node Block Block Block Block node_step branch_step diagram_step frame_step (Node-F.While a b lines body))

pub node-Case : (selector : Wire) (lines : List Tunnel) (branches : List Branch) (depth : ℕ) (rest : List ℕ) → node (variant.Case selector lines branches) depth rest ≡ case_block selector lines (map branch branches) depth rest
node-Case selector lines branches depth rest =
    ap (λ n. node n depth rest) (sym (variant.rolls-Case selector lines branches)) ∙ ap (λ (s : Block). s depth rest) (fold-roll-Node Block Block Block Block node_step branch_step diagram_step frame_step (Node-F.Case selector lines branches))

pub node-Sequence : (frames : List SequenceFrame) (depth : ℕ) (rest : List ℕ) → node (variant.Sequence frames) depth rest ≡ bare_line depth (codes "sequence") (ended (blocks (map frame frames)) depth rest)
node-Sequence frames depth rest =
    ap (λ n. node n depth rest) (sym (variant.rolls-Sequence frames)) ∙ ap (λ (s : Block). s depth rest) (fold-roll-Node Block Block Block Block node_step branch_step diagram_step frame_step (Node-F.Sequence frames))

pub node-InPlace : (lines : List Tunnel) (body : Diagram) (depth : ℕ) (rest : List ℕ) → node (variant.InPlace lines body) depth rest ≡ bare_line depth (codes "inplace") (ended (with_body lines (diagram body)) depth rest)
node-InPlace lines body depth rest =
    ap (λ n. node n depth rest) (sym (variant.rolls-InPlace lines body)) ∙ ap (λ (s : Block). s depth rest) (fold-roll-Node Block Block Block Block node_step branch_step diagram_step frame_step (Node-F.InPlace lines body))

pub diagram-nodes : (d : Diagram) (depth : ℕ) (rest : List ℕ) → diagram d depth rest ≡ blocks (map node d.nodes) depth rest
diagram-nodes d depth rest = ap (λ (s : Block). s depth rest) (fold_out-Diagram Block Block Block Block node_step branch_step diagram_step frame_step d)

pub branch-parts : (b : Branch) (depth : ℕ) (rest : List ℕ) → branch b depth rest ≡ line_from depth (codes "when") (λ more. 32 ∷ listed (map selector_text b.selectors) more) (give_text b.gives (suc depth) (diagram b.body (suc depth) rest))
branch-parts b depth rest = ap (λ (s : Block). s depth rest) (fold_out-Branch Block Block Block Block node_step branch_step diagram_step frame_step b)

pub frame-parts : (f : SequenceFrame) (depth : ℕ) (rest : List ℕ) → frame f depth rest ≡ bare_line depth (codes "frame") (with_body f.lines (diagram f.body) depth rest)
frame-parts f depth rest = ap (λ (s : Block). s depth rest) (fold_out-SequenceFrame Block Block Block Block node_step branch_step diagram_step frame_step f)
