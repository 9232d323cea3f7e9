-- Tokens that have a node.
use Rattle.std.proofs.Common.{◌≡◌, ◌≤◌, ℕ, zero, suc, Bool, true, false, List, [], ◌∷◌, length, get_or, Option, Some, None, refl, sym, ap, ◌∙◌, cond, subst, arith, codes, inl, inr}
use Rattle.std.specs.Prelude.{nat_le}
use Rattle.std.specs.List.{All}
use Rattle.g_grammar.specs.Grammar.{loop, or_else}
use Rattle.g_types.specs.Names.{is_word}
use Rattle.g_values.specs.declared.primitive.Primitive.{Primitive}
use Rattle.g_values.specs.declared.primitive.Primitive.TheVariants as primitive
use Rattle.g_operations.specs.Rows.{primitive_row, shared_row}
use Rattle.g_operations.specs.declared.shared.SharedOp.{SharedOp}
use Rattle.g_operations.specs.declared.shared.SharedOp.TheVariants as shared
use Rattle.g_tokens.specs.declared.token.Token.TheVariants as token
use Rattle.g_diagram.specs.declared.node.Tunnel.{Tunnel}
use Rattle.g_diagram.specs.declared.node.Branch.{Branch}
use Rattle.g_diagram.specs.declared.node.Diagram.{Diagram}
use Rattle.g_diagram.specs.declared.node.SequenceFrame.{SequenceFrame}
use Rattle.g_diagram.specs.declared.node.Node.{Node}
use Rattle.g_diagram.specs.declared.node.Node.TheVariants as node
use Rattle.g_diagram.specs.declared.node.Node.TheOpen.{Node-F}
use Rattle.g_diagram.specs.declared.node.Node.TheViews.{out-Node, roll-Node, roll-out-Node}
use Rattle.g_diagram.specs.Lines.{Wire}
use Rattle.g_listing_words.specs.Operations.{lookup, operation_row, words_of, operation_of, in_version}
use Rattle.g_listing_words.specs.declared.Operation.{Operation}
use Rattle.g_listing_words.specs.declared.Operation.TheVariants as operation
use Rattle.g_listing_words.specs.declared.TheConstants.{OPERATIONS}
use Rattle.g_listing_grammar.specs.declared.NodeWord.{NodeWord}
use Rattle.g_listing_grammar.specs.declared.NodeWord.TheVariants as word_of
use Rattle.g_listing_grammar.specs.declared.PlainWord.{PlainWord}
use Rattle.g_listing_grammar.specs.declared.PlainWord.TheVariants as plain
use Rattle.g_listing_grammar.specs.declared.StructureWord.{StructureWord}
use Rattle.g_listing_grammar.specs.declared.StructureWord.TheVariants as structure
use Rattle.g_listing_grammar.specs.declared.Until.{Until}
use Rattle.g_listing_grammar.specs.declared.Until.TheVariants as until
use Rattle.g_listing_grammar.specs.declared.Border.{Border}
use Rattle.g_listing_grammar.specs.declared.Border.TheVariants as border
use Rattle.g_listing_grammar.specs.Words.{node_words, or_operation, word_in, eol}
use Rattle.g_listing_grammar.specs.Nodes.{selector_first, results, ends_of, Inside, more_or_end, branch_rest, frame_rest, further_frames, fitting_node, node_first, node_or_end, lines_and_body, operation_rest, plain_rest, structure_rest, node_rest, nodes}
use Rattle.g_listing_grammar.specs.Listing.{panel_words}
use Rattle.g_print_laws.proofs.Tables.{by_test}
use Rattle.g_print_laws.proofs.PlainParts.{structure_word}
use Rattle.g_print_laws.proofs.NodeParts.{until_word}
use Rattle.g_listing_listable.specs.Listable.{IsName, IsElement, IsLine, HasElement, AreOperands, IsBranch, IsFrame, IsNodeAt, HasNodes, Nowhere, IsNode}
use Rattle.g_listing_listable.proofs.PlainNodes.{is_plain, only_plain}
use Rattle.g_listing_listable.proofs.MakePhrases.{Makes, Begins, Ended, makes_give, makes_bind, begins_bind, makes_loop, turn_of, makes_ended, makes_from_ended, first_one, second_one}
use Rattle.g_listing_listable.proofs.MakeTokens.{word_is, makes_word, makes_name, makes_text, makes_eol, makes_element, makes_size, above, makes_last_wire, makes_to_wire, makes_across, makes_operands}
use Rattle.g_listing_listable.proofs.MakeTypes.{makes_type}
use Rattle.g_listing_listable.proofs.MakeLiterals.{makes_literal}
use Rattle.g_listing_listable.proofs.MakeBorders.{makes_lines, makes_lines_do}
use Rattle.g_listing_listable.proofs.MakeSelectors.{selectors_begun, makes_gives}

-- ---- diagrams inside a structure

abbrev Ends : Until → Bool → Type 0
Ends until.End true = ⊥
Ends _ _ = Unit {0}

-- tokens that have a diagram of such nodes, up to the word that ends it
pub record AreMade (P : Node → Type 0) (inside : Inside) : Type 0 where
  pub made : (ns : List Node) → All P ns → (u : Until) (b : Bool) → Ends u b → Makes (inside u) (ns, b)

ended_made : {A : Type 0} (a : A) (more : Bool) → Makes (more_or_end a more) (turn_of more a)
ended_made a true = makes_give (inl a)
ended_made a false = makes_bind makes_eol (makes_give (inr a))

-- a branch or a frame ends at the next or at the end
when_ends : (b : Bool) → Ends until.WhenOrEnd b
when_ends true = tt
when_ends false = tt

frame_ends : (b : Bool) → Ends until.FrameOrEnd b
frame_ends true = tt
frame_ends false = tt

module _ (P : Node → Type 0) (inside : Inside) (made : AreMade P inside) where
  branch_begun : (n : ℕ) (b : Branch) → IsBranch (HasNodes P) n b → (more : Bool) → Begins selector_first (branch_rest inside n) (turn_of more b)
  branch_begun n b is more =
      begins_bind (selectors_begun b.selectors is.some is.selectors)
      (makes_bind (makes_gives n b.gives is.count is.gives) (makes_bind (made.made b.body.nodes is.body until.WhenOrEnd more (when_ends more)) (ended_made b more)))

  frame_made : (b : Border) (f : SequenceFrame) → IsFrame (HasNodes P) b f → (more : Bool) → Makes (frame_rest inside b) (turn_of more f)
  frame_made b f is more =
      makes_bind (makes_lines_do b f.lines is.lines) (makes_bind makes_eol (makes_bind (made.made f.body.nodes is.body until.FrameOrEnd more (frame_ends more)) (ended_made f more)))

  frame_begun : (f : SequenceFrame) → IsFrame (HasNodes P) border.Frame f → (more : Bool) → Begins eol (λ e. frame_rest inside border.Frame) (turn_of more f)
  frame_begun f is more = record { token = token.Eol; good = tt; first = tt; is = refl; rest = frame_made border.Frame f is more }

  body_made : (b : Border) (ls : List Tunnel) (ns : List Node) → All (IsLine b) ls → All P ns → Makes (lines_and_body inside b) (ls, ns)
  body_made b ls ns lines all =
      makes_bind (makes_lines_do b ls lines) (makes_bind makes_eol (makes_bind (made.made ns all until.End false tt) (makes_bind makes_eol (makes_give (ls, ns)))))

  -- ---- structures

  branches_made : (n : ℕ) (bs : List Branch) → 1 ≤ length bs → All (IsBranch (HasNodes P) n) bs → Ended (loop selector_first (branch_rest inside n)) bs
  branches_made n [] some all = absurd (omega arith)
  branches_made n (b ∷ bs) some all = makes_ended selector_first (branch_rest inside n) b bs (λ k d lt. branch_begun n (get_or (b ∷ bs) k d) (all k d lt))

  structure_for : (v : ℕ) (count iteration : Wire) (ls : List Tunnel) (body : Diagram) → IsNodeAt (HasNodes P) (Node-F.For count iteration ls body) → Makes (structure_rest v inside structure.For) (node.For count iteration ls body)
  structure_for v count iteration ls body is =
      makes_bind (makes_across count iteration is.0 is.1) (makes_bind (body_made border.For ls body.nodes is.2 is.3) (makes_give (node.For count iteration ls body)))

  structure_while : (v : ℕ) (stop iteration : Wire) (ls : List Tunnel) (body : Diagram) → IsNodeAt (HasNodes P) (Node-F.While stop iteration ls body) → Makes (structure_rest v inside structure.While) (node.While stop iteration ls body)
  structure_while v stop iteration ls body is =
      makes_bind (makes_across stop iteration is.0 is.1) (makes_bind (body_made border.While ls body.nodes is.2 is.3) (makes_give (node.While stop iteration ls body)))

  structure_case : (v : ℕ) (w : Wire) (ls : List Tunnel) (bs : List Branch) → IsNodeAt (HasNodes P) (Node-F.Case w ls bs) → Makes (structure_rest v inside structure.Case) (node.Case w ls bs)
  structure_case v w ls bs is =
      makes_bind (makes_last_wire w is.0)
      (makes_bind (makes_lines border.Case (codes "when") refl refl refl ls is.1) (makes_from_ended (λ bs. node.Case w ls bs) (branches_made (results ls) bs is.2 is.3)))

  structure_sequence : (v : ℕ) (fs : List SequenceFrame) → IsNodeAt (HasNodes P) (Node-F.Sequence fs) → Makes (structure_rest v inside structure.Sequence) (node.Sequence fs)
  structure_sequence v [] is = absurd is
  structure_sequence v (f ∷ []) is =
      makes_bind makes_eol
      (makes_bind (makes_word (codes "frame") tt refl refl)
      (makes_bind (makes_bind makes_eol (frame_made border.FirstFrame f is.0 false)) (makes_bind (makes_give (f ∷ [])) (makes_give (node.Sequence (f ∷ []))))))
  structure_sequence v (f ∷ g ∷ gs) is =
      let further : Makes (further_frames inside (inl f)) (f ∷ g ∷ gs) = makes_from_ended (λ fs. f ∷ fs) (makes_ended eol (λ e. frame_rest inside border.Frame) g gs (λ k d lt. frame_begun (get_or (g ∷ gs) k d) (is.1 k d lt))) in
      makes_bind makes_eol
      (makes_bind (makes_word (codes "frame") tt refl refl)
      (makes_bind (makes_bind makes_eol (frame_made border.FirstFrame f is.0 true)) (makes_bind further (makes_give (node.Sequence (f ∷ g ∷ gs))))))

  structure_place : (v : ℕ) (ls : List Tunnel) (body : Diagram) → IsNodeAt (HasNodes P) (Node-F.InPlace ls body) → Makes (structure_rest v inside structure.InPlace) (node.InPlace ls body)
  structure_place v ls body is = makes_bind makes_eol (makes_bind (body_made border.InPlace ls body.nodes is.0 is.1) (makes_give (node.InPlace ls body)))

-- ---- how a node begins

-- a node's first word, which begins no line of a panel
pub record NodeBegun (n : ℕ) (x : Node) : Type 0 where
  pub name : List ℕ
  pub named : IsName name
  pub first : NodeWord
  pub is : node_first 1 n (token.Word name) ≡ Some first
  pub apart : lookup panel_words name ≡ None
  pub rest : Makes (node_rest 1 n first) x

plain_rest_made : (n : ℕ) (w : PlainWord) (x : Node) → Makes (plain_rest w) x → Makes (node_rest 1 n (word_of.Plain w)) x
unfolding node_rest
plain_rest_made zero w x m = m
plain_rest_made (suc n) w x m = m

-- ---- operations

is_none : {A : Type 0} → Option A → Bool
is_none None = true
is_none (Some x) = false

none_is : {A : Type 0} (o : Option A) → is_none o ≡ true → o ≡ None
unfolding is_none
none_is None e = refl
none_is (Some x) e = absurd cc

pub operation_named : (u : List ℕ) (o : Operation) → operation_of u ≡ Some o → is_word u ≡ true
unfolding operation_of
operation_named = by_test (λ u o. is_word u) (words_of OPERATIONS) refl

operation_no_node : (u : List ℕ) (o : Operation) → operation_of u ≡ Some o → is_none (lookup node_words u) ≡ true
unfolding operation_of is_none
operation_no_node = by_test (λ u o. is_none (lookup node_words u)) (words_of OPERATIONS) refl

operation_no_panel : (u : List ℕ) (o : Operation) → operation_of u ≡ Some o → is_none (lookup panel_words u) ≡ true
unfolding operation_of is_none
operation_no_panel = by_test (λ u o. is_none (lookup panel_words u)) (words_of OPERATIONS) refl

operation_since : (u : List ℕ) (o : Operation) → operation_of u ≡ Some o → nat_le (operation_row o).since 1 ≡ true
unfolding operation_of
operation_since = by_test (λ u o. nat_le (operation_row o).since 1) (words_of OPERATIONS) refl

operation_first : (n : ℕ) (u : List ℕ) (o : Operation) → operation_of u ≡ Some o → node_first 1 n (token.Word u) ≡ Some (word_of.Plain (plain.Operation o))
operation_first n u o e =
    ap (λ (a : Option NodeWord). fitting_node n (or_operation a (in_version 1 (operation_of u)))) (none_is (lookup node_words u) (operation_no_node u o e))
    ∙ ap (λ (b : Option Operation). fitting_node n (or_operation None (in_version 1 b))) e
    ∙ ap (λ (b : Bool). fitting_node n (or_operation None (cond b (Some o) None))) (operation_since u o e)

operation_begun : (n : ℕ) (u : List ℕ) (o : Operation) (x : Node) → operation_of u ≡ Some o → Makes (operation_rest o) x → NodeBegun n x
operation_begun n u o x e m = record {
  name = u;
  named = operation_named u o e;
  first = word_of.Plain (plain.Operation o);
  is = operation_first n u o e;
  apart = none_is (lookup panel_words u) (operation_no_panel u o e);
  rest = plain_rest_made n (plain.Operation o) x m;
}

-- each operation's word names it
primitive_named : (p : Primitive) → (primitive_row p).field ≡ None → operation_of (primitive_row p).word ≡ Some (operation.Apply p)
unfolding operation_of
primitive_named (primitive.Get k) e = absurd cc
primitive_named (primitive.Set k) e = absurd cc
primitive_named _ e = refl

get_named : operation_of (codes "get") ≡ Some operation.Get
unfolding operation_of
get_named = refl

set_named : operation_of (codes "set") ≡ Some operation.Set
unfolding operation_of
set_named = refl

pub shared_named : (s : SharedOp) → operation_of (shared_row s).word ≡ Some (operation.Shared s)
unfolding operation_of
shared_named shared.Enqueue = refl
shared_named shared.Dequeue = refl
shared_named shared.Release = refl
shared_named shared.Size = refl
shared_named shared.NewRef = refl
shared_named shared.DelRef = refl

get_begun : (n k : ℕ) (ins outs : List Wire) → IsElement k → AreOperands ins outs → NodeBegun n (node.Apply (primitive.Get k) ins outs)
get_begun n k ins outs is are =
    operation_begun n (codes "get") operation.Get (node.Apply (primitive.Get k) ins outs) get_named
    (makes_bind (makes_element k is) (makes_bind (makes_operands ins outs are) (makes_give (node.Apply (primitive.Get k) ins outs))))

set_begun : (n k : ℕ) (ins outs : List Wire) → IsElement k → AreOperands ins outs → NodeBegun n (node.Apply (primitive.Set k) ins outs)
set_begun n k ins outs is are =
    operation_begun n (codes "set") operation.Set (node.Apply (primitive.Set k) ins outs) set_named
    (makes_bind (makes_element k is) (makes_bind (makes_operands ins outs are) (makes_give (node.Apply (primitive.Set k) ins outs))))

apply_begun : (n : ℕ) (p : Primitive) (ins outs : List Wire) → HasElement (primitive_row p).field → AreOperands ins outs → NodeBegun n (node.Apply p ins outs)
apply_begun n (primitive.Get k) ins outs is are = get_begun n k ins outs is are
apply_begun n (primitive.Set k) ins outs is are = set_begun n k ins outs is are
apply_begun n p ins outs is are =
    operation_begun n (primitive_row p).word (operation.Apply p) (node.Apply p ins outs) (primitive_named p refl) (makes_bind (makes_operands ins outs are) (makes_give (node.Apply p ins outs)))

-- ---- other nodes without diagrams

plain_begun : (n : ℕ) (inside : Diagram → Type 0) (y : Node-F Node Branch Diagram SequenceFrame) → is_plain y ≡ true → IsNodeAt inside y → NodeBegun n (roll-Node y)
plain_begun n inside (Node-F.Const t l o) e is =
    let m = makes_bind (makes_type t is.0) (makes_bind (makes_literal l is.1) (makes_bind (makes_to_wire o is.2) (makes_give (node.Const t l o)))) in
    subst (NodeBegun n) (sym (node.rolls-Const t l o)) (record { name = codes "const"; named = refl; first = word_of.Plain plain.Const; is = refl; apart = refl; rest = plain_rest_made n plain.Const (node.Const t l o) m })
plain_begun n inside (Node-F.Apply p ins outs) e is = subst (NodeBegun n) (sym (node.rolls-Apply p ins outs)) (apply_begun n p ins outs is.0 is.1)
plain_begun n inside (Node-F.Shared s ins outs) e is =
    subst (NodeBegun n) (sym (node.rolls-Shared s ins outs))
    (operation_begun n (shared_row s).word (operation.Shared s) (node.Shared s ins outs) (shared_named s) (makes_bind (makes_operands ins outs is) (makes_give (node.Shared s ins outs))))
plain_begun n inside (Node-F.Obtain q z t o) e is =
    let m = makes_bind (makes_text q is.0) (makes_bind (makes_size z is.1) (makes_bind (makes_type t is.2) (makes_bind (makes_to_wire o is.3) (makes_give (node.Obtain q z t o))))) in
    subst (NodeBegun n) (sym (node.rolls-Obtain q z t o)) (record { name = codes "obtain"; named = refl; first = word_of.Plain plain.Obtain; is = refl; apart = refl; rest = plain_rest_made n plain.Obtain (node.Obtain q z t o) m })
plain_begun n inside (Node-F.Read x o) e is =
    let m = makes_bind (makes_name x is.0) (makes_bind (makes_to_wire o is.1) (makes_give (node.Read x o))) in
    subst (NodeBegun n) (sym (node.rolls-Read x o)) (record { name = codes "read"; named = refl; first = word_of.Plain plain.Read; is = refl; apart = refl; rest = plain_rest_made n plain.Read (node.Read x o) m })
plain_begun n inside (Node-F.Write x i) e is =
    let m = makes_bind (makes_name x is.0) (makes_bind (makes_last_wire i is.1) (makes_give (node.Write x i))) in
    subst (NodeBegun n) (sym (node.rolls-Write x i)) (record { name = codes "write"; named = refl; first = word_of.Plain plain.Write; is = refl; apart = refl; rest = plain_rest_made n plain.Write (node.Write x i) m })
plain_begun n inside (Node-F.Call x ins outs) e is =
    let m = makes_bind (makes_name x is.0) (makes_bind (makes_operands ins outs is.1) (makes_give (node.Call x ins outs))) in
    subst (NodeBegun n) (sym (node.rolls-Call x ins outs)) (record { name = codes "call"; named = refl; first = word_of.Plain plain.Call; is = refl; apart = refl; rest = plain_rest_made n plain.Call (node.Call x ins outs) m })
plain_begun n inside y e is = absurd cc

-- ---- structures

structure_named : (s : StructureWord) → IsName (structure_word s)
structure_named structure.For = refl
structure_named structure.While = refl
structure_named structure.Case = refl
structure_named structure.Sequence = refl
structure_named structure.InPlace = refl

structure_apart : (s : StructureWord) → lookup panel_words (structure_word s) ≡ None
structure_apart structure.For = refl
structure_apart structure.While = refl
structure_apart structure.Case = refl
structure_apart structure.Sequence = refl
structure_apart structure.InPlace = refl

structure_first : (n : ℕ) (s : StructureWord) → node_first 1 (suc n) (token.Word (structure_word s)) ≡ Some (word_of.Structure s)
structure_first n structure.For = rw (above (suc n) (omega arith)) refl
structure_first n structure.While = rw (above (suc n) (omega arith)) refl
structure_first n structure.Case = rw (above (suc n) (omega arith)) refl
structure_first n structure.Sequence = rw (above (suc n) (omega arith)) refl
structure_first n structure.InPlace = rw (above (suc n) (omega arith)) refl

structure_begun : (n : ℕ) (s : StructureWord) (x : Node) → Makes (structure_rest 1 (nodes 1 n) s) x → NodeBegun (suc n) x
unfolding node_rest
structure_begun n s x m = record { name = structure_word s; named = structure_named s; first = word_of.Structure s; is = structure_first n s; apart = structure_apart s; rest = m }

-- ---- levels

end_named : (u : Until) (b : Bool) → IsName (until_word u b)
end_named until.End b = refl
end_named until.WhenOrEnd true = refl
end_named until.WhenOrEnd false = refl
end_named until.FrameOrEnd true = refl
end_named until.FrameOrEnd false = refl

end_found : (u : Until) (b : Bool) → Ends u b → lookup (ends_of u) (until_word u b) ≡ Some b
end_found until.End true e = absurd e
end_found until.End false e = refl
end_found until.WhenOrEnd true e = refl
end_found until.WhenOrEnd false e = refl
end_found until.FrameOrEnd true e = refl
end_found until.FrameOrEnd false e = refl

pub end_no_node : (n : ℕ) (u : Until) (b : Bool) → node_first 1 n (token.Word (until_word u b)) ≡ None
unfolding operation_of
end_no_node n until.End b = refl
end_no_node n until.WhenOrEnd true = refl
end_no_node n until.WhenOrEnd false = refl
end_no_node n until.FrameOrEnd true = refl
end_no_node n until.FrameOrEnd false = refl

module _ (n : ℕ) (begun : (x : Node) → IsNode n x → NodeBegun n x) where
  turn : (u : Until) (x : Node) → IsNode n x → Begins (or_else (node_first 1 n) (word_in (ends_of u))) (node_or_end (node_rest 1 n)) (inl x)
  turn u x is =
      let m = begun x is in
      record { token = token.Word m.name; good = word_is m.name m.named; first = inl m.first; is = first_one (node_first 1 n) (word_in (ends_of u)) (token.Word m.name) m.first m.is; rest = makes_bind m.rest (makes_give (inl x)) }

  last : (u : Until) (b : Bool) → Ends u b → Begins (or_else (node_first 1 n) (word_in (ends_of u))) (node_or_end (node_rest 1 n)) (inr b)
  last u b e =
      let w : List ℕ = until_word u b in
      record { token = token.Word w; good = word_is w (end_named u b); first = inr b; is = second_one (node_first 1 n) (word_in (ends_of u)) (token.Word w) b (end_no_node n u b) (end_found u b e); rest = makes_give (inr b) }

  inside_made : AreMade (IsNode n) (nodes 1 n)
  inside_made = record { made = λ ns all u b e. makes_loop ns b (λ k d lt. turn u (get_or ns k d) (all k d lt)) (last u b e) }

  deep_begun : (y : Node-F Node Branch Diagram SequenceFrame) → IsNodeAt (HasNodes (IsNode n)) y → NodeBegun (suc n) (roll-Node y)
  deep_begun (Node-F.For count iteration ls body) is =
      subst (NodeBegun (suc n)) (sym (node.rolls-For count iteration ls body))
      (structure_begun n structure.For (node.For count iteration ls body) (structure_for (IsNode n) (nodes 1 n) inside_made 1 count iteration ls body is))
  deep_begun (Node-F.While stop iteration ls body) is =
      subst (NodeBegun (suc n)) (sym (node.rolls-While stop iteration ls body))
      (structure_begun n structure.While (node.While stop iteration ls body) (structure_while (IsNode n) (nodes 1 n) inside_made 1 stop iteration ls body is))
  deep_begun (Node-F.Case w ls bs) is =
      subst (NodeBegun (suc n)) (sym (node.rolls-Case w ls bs)) (structure_begun n structure.Case (node.Case w ls bs) (structure_case (IsNode n) (nodes 1 n) inside_made 1 w ls bs is))
  deep_begun (Node-F.Sequence fs) is =
      subst (NodeBegun (suc n)) (sym (node.rolls-Sequence fs)) (structure_begun n structure.Sequence (node.Sequence fs) (structure_sequence (IsNode n) (nodes 1 n) inside_made 1 fs is))
  deep_begun (Node-F.InPlace ls body) is =
      subst (NodeBegun (suc n)) (sym (node.rolls-InPlace ls body)) (structure_begun n structure.InPlace (node.InPlace ls body) (structure_place (IsNode n) (nodes 1 n) inside_made 1 ls body is))
  deep_begun y is = plain_begun (suc n) (HasNodes (IsNode n)) y refl is

pub node_begun : (n : ℕ) (x : Node) → IsNode n x → NodeBegun n x
unfolding IsNode
node_begun zero x is = subst (NodeBegun zero) (roll-out-Node x) (plain_begun zero Nowhere (out-Node x) (only_plain (out-Node x) is) is)
node_begun (suc n) x is = subst (NodeBegun (suc n)) (roll-out-Node x) (deep_begun n (node_begun n) (out-Node x) is)

pub nodes_made : (n : ℕ) → AreMade (IsNode n) (nodes 1 n)
nodes_made n = inside_made n (node_begun n)
