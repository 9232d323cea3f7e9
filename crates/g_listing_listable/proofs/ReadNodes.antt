-- Nodes that good tokens have.
use Rattle.std.proofs.Common.{◌≡◌, ◌≤◌, ℕ, zero, suc, ℤ, Bool, true, false, cond, List, [], ◌∷◌, length, Option, Some, None, refl, sym, subst, arith, codes, inl, inr, ◌⊎◌}
use Rattle.std.specs.Prelude.{nat_le}
use Rattle.std.specs.List.{All}
use Rattle.std.proofs.lemmas.List.{length-append}
use Rattle.std.proofs.lemmas.List.Elements.{All-nil, All-cons, All-append}
use Rattle.g_grammar.specs.Grammar.{Grammar, or_else}
use Rattle.g_values.specs.declared.primitive.Primitive.TheVariants as primitive
use Rattle.g_operations.specs.Rows.{primitive_row}
use Rattle.g_tokens.specs.declared.token.Token.{Token}
use Rattle.g_tokens.specs.declared.token.Token.TheVariants as token
use Rattle.g_diagram.specs.declared.node.Selector.{Selector}
use Rattle.g_diagram.specs.declared.node.Selector.TheVariants as selector
use Rattle.g_diagram.specs.declared.node.Tunnel.{Tunnel}
use Rattle.g_diagram.specs.declared.node.Branch.{Branch}
use Rattle.g_diagram.specs.declared.node.Diagram.{Diagram}
use Rattle.g_diagram.specs.declared.node.SequenceFrame.{SequenceFrame}
use Rattle.g_diagram.specs.declared.node.Node.{Node}
use Rattle.g_diagram.specs.declared.node.Node.TheVariants as node
use Rattle.g_diagram.specs.declared.node.Node.TheOpen.{Node-F}
use Rattle.g_diagram.specs.declared.node.Node.TheViews.{out-Node}
use Rattle.g_listing_words.specs.Operations.{lookup, operation_row, words_of, operation_of, in_version}
use Rattle.g_listing_words.specs.declared.Operation.{Operation}
use Rattle.g_listing_words.specs.declared.Operation.TheVariants as operation
use Rattle.g_listing_words.specs.declared.TheConstants.{OPERATIONS}
use Rattle.g_listing_grammar.specs.declared.NodeWord.{NodeWord}
use Rattle.g_listing_grammar.specs.declared.NodeWord.TheVariants as word_of
use Rattle.g_listing_grammar.specs.declared.PlainWord.{PlainWord}
use Rattle.g_listing_grammar.specs.declared.PlainWord.TheVariants as plain
use Rattle.g_listing_grammar.specs.declared.StructureWord.{StructureWord}
use Rattle.g_listing_grammar.specs.declared.StructureWord.TheVariants as structure
use Rattle.g_listing_grammar.specs.declared.Until.{Until}
use Rattle.g_listing_grammar.specs.declared.Until.TheVariants as until
use Rattle.g_listing_grammar.specs.declared.Border.{Border}
use Rattle.g_listing_grammar.specs.declared.Border.TheVariants as border
use Rattle.g_listing_grammar.specs.declared.SelectorFirst.{SelectorFirst}
use Rattle.g_listing_grammar.specs.declared.SelectorFirst.TheVariants as first
use Rattle.g_listing_grammar.specs.Words.{node_words, or_operation, node_named, word_in, eol}
use Rattle.g_listing_grammar.specs.Types.{is_above}
use Rattle.g_listing_grammar.specs.Nodes.{selector_words, whole_selector, selector_first, range_rest, selector_rest, more_or_last, selector_item, further_selectors, selectors, results, gives, and_last, ends_of, Inside, more_or_end, branch_rest, frame_rest, further_frames, fitting_node, node_first, node_or_end, lines_and_body, operation_rest, plain_rest, structure_rest, nodes_of, node_rest, nodes}
use Rattle.g_listing_laws.specs.Spelled.{IsQueueSize}
use Rattle.g_listing_laws.proofs.Gives.{Either, Ended}
use Rattle.g_listing_laws.proofs.TypesGiven.{type_given}
use Rattle.g_listing_laws.proofs.BordersGiven.{queue_known}
use Rattle.g_print_laws.proofs.Parts.{IsGood, some_is}
use Rattle.g_print_laws.proofs.Tables.{by_test, holds}
use Rattle.g_listing_listable.specs.Listable.{IsWire, IsNumeral, IsSelector, IsLine, HasElement, IsBranch, IsFrame, AreFrames, IsNodeAt, HasNodes, Nowhere, IsNode}
use Rattle.g_listing_listable.proofs.ReadPhrases.{Reads, Any, reads_give, reads_take, reads_bind, reads_after, reads_any, reads_loop}
use Rattle.g_listing_listable.proofs.ReadTokens.{either_known, any_known, name_read, text_read, number_read, field_read, last_wire_read, to_wire_read, across_read, operands_read, AreSo, exactly_read}
use Rattle.g_listing_listable.proofs.ReadLiterals.{when_above, nothing_read, literal_read}
use Rattle.g_listing_listable.proofs.ReadBorders.{lines_read}

-- ---- selectors

abbrev IsFirst : SelectorFirst → Type 0
IsFirst (first.Whole s) = IsSelector s
IsFirst (first.Number n) = IsNumeral n

whole_known : (u : List ℕ) (o : Option Selector) (c : SelectorFirst) → lookup selector_words u ≡ o → whole_selector o ≡ Some c → IsFirst c
whole_known u None c e f = absurd cc
whole_known u (Some s) c e f = subst IsFirst (some_is f) (holds (λ w s. IsSelector s) selector_words (tt, (tt, (tt, tt))) u s e)

selector_known : (t : Token) (c : SelectorFirst) → IsGood t → selector_first t ≡ Some c → IsFirst c
selector_known (token.Number n) c g e = subst IsFirst (some_is e) g
selector_known (token.Text v) c g e = subst IsFirst (some_is e) g
selector_known (token.Word u) c g e = whole_known u (lookup selector_words u) c refl e
selector_known (token.Mark m) c g e = absurd cc
selector_known token.Eol c g e = absurd cc
selector_known token.End c g e = absurd cc
selector_known token.Bad c g e = absurd cc

abbrev IsSelected : Selector × Bool → Type 0
IsSelected x = IsSelector x.0

range_read : (n : ℤ) → IsNumeral n → (c : Unit {0} ⊎ Bool) → Reads IsSelected (range_rest n c)
range_read n is (inl x) = reads_bind number_read λ m also. reads_after λ more. reads_give (selector.Range n m, more) (is, also)
range_read n is (inr more) = reads_give (selector.Number n, more) is

selector_read : (c : SelectorFirst) → IsFirst c → Reads IsSelected (selector_rest c)
selector_read (first.Whole s) is = reads_after λ more. reads_give (s, more) is
selector_read (first.Number n) is = reads_after (range_read n is)

abbrev IsTurn : Selector ⊎ Selector → Type 0
IsTurn = Either IsSelector IsSelector

turned : (s : Selector × Bool) → IsSelected s → IsTurn (more_or_last s)
turned (s, true) is = is
turned (s, false) is = is

item_read : (c : SelectorFirst) → IsFirst c → Reads IsTurn (selector_item c)
item_read c is = reads_bind (selector_read c is) λ s so. reads_give (more_or_last s) (turned s so)

pub and_last_all : {A : Type 0} (P : A → Type 0) (x : List A × A) → Ended P P x → All P (and_last x)
and_last_all P x e = All-append P x.0 (x.1 ∷ []) e.all (All-cons P x.1 [] e.last (All-nil P))

abbrev AreSelectors : List Selector → Type 0
AreSelectors ss = (1 ≤ length ss) × All IsSelector ss

further_read : (s : Selector ⊎ Selector) → IsTurn s → Reads AreSelectors (further_selectors s)
further_read (inl s) is =
    reads_bind (reads_loop IsFirst IsSelector IsSelector selector_first selector_item selector_known item_read) λ ss e.
    reads_give (s ∷ and_last ss) (omega arith, All-cons IsSelector s (and_last ss) is (and_last_all IsSelector ss e))
further_read (inr s) is = reads_give (s ∷ []) (omega arith, All-cons IsSelector s [] is (All-nil IsSelector))

selectors_read : (c : SelectorFirst) → IsFirst c → Reads AreSelectors (selectors c)
selectors_read c is = reads_bind (item_read c is) further_read

gives_read : (n : ℕ) → Reads (AreSo n) (gives n)
gives_read zero = reads_give [] (refl, All-nil IsWire)
gives_read (suc n) = reads_after λ x. reads_bind (exactly_read (suc n)) λ ws is. reads_after λ e. reads_give ws is

-- ---- diagrams inside a structure

abbrev pub AreRead : (Node → Type 0) → Inside → Type 0
AreRead P inside = (u : Until) → Reads (Ended P Any) (inside u)

ended_read : {A : Type 0} (P : A → Type 0) (a : A) → P a → (more : Bool) → Reads (Either P P) (more_or_end a more)
ended_read P a is true = reads_give (inl a) is
ended_read P a is false = reads_after λ e. reads_give (inr a) is

module _ (P : Node → Type 0) (inside : Inside) (given : AreRead P inside) where
  branch_read : (n : ℕ) (c : SelectorFirst) → IsFirst c → Reads (Either (IsBranch (HasNodes P) n) (IsBranch (HasNodes P) n)) (branch_rest inside n c)
  branch_read n c is =
      reads_bind (selectors_read c is) λ ss so.
      reads_bind (gives_read n) λ ws also.
      reads_bind (given until.WhenOrEnd) λ ns e.
      let b : Branch = record { selectors = ss; gives = ws; body = record { nodes = ns.0 } } in
      ended_read (IsBranch (HasNodes P) n) b (record { some = so.0; selectors = so.1; count = also.0; gives = also.1; body = e.all }) ns.1

  frame_read : (b : Border) → Reads (Either (IsFrame (HasNodes P) b) (IsFrame (HasNodes P) b)) (frame_rest inside b)
  frame_read b =
      reads_bind (lines_read b (codes "do")) λ lines l.
      reads_after λ end.
      reads_bind (given until.FrameOrEnd) λ ns e.
      let f : SequenceFrame = record { lines = lines.0; body = record { nodes = ns.0 } } in
      ended_read (IsFrame (HasNodes P) b) f (record { lines = l.all; body = e.all }) ns.1

  frames_read : (f : SequenceFrame ⊎ SequenceFrame) → Either (IsFrame (HasNodes P) border.FirstFrame) (IsFrame (HasNodes P) border.FirstFrame) f → Reads (AreFrames (HasNodes P)) (further_frames inside f)
  frames_read (inl f) is =
      reads_bind (reads_loop Any (IsFrame (HasNodes P) border.Frame) (IsFrame (HasNodes P) border.Frame) eol (λ e. frame_rest inside border.Frame) (any_known eol) (λ e k. frame_read border.Frame)) λ fs e.
      reads_give (f ∷ and_last fs) (is, and_last_all (IsFrame (HasNodes P) border.Frame) fs e)
  frames_read (inr f) is = reads_give (f ∷ []) (is, All-nil (IsFrame (HasNodes P) border.Frame))

  abbrev HasBody : Border → List Tunnel × List Node → Type 0
  HasBody b x = All (IsLine b) x.0 × All P x.1

  body_read : (b : Border) → Reads (HasBody b) (lines_and_body inside b)
  body_read b =
      reads_bind (lines_read b (codes "do")) λ lines l.
      reads_after λ d.
      reads_bind (given until.End) λ ns e.
      reads_after λ end.
      reads_give (lines.0, ns.0) (l.all, e.all)

-- ---- nodes without diagrams

-- at every level
plain_is : (n : ℕ) (x : Node) (y : Node-F Node Branch Diagram SequenceFrame) → out-Node x ≡ y → ((inside : Diagram → Type 0) → IsNodeAt inside y) → IsNode n x
unfolding IsNode
plain_is zero x y e is = subst (IsNodeAt Nowhere) (sym e) (is Nowhere)
plain_is (suc n) x y e is = subst (IsNodeAt (HasNodes (IsNode n))) (sym e) (is (HasNodes (IsNode n)))

abbrev no_element : Option ℕ → Bool
no_element None = true
no_element (Some k) = false

-- a word of an operation that names none of `get` and `set`
abbrev is_apart : Operation → Bool
is_apart (operation.Apply p) = no_element (primitive_row p).field
is_apart _ = true

abbrev is_node_apart : NodeWord → Bool
is_node_apart (word_of.Plain (plain.Operation o)) = is_apart o
is_node_apart _ = true

abbrev pub Apart : NodeWord → Type 0
Apart w = is_node_apart w ≡ true

has_none : (o : Option ℕ) → no_element o ≡ true → HasElement o
has_none None e = tt
has_none (Some k) e = absurd cc

operation_read : (n : ℕ) (o : Operation) → is_apart o ≡ true → Reads (IsNode n) (operation_rest o)
operation_read n (operation.Apply p) k =
    reads_bind operands_read λ w is. reads_give (node.Apply p w.0 w.1) (plain_is n (node.Apply p w.0 w.1) (Node-F.Apply p w.0 w.1) (node.outs-Apply p w.0 w.1) (λ inside. (has_none (primitive_row p).field k, is)))
operation_read n operation.Get k =
    reads_bind field_read λ i so.
    reads_bind operands_read λ w is.
    reads_give (node.Apply (primitive.Get i) w.0 w.1) (plain_is n (node.Apply (primitive.Get i) w.0 w.1) (Node-F.Apply (primitive.Get i) w.0 w.1) (node.outs-Apply (primitive.Get i) w.0 w.1) (λ inside. (so, is)))
operation_read n operation.Set k =
    reads_bind field_read λ i so.
    reads_bind operands_read λ w is.
    reads_give (node.Apply (primitive.Set i) w.0 w.1) (plain_is n (node.Apply (primitive.Set i) w.0 w.1) (Node-F.Apply (primitive.Set i) w.0 w.1) (node.outs-Apply (primitive.Set i) w.0 w.1) (λ inside. (so, is)))
operation_read n (operation.Shared s) k =
    reads_bind operands_read λ w is. reads_give (node.Shared s w.0 w.1) (plain_is n (node.Shared s w.0 w.1) (Node-F.Shared s w.0 w.1) (node.outs-Shared s w.0 w.1) (λ inside. is))

plain_read : (n : ℕ) (w : PlainWord) → Apart (word_of.Plain w) → Reads (IsNode n) (plain_rest w)
plain_read n plain.Const k =
    reads_bind (reads_any type_given) λ t is.
    reads_bind literal_read λ l so.
    reads_bind to_wire_read λ o also.
    reads_give (node.Const t l o) (plain_is n (node.Const t l o) (Node-F.Const t l o) (node.outs-Const t l o) (λ inside. (is, so, also)))
plain_read n (plain.Operation o) k = operation_read n o k
plain_read n plain.Obtain k =
    reads_bind text_read λ q named.
    reads_bind {Q = IsQueueSize} (reads_take (λ t z g e. queue_known t z e)) λ z fits.
    reads_bind (reads_any type_given) λ t is.
    reads_bind to_wire_read λ o also.
    reads_give (node.Obtain q z t o) (plain_is n (node.Obtain q z t o) (Node-F.Obtain q z t o) (node.outs-Obtain q z t o) (λ inside. (named, fits, is, also)))
plain_read n plain.Read k =
    reads_bind name_read λ x named. reads_bind to_wire_read λ o is. reads_give (node.Read x o) (plain_is n (node.Read x o) (Node-F.Read x o) (node.outs-Read x o) (λ inside. (named, is)))
plain_read n plain.Write k =
    reads_bind name_read λ x named. reads_bind last_wire_read λ i is. reads_give (node.Write x i) (plain_is n (node.Write x i) (Node-F.Write x i) (node.outs-Write x i) (λ inside. (named, is)))
plain_read n plain.Call k =
    reads_bind name_read λ x named. reads_bind operands_read λ w is. reads_give (node.Call x w.0 w.1) (plain_is n (node.Call x w.0 w.1) (Node-F.Call x w.0 w.1) (node.outs-Call x w.0 w.1) (λ inside. (named, is)))

-- ---- structures

deeper_is : (n : ℕ) (x : Node) (y : Node-F Node Branch Diagram SequenceFrame) → out-Node x ≡ y → IsNodeAt (HasNodes (IsNode n)) y → IsNode (suc n) x
unfolding IsNode
deeper_is n x y e is = subst (IsNodeAt (HasNodes (IsNode n))) (sym e) is

some_and_last : {A : Type 0} (x : List A × A) → 1 ≤ length (and_last x)
some_and_last x = omega (arith, length-append x.0 (x.1 ∷ []))

structure_read : (v n : ℕ) (inside : Inside) → AreRead (IsNode n) inside → (w : StructureWord) → Reads (IsNode (suc n)) (structure_rest v inside w)
structure_read v n inside given structure.For =
    reads_bind across_read λ w ws.
    reads_bind (body_read (IsNode n) inside given border.For) λ b is.
    let body : Diagram = record { nodes = b.1 } in
    reads_give (node.For w.0 w.1 b.0 body) (deeper_is n (node.For w.0 w.1 b.0 body) (Node-F.For w.0 w.1 b.0 body) (node.outs-For w.0 w.1 b.0 body) (ws.0, ws.1, is.0, is.1))
structure_read v n inside given structure.While =
    reads_bind across_read λ w ws.
    reads_bind (body_read (IsNode n) inside given border.While) λ b is.
    let body : Diagram = record { nodes = b.1 } in
    reads_give (node.While w.0 w.1 b.0 body) (deeper_is n (node.While w.0 w.1 b.0 body) (Node-F.While w.0 w.1 b.0 body) (node.outs-While w.0 w.1 b.0 body) (ws.0, ws.1, is.0, is.1))
structure_read v n inside given structure.Case =
    reads_bind last_wire_read λ w is.
    reads_bind (lines_read border.Case (codes "when")) λ lines l.
    let count : ℕ = results lines.0 in
    let P : Branch → Type 0 = IsBranch (HasNodes (IsNode n)) count in
    reads_bind (reads_loop IsFirst P P selector_first (branch_rest inside count) selector_known (branch_read (IsNode n) inside given count)) λ bs e.
    reads_give (node.Case w lines.0 (and_last bs))
    (deeper_is n (node.Case w lines.0 (and_last bs)) (Node-F.Case w lines.0 (and_last bs)) (node.outs-Case w lines.0 (and_last bs)) (is, l.all, some_and_last bs, and_last_all P bs e))
structure_read v n inside given structure.Sequence =
    reads_after λ e.
    reads_after λ x.
    reads_bind (reads_after λ end. frame_read (IsNode n) inside given border.FirstFrame) λ f is.
    reads_bind (frames_read (IsNode n) inside given f is) λ fs so.
    reads_give (node.Sequence fs) (deeper_is n (node.Sequence fs) (Node-F.Sequence fs) (node.outs-Sequence fs) so)
structure_read v n inside given structure.InPlace =
    reads_after λ e.
    reads_bind (body_read (IsNode n) inside given border.InPlace) λ b is.
    let body : Diagram = record { nodes = b.1 } in
    reads_give (node.InPlace b.0 body) (deeper_is n (node.InPlace b.0 body) (Node-F.InPlace b.0 body) (node.outs-InPlace b.0 body) (is.0, is.1))

-- ---- how a node begins

operation_apart : (u : List ℕ) (o : Operation) → operation_of u ≡ Some o → is_apart o ≡ true
unfolding operation_of
operation_apart = by_test (λ u o. is_apart o) (words_of OPERATIONS) refl

named_apart : (v : ℕ) (u : List ℕ) (c : NodeWord) → node_named v u ≡ Some c → Apart c
named_apart v u c e = go (lookup node_words u) (operation_of u) refl refl e
  where
    when_since : (o : Operation) (b : Bool) → is_apart o ≡ true → or_operation None (cond b (Some o) None) ≡ Some c → Apart c
    when_since o true k h = subst Apart (some_is h) k
    when_since o false k h = absurd cc

    go : (a : Option NodeWord) (b : Option Operation) → lookup node_words u ≡ a → operation_of u ≡ b → or_operation a (in_version v b) ≡ Some c → Apart c
    go (Some w) b f g h = subst Apart (some_is h) (by_test (λ u w. is_node_apart w) node_words refl u w f)
    go None None f g h = absurd cc
    go None (Some o) f g h = when_since o (nat_le (operation_row o).since v) (operation_apart u o g) h

fits : (n : ℕ) (o : Option NodeWord) (c : NodeWord) → fitting_node n o ≡ Some c → o ≡ Some c
fits n None c e = absurd cc
fits n (Some (word_of.Plain w)) c e = e
fits n (Some (word_of.Structure s)) c e = when_above (is_above n) (word_of.Structure s) c e

pub first_known : (v n : ℕ) (t : Token) (c : NodeWord) → IsGood t → node_first v n t ≡ Some c → Apart c
first_known v n (token.Word u) c g e = named_apart v u c (fits n (node_named v u) c e)
first_known v n (token.Mark m) c g e = absurd cc
first_known v n (token.Number z) c g e = absurd cc
first_known v n (token.Text w) c g e = absurd cc
first_known v n token.Eol c g e = absurd cc
first_known v n token.End c g e = absurd cc
first_known v n token.Bad c g e = absurd cc

-- ---- levels

turn_read : {D : Type 0} (n : ℕ) (rest : NodeWord → Grammar Token Node) → ((w : NodeWord) → Apart w → Reads (IsNode n) (rest w))
    → (c : NodeWord ⊎ D) → Either Apart Any c → Reads (Either (IsNode n) Any) (node_or_end rest c)
turn_read n rest given (inl w) k = reads_bind (given w k) λ x is. reads_give (inl x) is
turn_read n rest given (inr d) k = reads_give (inr d) tt

inside_read : (v n : ℕ) (rest : NodeWord → Grammar Token Node) → ((w : NodeWord) → Apart w → Reads (IsNode n) (rest w)) → AreRead (IsNode n) (nodes_of (node_first v n) rest)
inside_read v n rest given u =
    reads_loop (Either Apart Any) (IsNode n) Any (or_else (node_first v n) (word_in (ends_of u))) (node_or_end rest)
    (either_known Apart Any (node_first v n) (word_in (ends_of u)) (first_known v n) (any_known (word_in (ends_of u)))) (turn_read n rest given)

pub node_read : (v n : ℕ) (w : NodeWord) → Apart w → Reads (IsNode n) (node_rest v n w)
unfolding node_rest
node_read v zero (word_of.Plain w) k = plain_read zero w k
node_read v zero (word_of.Structure w) k = nothing_read
node_read v (suc n) (word_of.Plain w) k = plain_read (suc n) w k
node_read v (suc n) (word_of.Structure w) k = structure_read v n (nodes v n) (inside_read v n (node_rest v n) (node_read v n)) w

pub nodes_read : (v n : ℕ) → AreRead (IsNode n) (nodes v n)
nodes_read v n = inside_read v n (node_rest v n) (node_read v n)
