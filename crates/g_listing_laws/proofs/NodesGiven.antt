-- The constants of the nodes that a listing has.
use Rattle.std.proofs.Common.{ℕ, zero, suc, Bool, true, false, List, [], ◌∷◌, Option, inl, inr, ◌⊎◌, codes, ◌≡◌, ◌≤◌, length, refl, ap, arith}
use Rattle.std.specs.List.{All}
use Rattle.std.proofs.lemmas.List.{length-append}
use Rattle.std.proofs.lemmas.List.Elements.{All-nil, All-cons, All-append}
use Rattle.g_grammar.specs.Grammar.{Grammar, take, exactly, or_else}
use Rattle.g_values.specs.declared.primitive.Primitive.TheVariants as primitive
use Rattle.g_diagram.specs.declared.node.Selector.{Selector}
use Rattle.g_diagram.specs.declared.node.Tunnel.{Tunnel}
use Rattle.g_diagram.specs.Lines.{Wire}
use Rattle.g_diagram.specs.declared.node.SequenceFrame.{SequenceFrame}
use Rattle.g_diagram.specs.declared.node.Node.{Node}
use Rattle.g_diagram.specs.declared.node.Node.TheVariants as node
use Rattle.g_tokens.specs.declared.token.Token.{Token}
use Rattle.g_listing_words.specs.declared.Operation.{Operation}
use Rattle.g_listing_words.specs.declared.Operation.TheVariants as operation
use Rattle.g_listing_grammar.specs.declared.NodeWord.{NodeWord}
use Rattle.g_listing_grammar.specs.declared.NodeWord.TheVariants as word_of
use Rattle.g_listing_grammar.specs.declared.PlainWord.{PlainWord}
use Rattle.g_listing_grammar.specs.declared.PlainWord.TheVariants as plain
use Rattle.g_listing_grammar.specs.declared.StructureWord.{StructureWord}
use Rattle.g_listing_grammar.specs.declared.StructureWord.TheVariants as structure
use Rattle.g_listing_grammar.specs.declared.Until.{Until}
use Rattle.g_listing_grammar.specs.declared.Until.TheVariants as until
use Rattle.g_listing_grammar.specs.declared.Border.{Border}
use Rattle.g_listing_grammar.specs.declared.Border.TheVariants as border
use Rattle.g_listing_grammar.specs.declared.SelectorFirst.{SelectorFirst}
use Rattle.g_listing_grammar.specs.Words.{word_in, wire, eol}
use Rattle.g_listing_grammar.specs.Nodes.{selector_first, further_selectors, selectors, results, gives, and_last, ends_of, Inside, more_or_end, branch_rest, frame_rest, further_frames, node_first, node_or_end, lines_and_body, operation_rest, plain_rest, structure_rest, nodes_of, node_rest, nodes}
use Rattle.g_listing_laws.proofs.Gives.{Gives, Either, Ended, gives_give, gives_take, gives_bind, gives_after, gives_loop}
use Rattle.g_listing_laws.specs.Spelled.{IsQueueSize, IsLineSpelled}
use Rattle.g_listing_laws.proofs.TypesGiven.{type_given}
use Rattle.g_listing_laws.proofs.BordersGiven.{Whatever, queue_known, lines_given}
use Rattle.g_listing_laws.proofs.LinesSpelled.{IsNodeSpelled, IsBranchSpelled, IsFrameSpelled, spelled-Const, spelled-Apply, spelled-Shared, spelled-Obtain, spelled-Read, spelled-Write, spelled-Call, spelled-For, spelled-While, spelled-InPlace, spelled-Case, spelled-Sequence}

-- the diagrams inside a structure
abbrev pub AreGiven : Inside → Type 0
AreGiven inside = (u : Until) → Gives (Ended IsNodeSpelled Whatever) (inside u)

-- ---- branches and frames

and_last_all : {A : Type 0} (P : A → Type 0) (x : List A × A) → Ended P P x → All P (and_last x)
and_last_all P x e = All-append P x.0 (x.1 ∷ []) e.all (All-cons P x.1 [] e.last (All-nil P))

more_or_end_given : {A : Type 0} (P : A → Type 0) (a : A) → P a → (more : Bool) → Gives (Either P P) (more_or_end a more)
more_or_end_given P a is true = gives_give (inl a) is
more_or_end_given P a is false = gives_after λ e. gives_give (inr a) is

abbrev IsSome : {A : Type 0} → List A → Type 0
IsSome xs = 1 ≤ length xs

with_last : {A : Type 0} (x : List A × A) → IsSome (and_last x)
with_last x = omega (arith, length-append x.0 (x.1 ∷ []))

further_given : (s : Selector ⊎ Selector) → Gives (IsSome {A = Selector}) (further_selectors s)
further_given (inl s) = gives_after λ ss. gives_give (s ∷ and_last ss) (omega arith)
further_given (inr s) = gives_give (s ∷ []) (omega arith)

selectors_given : (c : SelectorFirst) → Gives (IsSome {A = Selector}) (selectors c)
selectors_given c = gives_after further_given

abbrev HasLength : ℕ → List Wire → Type 0
HasLength n ws = length ws ≡ n

exactly_given : (n : ℕ) → Gives (HasLength n) (exactly n (take wire))
exactly_given zero = gives_give [] refl
exactly_given (suc n) = gives_after λ x. gives_bind (exactly_given n) λ xs e. gives_give (x ∷ xs) (ap suc e)

gives_given : (n : ℕ) → Gives (HasLength n) (gives n)
gives_given zero = gives_give [] refl
gives_given (suc n) = gives_after λ x. gives_bind (exactly_given (suc n)) λ ws e. gives_after λ end. gives_give ws e

branch_given : (inside : Inside) → AreGiven inside → (n : ℕ) (c : SelectorFirst) → Gives (Either (IsBranchSpelled n) (IsBranchSpelled n)) (branch_rest inside n c)
branch_given inside given n c =
    gives_bind (selectors_given c) λ ss some.
    gives_bind (gives_given n) λ ws long.
    gives_bind (given until.WhenOrEnd) λ ns e.
    more_or_end_given (IsBranchSpelled n) (record { selectors = ss; gives = ws; body = record { nodes = ns.0 } }) (record { selectors = some; gives = long; body = e.all }) ns.1

frame_given : (inside : Inside) → AreGiven inside → (b : Border) → Gives (Either IsFrameSpelled IsFrameSpelled) (frame_rest inside b)
frame_given inside given b =
    gives_after λ lines.
    gives_after λ end.
    gives_bind (given until.FrameOrEnd) λ ns e.
    more_or_end_given IsFrameSpelled (record { lines = lines.0; body = record { nodes = ns.0 } }) e.all ns.1

abbrev AreFrames : List SequenceFrame → Type 0
AreFrames fs = IsSome fs × All IsFrameSpelled fs

frames_given : (inside : Inside) → AreGiven inside → (f : SequenceFrame ⊎ SequenceFrame) → Either IsFrameSpelled IsFrameSpelled f → Gives AreFrames (further_frames inside f)
frames_given inside given (inl f) is =
    gives_bind (gives_loop IsFrameSpelled IsFrameSpelled eol (λ e. frame_rest inside border.Frame) (λ e. frame_given inside given border.Frame)) λ fs e.
    gives_give (f ∷ and_last fs) (omega arith, All-cons IsFrameSpelled f (and_last fs) is (and_last_all IsFrameSpelled fs e))
frames_given inside given (inr f) is = gives_give (f ∷ []) (omega arith, All-cons IsFrameSpelled f [] is (All-nil IsFrameSpelled))

-- ---- nodes without diagrams

operation_given : (o : Operation) → Gives IsNodeSpelled (operation_rest o)
operation_given (operation.Apply p) = gives_after λ w. gives_give (node.Apply p w.0 w.1) (spelled-Apply p w.0 w.1)
operation_given operation.Get = gives_after λ k. gives_after λ w. gives_give (node.Apply (primitive.Get k) w.0 w.1) (spelled-Apply (primitive.Get k) w.0 w.1)
operation_given operation.Set = gives_after λ k. gives_after λ w. gives_give (node.Apply (primitive.Set k) w.0 w.1) (spelled-Apply (primitive.Set k) w.0 w.1)
operation_given (operation.Shared s) = gives_after λ w. gives_give (node.Shared s w.0 w.1) (spelled-Shared s w.0 w.1)

plain_given : (w : PlainWord) → Gives IsNodeSpelled (plain_rest w)
plain_given plain.Const = gives_bind type_given λ t is. gives_after λ l. gives_after λ o. gives_give (node.Const t l o) (spelled-Const t l o is)
plain_given (plain.Operation o) = operation_given o
plain_given plain.Obtain =
    gives_after λ q.
    gives_bind {Q = IsQueueSize} (gives_take queue_known) λ n fits.
    gives_bind type_given λ t is.
    gives_after λ o.
    gives_give (node.Obtain q n t o) (spelled-Obtain q n t o fits is)
plain_given plain.Read = gives_after λ n. gives_after λ o. gives_give (node.Read n o) (spelled-Read n o)
plain_given plain.Write = gives_after λ n. gives_after λ i. gives_give (node.Write n i) (spelled-Write n i)
plain_given plain.Call = gives_after λ n. gives_after λ w. gives_give (node.Call n w.0 w.1) (spelled-Call n w.0 w.1)

-- ---- structures

record HasBody (b : List Tunnel × List Node) : Type 0 where
  lines : All IsLineSpelled b.0
  nodes : All IsNodeSpelled b.1

body_given : (inside : Inside) → AreGiven inside → (b : Border) → Gives HasBody (lines_and_body inside b)
body_given inside given b =
    gives_bind (lines_given b (codes "do")) λ lines l.
    gives_after λ d.
    gives_bind (given until.End) λ ns e.
    gives_after λ end.
    gives_give (lines.0, ns.0) (record { lines = l.all; nodes = e.all })

structure_given : (v : ℕ) (inside : Inside) → AreGiven inside → (w : StructureWord) → Gives IsNodeSpelled (structure_rest v inside w)
structure_given v inside given structure.For =
    gives_after λ w. gives_bind (body_given inside given border.For) λ b a. gives_give (node.For w.0 w.1 b.0 (record { nodes = b.1 })) (spelled-For w.0 w.1 b.0 (record { nodes = b.1 }) a.lines a.nodes)
structure_given v inside given structure.While =
    gives_after λ w. gives_bind (body_given inside given border.While) λ b a. gives_give (node.While w.0 w.1 b.0 (record { nodes = b.1 })) (spelled-While w.0 w.1 b.0 (record { nodes = b.1 }) a.lines a.nodes)
structure_given v inside given structure.Case =
    gives_after λ w.
    gives_after λ lines.
    let n : ℕ = results lines.0 in
    gives_bind (gives_loop (IsBranchSpelled n) (IsBranchSpelled n) selector_first (branch_rest inside n) (branch_given inside given n)) λ branches e.
    gives_give (node.Case w lines.0 (and_last branches)) (spelled-Case w lines.0 (and_last branches) (with_last branches) (and_last_all (IsBranchSpelled n) branches e))
structure_given v inside given structure.Sequence =
    gives_after λ e.
    gives_after λ x.
    gives_bind (gives_after λ end. frame_given inside given border.FirstFrame) λ f is.
    gives_bind (frames_given inside given f is) λ frames a.
    gives_give (node.Sequence frames) (spelled-Sequence frames a.0 a.1)
structure_given v inside given structure.InPlace =
    gives_after λ e. gives_bind (body_given inside given border.InPlace) λ b a. gives_give (node.InPlace b.0 (record { nodes = b.1 })) (spelled-InPlace b.0 (record { nodes = b.1 }) a.lines a.nodes)

-- ---- levels

item_given : {D : Type 0} (rest : NodeWord → Grammar Token Node) → ((w : NodeWord) → Gives IsNodeSpelled (rest w)) → (c : NodeWord ⊎ D) → Gives (Either IsNodeSpelled (Whatever {D = D})) (node_or_end rest c)
item_given rest given (inl w) = gives_bind (given w) λ n is. gives_give (inl n) is
item_given rest given (inr d) = gives_give (inr d) tt

inside_given : (begin : Token → Option NodeWord) (rest : NodeWord → Grammar Token Node) → ((w : NodeWord) → Gives IsNodeSpelled (rest w)) → AreGiven (nodes_of begin rest)
inside_given begin rest given u = gives_loop IsNodeSpelled Whatever (or_else begin (word_in (ends_of u))) (node_or_end rest) (item_given rest given)

pub node_given : (v n : ℕ) (w : NodeWord) → Gives IsNodeSpelled (node_rest v n w)
unfolding node_rest
node_given v zero (word_of.Plain w) = plain_given w
node_given v zero (word_of.Structure w) = gives_take λ t a e. absurd cc
node_given v (suc n) (word_of.Plain w) = plain_given w
node_given v (suc n) (word_of.Structure w) = structure_given v (nodes v n) (inside_given (node_first v n) (node_rest v n) (node_given v n)) w

pub nodes_given : (v n : ℕ) → AreGiven (nodes v n)
nodes_given v n = inside_given (node_first v n) (node_rest v n) (node_given v n)
