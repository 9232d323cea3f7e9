-- Nodes can be completed wherever a token is refused.
use Rattle.std.proofs.Common.{◌≡◌, ℕ, zero, suc, Bool, true, false, List, [], ◌∷◌, ◌++◌, Option, Some, None, refl, inl, inr, ◌⊎◌}
use Rattle.std.specs.Prelude.{codes, ℤ, pos}
use Rattle.g_grammar.specs.Grammar.{Grammar, take, Has, or_else, either}
use Rattle.g_grammar.proofs.Live.{Live, live_give, live_take, live_bind, live_loop, live_exactly, extends, either_left}
use Rattle.g_values.specs.declared.primitive.Primitive.TheVariants as primitive
use Rattle.g_diagram.specs.declared.node.Selector.{Selector}
use Rattle.g_diagram.specs.declared.node.Selector.TheVariants as selector
use Rattle.g_diagram.specs.declared.node.Branch.{Branch}
use Rattle.g_diagram.specs.declared.node.SequenceFrame.{SequenceFrame}
use Rattle.g_diagram.specs.declared.node.Node.{Node}
use Rattle.g_diagram.specs.declared.node.Node.TheVariants as node
use Rattle.g_tokens.specs.declared.token.Token.{Token}
use Rattle.g_tokens.specs.declared.token.Token.TheVariants as token
use Rattle.g_listing_words.specs.Operations.{operation_of}
use Rattle.g_listing_words.specs.declared.Operation.{Operation}
use Rattle.g_listing_words.specs.declared.Operation.TheVariants as operation
use Rattle.g_listing_grammar.specs.declared.NodeWord.{NodeWord}
use Rattle.g_listing_grammar.specs.declared.NodeWord.TheVariants as word_of
use Rattle.g_listing_grammar.specs.declared.PlainWord.{PlainWord}
use Rattle.g_listing_grammar.specs.declared.PlainWord.TheVariants as plain
use Rattle.g_listing_grammar.specs.declared.StructureWord.{StructureWord}
use Rattle.g_listing_grammar.specs.declared.StructureWord.TheVariants as structure
use Rattle.g_listing_grammar.specs.declared.Until.{Until}
use Rattle.g_listing_grammar.specs.declared.Until.TheVariants as until
use Rattle.g_listing_grammar.specs.declared.Border.{Border}
use Rattle.g_listing_grammar.specs.declared.Border.TheVariants as border
use Rattle.g_listing_grammar.specs.declared.SelectorFirst.{SelectorFirst}
use Rattle.g_listing_grammar.specs.declared.SelectorFirst.TheVariants as first
use Rattle.g_listing_grammar.specs.Words.{node_word, word, word_in, wire, eol, comma_or_eol}
use Rattle.g_listing_grammar.specs.Borders.{lines_of}
use Rattle.g_listing_grammar.specs.Nodes.{selector_first, range_rest, selector_rest, more_or_last, selector_item, and_last, further_selectors, selectors, results, gives, ends_of, Inside, more_or_end, branch_rest, frame_rest, further_frames, fitting_node, node_first, node_or_end, lines_and_body, operation_rest, plain_rest, structure_rest, node_rest, nodes}
use Rattle.g_listing_grammar.proofs.LiveBorders.{live_name, live_wire, live_eol, live_field, live_type, live_literal, live_operands, live_last_wire, live_to_wire, live_across, live_lines}

-- ---- selectors

live_comma : Live (take comma_or_eol)
live_comma = live_take token.Eol false refl

live_range : (n : ℤ) (c : Unit {0} ⊎ Bool) → Live (range_rest n c)
live_range n (inl x) = live_bind (live_take (token.Number (pos 0)) (pos 0) refl) λ m. live_bind live_comma λ more. live_give (selector.Range n m, more)
live_range n (inr more) = live_give (selector.Number n, more)

live_selector : (c : SelectorFirst) → Live (selector_rest c)
live_selector (first.Whole s) = live_bind live_comma λ more. live_give (s, more)
live_selector (first.Number n) = live_bind (live_take token.Eol (inr false) refl) (live_range n)

live_selector_item : (c : SelectorFirst) → Live (selector_item c)
live_selector_item c = live_bind (live_selector c) λ s. live_give (more_or_last s)

-- the last selector of a line
default_word : Token
default_word = token.Word (codes "default")

abbrev by_default : SelectorFirst
by_default = first.Whole selector.Default

last_selector : (rest : List Token) → Has (selector_item by_default) (token.Eol ∷ rest) (inr selector.Default) rest
last_selector rest = ((selector.Default, false), rest, (false, rest, (refl, refl), (refl, refl)), (refl, refl))

live_further : (s : Selector ⊎ Selector) → Live (further_selectors s)
live_further (inl s) =
    live_bind (live_loop selector_first selector_item (λ t c e. live_selector_item c) (token.Word (codes "default")) by_default (token.Eol ∷ []) selector.Default refl (last_selector []))
    λ ss. live_give (s ∷ and_last ss)
live_further (inr s) = live_give (s ∷ [])

live_selectors : (c : SelectorFirst) → Live (selectors c)
live_selectors c = live_bind (live_selector_item c) live_further

-- ---- branches and frames

live_gives : (n : ℕ) → Live (gives n)
live_gives zero = live_give []
live_gives (suc n) =
    live_bind (live_take (token.Word (codes "give")) tt refl) λ x.
    live_bind (live_exactly (suc n) (take wire) live_wire) λ ws.
    live_bind live_eol λ e.
    live_give ws

live_more_or_end : {A : Type 0} (a : A) (more : Bool) → Live (more_or_end a more)
live_more_or_end a true = live_give (inl a)
live_more_or_end a false = live_bind live_eol λ e. live_give (inr a)

abbrev an_end : Token
an_end = token.Word (codes "end")

-- diagrams that can be completed, and may be empty
pub record Ready (inside : Inside) : Type 0 where
  pub live : (u : Until) → Live (inside u)
  pub empty : (u : Until) → Has (inside u) (an_end ∷ []) ([], false) []

live_branch : (inside : Inside) → Ready inside → (n : ℕ) (c : SelectorFirst) → Live (branch_rest inside n c)
live_branch inside ready n c =
    live_bind (live_selectors c) λ ss.
    live_bind (live_gives n) λ ws.
    live_bind (ready.live until.WhenOrEnd) λ nodes.
    live_more_or_end (record { selectors = ss; gives = ws; body = record { nodes = nodes.0 } }) nodes.1

-- what ends the last diagram
abbrev finish : List Token
finish = an_end ∷ token.Eol ∷ []

ends_here : (inside : Inside) → Ready inside → (u : Until) → Has (inside u) finish ([], false) (token.Eol ∷ [])
ends_here inside ready u = extends (inside u) (an_end ∷ []) ([], false) (ready.empty u) (token.Eol ∷ [])

-- the last branch of a case
abbrev last_tokens : ℕ → List Token
last_tokens n = token.Eol ∷ ((live_gives n).phrase ++ finish)

abbrev last_value : ℕ → Branch
last_value n = record { selectors = selector.Default ∷ []; gives = (live_gives n).value; body = record { nodes = [] } }

last_branch : (inside : Inside) → Ready inside → (n : ℕ) → Has (branch_rest inside n by_default) (last_tokens n) (inr (last_value n)) []
last_branch inside ready n =
    let mid : List Token = (live_gives n).phrase ++ finish in (
      selector.Default ∷ [],
      mid,
      (inr selector.Default, mid, last_selector mid, (refl, refl)),
      (
        (live_gives n).value,
        finish,
        extends (gives n) (live_gives n).phrase (live_gives n).value (live_gives n).sample finish,
        (([], false), token.Eol ∷ [], ends_here inside ready until.WhenOrEnd, (tt, [], (refl, refl), (refl, refl))),
      ),
    )

live_frame : (inside : Inside) → Ready inside → (b : Border) → or_else (word_in (lines_of b)) (word (codes "do")) (token.Word (codes "do")) ≡ Some (inr tt) → Live (frame_rest inside b)
live_frame inside ready b e =
    live_bind (live_lines b (codes "do") e) λ lines.
    live_bind live_eol λ e.
    live_bind (ready.live until.FrameOrEnd) λ nodes.
    live_more_or_end (record { lines = lines.0; body = record { nodes = nodes.0 } }) nodes.1

-- the last frame of a sequence, after its first line
abbrev frame_tokens : List Token
frame_tokens = token.Word (codes "do") ∷ token.Eol ∷ finish

abbrev empty_frame : SequenceFrame
empty_frame = record { lines = []; body = record { nodes = [] } }

last_frame : (inside : Inside) → Ready inside → Has (frame_rest inside border.Frame) frame_tokens (inr empty_frame) []
last_frame inside ready = (
  ([], tt),
  token.Eol ∷ finish,
  (inr tt, refl, (refl, refl)),
  (tt, finish, (refl, refl), (([], false), token.Eol ∷ [], ends_here inside ready until.FrameOrEnd, (tt, [], (refl, refl), (refl, refl)))),
)

live_frames : (inside : Inside) → Ready inside → (f : SequenceFrame ⊎ SequenceFrame) → Live (further_frames inside f)
live_frames inside ready (inl f) =
    live_bind (live_loop eol (λ e. frame_rest inside border.Frame) (λ t c e. live_frame inside ready border.Frame refl) token.Eol tt frame_tokens empty_frame refl (last_frame inside ready))
    λ fs. live_give (f ∷ and_last fs)
live_frames inside ready (inr f) = live_give (f ∷ [])

-- ---- nodes without diagrams

live_operation : (o : Operation) → Live (operation_rest o)
live_operation (operation.Apply p) = live_bind live_operands λ w. live_give (node.Apply p w.0 w.1)
live_operation operation.Get = live_bind live_field λ k. live_bind live_operands λ w. live_give (node.Apply (primitive.Get k) w.0 w.1)
live_operation operation.Set = live_bind live_field λ k. live_bind live_operands λ w. live_give (node.Apply (primitive.Set k) w.0 w.1)
live_operation (operation.Shared s) = live_bind live_operands λ w. live_give (node.Shared s w.0 w.1)

live_plain : (w : PlainWord) → Live (plain_rest w)
live_plain plain.Const = live_bind live_type λ t. live_bind live_literal λ l. live_bind live_to_wire λ o. live_give (node.Const t l o)
live_plain (plain.Operation o) = live_operation o
live_plain plain.Obtain =
    live_bind (live_take (token.Text []) [] refl) λ q.
    live_bind (live_take (token.Number (pos 1)) (pos 1) refl) λ n.
    live_bind live_type λ t.
    live_bind live_to_wire λ o.
    live_give (node.Obtain q n t o)
live_plain plain.Read = live_bind live_name λ n. live_bind live_to_wire λ o. live_give (node.Read n o)
live_plain plain.Write = live_bind live_name λ n. live_bind live_last_wire λ i. live_give (node.Write n i)
live_plain plain.Call = live_bind live_name λ n. live_bind live_operands λ w. live_give (node.Call n w.0 w.1)

-- ---- structures

live_lines_and_body : (inside : Inside) → Ready inside → (b : Border) → or_else (word_in (lines_of b)) (word (codes "do")) (token.Word (codes "do")) ≡ Some (inr tt) → Live (lines_and_body inside b)
live_lines_and_body inside ready b e =
    live_bind (live_lines b (codes "do") e) λ lines.
    live_bind live_eol λ d.
    live_bind (ready.live until.End) λ nodes.
    live_bind live_eol λ e.
    live_give (lines.0, nodes.0)

live_structure : (v : ℕ) (inside : Inside) → Ready inside → (w : StructureWord) → Live (structure_rest v inside w)
live_structure v inside ready structure.For =
    live_bind live_across λ w. live_bind (live_lines_and_body inside ready border.For refl) λ b. live_give (node.For w.0 w.1 b.0 (record { nodes = b.1 }))
live_structure v inside ready structure.While =
    live_bind live_across λ w. live_bind (live_lines_and_body inside ready border.While refl) λ b. live_give (node.While w.0 w.1 b.0 (record { nodes = b.1 }))
live_structure v inside ready structure.Case =
    live_bind live_last_wire λ w.
    live_bind (live_lines border.Case (codes "when") refl) λ lines.
    live_bind (live_loop selector_first (branch_rest inside (results lines.0)) (λ t c e. live_branch inside ready (results lines.0) c)
    (token.Word (codes "default")) by_default (last_tokens (results lines.0)) (last_value (results lines.0)) refl (last_branch inside ready (results lines.0)))
    λ branches. live_give (node.Case w lines.0 (and_last branches))
live_structure v inside ready structure.Sequence =
    live_bind live_eol λ e.
    live_bind (live_take (token.Word (codes "frame")) tt refl) λ x.
    live_bind (live_bind live_eol λ f. live_frame inside ready border.FirstFrame refl) λ first.
    live_bind (live_frames inside ready first) λ frames.
    live_give (node.Sequence frames)
live_structure v inside ready structure.InPlace =
    live_bind live_eol λ e. live_bind (live_lines_and_body inside ready border.InPlace refl) λ b. live_give (node.InPlace b.0 (record { nodes = b.1 }))

-- ---- levels

no_structure : (o : Option NodeWord) (w : StructureWord) → fitting_node 0 o ≡ Some (word_of.Structure w) → ⊥
no_structure None w e = cc
no_structure (Some (word_of.Plain p)) w e = let f : word_of.Plain p ≡ word_of.Structure w = cc in cc
no_structure (Some (word_of.Structure s)) w e = cc

live_item : {D : Type 0} (begin : Token → Option NodeWord) (rest : NodeWord → Grammar Token Node) (q : Token → Option D) → ((t : Token) (w : NodeWord) → begin t ≡ Some w → Live (rest w))
    → (t : Token) (c : NodeWord ⊎ D) → or_else begin q t ≡ Some c → Live (node_or_end rest c)
live_item begin rest q live t (inl w) e = live_bind (live t w (either_left (begin t) (q t) w e)) λ n. live_give (inl n)
live_item begin rest q live t (inr d) e = live_give (inr d)

-- no node begins with `end`, in any version
end_is_other : (v : ℕ) → node_word v an_end ≡ None
unfolding operation_of
end_is_other v = refl

ends_at : {D : Type 0} (v n : ℕ) (q : Option D) (d : D) → q ≡ Some d → either (node_first v n an_end) q ≡ Some (inr d)
ends_at v n q d end = rw (end_is_other v, end) refl

pub end_after : (v n : ℕ) → either (node_first v n an_end) (word (codes "end") an_end) ≡ Some (inr tt)
end_after v n = ends_at v n (word (codes "end") an_end) tt refl

ends_until : (u : Until) → word_in (ends_of u) an_end ≡ Some false
ends_until until.End = refl
ends_until until.WhenOrEnd = refl
ends_until until.FrameOrEnd = refl

ready_with : (v n : ℕ) → ((t : Token) (w : NodeWord) → node_first v n t ≡ Some w → Live (node_rest v n w)) → Ready (nodes v n)
ready_with v n live = record {
  live = λ u. live_loop (or_else (node_first v n) (word_in (ends_of u))) (node_or_end (node_rest v n)) (live_item (node_first v n) (node_rest v n) (word_in (ends_of u)) live) an_end (inr false) [] false
      (ends_at v n (word_in (ends_of u) an_end) false (ends_until u)) (refl, refl);
  empty = λ u. (inr false, ends_at v n (word_in (ends_of u) an_end) false (ends_until u), (refl, refl));
}

pub live_node_rest : (v n : ℕ) (t : Token) (w : NodeWord) → node_first v n t ≡ Some w → Live (node_rest v n w)
unfolding node_rest
live_node_rest v zero t (word_of.Plain w) e = live_plain w
live_node_rest v zero t (word_of.Structure w) e = absurd (no_structure (node_word v t) w e)
live_node_rest v (suc n) t (word_of.Plain w) e = live_plain w
live_node_rest v (suc n) t (word_of.Structure w) e = live_structure v (nodes v n) (ready_with v n (live_node_rest v n)) w

pub live_nodes : (v n : ℕ) → Live (nodes v n until.End)
live_nodes v n = (ready_with v n (live_node_rest v n)).live until.End
