-- Nodes can be completed wherever a token is refused.
use Rattle.std.proofs.Common.{◌≡◌, ℕ, zero, suc, Bool, true, false, List, [], ◌∷◌, ◌++◌, Option, Some, None, refl, ap, inl, inr, ◌⊎◌, arith}
use Rattle.std.specs.Prelude.{codes, ℤ, pos}
use Rattle.g_grammar.specs.Grammar.{Grammar, give, take, or_else, either}
use Rattle.g_grammar.proofs.Live.{extends, either_left}
use Rattle.g_values.specs.declared.primitive.Primitive.TheVariants as primitive
use Rattle.g_diagram.specs.declared.node.Selector.{Selector}
use Rattle.g_diagram.specs.declared.node.Selector.TheVariants as selector
use Rattle.g_diagram.specs.declared.node.Branch.{Branch}
use Rattle.g_diagram.specs.declared.node.SequenceFrame.{SequenceFrame}
use Rattle.g_diagram.specs.declared.node.Node.{Node}
use Rattle.g_diagram.specs.declared.node.Node.TheVariants as node
use Rattle.g_tokens.specs.declared.token.Token.{Token}
use Rattle.g_tokens.specs.declared.token.Token.TheVariants as token
use Rattle.g_tokens.specs.declared.token.Mark.TheVariants as mark
use Rattle.g_listing_words.specs.Operations.{operation_of}
use Rattle.g_listing_words.specs.declared.Operation.{Operation}
use Rattle.g_listing_words.specs.declared.Operation.TheVariants as operation
use Rattle.g_listing_grammar.specs.declared.NodeWord.{NodeWord}
use Rattle.g_listing_grammar.specs.declared.NodeWord.TheVariants as word_of
use Rattle.g_listing_grammar.specs.declared.PlainWord.{PlainWord}
use Rattle.g_listing_grammar.specs.declared.PlainWord.TheVariants as plain
use Rattle.g_listing_grammar.specs.declared.StructureWord.{StructureWord}
use Rattle.g_listing_grammar.specs.declared.StructureWord.TheVariants as structure
use Rattle.g_listing_grammar.specs.declared.Until.{Until}
use Rattle.g_listing_grammar.specs.declared.Until.TheVariants as until
use Rattle.g_listing_grammar.specs.declared.Border.{Border}
use Rattle.g_listing_grammar.specs.declared.Border.TheVariants as border
use Rattle.g_listing_grammar.specs.declared.SelectorFirst.{SelectorFirst}
use Rattle.g_listing_grammar.specs.declared.SelectorFirst.TheVariants as begins
use Rattle.g_listing_grammar.specs.Words.{node_word, word, word_in, wire, eol, comma_or_eol, text, queue_size, number}
use Rattle.g_listing_grammar.specs.Borders.{lines_of}
use Rattle.g_listing_grammar.specs.Nodes.{selector_first, range_rest, selector_rest, more_or_last, selector_item, and_last, further_selectors, selectors, results, gives, ends_of, Inside, more_or_end, branch_rest, frame_rest, further_frames, fitting_node, node_first, node_or_end, lines_and_body, operation_rest, plain_rest, structure_rest, node_rest, nodes, dots}
use Rattle.g_print_laws.proofs.Lexing.{IsWord}
use Rattle.g_print_laws.proofs.Parts.{some_is}
use Rattle.g_listing_completions.proofs.Over.{over}
use Rattle.g_listing_completions.proofs.Good.{Good, token_of, good_word}
use Rattle.g_listing_completions.proofs.Forms.{State, fresh, midway, sides, Steps, Form, GoodHas, form_give, form_take, form_bind, form_loop, form_exactly, form_in, form_first, in_line, at_start, either_steps}
use Rattle.g_listing_completions.proofs.BorderForms.{Ending, going, eol_steps, name_form, wire_form, eol_form, field_form, type_form, literal_form, operands_form, last_wire_form, to_wire_form, across_form, lines_form}

-- one more of a kind goes on inside a line, and the last ends it
abbrev pub more_or_fresh : {A D : Type 0} → (A ⊎ D) → State
more_or_fresh = sides (λ a. midway) (λ d. fresh)

-- ---- selectors

comma_steps : Steps comma_or_eol going midway
comma_steps (token.Mark mark.Comma) more h = ap going (some_is h)
comma_steps token.Eol more h = ap going (some_is h)
comma_steps t more h = absurd cc

comma_form : Form (take comma_or_eol) going midway
comma_form = form_take comma_or_eol going midway token.Eol tt false refl comma_steps

abbrev further : Selector × Bool → State
further s = going s.1

abbrev dotted : (Unit {0} ⊎ Bool) → State
dotted = sides (λ (x : Unit {0}). midway) going

range_form : (n : ℤ) (c : Unit {0} ⊎ Bool) → Form (range_rest n c) further (dotted c)
range_form n (inl x) = form_bind (form_in number (token.Number (pos 0)) (omega arith) (pos 0) refl refl refl refl) λ m. form_bind comma_form λ more. form_give (selector.Range n m, more)
range_form n (inr more) = form_give (selector.Number n, more)

selector_form : (c : SelectorFirst) → Form (selector_rest c) further midway
selector_form (begins.Whole s) = form_bind comma_form λ more. form_give (s, more)
selector_form (begins.Number n) =
    form_bind (form_take (or_else dots comma_or_eol) dotted midway token.Eol tt (inr false) refl (either_steps dots comma_or_eol (λ x. midway) going midway (in_line dots refl refl refl) comma_steps)) (range_form n)

more_or_last_form : (s : Selector × Bool) → Form (give (more_or_last s)) more_or_fresh (further s)
more_or_last_form (s, true) = form_give (inl s)
more_or_last_form (s, false) = form_give (inr s)

selector_item_form : (c : SelectorFirst) → Form (selector_item c) more_or_fresh midway
selector_item_form c = form_bind (selector_form c) more_or_last_form

-- the last selector of a line
default_good : IsWord (codes "default")
default_good = good_word (codes "default") refl refl refl

abbrev a_feed : Good
a_feed = (token.Eol, tt)

abbrev by_default : SelectorFirst
by_default = begins.Whole selector.Default

last_selector : (rest : List Good) → GoodHas (selector_item by_default) (a_feed ∷ rest) (inr selector.Default) rest
last_selector rest = ((selector.Default, false), rest, (false, rest, (refl, refl), (refl, refl)), (refl, refl))

selector_steps : Steps selector_first (λ c. midway) midway
selector_steps = in_line selector_first refl refl refl

further_form : (s : Selector ⊎ Selector) → Form (further_selectors s) (λ ss. fresh) (more_or_fresh s)
further_form (inl s) =
    form_bind (form_loop selector_first selector_item (λ c. midway) (λ d. fresh) midway selector_steps (λ t c e. selector_item_form c) (token.Word (codes "default")) default_good by_default (a_feed ∷ []) selector.Default refl (last_selector []))
    λ ss. form_give (s ∷ and_last ss)
further_form (inr s) = form_give (s ∷ [])

selectors_form : (c : SelectorFirst) → Ending (selectors c)
selectors_form c = form_bind (selector_item_form c) further_form

-- ---- branches and frames

gives_form : (n : ℕ) → Form (gives n) (λ ws. fresh) fresh
gives_form zero = form_give []
gives_form (suc n) =
    form_bind (form_first (word (codes "give")) (token.Word (codes "give")) (good_word (codes "give") refl refl refl) tt refl refl refl refl) λ x.
    form_bind (form_exactly (suc n) (take wire) wire_form) λ ws.
    form_bind eol_form λ e.
    form_give ws

more_or_end_form : {A : Type 0} (a : A) (more : Bool) → Form (more_or_end a more) more_or_fresh midway
more_or_end_form a true = form_give (inl a)
more_or_end_form a false = form_bind eol_form λ e. form_give (inr a)

abbrev pub an_end : Token
an_end = token.Word (codes "end")

pub end_good : IsWord (codes "end")
end_good = good_word (codes "end") refl refl refl

do_good : IsWord (codes "do")
do_good = good_word (codes "do") refl refl refl

abbrev good_end : Good
good_end = (an_end, end_good)

-- diagrams that can be completed, and may be empty
pub record Ready (inner : Inside) : Type 0 where
  pub form : (u : Until) → Form (inner u) (λ x. midway) fresh
  pub empty : (u : Until) → GoodHas (inner u) (good_end ∷ []) ([], false) []

branch_form : (inner : Inside) → Ready inner → (n : ℕ) (c : SelectorFirst) → Form (branch_rest inner n c) more_or_fresh midway
branch_form inner ready n c =
    form_bind (selectors_form c) λ ss.
    form_bind (gives_form n) λ ws.
    form_bind (ready.form until.WhenOrEnd) λ nodes.
    more_or_end_form (record { selectors = ss; gives = ws; body = record { nodes = nodes.0 } }) nodes.1

-- what ends the last diagram
abbrev finish : List Good
finish = good_end ∷ a_feed ∷ []

ends_here : (inner : Inside) → Ready inner → (u : Until) → GoodHas (inner u) finish ([], false) (a_feed ∷ [])
ends_here inner ready u = extends (over token_of (inner u)) (good_end ∷ []) ([], false) (ready.empty u) (a_feed ∷ [])

-- the last branch of a case
abbrev last_tokens : ℕ → List Good
last_tokens n = a_feed ∷ ((gives_form n).live.phrase ++ finish)

abbrev last_value : ℕ → Branch
last_value n = record { selectors = selector.Default ∷ []; gives = (gives_form n).live.value; body = record { nodes = [] } }

last_branch : (inner : Inside) → Ready inner → (n : ℕ) → GoodHas (branch_rest inner n by_default) (last_tokens n) (inr (last_value n)) []
last_branch inner ready n =
    let live = (gives_form n).live in
    let mid : List Good = live.phrase ++ finish in (
      selector.Default ∷ [],
      mid,
      (inr selector.Default, mid, last_selector mid, (refl, refl)),
      (
        live.value,
        finish,
        extends (over token_of (gives n)) live.phrase live.value live.sample finish,
        (([], false), a_feed ∷ [], ends_here inner ready until.WhenOrEnd, (tt, [], (refl, refl), (refl, refl))),
      ),
    )

frame_form : (inner : Inside) → Ready inner → (b : Border) → or_else (word_in (lines_of b)) (word (codes "do")) (token.Word (codes "do")) ≡ Some (inr tt) → Form (frame_rest inner b) more_or_fresh fresh
frame_form inner ready b e =
    form_bind (lines_form b (codes "do") do_good e) λ lines.
    form_bind eol_form λ e.
    form_bind (ready.form until.FrameOrEnd) λ nodes.
    more_or_end_form (record { lines = lines.0; body = record { nodes = nodes.0 } }) nodes.1

-- the last frame of a sequence, after its first line
abbrev frame_tokens : List Good
frame_tokens = (token.Word (codes "do"), do_good) ∷ a_feed ∷ finish

abbrev empty_frame : SequenceFrame
empty_frame = record { lines = []; body = record { nodes = [] } }

last_frame : (inner : Inside) → Ready inner → GoodHas (frame_rest inner border.Frame) frame_tokens (inr empty_frame) []
last_frame inner ready = (
  ([], tt),
  a_feed ∷ finish,
  (inr tt, refl, (refl, refl)),
  (tt, finish, (refl, refl), (([], false), a_feed ∷ [], ends_here inner ready until.FrameOrEnd, (tt, [], (refl, refl), (refl, refl)))),
)

frames_form : (inner : Inside) → Ready inner → (f : SequenceFrame ⊎ SequenceFrame) → Form (further_frames inner f) (λ fs. fresh) (more_or_fresh f)
frames_form inner ready (inl f) =
    form_bind (form_loop eol (λ e. frame_rest inner border.Frame) (λ e. fresh) (λ d. fresh) midway eol_steps (λ t c e. frame_form inner ready border.Frame refl) token.Eol tt tt frame_tokens empty_frame refl (last_frame inner ready))
    λ fs. form_give (f ∷ and_last fs)
frames_form inner ready (inr f) = form_give (f ∷ [])

-- ---- nodes without diagrams

operation_form : (o : Operation) → Ending (operation_rest o)
operation_form (operation.Apply p) = form_bind operands_form λ w. form_give (node.Apply p w.0 w.1)
operation_form operation.Get = form_bind field_form λ k. form_bind operands_form λ w. form_give (node.Apply (primitive.Get k) w.0 w.1)
operation_form operation.Set = form_bind field_form λ k. form_bind operands_form λ w. form_give (node.Apply (primitive.Set k) w.0 w.1)
operation_form (operation.Shared s) = form_bind operands_form λ w. form_give (node.Shared s w.0 w.1)

plain_form : (w : PlainWord) → Ending (plain_rest w)
plain_form plain.Const = form_bind type_form λ t. form_bind literal_form λ l. form_bind to_wire_form λ o. form_give (node.Const t l o)
plain_form (plain.Operation o) = operation_form o
plain_form plain.Obtain =
    form_bind (form_in text (token.Text []) refl [] refl refl refl refl) λ q.
    form_bind (form_in queue_size (token.Number (pos 1)) (omega arith) (pos 1) refl refl refl refl) λ n.
    form_bind type_form λ t.
    form_bind to_wire_form λ o.
    form_give (node.Obtain q n t o)
plain_form plain.Read = form_bind name_form λ n. form_bind to_wire_form λ o. form_give (node.Read n o)
plain_form plain.Write = form_bind name_form λ n. form_bind last_wire_form λ i. form_give (node.Write n i)
plain_form plain.Call = form_bind name_form λ n. form_bind operands_form λ w. form_give (node.Call n w.0 w.1)

-- ---- structures

body_form : (inner : Inside) → Ready inner → (b : Border) → or_else (word_in (lines_of b)) (word (codes "do")) (token.Word (codes "do")) ≡ Some (inr tt) → Form (lines_and_body inner b) (λ x. fresh) fresh
body_form inner ready b e =
    form_bind (lines_form b (codes "do") do_good e) λ lines.
    form_bind eol_form λ d.
    form_bind (ready.form until.End) λ nodes.
    form_bind eol_form λ e.
    form_give (lines.0, nodes.0)

structure_form : (v : ℕ) (inner : Inside) → Ready inner → (w : StructureWord) → Ending (structure_rest v inner w)
structure_form v inner ready structure.For =
    form_bind across_form λ w. form_bind (body_form inner ready border.For refl) λ b. form_give (node.For w.0 w.1 b.0 (record { nodes = b.1 }))
structure_form v inner ready structure.While =
    form_bind across_form λ w. form_bind (body_form inner ready border.While refl) λ b. form_give (node.While w.0 w.1 b.0 (record { nodes = b.1 }))
structure_form v inner ready structure.Case =
    form_bind last_wire_form λ w.
    form_bind (lines_form border.Case (codes "when") (good_word (codes "when") refl refl refl) refl) λ lines.
    form_bind (form_loop selector_first (branch_rest inner (results lines.0)) (λ c. midway) (λ d. fresh) midway selector_steps (λ t c e. branch_form inner ready (results lines.0) c)
    (token.Word (codes "default")) default_good by_default (last_tokens (results lines.0)) (last_value (results lines.0)) refl (last_branch inner ready (results lines.0)))
    λ branches. form_give (node.Case w lines.0 (and_last branches))
structure_form v inner ready structure.Sequence =
    form_bind eol_form λ e.
    form_bind (form_first (word (codes "frame")) (token.Word (codes "frame")) (good_word (codes "frame") refl refl refl) tt refl refl refl refl) λ x.
    form_bind (form_bind eol_form λ f. frame_form inner ready border.FirstFrame refl) λ first.
    form_bind (frames_form inner ready first) λ frames.
    form_give (node.Sequence frames)
structure_form v inner ready structure.InPlace =
    form_bind eol_form λ e. form_bind (body_form inner ready border.InPlace refl) λ b. form_give (node.InPlace b.0 (record { nodes = b.1 }))

-- ---- levels

no_structure : (o : Option NodeWord) (w : StructureWord) → fitting_node 0 o ≡ Some (word_of.Structure w) → ⊥
no_structure None w e = cc
no_structure (Some (word_of.Plain p)) w e = let f : word_of.Plain p ≡ word_of.Structure w = cc in cc
no_structure (Some (word_of.Structure s)) w e = cc

item_form : (first : Token → Option NodeWord) (rest : NodeWord → Grammar Token Node) (q : Token → Option Bool) → ((t : Token) (w : NodeWord) → first t ≡ Some w → Ending (rest w))
    → (t : Token) (c : NodeWord ⊎ Bool) → or_else first q t ≡ Some c → Form (node_or_end rest c) (sides (λ (n : Node). fresh) (λ (d : Bool). midway)) midway
item_form first rest q form t (inl w) e = form_bind (form t w (either_left (first t) (q t) w e)) λ n. form_give (inl n)
item_form first rest q form t (inr d) e = form_give (inr d)

-- no node begins with `end`, in any version
end_is_other : (v : ℕ) → node_word v an_end ≡ None
unfolding operation_of
end_is_other v = refl

ends_at : {D : Type 0} (v n : ℕ) (q : Option D) (d : D) → q ≡ Some d → either (node_first v n an_end) q ≡ Some (inr d)
ends_at v n q d end = rw (end_is_other v, end) refl

ends_until : (u : Until) → word_in (ends_of u) an_end ≡ Some false
ends_until until.End = refl
ends_until until.WhenOrEnd = refl
ends_until until.FrameOrEnd = refl

ready_with : (v n : ℕ) → ((t : Token) (w : NodeWord) → node_first v n t ≡ Some w → Ending (node_rest v n w)) → Ready (nodes v n)
ready_with v n form = record {
  form = λ u.
      form_loop (or_else (node_first v n) (word_in (ends_of u))) (node_or_end (node_rest v n)) (λ c. midway) (λ d. midway) fresh (at_start (or_else (node_first v n) (word_in (ends_of u))) refl refl refl)
      (item_form (node_first v n) (node_rest v n) (word_in (ends_of u)) form) an_end end_good (inr false) [] false (ends_at v n (word_in (ends_of u) an_end) false (ends_until u)) (refl, refl);
  empty = λ u. (inr false, ends_at v n (word_in (ends_of u) an_end) false (ends_until u), (refl, refl));
}

pub node_rest_form : (v n : ℕ) (t : Token) (w : NodeWord) → node_first v n t ≡ Some w → Ending (node_rest v n w)
unfolding node_rest
node_rest_form v zero t (word_of.Plain w) e = plain_form w
node_rest_form v zero t (word_of.Structure w) e = absurd (no_structure (node_word v t) w e)
node_rest_form v (suc n) t (word_of.Plain w) e = plain_form w
node_rest_form v (suc n) t (word_of.Structure w) e = structure_form v (nodes v n) (ready_with v n (node_rest_form v n)) w

pub nodes_form : (v n : ℕ) → Form (nodes v n until.End) (λ x. midway) fresh
nodes_form v n = (ready_with v n (node_rest_form v n)).form until.End
