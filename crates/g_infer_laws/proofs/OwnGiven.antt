-- The structures of a listing have lines of their own alone.
use Rattle.std.proofs.Common.{◌≡◌, ℕ, zero, suc, Bool, true, false, List, [], ◌∷◌, Option, Some, None, codes, refl, subst, inl, inr, ◌⊎◌}
use Rattle.std.proofs.lemmas.Bool.{and_from}
use Rattle.std.proofs.lemmas.Option.{same_Some}
use Rattle.std.specs.Prelude.{if◌then◌else◌}
use Rattle.std.specs.List.{All, AllByRecursion, list_all}
use Rattle.std.specs.Str.{bytes_eq}
use Rattle.std.proofs.lemmas.List.Elements.{All-nil, All-cons, All-head, All-tail, All-append}
use Rattle.g_grammar.specs.Grammar.{Grammar, loop, tail, Phrases, Has, either, or_else}
use Rattle.g_grammar.proofs.Laws.{first_is}
use Rattle.g_values.specs.declared.primitive.Primitive.{Primitive}
use Rattle.g_values.specs.declared.primitive.Primitive.TheVariants as primitive
use Rattle.g_diagram.specs.declared.hierarchy.Hierarchy.{Hierarchy}
use Rattle.g_diagram.specs.declared.hierarchy.Vi.{Vi}
use Rattle.g_diagram.specs.declared.node.Tunnel.{Tunnel}
use Rattle.g_diagram.specs.declared.node.Tunnel.TheVariants as tunnel
use Rattle.g_diagram.specs.declared.node.SequenceFrame.{SequenceFrame}
use Rattle.g_diagram.specs.declared.node.Node.{Node}
use Rattle.g_diagram.specs.declared.node.Node.TheVariants as node
use Rattle.g_diagram.specs.Lines.{Wire}
use Rattle.g_diagram.specs.Lines as kind
use Rattle.g_diagram.proofs.LineLemmas as by
use Rattle.g_tokens.specs.declared.token.Token.{Token}
use Rattle.g_tokens.specs.declared.token.Token.TheVariants as token
use Rattle.g_tokens.specs.Tokens.{placed_tokens, tokens_of}
use Rattle.g_listing_words.specs.Operations.{lookup}
use Rattle.g_listing_words.specs.declared.Operation.{Operation}
use Rattle.g_listing_words.specs.declared.Operation.TheVariants as operation
use Rattle.g_listing_grammar.specs.declared.NodeWord.{NodeWord}
use Rattle.g_listing_grammar.specs.declared.NodeWord.TheVariants as word_of
use Rattle.g_listing_grammar.specs.declared.PlainWord.{PlainWord}
use Rattle.g_listing_grammar.specs.declared.PlainWord.TheVariants as plain
use Rattle.g_listing_grammar.specs.declared.StructureWord.{StructureWord}
use Rattle.g_listing_grammar.specs.declared.StructureWord.TheVariants as structure
use Rattle.g_listing_grammar.specs.declared.Until.{Until}
use Rattle.g_listing_grammar.specs.declared.Until.TheVariants as until
use Rattle.g_listing_grammar.specs.declared.Border.{Border}
use Rattle.g_listing_grammar.specs.declared.Border.TheVariants as border
use Rattle.g_listing_grammar.specs.declared.LineWord.{LineWord}
use Rattle.g_listing_grammar.specs.declared.SelectorFirst.{SelectorFirst}
use Rattle.g_listing_grammar.specs.Words.{word, word_in, eol}
use Rattle.g_listing_grammar.specs.Borders.{register_rest, result_end, line_rest, line_or_end, while_lines, first_frame_lines, lines_of, lines_to}
use Rattle.g_listing_grammar.specs.Nodes.{selector_first, results, and_last, ends_of, Inside, more_or_end, branch_rest, frame_rest, further_frames, node_first, node_or_end, lines_and_body, operation_rest, plain_rest, structure_rest, nodes_of, node_rest, nodes}
use Rattle.g_listing_grammar.specs.Listing.{Begin, body_first, body_item, nodes_after, vi_rest, vi_word, at_end, vi_or_end, vis, listing}
use Rattle.g_listing_laws.proofs.Gives.{Gives, Either, Ended, gives_give, gives_take, gives_bind, gives_after, gives_loop}
use Rattle.g_listing_laws.proofs.BordersGiven.{Whatever}
use Rattle.g_infer_laws.specs.OwnLines.{is_loop_line, is_case_line, is_frame_line, is_place_line, HasOwnLines, ReadsOwnLines}
use Rattle.g_infer_laws.proofs.OwnNodes.{IsNodeOwn, IsBranchOwn, IsFrameOwn, AreFramesOwn, by_line, own-For, own-While, own-InPlace, own-Case, own-Sequence, vi_own}

-- ---- phrases whose first tokens are known

module _ {T A C D : Type 0} (P : A → Type 0) (Q : D → Type 0) (p : T → Option C) (k : C → Grammar T (A ⊎ D)) (given : (t : T) (c : C) → p t ≡ Some c → Gives (Either P Q) (k c)) where
  phrases_each : (ts : List T) (xs : List A) (d : D) (rest : List T) → Phrases p (λ c. Has (k c)) ts xs d rest → Ended P Q (xs, d)
  phrases_each ts [] d rest h =
      let f = first_is p ts h.0 h.1 in
      record { all = All-nil P; last = (given f.0 h.0 f.2).each (tail ts) (inr d) rest h.2 }
  phrases_each ts (x ∷ xs) d rest h =
      let f = first_is p ts h.0 h.2 in
      let more = phrases_each h.1 xs d rest h.4 in
      record { all = All-cons P x xs ((given f.0 h.0 f.2).each (tail ts) (inl x) h.1 h.3) more.all; last = more.last }

  gives_known : Gives (Ended P Q) (loop p k)
  gives_known = record { each = λ ts x rest h. phrases_each ts x.0 x.1 rest h }

lookup_known : {A : Type 0} (P : A → Type 0) (rows : List (List ℕ × A)) → AllByRecursion (λ row. P row.1) rows → (w : List ℕ) (a : A) → lookup rows w ≡ Some a → P a
lookup_known P [] all w a e = absurd cc
lookup_known {A} P (row ∷ rows) all w a e = by (bytes_eq w row.0) e (lookup_known P rows all.1 w a)
  where
    by : (b : Bool) → (if b then Some row.1 else lookup rows w) ≡ Some a → (lookup rows w ≡ Some a → P a) → P a
    by true f more = subst P (same_Some row.1 a f) all.0
    by false f more = more f

word_known : {A : Type 0} (P : A → Type 0) (rows : List (List ℕ × A)) → AllByRecursion (λ row. P row.1) rows → (t : Token) (a : A) → word_in rows t ≡ Some a → P a
word_known P rows all (token.Word w) a e = lookup_known P rows all w a e
word_known P rows all (token.Number n) a e = absurd cc
word_known P rows all (token.Text v) a e = absurd cc
word_known P rows all (token.Mark m) a e = absurd cc
word_known P rows all token.Eol a e = absurd cc
word_known P rows all token.End a e = absurd cc
word_known P rows all token.Bad a e = absurd cc

left_is : {A D : Type 0} (o : Option A) (q : Option D) (a : A) → either o q ≡ Some (inl a) → o ≡ Some a
left_is (Some x) q a e = cc
left_is None (Some d) a e = absurd cc
left_is None None a e = absurd cc

-- ---- lines

abbrev Passes : (Tunnel → Bool) → Tunnel → Type 0
Passes test t = test t ≡ true

-- each of these words begins lines that pass
abbrev BeginPassing : (Tunnel → Bool) → List (List ℕ × LineWord) → Type 0
BeginPassing test rows = AllByRecursion (λ row. Gives (Passes test) (line_rest row.1)) rows

register_passes : (w : Wire) → Gives (Passes is_loop_line) (register_rest w)
register_passes (Some n) = gives_after λ w. gives_give (tunnel.Register (Some n) w.0 w.1 w.2) refl
register_passes None = gives_after λ t. gives_after λ w. gives_give (tunnel.Kept t w.0 w.1 w.2) refl

result_passes : (w : Wire) (d : Bool) → Gives (Passes is_case_line) (result_end w d)
result_passes w true = gives_after λ e. gives_give (tunnel.Result w true) refl
result_passes w false = gives_give (tunnel.Result w false) refl

while_pass : BeginPassing is_loop_line while_lines
while_pass = (
  gives_after λ w. gives_give (tunnel.Tunnel w.0 w.1) refl,
  (gives_after register_passes, (gives_after λ w. gives_give (tunnel.Last w.0 w.1) refl, (gives_after λ w. gives_give (tunnel.Gather w.0 w.1) refl, tt))),
)

frame_passes : (first : Bool) → BeginPassing (is_frame_line first) first_frame_lines
frame_passes first = (gives_after λ w. gives_give (tunnel.Tunnel w.0 w.1) refl, (gives_after λ w. gives_give (tunnel.Last w.0 w.1) refl, tt))

-- the lines that a border has
abbrev line_at : Border → Tunnel → Bool
line_at border.For = is_loop_line
line_at border.While = is_loop_line
line_at border.Case = is_case_line
line_at border.FirstFrame = is_frame_line true
line_at border.Frame = is_frame_line false
line_at border.InPlace = is_place_line

border_passes : (b : Border) → BeginPassing (line_at b) (lines_of b)
border_passes border.For = (gives_after λ w. gives_give (tunnel.Index w.0 w.1) refl, while_pass)
border_passes border.While = while_pass
border_passes border.Case = (gives_after λ w. gives_give (tunnel.Tunnel w.0 w.1) refl, (gives_after λ w. gives_after (result_passes w), tt))
border_passes border.FirstFrame = frame_passes true
border_passes border.Frame = (gives_after λ w. gives_give (tunnel.Carry w.0 w.1) refl, frame_passes false)
border_passes border.InPlace = (
  gives_after λ w. gives_give (tunnel.Tunnel w.0 w.1) refl,
  (
    gives_after λ w. gives_give (tunnel.Last w.0 w.1) refl,
    (
      gives_after λ r. gives_after λ w. gives_after λ x. gives_after λ same. gives_after λ code. gives_give (tunnel.Ref r w.0 w.1 same code) refl,
      (gives_after λ a. gives_after λ i. gives_after λ w. gives_give (tunnel.Element a i w.0 w.1 w.2) refl, (gives_after λ k. gives_after λ c. gives_after λ w. gives_give (tunnel.Field k c w.0 w.1 w.2) refl, tt)),
    ),
  ),
)

all_pass : (test : Tunnel → Bool) (ts : List Tunnel) → All (Passes test) ts → list_all test ts ≡ true
all_pass test [] a = refl
all_pass test (t ∷ ts) a = and_from (test t) (list_all test ts) (All-head (Passes test) t ts a) (all_pass test ts (All-tail (Passes test) t ts a))

lines_pass : (b : Border) (stop : List ℕ) → Gives (Ended (Passes (line_at b)) Whatever) (lines_to b stop)
lines_pass b stop = gives_known (Passes (line_at b)) Whatever (or_else (word_in (lines_of b)) (word stop)) line_or_end known
  where
    known : (t : Token) (c : LineWord ⊎ Unit {0}) → or_else (word_in (lines_of b)) (word stop) t ≡ Some c → Gives (Either (Passes (line_at b)) (Whatever {D = Unit {0}})) (line_or_end c)
    known t (inl w) e =
        gives_bind (word_known (λ l. Gives (Passes (line_at b)) (line_rest l)) (lines_of b) (border_passes b) t w (left_is (word_in (lines_of b) t) (word stop t) w e))
        λ l is. gives_give (inl l) is
    known t (inr d) e = gives_give (inr d) tt

-- ---- branches and frames

-- the diagrams inside a structure
abbrev AreGiven : Inside → Type 0
AreGiven inside = (u : Until) → Gives (Ended IsNodeOwn Whatever) (inside u)

and_last_all : {A : Type 0} (P : A → Type 0) (x : List A × A) → Ended P P x → All P (and_last x)
and_last_all P x e = All-append P x.0 (x.1 ∷ []) e.all (All-cons P x.1 [] e.last (All-nil P))

more_or_end_given : {A : Type 0} (P : A → Type 0) (a : A) → P a → (more : Bool) → Gives (Either P P) (more_or_end a more)
more_or_end_given P a is true = gives_give (inl a) is
more_or_end_given P a is false = gives_after λ e. gives_give (inr a) is

branch_given : (inside : Inside) → AreGiven inside → (n : ℕ) (c : SelectorFirst) → Gives (Either IsBranchOwn IsBranchOwn) (branch_rest inside n c)
branch_given inside given n c =
    gives_after λ ss.
    gives_after λ ws.
    gives_bind (given until.WhenOrEnd) λ ns e.
    more_or_end_given IsBranchOwn (record { selectors = ss; gives = ws; body = record { nodes = ns.0 } }) e.all ns.1

frame_given : (inside : Inside) → AreGiven inside → (b : Border) (first : Bool) → Gives (Ended (Passes (is_frame_line first)) Whatever) (lines_to b (codes "do"))
    → Gives (Either (IsFrameOwn first) (IsFrameOwn first)) (frame_rest inside b)
frame_given inside given b first lines_given =
    gives_bind lines_given λ lines l.
    gives_after λ end.
    gives_bind (given until.FrameOrEnd) λ ns e.
    more_or_end_given (IsFrameOwn first) (record { lines = lines.0; body = record { nodes = ns.0 } }) (record { lines = all_pass (is_frame_line first) lines.0 l.all; body = e.all }) ns.1

later_frames : (fs : List SequenceFrame) → All (IsFrameOwn false) fs → AreFramesOwn false fs
later_frames [] a = tt
later_frames (f ∷ fs) a = (All-head (IsFrameOwn false) f fs a, later_frames fs (All-tail (IsFrameOwn false) f fs a))

frames_given : (inside : Inside) → AreGiven inside → (f : SequenceFrame ⊎ SequenceFrame) → Either (IsFrameOwn true) (IsFrameOwn true) f → Gives (AreFramesOwn true) (further_frames inside f)
frames_given inside given (inl f) is =
    gives_bind
    (gives_loop (IsFrameOwn false) (IsFrameOwn false) eol (λ e. frame_rest inside border.Frame) (λ e. frame_given inside given border.Frame false (lines_pass border.Frame (codes "do"))))
    λ fs e. gives_give (f ∷ and_last fs) (is, later_frames (and_last fs) (and_last_all (IsFrameOwn false) fs e))
frames_given inside given (inr f) is = gives_give (f ∷ []) (is, tt)

-- ---- nodes without diagrams

apply_own : (p : Primitive) (inputs outputs : List Wire) → IsNodeOwn (node.Apply p inputs outputs)
apply_own p inputs outputs = by_line (node.Apply p inputs outputs) (kind.Apply p inputs outputs) (by.lines-Apply p inputs outputs) refl

operation_given : (o : Operation) → Gives IsNodeOwn (operation_rest o)
operation_given (operation.Apply p) = gives_after λ w. gives_give (node.Apply p w.0 w.1) (apply_own p w.0 w.1)
operation_given operation.Get = gives_after λ k. gives_after λ w. gives_give (node.Apply (primitive.Get k) w.0 w.1) (apply_own (primitive.Get k) w.0 w.1)
operation_given operation.Set = gives_after λ k. gives_after λ w. gives_give (node.Apply (primitive.Set k) w.0 w.1) (apply_own (primitive.Set k) w.0 w.1)
operation_given (operation.Shared s) =
    gives_after λ w. gives_give (node.Shared s w.0 w.1) (by_line (node.Shared s w.0 w.1) (kind.Shared s w.0 w.1) (by.lines-Shared s w.0 w.1) refl)

plain_given : (w : PlainWord) → Gives IsNodeOwn (plain_rest w)
plain_given plain.Const =
    gives_after λ t. gives_after λ l. gives_after λ o. gives_give (node.Const t l o) (by_line (node.Const t l o) (kind.Const t l o) (by.lines-Const t l o) refl)
plain_given (plain.Operation o) = operation_given o
plain_given plain.Obtain =
    gives_after λ q. gives_after λ n. gives_after λ t. gives_after λ o.
    gives_give (node.Obtain q n t o) (by_line (node.Obtain q n t o) (kind.Obtain q n t o) (by.lines-Obtain q n t o) refl)
plain_given plain.Read = gives_after λ n. gives_after λ o. gives_give (node.Read n o) (by_line (node.Read n o) (kind.Read n o) (by.lines-Read n o) refl)
plain_given plain.Write = gives_after λ n. gives_after λ i. gives_give (node.Write n i) (by_line (node.Write n i) (kind.Write n i) (by.lines-Write n i) refl)
plain_given plain.Call =
    gives_after λ n. gives_after λ w. gives_give (node.Call n w.0 w.1) (by_line (node.Call n w.0 w.1) (kind.Call n w.0 w.1) (by.lines-Call n w.0 w.1) refl)

-- ---- structures

record HasBody (test : Tunnel → Bool) (b : List Tunnel × List Node) : Type 0 where
  lines : list_all test b.0 ≡ true
  nodes : All IsNodeOwn b.1

body_given : (inside : Inside) → AreGiven inside → (b : Border) → Gives (HasBody (line_at b)) (lines_and_body inside b)
body_given inside given b =
    gives_bind (lines_pass b (codes "do")) λ lines l.
    gives_after λ d.
    gives_bind (given until.End) λ ns e.
    gives_after λ end.
    gives_give (lines.0, ns.0) (record { lines = all_pass (line_at b) lines.0 l.all; nodes = e.all })

structure_given : (v : ℕ) (inside : Inside) → AreGiven inside → (w : StructureWord) → Gives IsNodeOwn (structure_rest v inside w)
structure_given v inside given structure.For =
    gives_after λ w. gives_bind (body_given inside given border.For) λ b a. gives_give (node.For w.0 w.1 b.0 (record { nodes = b.1 })) (own-For w.0 w.1 b.0 (record { nodes = b.1 }) a.lines a.nodes)
structure_given v inside given structure.While =
    gives_after λ w. gives_bind (body_given inside given border.While) λ b a. gives_give (node.While w.0 w.1 b.0 (record { nodes = b.1 })) (own-While w.0 w.1 b.0 (record { nodes = b.1 }) a.lines a.nodes)
structure_given v inside given structure.Case =
    gives_after λ w.
    gives_bind (lines_pass border.Case (codes "when")) λ lines l.
    gives_bind (gives_loop IsBranchOwn IsBranchOwn selector_first (branch_rest inside (results lines.0)) (branch_given inside given (results lines.0))) λ branches e.
    gives_give (node.Case w lines.0 (and_last branches)) (own-Case w lines.0 (and_last branches) (all_pass is_case_line lines.0 l.all) (and_last_all IsBranchOwn branches e))
structure_given v inside given structure.Sequence =
    gives_after λ e.
    gives_after λ x.
    gives_bind (gives_after λ end. frame_given inside given border.FirstFrame true (lines_pass border.FirstFrame (codes "do"))) λ f is.
    gives_bind (frames_given inside given f is) λ frames a.
    gives_give (node.Sequence frames) (own-Sequence frames a)
structure_given v inside given structure.InPlace =
    gives_after λ e. gives_bind (body_given inside given border.InPlace) λ b a. gives_give (node.InPlace b.0 (record { nodes = b.1 })) (own-InPlace b.0 (record { nodes = b.1 }) a.lines a.nodes)

-- ---- levels

item_given : {D : Type 0} (rest : NodeWord → Grammar Token Node) → ((w : NodeWord) → Gives IsNodeOwn (rest w)) → (c : NodeWord ⊎ D) → Gives (Either IsNodeOwn (Whatever {D = D})) (node_or_end rest c)
item_given rest given (inl w) = gives_bind (given w) λ n is. gives_give (inl n) is
item_given rest given (inr d) = gives_give (inr d) tt

inside_given : (begin : Token → Option NodeWord) (rest : NodeWord → Grammar Token Node) → ((w : NodeWord) → Gives IsNodeOwn (rest w)) → AreGiven (nodes_of begin rest)
inside_given begin rest given u = gives_loop IsNodeOwn Whatever (or_else begin (word_in (ends_of u))) (node_or_end rest) (item_given rest given)

node_given : (v n : ℕ) (w : NodeWord) → Gives IsNodeOwn (node_rest v n w)
unfolding node_rest
node_given v zero (word_of.Plain w) = plain_given w
node_given v zero (word_of.Structure w) = gives_take λ t a e. absurd cc
node_given v (suc n) (word_of.Plain w) = plain_given w
node_given v (suc n) (word_of.Structure w) = structure_given v (nodes v n) (inside_given (node_first v n) (node_rest v n) (node_given v n)) w

-- ---- listings

abbrev IsFirstOwn : Option Node → Type 0
IsFirstOwn None = Unit {0}
IsFirstOwn (Some n) = IsNodeOwn n

begin_given : (v : ℕ) (c : Begin) → Gives (Either Whatever IsFirstOwn) (body_item v c)
begin_given v (inl w) = gives_after λ p. gives_give (inl p) tt
begin_given v (inr (inl w)) = gives_bind (node_given v 32 w) λ n is. gives_give (inr (Some n)) is
begin_given v (inr (inr x)) = gives_give (inr None) tt

after_given : (v : ℕ) (n : Option Node) → IsFirstOwn n → Gives (All IsNodeOwn) (nodes_after v n)
after_given v None is = gives_give [] (All-nil IsNodeOwn)
after_given v (Some n) is =
    gives_bind (inside_given (node_first v 32) (node_rest v 32) (node_given v 32) until.End) λ ns e. gives_give (n ∷ ns.0) (All-cons IsNodeOwn n ns.0 is e.all)

vi_given : (v : ℕ) → Gives HasOwnLines (vi_rest v)
vi_given v =
    gives_after λ n.
    gives_after λ k.
    gives_bind (gives_loop Whatever IsFirstOwn (body_first v) (body_item v) (begin_given v)) λ items e.
    gives_bind (after_given v items.1 e.last) λ ns a.
    gives_after λ end.
    let vi : Vi = record { name = n; clones = k.0; system = k.1; panel = items.0; top = record { nodes = ns } } in
    gives_give vi (vi_own vi a)

or_end_given : (v : ℕ) (c : Unit {0} ⊎ Unit {0}) → Gives (Either HasOwnLines (Whatever {D = Unit {0}})) (vi_or_end v c)
or_end_given v (inl x) = gives_bind (vi_given v) λ i is. gives_give (inl i) is
or_end_given v (inr x) = gives_give (inr tt) tt

vis_given : (v : ℕ) → Gives (All HasOwnLines) (vis v)
vis_given v =
    gives_after λ x.
    gives_bind (vi_given v) λ i is.
    gives_bind (gives_loop HasOwnLines Whatever (or_else vi_word at_end) (vi_or_end v) (or_end_given v)) λ others e.
    gives_give (i ∷ others.0) (All-cons HasOwnLines i others.0 is e.all)

abbrev HaveOwnLines : Hierarchy → Type 0
HaveOwnLines h = All HasOwnLines h.vis

listing_given : Gives HaveOwnLines listing
listing_given = gives_after λ x. gives_after λ v. gives_after λ e. gives_bind (vis_given v) λ is a. gives_give (record { vis = is }) a

pub reads_own_lines : ReadsOwnLines
reads_own_lines bytes h l = listing_given.each (tokens_of (placed_tokens bytes)) h [] l
