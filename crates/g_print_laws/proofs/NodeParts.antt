-- Nodes with the diagrams in them.
use Rattle.std.proofs.Common.{◌≡◌, ℕ, zero, suc, Bool, true, false, List, [], ◌∷◌, ◌++◌, map, Option, Some, refl, sym, ap, ◌∙◌, subst, codes, inl, inr}
use Rattle.std.specs.Prelude.{◌⊎◌}
use Rattle.g_grammar.specs.Grammar.{Grammar, Has, take, loop, nothing, or_else, exactly}
use Rattle.g_tokens.specs.declared.token.Token.{Token}
use Rattle.g_diagram.specs.declared.node.Tunnel.{Tunnel}
use Rattle.g_diagram.specs.declared.node.Branch.{Branch}
use Rattle.g_diagram.specs.declared.node.SequenceFrame.{SequenceFrame}
use Rattle.g_diagram.specs.declared.node.Node.{Node}
use Rattle.g_diagram.specs.Text as text
use Rattle.g_print_laws.proofs.TextLemmas.{node-For, node-While, node-Case, node-Sequence, node-InPlace, diagram-nodes, branch-parts, frame-parts}
use Rattle.g_listing_grammar.specs.declared.Border.{Border}
use Rattle.g_listing_grammar.specs.declared.Border.TheVariants as border
use Rattle.g_listing_grammar.specs.declared.Until.{Until}
use Rattle.g_listing_grammar.specs.declared.Until.TheVariants as until
use Rattle.g_listing_grammar.specs.declared.SelectorFirst.{SelectorFirst}
use Rattle.g_listing_grammar.specs.declared.NodeWord.{NodeWord}
use Rattle.g_listing_grammar.specs.declared.NodeWord.TheVariants as word_of
use Rattle.g_listing_grammar.specs.declared.StructureWord.{StructureWord}
use Rattle.g_listing_grammar.specs.declared.StructureWord.TheVariants as structure
use Rattle.g_listing_grammar.specs.Words.{word_in, word, wire, eol}
use Rattle.g_listing_grammar.specs.Nodes as grammar
use Rattle.g_listing_grammar.specs.Nodes.{Inside, ends_of, more_or_end, branch_rest, frame_rest, framed, further_frames, node_or_end, node_first, lines_and_body, structure_rest, word_rest, nodes_of, node_rest, selector_first, results, and_last}
use Rattle.g_listing_words.specs.Operations.{lookup}
use Rattle.g_print_laws.proofs.Lexing.{Full}
use Rattle.g_print_laws.proofs.Tables.{named}
use Rattle.g_print_laws.proofs.Parts.{State, Rest, Rested, Filled, Either, either_text, EndOf, chain, chain_end, Says, Goes, gives, alike, in_other_words, binds, binds_on, closes, opens, one, loops, stands_or, wire_says, eol_says, last_wire_says, across_says}
use Rattle.g_print_laws.proofs.TypeParts.{nothing_has}
use Rattle.g_print_laws.proofs.BorderParts.{lines_says, stands_row, stands_stop, stop_at, with_space}
use Rattle.g_print_laws.proofs.SelectorParts.{first_front, stands_selector, selectors_goes}
use Rattle.g_print_laws.proofs.PlainParts.{spelled, structure_word, stands_node, plain_goes, node_at}

abbrev Wire : Type 0
Wire = Option (List ℕ)

-- ---- `give`

wires_exactly : (n : ℕ) → Says Rested Rest (exactly n (take wire)) (λ ws bytes. text.wires ws bytes)
wires_exactly zero = closes (gives (λ bytes. refl))
wires_exactly (suc n) = closes (binds wire_says (λ w. binds (wires_exactly n) (λ ws. gives (λ bytes. refl))))

give_line : (n depth : ℕ) → Says Filled Full (grammar.gives (suc n)) (λ ws more. text.line_from depth (codes "give") (text.wires ws) more)
give_line n depth = closes (binds (one (word (codes "give")) (stands_stop depth (codes "give"))) (λ u. binds (wires_exactly (suc n)) (λ ws. binds eol_says (λ e. gives (λ bytes. refl)))))

gives_says : (n depth : ℕ) → Says Filled Full (grammar.gives n) (λ ws more. text.give_text ws depth more)
gives_says zero depth = closes (gives (λ bytes. refl))
gives_says (suc n) depth = record { says = λ ts ws rest h good bytes q. subst (λ l. Full l ts) (some_are ts ws rest bytes h) ((give_line n depth).says ts ws rest h good bytes q) }
  where
    given : (w : Wire) (ws all : List Wire) (bytes : List ℕ) → w ∷ ws ≡ all → text.line_from depth (codes "give") (text.wires all) bytes ≡ text.give_text all depth bytes
    given w ws all bytes e = subst (λ (l : List Wire). text.line_from depth (codes "give") (text.wires l) bytes ≡ text.give_text l depth bytes) e refl

    some_are : (ts : List Token) (ws : List Wire) (rest : List Token) (bytes : List ℕ) → Has (grammar.gives (suc n)) ts ws rest → text.line_from depth (codes "give") (text.wires ws) bytes ≡ text.give_text ws depth bytes
    some_are ts ws rest bytes h =
        let all = h.3 in
        let x = all.2 in
        given x.0 x.3.0 ws bytes (x.3.3.0 ∙ all.3.3.0)

-- ---- diagrams

abbrev pub until_word : Until → Bool → List ℕ
until_word until.End b = codes "end"
until_word until.WhenOrEnd true = codes "when"
until_word until.WhenOrEnd false = codes "end"
until_word until.FrameOrEnd true = codes "frame"
until_word until.FrameOrEnd false = codes "end"

until_is : (u : Until) (w : List ℕ) (b : Bool) → lookup (ends_of u) w ≡ Some b → w ≡ until_word u b
until_is until.End = named (until_word until.End) (ends_of until.End) refl
until_is until.WhenOrEnd = named (until_word until.WhenOrEnd) (ends_of until.WhenOrEnd) refl
until_is until.FrameOrEnd = named (until_word until.FrameOrEnd) (ends_of until.FrameOrEnd) refl

abbrev pub nodes_text : ℕ → List Node → List ℕ → List ℕ
nodes_text depth ns rest = text.blocks (map text.node ns) depth rest

pub nodes_are : (depth : ℕ) (ns : List Node) (rest : List ℕ) → chain (node_at depth) ns rest ≡ nodes_text depth ns rest
nodes_are depth [] rest = refl
nodes_are depth (n ∷ ns) rest = ap (text.node n depth) (nodes_are depth ns rest)

-- what the diagrams inside write, one level further in than the word that ends them
pub record Diagrams (inside : Inside) : Type 0 where
  pub says : (u : Until) (depth : ℕ) → Says (EndOf Rested) Full (inside u) (λ x bytes. nodes_text (suc depth) x.0 (text.indent depth (until_word u x.1 ++ bytes)))

pub diagrams : (v n : ℕ) (rest : NodeWord → Grammar Token Node) → ((depth : ℕ) (c : NodeWord) → Goes Filled Rest (rest c) (λ w. text.indent depth (spelled c ++ w)) (node_at depth)) → Diagrams (nodes_of (node_first v n) rest)
diagrams v n rest x = record { says = λ u depth. alike (all u depth) (λ y bytes. nodes_are (suc depth) y.0 (text.indent depth (until_word u y.1 ++ bytes))) }
  where
    turn : (u : Until) (depth : ℕ) (y : NodeWord ⊎ Bool) → Goes (Either (λ (a : Node). Full) Rested) (Either Rested Rested y) (node_or_end rest y) (λ w. either_text (stop_at (suc depth) spelled) (stop_at depth (until_word u)) y w) (either_text (node_at (suc depth)) (stop_at depth (until_word u)))
    turn u depth (inl c) = binds_on (λ w. w) (x (suc depth) c) (λ m. gives (λ bytes. refl))
    turn u depth (inr b) = gives (λ bytes. refl)

    all : (u : Until) (depth : ℕ) → Says (EndOf Rested) Full (nodes_of (node_first v n) rest u) (chain_end (node_at (suc depth)) (stop_at depth (until_word u)))
    all u depth =
        loops (closes (binds (one (or_else (node_first v n) (word_in (ends_of u)))
        (stands_or Rested Rested Full (node_first v n) (word_in (ends_of u)) (stop_at (suc depth) spelled) (stop_at depth (until_word u)) (stands_node v n (suc depth)) (stands_row depth (until_word u) (ends_of u) (until_is u)))) (turn u depth)))

module _ (inside : Inside) (x : Diagrams inside) (depth : ℕ) where
  -- ---- branches

  abbrev branch_text : Branch → List ℕ → List ℕ
  branch_text b rest = 32 ∷ text.listed (map text.selector_text b.selectors) (10 ∷ text.give_text b.gives (suc depth) (nodes_text (suc depth) b.body.nodes rest))

  abbrev branch_more : Branch → List ℕ → List ℕ
  branch_more b bytes = branch_text b (text.indent depth (codes "when" ++ bytes))

  abbrev branch_last : Branch → List ℕ → List ℕ
  branch_last b more = branch_text b (text.bare_line depth (codes "end") more)

  one_branch : (b : Branch) (rest : List ℕ) → text.indent depth (codes "when" ++ branch_text b rest) ≡ text.branch b depth rest
  one_branch b rest =
      ap (λ l. text.indent depth (codes "when" ++ (32 ∷ text.listed (map text.selector_text b.selectors) (10 ∷ text.give_text b.gives (suc depth) l)))) (sym (diagram-nodes b.body (suc depth) rest))
      ∙ sym (branch-parts b depth rest)

  branches_are : (bs : List Branch) (b : Branch) (more : List ℕ) → text.indent depth (codes "when" ++ chain branch_more bs (branch_last b more)) ≡ text.blocks (map text.branch (bs ++ b ∷ [])) depth (text.bare_line depth (codes "end") more)
  branches_are [] b more = one_branch b (text.bare_line depth (codes "end") more)
  branches_are (c ∷ bs) b more = one_branch c (text.indent depth (codes "when" ++ chain branch_more bs (branch_last b more))) ∙ ap (text.branch c depth) (branches_are bs b more)

  abbrev Turn : Branch ⊎ Branch → State
  Turn = Either (λ (b : Branch). Rest) (λ (b : Branch). Full)

  branch_end : (b : Branch) (more : Bool) → Goes Turn Rest (more_or_end b more) (λ w. branch_text b (text.indent depth (until_word until.WhenOrEnd more ++ w))) (either_text branch_more branch_last)
  branch_end b true = gives (λ bytes. refl)
  branch_end b false = binds eol_says (λ e. gives (λ bytes. refl))

  branch_goes : (n : ℕ) (c : SelectorFirst) → Goes Turn Rest (branch_rest inside n c) (λ w. 32 ∷ first_front c w) (either_text branch_more branch_last)
  branch_goes n c =
      binds_on (λ w. 32 ∷ w) (selectors_goes c) (λ ss. binds (gives_says n (suc depth)) (λ ws. binds (x.says until.WhenOrEnd depth) (λ nodes.
      branch_end (record { selectors = ss; gives = ws; body = record { nodes = nodes.0 } }) nodes.1)))

  branches_says : (n : ℕ) → Says (EndOf (λ (b : Branch). Full)) Rest (loop selector_first (branch_rest inside n)) (chain_end branch_more branch_last)
  branches_says n = loops (closes (binds (with_space (one selector_first stands_selector)) (branch_goes n)))

  -- ---- frames

  abbrev frame_text : SequenceFrame → List ℕ → List ℕ
  frame_text f rest = text.borders f.lines (suc depth) (text.bare_line depth (codes "do") (nodes_text (suc depth) f.body.nodes rest))

  abbrev frame_more : SequenceFrame → List ℕ → List ℕ
  frame_more f bytes = frame_text f (text.indent depth (codes "frame" ++ bytes))

  abbrev frame_last : SequenceFrame → List ℕ → List ℕ
  frame_last f more = frame_text f (text.bare_line depth (codes "end") more)

  one_frame : (f : SequenceFrame) (rest : List ℕ) → text.bare_line depth (codes "frame") (frame_text f rest) ≡ text.frame f depth rest
  one_frame f rest =
      ap (λ l. text.bare_line depth (codes "frame") (text.borders f.lines (suc depth) (text.bare_line depth (codes "do") l))) (sym (diagram-nodes f.body (suc depth) rest))
      ∙ sym (frame-parts f depth rest)

  abbrev after_feed : (SequenceFrame → List ℕ → List ℕ) → SequenceFrame → List ℕ → List ℕ
  after_feed s f bytes = 10 ∷ s f bytes

  frames_are : (fs : List SequenceFrame) (f : SequenceFrame) (more : List ℕ) → text.indent depth (codes "frame" ++ chain (after_feed frame_more) fs (after_feed frame_last f more)) ≡ text.blocks (map text.frame (fs ++ f ∷ [])) depth (text.bare_line depth (codes "end") more)
  frames_are [] f more = one_frame f (text.bare_line depth (codes "end") more)
  frames_are (g ∷ fs) f more = one_frame g (text.indent depth (codes "frame" ++ chain (after_feed frame_more) fs (after_feed frame_last f more))) ∙ ap (text.frame g depth) (frames_are fs f more)

  abbrev FrameTurn : SequenceFrame ⊎ SequenceFrame → State
  FrameTurn = Either (λ (f : SequenceFrame). Rest) (λ (f : SequenceFrame). Full)

  frame_end : (f : SequenceFrame) (more : Bool) → Goes FrameTurn Rest (more_or_end f more) (λ w. frame_text f (text.indent depth (until_word until.FrameOrEnd more ++ w))) (either_text frame_more frame_last)
  frame_end f true = gives (λ bytes. refl)
  frame_end f false = binds eol_says (λ e. gives (λ bytes. refl))

  frame_says : (b : Border) → Says FrameTurn Full (frame_rest inside b) (either_text frame_more frame_last)
  frame_says b =
      closes (binds (lines_says b (codes "do") depth) (λ lines. binds eol_says (λ e. binds (x.says until.FrameOrEnd depth) (λ nodes.
      frame_end (record { lines = lines.0; body = record { nodes = nodes.0 } }) nodes.1))))

  framed_says : (b : Border) → Says FrameTurn Rest (framed inside b) (λ y bytes. 10 ∷ either_text frame_more frame_last y bytes)
  framed_says b = closes (binds eol_says (λ e. opens (frame_says b)))

  frames_says : Says (EndOf (λ (f : SequenceFrame). Full)) Rest (loop eol (λ e. frame_rest inside border.Frame)) (chain_end (after_feed frame_more) (after_feed frame_last))
  frames_says = loops (closes (binds eol_says (λ e. opens_turn)))
    where
      turned : (y : SequenceFrame ⊎ SequenceFrame) (bytes : List ℕ) → 10 ∷ either_text frame_more frame_last y bytes ≡ either_text (after_feed frame_more) (after_feed frame_last) y bytes
      turned (inl f) bytes = refl
      turned (inr f) bytes = refl

      opens_turn : Goes FrameTurn Full (frame_rest inside border.Frame) (λ w. 10 ∷ w) (either_text (after_feed frame_more) (after_feed frame_last))
      opens_turn = in_other_words (frame_says border.Frame) turned

  further_goes : (y : SequenceFrame ⊎ SequenceFrame) → Goes Filled (FrameTurn y) (further_frames inside y) (λ w. text.bare_line depth (codes "frame") (either_text frame_more frame_last y w)) (λ fs more. text.blocks (map text.frame fs) depth (text.bare_line depth (codes "end") more))
  further_goes (inl f) = binds frames_says (λ fs. gives (λ bytes. one_frame f (text.indent depth (codes "frame" ++ chain (after_feed frame_more) fs.0 (after_feed frame_last fs.1 bytes))) ∙ ap (text.frame f depth) (frames_are fs.0 fs.1 bytes)))
  further_goes (inr f) = gives (λ bytes. one_frame f (text.bare_line depth (codes "end") bytes))

  -- ---- structures

  abbrev body_text : List Tunnel × List Node → List ℕ → List ℕ
  body_text y more = text.borders y.0 (suc depth) (text.bare_line depth (codes "do") (nodes_text (suc depth) y.1 (text.bare_line depth (codes "end") more)))

  body_says : (b : Border) → Says Filled Full (lines_and_body inside b) body_text
  body_says b = closes (binds (lines_says b (codes "do") depth) (λ lines. binds eol_says (λ d. binds (x.says until.End depth) (λ nodes. binds eol_says (λ e. gives (λ bytes. refl))))))

  body_is : (ls : List Tunnel) (ns : List Node) (more : List ℕ) → body_text (ls, ns) more ≡ text.ended (text.with_body ls (text.diagram (record { nodes = ns }))) depth more
  body_is ls ns more = ap (λ l. text.borders ls (suc depth) (text.bare_line depth (codes "do") l)) (sym (diagram-nodes (record { nodes = ns }) (suc depth) (text.bare_line depth (codes "end") more)))

  pub structure_goes : (v : ℕ) (s : StructureWord) → Goes Filled Rest (structure_rest v inside s) (λ w. text.indent depth (structure_word s ++ w)) (node_at depth)
  structure_goes v structure.For =
      binds across_says (λ w. binds (body_says border.For) (λ b. gives (λ bytes.
      ap (λ l. text.line_from depth (codes "for") (text.across w.0 w.1) l) (body_is b.0 b.1 bytes) ∙ sym (node-For w.0 w.1 b.0 (record { nodes = b.1 }) depth bytes))))
  structure_goes v structure.While =
      binds across_says (λ w. binds (body_says border.While) (λ b. gives (λ bytes.
      ap (λ l. text.line_from depth (codes "while") (text.across w.0 w.1) l) (body_is b.0 b.1 bytes) ∙ sym (node-While w.0 w.1 b.0 (record { nodes = b.1 }) depth bytes))))
  structure_goes v structure.Case =
      binds last_wire_says (λ w. binds (lines_says border.Case (codes "when") depth) (λ lines. binds (branches_says (results lines.0)) (λ bs. gives (λ bytes.
      ap (λ l. text.line_from depth (codes "case") (text.wire w) (text.borders lines.0 (suc depth) l)) (branches_are bs.0 bs.1 bytes) ∙ sym (node-Case w lines.0 (and_last bs) depth bytes)))))
  structure_goes v structure.Sequence =
      binds eol_says (λ e. binds (one (word (codes "frame")) (stands_stop depth (codes "frame"))) (λ u. binds (framed_says border.FirstFrame) (λ first.
      binds_on (λ w. text.bare_line depth (codes "sequence") w) (further_goes first) (λ fs. gives (λ bytes. sym (node-Sequence fs depth bytes))))))
  structure_goes v structure.InPlace =
      binds eol_says (λ e. binds (body_says border.InPlace) (λ b. gives (λ bytes.
      ap (λ l. text.bare_line depth (codes "inplace") l) (body_is b.0 b.1 bytes) ∙ sym (node-InPlace b.0 (record { nodes = b.1 }) depth bytes))))

-- ---- nodes

no_goes : {A : Type 0} {Q : A → State} {R : State} {front : List ℕ → List ℕ} {s : A → List ℕ → List ℕ} → Goes Q R nothing front s
no_goes = record { goes = λ ts b rest h good bytes q. absurd (nothing_has ts b rest h) }

word_goes : (depth : ℕ) (structures : StructureWord → Grammar Token Node) → ((s : StructureWord) → Goes Filled Rest (structures s) (λ w. text.indent depth (structure_word s ++ w)) (node_at depth))
    → (c : NodeWord) → Goes Filled Rest (word_rest structures c) (λ w. text.indent depth (spelled c ++ w)) (node_at depth)
word_goes depth structures x (word_of.Plain w) = plain_goes depth w
word_goes depth structures x (word_of.Structure s) = x s

pub node_goes : (v n depth : ℕ) (c : NodeWord) → Goes Filled Rest (node_rest v n c) (λ w. text.indent depth (spelled c ++ w)) (node_at depth)
unfolding node_rest
node_goes v zero depth c = word_goes depth (λ s. nothing) (λ s. no_goes) c
node_goes v (suc n) depth c =
    word_goes depth (structure_rest v (nodes_of (node_first v n) (node_rest v n)))
    (structure_goes (nodes_of (node_first v n) (node_rest v n)) (diagrams v n (node_rest v n) (node_goes v n)) depth v) c
