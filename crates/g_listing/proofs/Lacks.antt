-- No form of a listing takes END but the listing itself, which ends with it.
use Rattle.std.proofs.Common.{◌≡◌, ℕ, zero, suc, Bool, true, false, List, [], ◌∷◌, ◌++◌, Option, Some, None, refl, sym, ap, subst, ◌∙◌, inl, inr, ◌⊎◌, append_assoc}
use Rattle.std.specs.Prelude.{ℤ, codes}
use Rattle.g_grammar.specs.Grammar.{Grammar, give, take, bind, loop, first, tail, Phrases, Has, or_else, exactly}
use Rattle.g_grammar.proofs.Laws.{first_is}
use Rattle.g_grammar.proofs.Live.{either_left, either_right}
use Rattle.g_types.specs.declared.ty.Ty.{Ty}
use Rattle.g_diagram.specs.declared.panel.Lit.{Lit}
use Rattle.g_diagram.specs.declared.node.Node.{Node}
use Rattle.g_diagram.specs.declared.node.Selector.{Selector}
use Rattle.g_diagram.specs.declared.node.SequenceFrame.{SequenceFrame}
use Rattle.g_diagram.specs.declared.hierarchy.Clones.{Clones}
use Rattle.g_diagram.specs.declared.hierarchy.Clones.TheVariants as clones
use Rattle.g_diagram.specs.declared.hierarchy.System.{System}
use Rattle.g_diagram.specs.declared.hierarchy.Vi.{Vi}
use Rattle.g_diagram.specs.declared.hierarchy.Hierarchy.{Hierarchy}
use Rattle.g_tokens.specs.declared.token.Token.{Token}
use Rattle.g_tokens.specs.declared.token.Token.TheVariants as token
use Rattle.g_listing_words.specs.declared.Operation.{Operation}
use Rattle.g_listing_words.specs.declared.Operation.TheVariants as operation
use Rattle.g_listing_grammar.specs.declared.TypeWord.{TypeWord}
use Rattle.g_listing_grammar.specs.declared.TypeWord.TheVariants as type
use Rattle.g_listing_grammar.specs.declared.LiteralFirst.{LiteralFirst}
use Rattle.g_listing_grammar.specs.declared.LiteralFirst.TheVariants as begin
use Rattle.g_listing_grammar.specs.declared.LineWord.{LineWord}
use Rattle.g_listing_grammar.specs.declared.LineWord.TheVariants as line
use Rattle.g_listing_grammar.specs.declared.Border.{Border}
use Rattle.g_listing_grammar.specs.declared.Border.TheVariants as border
use Rattle.g_listing_grammar.specs.declared.SelectorFirst.{SelectorFirst}
use Rattle.g_listing_grammar.specs.declared.SelectorFirst.TheVariants as begins
use Rattle.g_listing_grammar.specs.declared.PlainWord.{PlainWord}
use Rattle.g_listing_grammar.specs.declared.PlainWord.TheVariants as plain
use Rattle.g_listing_grammar.specs.declared.StructureWord.{StructureWord}
use Rattle.g_listing_grammar.specs.declared.StructureWord.TheVariants as structure
use Rattle.g_listing_grammar.specs.declared.NodeWord.{NodeWord}
use Rattle.g_listing_grammar.specs.declared.NodeWord.TheVariants as word_of
use Rattle.g_listing_grammar.specs.declared.Until.{Until}
use Rattle.g_listing_grammar.specs.declared.Until.TheVariants as until
use Rattle.g_listing_grammar.specs.declared.HeaderWord.{HeaderWord}
use Rattle.g_listing_grammar.specs.declared.HeaderWord.TheVariants as header
use Rattle.g_listing_grammar.specs.declared.ClonesWord.TheVariants as clones_word
use Rattle.g_listing_grammar.specs.declared.PanelWord.{PanelWord}
use Rattle.g_listing_grammar.specs.declared.PanelWord.TheVariants as panel_word
use Rattle.g_listing_grammar.specs.declared.ControlMark.{ControlMark}
use Rattle.g_listing_grammar.specs.declared.ControlMark.TheVariants as control
use Rattle.g_listing_grammar.specs.Words.{wire}
use Rattle.g_listing_grammar.specs.Types.{types, type_rest, others, more_others}
use Rattle.g_listing_grammar.specs.Literals.{next_item, array_rest, literal_rest, literals}
use Rattle.g_listing_grammar.specs.Borders.{Wire, outputs, operands, last_wire, to_wire, across, turned, through, register_rest, result_end, line_rest, line_or_end, lines_to}
use Rattle.g_listing_grammar.specs.Nodes.{range_rest, selector_rest, selector_item, further_selectors, gives, Inside, more_or_end, branch_rest, frame_rest, further_frames, node_or_end, lines_and_body, operation_rest, plain_rest, structure_rest, nodes_of, node_first, node_rest, nodes}
use Rattle.g_listing_grammar.specs.Listing.{system_end, after_clones, kind_rest, default_rest, control_rest, panel_rest, Begin, body_item, nodes_after, vi_rest, vi_or_end, vi_word, at_end, listing}

-- ---- a grammar that never takes a token

abbrev pub Lacks : {T A : Type 0} → T → Grammar T A → Type 0
Lacks e (give a) = Unit {0}
Lacks e (take p) = p e ≡ None
Lacks e (bind {A} g f) = Lacks e g × ((a : A) → Lacks e (f a))
Lacks e (loop {A} {C} {D} p k) = (p e ≡ None) × ((c : C) → Lacks e (k c))

abbrev pub Free : {T : Type 0} → T → List T → Type 0
Free e [] = Unit {0}
Free e (t ∷ ts) = (t ≡ e → ⊥) × Free e ts

free_both : {T : Type 0} (e : T) (a b : List T) → Free e a → Free e b → Free e (a ++ b)
free_both e [] b h k = k
free_both e (t ∷ a) b h k = (h.0, free_both e a b h.1 k)

other : {T C : Type 0} (p : T → Option C) (e t : T) (c : C) → p e ≡ None → p t ≡ Some c → t ≡ e → ⊥
other p e t c none some is = let h : None ≡ Some c = sym none ∙ ap p (sym is) ∙ some in cc

abbrev Passes : {T A : Type 0} → T → (List T → A → List T → Type 0) → List T → A → List T → Type 0
Passes {T} e R ts a rest = (pre : List T) × (ts ≡ pre ++ rest) × Free e pre

module _ {T A C D : Type 0} (e : T) (p : T → Option C) (R : C → List T → (A ⊎ D) → List T → Type 0) (none : p e ≡ None)
    (free : (c : C) (ts : List T) (x : A ⊎ D) (rest : List T) → R c ts x rest → Passes e (R c) ts x rest) where
  phrases_free : (ts : List T) (xs : List A) (d : D) (rest : List T) → Phrases p R ts xs d rest → (pre : List T) × (ts ≡ pre ++ rest) × Free e pre
  phrases_free ts [] d rest h =
      let f = first_is p ts h.0 h.1 in
      let r = free h.0 (tail ts) (inr d) rest h.2 in
      (f.0 ∷ r.0, f.1 ∙ ap (λ (u : List T). f.0 ∷ u) r.1, (other p e f.0 h.0 none f.2, r.2))
  phrases_free ts (x ∷ xs) d rest h =
      let f = first_is p ts h.0 h.2 in
      let r = free h.0 (tail ts) (inl x) h.1 h.3 in
      let m = phrases_free h.1 xs d rest h.4 in (
        f.0 ∷ (r.0 ++ m.0),
        f.1 ∙ ap (λ (u : List T). f.0 ∷ u) (r.1 ∙ ap (λ (u : List T). r.0 ++ u) m.1 ∙ sym (append_assoc r.0 m.0 rest)),
        (other p e f.0 h.0 none f.2, free_both e r.0 m.0 r.2 m.2),
      )

pub passes : {T A : Type 0} (e : T) (g : Grammar T A) → Lacks e g → (ts : List T) (a : A) (rest : List T) → Has g ts a rest → Passes e (Has g) ts a rest
passes e (give x) l ts a rest h = ([], h.1, tt)
passes {T} e (take p) l ts a rest h =
    let f = first_is p ts a h.0 in
    (f.0 ∷ [], f.1 ∙ ap (λ (u : List T). f.0 ∷ u) h.1, (other p e f.0 a l f.2, tt))
passes {T} e (bind g f) l ts b rest h =
    let q = passes e g l.0 ts h.0 h.1 h.2 in
    let m = passes e (f h.0) (l.1 h.0) h.1 b rest h.3 in
    (q.0 ++ m.0, q.1 ∙ ap (λ (u : List T). q.0 ++ u) m.1 ∙ sym (append_assoc q.0 m.0 rest), free_both e q.0 m.0 q.2 m.2)
passes e (loop p k) l ts x rest h = phrases_free e p (λ c. Has (k c)) l.0 (λ c. passes e (k c) (l.1 c)) ts x.0 x.1 rest h

-- ---- the forms of a listing

abbrev No : {A : Type 0} → Grammar Token A → Type 0
No g = Lacks token.End g

no_more : {A : Type 0} (g : Grammar Token A) (rest : Grammar Token (List A)) → No g → No rest → (again : Bool) → No (more_others g rest again)
no_more g rest l m true = (l, λ x. (m, λ xs. tt))
no_more g rest l m false = tt

no_others : {A : Type 0} (g : Grammar Token A) → No g → (n : ℕ) → No (others g n)
no_others g l zero = (refl, λ x. tt)
no_others g l (suc n) = (refl, no_more g (others g n) l (no_others g l n))

no_type_rest : (inside : Bool → Grammar Token Ty) → ((arrays : Bool) → No (inside arrays)) → (w : TypeWord) → No (type_rest inside w)
no_type_rest inside l (type.Number r) = tt
no_type_rest inside l type.Truth = tt
no_type_rest inside l type.Text = tt
no_type_rest inside l type.Array = (l false, λ t. (refl, λ x. tt))
no_type_rest inside l type.Cluster = (l true, λ t. (no_others (inside true) (l true) 63, λ ts. tt))
no_type_rest inside l type.Queue = (refl, λ x. (l true, λ a. (refl, λ y. tt)))
no_type_rest inside l type.Ref = (refl, λ x. (l true, λ a. (refl, λ y. tt)))

no_types : (n : ℕ) (arrays : Bool) → No (types n arrays)
unfolding types
no_types zero arrays = refl
no_types (suc n) arrays = (refl, no_type_rest (types n) (no_types n))

no_next : (g : Grammar Token Lit) → No g → (again : Bool) → No (next_item g again)
no_next g l true = (l, λ x. tt)
no_next g l false = tt

no_array : (rest : LiteralFirst → Grammar Token Lit) (g : Grammar Token Lit) → ((c : LiteralFirst) → No (rest c)) → No g → (c : LiteralFirst ⊎ Unit {0}) → No (array_rest rest g c)
no_array rest g l m (inr end) = tt
no_array rest g l m (inl c) = (l c, λ x. ((refl, no_next g m), λ xs. tt))

no_literal : (n : ℕ) (c : LiteralFirst) → No (literal_rest n c)
unfolding literal_rest
no_literal zero c = refl
no_literal (suc n) (begin.Whole l) = tt
no_literal (suc n) begin.Array = (refl, no_array (literal_rest n) (literals n false) (no_literal n) (refl, no_literal n))
no_literal (suc n) begin.Cluster = ((refl, no_literal n), λ x. (no_others (literals n true) (refl, no_literal n) 63, λ xs. tt))

no_literals : (n : ℕ) (arrays : Bool) → No (literals n arrays)
no_literals n arrays = (refl, no_literal n)

no_outputs : (more : Bool) → No (outputs more)
no_outputs true = (refl, λ o. ((refl, λ c. tt), λ os. tt))
no_outputs false = tt

no_operands : No operands
no_operands = ((refl, λ c. tt), λ ins. (no_outputs ins.1, λ outs. tt))

no_last_wire : No last_wire
no_last_wire = (refl, λ o. (refl, λ e. tt))

no_to_wire : No to_wire
no_to_wire = (refl, λ x. no_last_wire)

no_across : No across
no_across = (refl, λ i. (no_to_wire, λ o. tt))

no_turned : No turned
no_turned = (refl, λ x. (refl, λ o. (refl, λ y. (refl, λ i. tt))))

no_through : No through
no_through = (no_turned, λ w. (no_to_wire, λ o. tt))

no_register : (w : Wire) → No (register_rest w)
no_register (Some n) = (no_through, λ w. tt)
no_register None = (no_types 8 true, λ t. (no_through, λ w. tt))

no_result : (w : Wire) (d : Bool) → No (result_end w d)
no_result w true = (refl, λ e. tt)
no_result w false = tt

no_line : (l : LineWord) → No (line_rest l)
no_line line.Tunnel = (no_across, λ w. tt)
no_line line.Register = (refl, no_register)
no_line line.Last = (no_across, λ w. tt)
no_line line.Gather = (no_across, λ w. tt)
no_line line.Index = (no_across, λ w. tt)
no_line line.Result = (refl, λ w. (refl, no_result w))
no_line line.Carry = (no_across, λ w. tt)
no_line line.Ref = (refl, λ r. (no_turned, λ w. (refl, λ x. (refl, λ same. (no_last_wire, λ code. tt)))))
no_line line.Element = (refl, λ a. (refl, λ i. (no_through, λ w. tt)))
no_line line.Field = (refl, λ k. (refl, λ c. (no_through, λ w. tt)))

no_line_or_end : {D : Type 0} (c : LineWord ⊎ D) → No (line_or_end c)
no_line_or_end (inl w) = (no_line w, λ l. tt)
no_line_or_end (inr d) = tt

no_lines : (b : Border) (stop : List ℕ) → No (lines_to b stop)
no_lines b stop = (refl, no_line_or_end)

no_range : (n : ℤ) (c : Unit {0} ⊎ Bool) → No (range_rest n c)
no_range n (inl x) = (refl, λ m. (refl, λ more. tt))
no_range n (inr more) = tt

no_selector : (c : SelectorFirst) → No (selector_rest c)
no_selector (begins.Whole s) = (refl, λ more. tt)
no_selector (begins.Number n) = (refl, no_range n)

no_item : (c : SelectorFirst) → No (selector_item c)
no_item c = (no_selector c, λ s. tt)

no_further : (s : Selector ⊎ Selector) → No (further_selectors s)
no_further (inl s) = ((refl, no_item), λ ss. tt)
no_further (inr s) = tt

no_exactly : {A : Type 0} (n : ℕ) (g : Grammar Token A) → No g → No (exactly n g)
no_exactly zero g l = tt
no_exactly (suc n) g l = (l, λ x. (no_exactly n g l, λ xs. tt))

no_gives : (n : ℕ) → No (gives n)
no_gives zero = tt
no_gives (suc n) = (refl, λ x. (no_exactly (suc n) (take wire) refl, λ ws. (refl, λ e. tt)))

no_more_or_end : {A : Type 0} (a : A) (more : Bool) → No (more_or_end a more)
no_more_or_end a true = tt
no_more_or_end a false = (refl, λ e. tt)

no_branch : (inside : Inside) → ((u : Until) → No (inside u)) → (n : ℕ) (c : SelectorFirst) → No (branch_rest inside n c)
no_branch inside l n c = ((no_item c, no_further), λ ss. (no_gives n, λ ws. (l until.WhenOrEnd, λ nodes. no_more_or_end _ nodes.1)))

no_frame : (inside : Inside) → ((u : Until) → No (inside u)) → (b : Border) → No (frame_rest inside b)
no_frame inside l b = (no_lines b (codes "do"), λ lines. (refl, λ e. (l until.FrameOrEnd, λ nodes. no_more_or_end _ nodes.1)))

no_frames : (inside : Inside) → ((u : Until) → No (inside u)) → (f : SequenceFrame ⊎ SequenceFrame) → No (further_frames inside f)
no_frames inside l (inl f) = ((refl, λ e. no_frame inside l border.Frame), λ fs. tt)
no_frames inside l (inr f) = tt

no_operation : (o : Operation) → No (operation_rest o)
no_operation (operation.Apply p) = (no_operands, λ w. tt)
no_operation operation.Get = (refl, λ k. (no_operands, λ w. tt))
no_operation operation.Set = (refl, λ k. (no_operands, λ w. tt))
no_operation (operation.Shared s) = (no_operands, λ w. tt)

no_plain : (w : PlainWord) → No (plain_rest w)
no_plain plain.Const = (no_types 8 true, λ t. (no_literals 8 true, λ l. (no_to_wire, λ o. tt)))
no_plain (plain.Operation o) = no_operation o
no_plain plain.Obtain = (refl, λ q. (refl, λ n. (no_types 8 true, λ t. (no_to_wire, λ o. tt))))
no_plain plain.Read = (refl, λ n. (no_to_wire, λ o. tt))
no_plain plain.Write = (refl, λ n. (no_last_wire, λ i. tt))
no_plain plain.Call = (refl, λ n. (no_operands, λ w. tt))

no_body : (inside : Inside) → ((u : Until) → No (inside u)) → (b : Border) → No (lines_and_body inside b)
no_body inside l b = (no_lines b (codes "do"), λ lines. (refl, λ d. (l until.End, λ nodes. (refl, λ e. tt))))

no_structure : (v : ℕ) (inside : Inside) → ((u : Until) → No (inside u)) → (w : StructureWord) → No (structure_rest v inside w)
no_structure v inside l structure.For = (no_across, λ w. (no_body inside l border.For, λ b. tt))
no_structure v inside l structure.While = (no_across, λ w. (no_body inside l border.While, λ b. tt))
no_structure v inside l structure.Case = (no_last_wire, λ w. (no_lines border.Case (codes "when"), λ lines. ((refl, no_branch inside l _), λ branches. tt)))
no_structure v inside l structure.Sequence = (refl, λ e. (refl, λ x. ((refl, λ f. no_frame inside l border.FirstFrame), λ first. (no_frames inside l first, λ frames. tt))))
no_structure v inside l structure.InPlace = (refl, λ e. (no_body inside l border.InPlace, λ b. tt))

no_node_or_end : {D : Type 0} (rest : NodeWord → Grammar Token Node) → ((w : NodeWord) → No (rest w)) → (c : NodeWord ⊎ D) → No (node_or_end rest c)
no_node_or_end rest l (inl w) = (l w, λ n. tt)
no_node_or_end rest l (inr d) = tt

no_nodes_of : (v n : ℕ) (rest : NodeWord → Grammar Token Node) → ((w : NodeWord) → No (rest w)) → (u : Until) → No (nodes_of (node_first v n) rest u)
no_nodes_of v n rest l u = (refl, no_node_or_end rest l)

no_node : (v n : ℕ) (w : NodeWord) → No (node_rest v n w)
unfolding node_rest
no_node v zero (word_of.Plain w) = no_plain w
no_node v zero (word_of.Structure w) = refl
no_node v (suc n) (word_of.Plain w) = no_plain w
no_node v (suc n) (word_of.Structure w) = no_structure v (nodes v n) (no_nodes_of v n (node_rest v n) (no_node v n)) w

no_nodes : (v n : ℕ) (u : Until) → No (nodes v n u)
no_nodes v n u = no_nodes_of v n (node_rest v n) (no_node v n) u

no_system : (c : Clones) (s : Option System) → No (system_end c s)
no_system c (Some s) = (refl, λ e. tt)
no_system c None = tt

no_clones : (c : Clones) → No (after_clones c)
no_clones c = (refl, no_system c)

no_kind : (h : HeaderWord) → No (kind_rest h)
no_kind (header.Clones clones_word.NonReentrant) = no_clones clones.NonReentrant
no_kind (header.Clones clones_word.Preallocated) = no_clones clones.Preallocated
no_kind (header.Clones clones_word.Pool) = (refl, λ n. no_clones (clones.Pool n))
no_kind (header.System s) = no_system clones.NonReentrant (Some s)
no_kind header.Eol = tt

no_default : (n : List ℕ) (t : Ty) (r more : Bool) → No (default_rest n t r more)
no_default n t r true = (no_literals 8 true, λ l. (no_to_wire, λ o. tt))
no_default n t r false = (no_last_wire, λ o. tt)

no_control : (n : List ℕ) (t : Ty) (m : ControlMark) → No (control_rest n t m)
no_control n t control.Required = (refl, no_default n t true)
no_control n t control.Equals = no_default n t false true
no_control n t control.Arrow = no_default n t false false

no_panel : (w : PanelWord) → No (panel_rest w)
no_panel panel_word.Control = (refl, λ n. (no_types 8 true, λ t. (refl, no_control n t)))
no_panel panel_word.Indicator = (refl, λ n. (no_types 8 true, λ t. (refl, λ x. (no_last_wire, λ i. tt))))

no_body_item : (v : ℕ) (c : Begin) → No (body_item v c)
no_body_item v (inl w) = (no_panel w, λ p. tt)
no_body_item v (inr (inl w)) = (no_node v 32 w, λ n. tt)
no_body_item v (inr (inr x)) = tt

no_nodes_after : (v : ℕ) (n : Option Node) → No (nodes_after v n)
no_nodes_after v None = tt
no_nodes_after v (Some n) = (no_nodes v 32 until.End, λ ns. tt)

no_vi : (v : ℕ) → No (vi_rest v)
no_vi v = (refl, λ n. ((refl, no_kind), λ k. ((refl, no_body_item v), λ panel. (no_nodes_after v panel.1, λ ns. (refl, λ e. tt)))))

-- ---- the end of a listing

-- the tokens up to the first END, and those after it
abbrev pub Ends : List Token → List Token → Type 0
Ends ts rest = (pre : List Token) × (ts ≡ pre ++ token.End ∷ rest) × Free token.End pre

end_is : (t : Token) → at_end t ≡ Some tt → t ≡ token.End
end_is (token.Word w) e = absurd cc
end_is (token.Number n) e = absurd cc
end_is (token.Text b) e = absurd cc
end_is (token.Mark m) e = absurd cc
end_is token.Eol e = absurd cc
end_is token.End e = refl
end_is token.Bad e = absurd cc

last_turn : (v : ℕ) (ts : List Token) (c : Unit {0} ⊎ Unit {0}) (rest : List Token) → first (or_else vi_word at_end) ts ≡ Some c → Has (vi_or_end v c) (tail ts) (inr tt) rest → Ends ts rest
last_turn v ts (inl x) rest f h = absurd (let e : ◌≡◌ {A = Vi ⊎ Unit {0}} (inl h.0) (inr tt) = h.3.0 in cc)
last_turn v ts (inr x) rest f h =
    let t = first_is (or_else vi_word at_end) ts (inr x) f in
    let is : t.0 ≡ token.End = end_is t.0 (either_right (vi_word t.0) (at_end t.0) tt t.2) in
    ([], t.1 ∙ ap (λ (u : List Token). t.0 ∷ u) h.1 ∙ ap (λ (u : Token). u ∷ rest) is, tt)

more_turn : (v : ℕ) (ts mid rest : List Token) (c : Unit {0} ⊎ Unit {0}) (x : Vi) → first (or_else vi_word at_end) ts ≡ Some c → Has (vi_or_end v c) (tail ts) (inl x) mid → Ends mid rest → Ends ts rest
more_turn v ts mid rest (inr u) x f h m = absurd (let e : ◌≡◌ {A = Vi ⊎ Unit {0}} (inr tt) (inl x) = h.0 in cc)
more_turn v ts mid rest (inl u) x f h m =
    let t = first_is (or_else vi_word at_end) ts (inl u) f in
    let is : vi_word t.0 ≡ Some u = either_left (vi_word t.0) (at_end t.0) u t.2 in
    let p = passes token.End (vi_rest v) (no_vi v) (tail ts) h.0 h.1 h.2 in
    let k : h.1 ≡ mid = h.3.1 in (
      t.0 ∷ (p.0 ++ m.0),
      t.1 ∙ ap (λ (w : List Token). t.0 ∷ w) (p.1 ∙ ap (λ (w : List Token). p.0 ++ w) (k ∙ m.1) ∙ sym (append_assoc p.0 m.0 (token.End ∷ rest))),
      (other vi_word token.End t.0 u refl is, free_both token.End p.0 m.0 p.2 m.2),
    )

vis_end : (v : ℕ) (ts : List Token) (xs : List Vi) (d : Unit {0}) (rest : List Token) → Phrases (or_else vi_word at_end) (λ c. Has (vi_or_end v c)) ts xs d rest → Ends ts rest
vis_end v ts [] d rest h = last_turn v ts h.0 rest h.1 h.2
vis_end v ts (x ∷ xs) d rest h = more_turn v ts h.1 rest h.0 x h.2 h.3 (vis_end v h.1 xs d rest h.4)

before_end : (ts pre mid rest : List Token) → ts ≡ pre ++ mid → Free token.End pre → Ends mid rest → Ends ts rest
before_end ts pre mid rest e f m = (pre ++ m.0, e ∙ ap (λ (u : List Token). pre ++ u) m.1 ∙ sym (append_assoc pre m.0 (token.End ∷ rest)), free_both token.End pre m.0 f m.2)

-- a listing ends with its first END
pub listing_ends : (ts rest : List Token) (h : Hierarchy) → Has listing ts h rest → Ends ts rest
listing_ends ts rest h has =
    let a = passes token.End (take _) refl ts has.0 has.1 has.2 in
    let b = has.3 in
    let c = passes token.End (take _) refl has.1 b.0 b.1 b.2 in
    let d = b.3 in
    let e = passes token.End (take _) refl b.1 d.0 d.1 d.2 in
    let f = d.3 in
    let g = f.2 in
    let i = passes token.End (take _) refl d.1 g.0 g.1 g.2 in
    let j = g.3 in
    let k = passes token.End (vi_rest b.0) (no_vi b.0) g.1 j.0 j.1 j.2 in
    let l = j.3 in
    let m = vis_end b.0 j.1 l.0.0 l.0.1 l.1 l.2 in
    let all : l.1 ≡ f.1 = l.3.1 in
    let all2 : f.1 ≡ rest = f.3.1 in
    before_end ts a.0 has.1 rest a.1 a.2
    (before_end has.1 c.0 b.1 rest c.1 c.2
    (before_end b.1 e.0 d.1 rest e.1 e.2
    (before_end d.1 i.0 g.1 rest i.1 i.2
    (before_end g.1 k.0 j.1 rest k.1 k.2 (subst (λ (u : List Token). Ends j.1 u) (all ∙ all2) m)))))

-- where tokens end with END, no listing goes on after them
pub nothing_after : (before completion : List Token) → Ends ((before ++ token.End ∷ []) ++ completion) [] → completion ≡ []
nothing_after [] completion ([], e, f) = let q : completion ≡ [] = cc in q
nothing_after [] completion (x ∷ pre, e, f) = absurd (f.0 (let q : token.End ≡ x = cc in sym q))
nothing_after (y ∷ before) completion ([], e, f) = absurd (none before completion (let q : (before ++ token.End ∷ []) ++ completion ≡ [] = cc in q))
  where
    none : (before completion : List Token) → (before ++ token.End ∷ []) ++ completion ≡ [] → ⊥
    none [] completion e = cc
    none (y ∷ before) completion e = cc
nothing_after (y ∷ before) completion (x ∷ pre, e, f) = nothing_after before completion (pre, (let q : (before ++ token.End ∷ []) ++ completion ≡ pre ++ token.End ∷ [] = cc in q), f.1)
