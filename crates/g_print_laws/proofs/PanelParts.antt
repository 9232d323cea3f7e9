-- Panels and what follows the header of a VI.
use Rattle.std.proofs.Common.{◌≡◌, ℕ, Bool, true, false, List, [], ◌∷◌, ◌++◌, Option, Some, None, refl, sym, ap, ◌∙◌, codes, inl, inr}
use Rattle.g_grammar.specs.Grammar.{Grammar, take, give, loop, or_else, ◌>>=◌}
use Rattle.g_types.specs.Ty as types_spec
use Rattle.g_types.specs.declared.ty.Ty.{Ty}
use Rattle.g_tokens.specs.declared.token.Token.{Token}
use Rattle.g_tokens.specs.declared.token.Token.TheVariants as token
use Rattle.g_tokens.specs.declared.token.Mark.TheVariants as mark
use Rattle.g_diagram.specs.declared.panel.PanelItem.{PanelItem}
use Rattle.g_diagram.specs.declared.node.Node.{Node}
use Rattle.g_diagram.specs.declared.hierarchy.Vi.{Vi}
use Rattle.g_diagram.specs.Text as text
use Rattle.g_print_laws.proofs.TextLemmas.{diagram-nodes}
use Rattle.g_listing_grammar.specs.declared.PanelWord.{PanelWord}
use Rattle.g_listing_grammar.specs.declared.PanelWord.TheVariants as panel_word
use Rattle.g_listing_grammar.specs.declared.ControlMark.{ControlMark}
use Rattle.g_listing_grammar.specs.declared.ControlMark.TheVariants as control
use Rattle.g_listing_grammar.specs.declared.Until.TheVariants as until
use Rattle.g_listing_grammar.specs.Words.{word_in, feeds, equals_or_arrow, eol}
use Rattle.g_listing_grammar.specs.Nodes.{node_first, node_rest}
use Rattle.g_listing_grammar.specs.Listing.{Kind, panel_words, control_mark, default_rest, control_rest, panel_rest, end, Begin, body_first, body_item, nodes_after}
use Rattle.g_print_laws.proofs.Lexing.{Inside, Full, IsWord, space}
use Rattle.g_print_laws.proofs.Tables.{holds, named}
use Rattle.g_print_laws.proofs.Parts.{State, Rest, Rested, Filled, Either, either_text, EndOf, chain, chain_end, Says, Goes, gives, binds, binds_on, closes, one, loops, Stands, stands_or, a_word, a_mark, an_arrow, stands_feeds, stands_equals_or_arrow, EqualsOrArrow, equals_or_arrow_text, name_says, eol_says, last_wire_says, to_wire_says}
use Rattle.g_print_laws.proofs.LiteralParts.{literals_says}
use Rattle.g_print_laws.proofs.BorderParts.{ty_says, stands_row, stands_stop, stop_at}
use Rattle.g_print_laws.proofs.PlainParts.{spelled, stands_node}
use Rattle.g_print_laws.proofs.NodeParts.{diagrams, nodes_text, node_goes}

-- ---- controls and indicators

abbrev AfterMark : ControlMark → State
AfterMark control.Required = Rest
AfterMark control.Equals = Inside
AfterMark control.Arrow = Rest

abbrev mark_text : ControlMark → List ℕ → List ℕ
mark_text control.Required bytes = text.word (codes "required") bytes
mark_text control.Equals bytes = 32 ∷ 61 ∷ 32 ∷ bytes
mark_text control.Arrow bytes = text.arrow bytes

abbrev IsMark : List ℕ → ControlMark → Type 0
IsMark w m = (bytes : List ℕ) (ts : List Token) → IsWord w → AfterMark m bytes ts → Rest (mark_text m bytes) (token.Word w ∷ ts)

stands_mark : Stands AfterMark Rest control_mark mark_text
stands_mark (token.Word w) m e g bytes ts q = holds IsMark ((codes "required", control.Required) ∷ []) ((λ bytes ts g q. a_word (codes "required") g q), tt) w m e bytes ts g q
stands_mark (token.Mark mark.Equals) control.Equals e g bytes ts q = a_mark 61 mark.Equals (record { space = refl; comment = refl; inner = refl }) refl (space q)
stands_mark (token.Mark mark.Equals) control.Required e g bytes ts q = absurd cc
stands_mark (token.Mark mark.Equals) control.Arrow e g bytes ts q = absurd cc
stands_mark (token.Mark mark.Arrow) control.Arrow e g bytes ts q = an_arrow q
stands_mark (token.Mark mark.Arrow) control.Required e g bytes ts q = absurd cc
stands_mark (token.Mark mark.Arrow) control.Equals e g bytes ts q = absurd cc
stands_mark (token.Mark m) a e g bytes ts q = absurd cc
stands_mark (token.Number z) a e g bytes ts q = absurd cc
stands_mark (token.Text v) a e g bytes ts q = absurd cc
stands_mark token.Eol a e g bytes ts q = absurd cc
stands_mark token.End a e g bytes ts q = absurd cc
stands_mark token.Bad a e g bytes ts q = absurd cc

abbrev item_line : PanelItem → List ℕ → List ℕ
item_line i more = text.item_word i ++ text.item_parts i (10 ∷ more)

abbrev control_front : List ℕ → Ty → List ℕ → List ℕ
control_front n t w = codes "control" ++ text.word n (text.word (types_spec.text t) w)

default_goes : (n : List ℕ) (t : Ty) (required further : Bool) → Goes Filled (EqualsOrArrow further) (default_rest n t required further) (λ w. control_front n t (text.required_text required (equals_or_arrow_text further w))) item_line
default_goes n t required true = binds (literals_says 8 true) (λ l. binds to_wire_says (λ o. gives (λ bytes. refl)))
default_goes n t required false = binds last_wire_says (λ o. gives (λ bytes. refl))

control_goes : (n : List ℕ) (t : Ty) (m : ControlMark) → Goes Filled (AfterMark m) (control_rest n t m) (λ w. control_front n t (mark_text m w)) item_line
control_goes n t control.Required = binds (one equals_or_arrow stands_equals_or_arrow) (default_goes n t true)
control_goes n t control.Equals = default_goes n t false true
control_goes n t control.Arrow = default_goes n t false false

abbrev panel_spelled : PanelWord → List ℕ
panel_spelled panel_word.Control = codes "control"
panel_spelled panel_word.Indicator = codes "indicator"

panel_goes : (w : PanelWord) → Goes Filled Rest (panel_rest w) (λ x. panel_spelled w ++ x) item_line
panel_goes panel_word.Control = binds name_says (λ n. binds ty_says (λ t. binds (one control_mark stands_mark) (control_goes n t)))
panel_goes panel_word.Indicator = binds name_says (λ n. binds ty_says (λ t. binds (one feeds stands_feeds) (λ u. binds last_wire_says (λ i. gives (λ bytes. refl)))))

-- ---- the lines of a VI after its header

abbrev item_at : PanelItem → List ℕ → List ℕ
item_at i more = text.item i more

items_are : (is : List PanelItem) (rest : List ℕ) → chain item_at is rest ≡ text.items is rest
items_are [] rest = refl
items_are (i ∷ is) rest = ap (text.item i) (items_are is rest)

-- the first node, or the `end` where there is none
abbrev AfterPanel : Option Node → State
AfterPanel (Some n) = Full
AfterPanel None = Rest

abbrev after_text : Option Node → List ℕ → List ℕ
after_text (Some n) more = text.node n 1 more
after_text None bytes = codes "end" ++ bytes

abbrev first_text : Begin → List ℕ → List ℕ
first_text = either_text (stop_at 1 panel_spelled) (either_text (stop_at 1 spelled) (stop_at 0 (λ (u : Unit {0}). codes "end")))

abbrev FirstState : Begin → State
FirstState = Either Rested (Either Rested Rested)

stands_first : (v : ℕ) → Stands FirstState Full (body_first v) first_text
stands_first v =
    stands_or Rested (Either Rested Rested) Full (word_in panel_words) (or_else (node_first v 32) end) (stop_at 1 panel_spelled) (either_text (stop_at 1 spelled) (stop_at 0 (λ (u : Unit {0}). codes "end")))
    (stands_row 1 panel_spelled panel_words (named panel_spelled panel_words refl))
    (stands_or Rested Rested Full (node_first v 32) end (stop_at 1 spelled) (stop_at 0 (λ (u : Unit {0}). codes "end")) (stands_node v 32 1) (stands_stop 0 (codes "end")))

turn : (v : ℕ) (b : Begin) → Goes (Either (λ (i : PanelItem). Full) AfterPanel) (FirstState b) (body_item v b) (λ w. first_text b w) (either_text item_at after_text)
turn v (inl w) = binds_on (text.indent 1) (panel_goes w) (λ p. gives (λ bytes. refl))
turn v (inr (inl c)) = binds_on (λ w. w) (node_goes v 32 1 c) (λ n. gives (λ bytes. refl))
turn v (inr (inr u)) = gives (λ bytes. refl)

panel_says : (v : ℕ) → Says (EndOf AfterPanel) Full (loop (body_first v) (body_item v)) (chain_end item_at after_text)
panel_says v = loops (closes (binds (one (body_first v) (stands_first v)) (turn v)))

after_goes : (v : ℕ) (o : Option Node) → Goes Rested (AfterPanel o) (nodes_after v o) (λ w. after_text o w) (λ ns bytes. nodes_text 1 ns (codes "end" ++ bytes))
after_goes v (Some n) = binds ((diagrams v 32 (node_rest v 32) (node_goes v 32)).says until.End 0) (λ ns. gives (λ bytes. refl))
after_goes v None = gives (λ bytes. refl)

abbrev pub body : ℕ → List ℕ → Kind → Grammar Token Vi
body v n kind = do
  panel ← loop (body_first v) (body_item v)
  ns ← nodes_after v panel.1
  e ← take eol
  give (record { name = n; clones = kind.0; system = kind.1; panel = panel.0; top = record { nodes = ns } })

abbrev pub body_text : Vi → List ℕ → List ℕ
body_text vi more = text.items vi.panel (text.diagram vi.top 1 (text.bare_line 0 (codes "end") more))

pub body_says : (v : ℕ) (n : List ℕ) (kind : Kind) → Says Filled Full (body v n kind) body_text
body_says v n kind =
    closes (binds (panel_says v) (λ panel. binds_on (chain item_at panel.0) (after_goes v panel.1) (λ ns. binds eol_says (λ e. gives (λ bytes.
    items_are panel.0 (nodes_text 1 ns (codes "end" ++ (10 ∷ bytes)))
    ∙ ap (text.items panel.0) (sym (diagram-nodes (record { nodes = ns }) 1 (text.bare_line 0 (codes "end") bytes))))))))
