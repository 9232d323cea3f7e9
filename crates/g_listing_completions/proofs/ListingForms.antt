-- A listing can be completed wherever a token is refused.
use Rattle.std.proofs.Common.{◌≡◌, ℕ, Bool, true, false, List, [], ◌∷◌, Option, Some, None, refl, ap, inl, inr, ◌⊎◌, arith}
use Rattle.std.specs.Prelude.{codes, pos}
use Rattle.g_grammar.specs.Grammar.{or_else, either}
use Rattle.g_grammar.proofs.Live.{either_left, either_right}
use Rattle.g_types.specs.declared.ty.Ty.{Ty}
use Rattle.g_diagram.specs.declared.panel.PanelItem.{PanelItem}
use Rattle.g_diagram.specs.declared.panel.PanelItem.TheVariants as panel
use Rattle.g_diagram.specs.declared.hierarchy.Clones.{Clones}
use Rattle.g_diagram.specs.declared.hierarchy.Clones.TheVariants as clones
use Rattle.g_diagram.specs.declared.hierarchy.System.{System}
use Rattle.g_diagram.specs.declared.hierarchy.System.TheVariants as system
use Rattle.g_diagram.specs.declared.hierarchy.Vi.{Vi}
use Rattle.g_diagram.specs.declared.node.Node.{Node}
use Rattle.g_tokens.specs.declared.token.Token.{Token}
use Rattle.g_tokens.specs.declared.token.Token.TheVariants as token
use Rattle.g_tokens.specs.declared.token.Mark.TheVariants as mark
use Rattle.g_listing_words.specs.Operations.{lookup}
use Rattle.g_listing_grammar.specs.declared.PanelWord.{PanelWord}
use Rattle.g_listing_grammar.specs.declared.PanelWord.TheVariants as panel_word
use Rattle.g_listing_grammar.specs.declared.ControlMark.{ControlMark}
use Rattle.g_listing_grammar.specs.declared.ControlMark.TheVariants as control
use Rattle.g_listing_grammar.specs.declared.ClonesWord.TheVariants as clones_word
use Rattle.g_listing_grammar.specs.declared.HeaderWord.{HeaderWord}
use Rattle.g_listing_grammar.specs.declared.HeaderWord.TheVariants as header
use Rattle.g_listing_grammar.specs.Words.{word_in, word, feeds, equals_or_arrow, pool_size, version}
use Rattle.g_listing_grammar.specs.Nodes.{node_first}
use Rattle.g_listing_grammar.specs.Listing.{header_words, system_end, after_clones, kind_rest, default_rest, control_rest, panel_rest, panel_words, Begin, end, body_first, body_item, nodes_after, vi_rest, vi_or_end, vi_word, at_end, vis, listing, header_word, not_clones, system_or_eol, control_mark}
use Rattle.g_listing_grammar.proofs.LiveNodes.{end_after}
use Rattle.g_print_laws.proofs.Parts.{some_is}
use Rattle.g_print_laws.proofs.Tables.{holds}
use Rattle.g_listing_completions.proofs.Good.{good_word}
use Rattle.g_listing_completions.proofs.Forms.{State, fresh, midway, done, sides, Steps, Form, form_give, form_take, form_bind, form_loop, form_in, form_first, at_start, either_steps}
use Rattle.g_listing_completions.proofs.BorderForms.{Ending, name_form, eol_form, type_form, literal_form, last_wire_form, to_wire_form}
use Rattle.g_listing_completions.proofs.NodeForms.{an_end, end_good, node_rest_form, nodes_form}

-- ---- the header

abbrev after_header : HeaderWord → State
after_header header.Eol = fresh
after_header _ = midway

abbrev after_system : Option System → State
after_system (Some s) = midway
after_system None = fresh

-- no word stands for the end of a line
word_goes : (w : List ℕ) (h : HeaderWord) → lookup header_words w ≡ Some h → midway ≡ after_header h
word_goes = holds (λ v h. midway ≡ after_header h) header_words (refl, (refl, (refl, (refl, (refl, (refl, (refl, (refl, (refl, (refl, tt))))))))))

header_steps : Steps header_word after_header midway
header_steps (token.Word w) h e = word_goes w h e
header_steps token.Eol h e = ap after_header (some_is e)
header_steps t h e = absurd cc

system_word : (w : List ℕ) (o : Option HeaderWord) (s : Option System) → lookup header_words w ≡ o → not_clones o ≡ Some s → midway ≡ after_system s
system_word w None s is e = absurd cc
system_word w (Some (header.Clones c)) s is e = absurd cc
system_word w (Some (header.System x)) s is e = ap after_system (some_is e)
system_word w (Some header.Eol) s is e = absurd (let f : midway ≡ fresh = word_goes w header.Eol is in cc)

system_steps : Steps system_or_eol after_system midway
system_steps (token.Word w) s e = system_word w (lookup header_words w) s refl e
system_steps token.Eol s e = ap after_system (some_is e)
system_steps t s e = absurd cc

system_end_form : (c : Clones) (s : Option System) → Form (system_end c s) (λ k. fresh) (after_system s)
system_end_form c (Some s) = form_bind eol_form λ e. form_give (c, s)
system_end_form c None = form_give (c, system.Same)

clones_form : (c : Clones) → Ending (after_clones c)
clones_form c = form_bind (form_take system_or_eol after_system midway token.Eol tt None refl system_steps) (system_end_form c)

kind_form : (h : HeaderWord) → Form (kind_rest h) (λ k. fresh) (after_header h)
kind_form (header.Clones clones_word.NonReentrant) = clones_form clones.NonReentrant
kind_form (header.Clones clones_word.Preallocated) = clones_form clones.Preallocated
kind_form (header.Clones clones_word.Pool) = form_bind (form_in pool_size (token.Number (pos 1)) (omega arith) 1 refl refl refl refl) λ n. clones_form (clones.Pool n)
kind_form (header.System s) = system_end_form clones.NonReentrant (Some s)
kind_form header.Eol = form_give (clones.NonReentrant, system.Same)

-- ---- the panel

default_form : (n : List ℕ) (t : Ty) (r more : Bool) → Ending (default_rest n t r more)
default_form n t r true = form_bind literal_form λ l. form_bind to_wire_form λ o. form_give (panel.Control n t r (Some l) o)
default_form n t r false = form_bind last_wire_form λ o. form_give (panel.Control n t r None o)

control_form : (n : List ℕ) (t : Ty) (m : ControlMark) → Ending (control_rest n t m)
control_form n t control.Required = form_bind (form_in equals_or_arrow (token.Mark mark.Arrow) tt false refl refl refl refl) (default_form n t true)
control_form n t control.Equals = default_form n t false true
control_form n t control.Arrow = default_form n t false false

panel_form : (w : PanelWord) → Ending (panel_rest w)
panel_form panel_word.Control =
    form_bind name_form λ n.
    form_bind type_form λ t.
    form_bind (form_in control_mark (token.Mark mark.Arrow) tt control.Arrow refl refl refl refl) (control_form n t)
panel_form panel_word.Indicator =
    form_bind name_form λ n.
    form_bind type_form λ t.
    form_bind (form_in feeds (token.Mark mark.Feeds) tt tt refl refl refl refl) λ x.
    form_bind last_wire_form λ i.
    form_give (panel.Indicator n t i)

-- ---- a VI

-- after the first node, or after `end`
abbrev after_panel : Option Node → State
after_panel (Some n) = fresh
after_panel None = midway

abbrev after_item : (PanelItem ⊎ Option Node) → State
after_item = sides (λ (p : PanelItem). fresh) after_panel

body_item_form : (v : ℕ) (t : Token) (c : Begin) → body_first v t ≡ Some c → Form (body_item v c) after_item midway
body_item_form v t (inl w) e = form_bind (panel_form w) λ p. form_give (inl p)
body_item_form v t (inr (inl w)) e =
    let f = either_right (word_in panel_words t) (or_else (node_first v 32) end t) (inl w) e in
    form_bind (node_rest_form v 32 t w (either_left (node_first v 32 t) (end t) w f)) λ n. form_give (inr (Some n))
body_item_form v t (inr (inr x)) e = form_give (inr None)

nodes_after_form : (v : ℕ) (n : Option Node) → Form (nodes_after v n) (λ ns. midway) (after_panel n)
nodes_after_form v None = form_give []
nodes_after_form v (Some n) = form_bind (nodes_form v 32) λ ns. form_give (n ∷ ns.0)

body_ends : (v : ℕ) → body_first v an_end ≡ Some (inr (inr tt))
body_ends v = ap (λ (o : Option (_ ⊎ Unit {0})). either (word_in panel_words an_end) o) (end_after v 32)

vi_form : (v : ℕ) → Ending (vi_rest v)
vi_form v =
    form_bind name_form λ n.
    form_bind (form_bind (form_take header_word after_header midway token.Eol tt header.Eol refl header_steps) kind_form) λ k.
    form_bind (form_loop (body_first v) (body_item v) (λ c. midway) after_panel fresh (at_start (body_first v) refl refl refl) (body_item_form v) an_end end_good (inr (inr tt)) [] None (body_ends v) (refl, refl)) λ panel.
    form_bind (nodes_after_form v panel.1) λ ns.
    form_bind eol_form λ e.
    form_give (record { name = n; clones = k.0; system = k.1; panel = panel.0; top = record { nodes = ns } })

-- ---- a listing

abbrev after_vi : (Unit {0} ⊎ Unit {0}) → State
after_vi = sides (λ (x : Unit {0}). midway) (λ (x : Unit {0}). done)

end_steps : Steps at_end (λ x. done) fresh
end_steps token.End x e = refl
end_steps t x e = absurd cc

vi_or_end_form : (v : ℕ) (c : Unit {0} ⊎ Unit {0}) → Form (vi_or_end v c) (sides (λ (i : Vi). fresh) (λ (d : Unit {0}). done)) (after_vi c)
vi_or_end_form v (inl x) = form_bind (vi_form v) λ i. form_give (inl i)
vi_or_end_form v (inr x) = form_give (inr tt)

vis_form : (v : ℕ) → Form (vis v) (λ is. done) fresh
vis_form v =
    form_bind (form_first vi_word (token.Word (codes "vi")) (good_word (codes "vi") refl refl refl) tt refl refl refl refl) λ x.
    form_bind (vi_form v) λ first.
    form_bind (form_loop (or_else vi_word at_end) (vi_or_end v) after_vi (λ d. done) fresh
    (either_steps vi_word at_end (λ x. midway) (λ x. done) fresh (at_start vi_word refl refl refl) end_steps) (λ t c e. vi_or_end_form v c) token.End tt (inr tt) [] tt refl (refl, refl)) λ others.
    form_give (first ∷ others.0)

pub listing_form : Form listing (λ h. done) fresh
listing_form =
    form_bind (form_first (word (codes "glisting")) (token.Word (codes "glisting")) (good_word (codes "glisting") refl refl refl) tt refl refl refl refl) λ x.
    form_bind (form_in version (token.Number (pos 1)) (omega arith) 1 refl refl refl refl) λ v.
    form_bind eol_form λ e.
    form_bind (vis_form v) λ is.
    form_give (record { vis = is })
