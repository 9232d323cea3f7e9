-- A listing can be completed wherever a token is refused.
use Rattle.std.proofs.Common.{◌≡◌, ℕ, Bool, true, false, List, [], ◌∷◌, Option, Some, None, refl, ap, inl, inr, ◌⊎◌}
use Rattle.std.specs.Prelude.{codes, pos}
use Rattle.g_grammar.specs.Grammar.{or_else, either}
use Rattle.g_grammar.proofs.Live.{Live, live_give, live_take, live_bind, live_loop, either_left, either_right}
use Rattle.g_types.specs.declared.ty.Ty.{Ty}
use Rattle.g_diagram.specs.declared.panel.PanelItem.TheVariants as panel
use Rattle.g_diagram.specs.declared.hierarchy.Clones.{Clones}
use Rattle.g_diagram.specs.declared.hierarchy.Clones.TheVariants as clones
use Rattle.g_diagram.specs.declared.hierarchy.System.{System}
use Rattle.g_diagram.specs.declared.hierarchy.System.TheVariants as system
use Rattle.g_diagram.specs.declared.node.Node.{Node}
use Rattle.g_tokens.specs.declared.token.Token.{Token}
use Rattle.g_tokens.specs.declared.token.Token.TheVariants as token
use Rattle.g_tokens.specs.declared.token.Mark.TheVariants as mark
use Rattle.g_listing_grammar.specs.declared.PanelWord.{PanelWord}
use Rattle.g_listing_grammar.specs.declared.PanelWord.TheVariants as panel_word
use Rattle.g_listing_grammar.specs.declared.ControlMark.{ControlMark}
use Rattle.g_listing_grammar.specs.declared.ControlMark.TheVariants as control
use Rattle.g_listing_grammar.specs.declared.ClonesWord.TheVariants as clones_word
use Rattle.g_listing_grammar.specs.declared.HeaderWord.{HeaderWord}
use Rattle.g_listing_grammar.specs.declared.HeaderWord.TheVariants as header
use Rattle.g_listing_grammar.specs.Words.{word_in}
use Rattle.g_listing_grammar.specs.Nodes.{node_first}
use Rattle.g_listing_grammar.specs.Listing.{system_end, after_clones, kind_rest, default_rest, control_rest, panel_rest, panel_words, Begin, end, body_first, body_item, nodes_after, vi_rest, vi_or_end, vi_word, at_end, vis, listing}
use Rattle.g_listing_grammar.proofs.LiveBorders.{live_name, live_eol, live_type, live_literal, live_last_wire, live_to_wire}
use Rattle.g_listing_grammar.proofs.LiveNodes.{live_node_rest, live_nodes, end_after}

live_system_end : (c : Clones) (s : Option System) → Live (system_end c s)
live_system_end c (Some s) = live_bind live_eol λ e. live_give (c, s)
live_system_end c None = live_give (c, system.Same)

live_clones : (c : Clones) → Live (after_clones c)
live_clones c = live_bind (live_take token.Eol None refl) (live_system_end c)

live_kind : (h : HeaderWord) → Live (kind_rest h)
live_kind (header.Clones clones_word.NonReentrant) = live_clones clones.NonReentrant
live_kind (header.Clones clones_word.Preallocated) = live_clones clones.Preallocated
live_kind (header.Clones clones_word.Pool) = live_bind (live_take (token.Number (pos 1)) 1 refl) λ n. live_clones (clones.Pool n)
live_kind (header.System s) = live_system_end clones.NonReentrant (Some s)
live_kind header.Eol = live_give (clones.NonReentrant, system.Same)

live_default : (n : List ℕ) (t : Ty) (r more : Bool) → Live (default_rest n t r more)
live_default n t r true = live_bind live_literal λ l. live_bind live_to_wire λ o. live_give (panel.Control n t r (Some l) o)
live_default n t r false = live_bind live_last_wire λ o. live_give (panel.Control n t r None o)

live_control : (n : List ℕ) (t : Ty) (m : ControlMark) → Live (control_rest n t m)
live_control n t control.Required = live_bind (live_take (token.Mark mark.Arrow) false refl) (live_default n t true)
live_control n t control.Equals = live_default n t false true
live_control n t control.Arrow = live_default n t false false

live_panel : (w : PanelWord) → Live (panel_rest w)
live_panel panel_word.Control =
    live_bind live_name λ n.
    live_bind live_type λ t.
    live_bind (live_take (token.Mark mark.Arrow) control.Arrow refl) (live_control n t)
live_panel panel_word.Indicator =
    live_bind live_name λ n.
    live_bind live_type λ t.
    live_bind (live_take (token.Mark mark.Feeds) tt refl) λ x.
    live_bind live_last_wire λ i.
    live_give (panel.Indicator n t i)

live_body_item : (v : ℕ) (t : Token) (c : Begin) → body_first v t ≡ Some c → Live (body_item v c)
live_body_item v t (inl w) e = live_bind (live_panel w) λ p. live_give (inl p)
live_body_item v t (inr (inl w)) e =
    let f = either_right (word_in panel_words t) (or_else (node_first v 32) end t) (inl w) e in
    live_bind (live_node_rest v 32 t w (either_left (node_first v 32 t) (end t) w f)) λ n. live_give (inr (Some n))
live_body_item v t (inr (inr x)) e = live_give (inr None)

live_nodes_after : (v : ℕ) (n : Option Node) → Live (nodes_after v n)
live_nodes_after v None = live_give []
live_nodes_after v (Some n) = live_bind (live_nodes v 32) λ ns. live_give (n ∷ ns.0)

abbrev an_end : Token
an_end = token.Word (codes "end")

body_ends : (v : ℕ) → body_first v an_end ≡ Some (inr (inr tt))
body_ends v = ap (λ (o : Option (_ ⊎ Unit {0})). either (word_in panel_words an_end) o) (end_after v 32)

live_vi : (v : ℕ) → Live (vi_rest v)
live_vi v =
    live_bind live_name λ n.
    live_bind (live_bind (live_take token.Eol header.Eol refl) live_kind) λ k.
    live_bind (live_loop (body_first v) (body_item v) (live_body_item v) an_end (inr (inr tt)) [] None (body_ends v) (refl, refl)) λ panel.
    live_bind (live_nodes_after v panel.1) λ ns.
    live_bind live_eol λ e.
    live_give (record { name = n; clones = k.0; system = k.1; panel = panel.0; top = record { nodes = ns } })

live_vi_or_end : (v : ℕ) (c : Unit {0} ⊎ Unit {0}) → Live (vi_or_end v c)
live_vi_or_end v (inl x) = live_bind (live_vi v) λ i. live_give (inl i)
live_vi_or_end v (inr x) = live_give (inr tt)

live_vis : (v : ℕ) → Live (vis v)
live_vis v =
    live_bind (live_take (token.Word (codes "vi")) tt refl) λ x.
    live_bind (live_vi v) λ first.
    live_bind (live_loop (or_else vi_word at_end) (vi_or_end v) (λ t c e. live_vi_or_end v c) token.End (inr tt) [] tt refl (refl, refl)) λ others.
    live_give (first ∷ others.0)

pub live_listing : Live listing
live_listing =
    live_bind (live_take (token.Word (codes "glisting")) tt refl) λ x.
    live_bind (live_take (token.Number (pos 1)) 1 refl) λ v.
    live_bind live_eol λ e.
    live_bind (live_vis v) λ is.
    live_give (record { vis = is })
