-- Listings of bytes: what they have can be listed.
use Rattle.std.proofs.Common.{ℕ, ◌≤◌, Bool, true, false, List, [], ◌∷◌, inl, inr, ◌⊎◌, length, arith}
use Rattle.std.specs.Prelude.{Option, Some, None}
use Rattle.std.specs.List.{All}
use Rattle.std.proofs.lemmas.List.Elements.{All-nil, All-cons}
use Rattle.g_grammar.specs.Grammar.{loop, or_else}
use Rattle.g_types.specs.declared.ty.Ty.{Ty}
use Rattle.g_values.specs.Spelled.{IsSpelled}
use Rattle.g_diagram.specs.declared.panel.PanelItem.TheVariants as panel
use Rattle.g_diagram.specs.declared.hierarchy.Clones.{Clones}
use Rattle.g_diagram.specs.declared.hierarchy.Clones.TheVariants as clones
use Rattle.g_diagram.specs.declared.hierarchy.System.{System}
use Rattle.g_diagram.specs.declared.hierarchy.System.TheVariants as system
use Rattle.g_diagram.specs.declared.node.Node.{Node}
use Rattle.g_diagram.specs.declared.hierarchy.Vi.{Vi}
use Rattle.g_diagram.specs.declared.hierarchy.Hierarchy.{Hierarchy}
use Rattle.g_tokens.specs.Tokens.{placed_tokens, tokens_of}
use Rattle.g_listing_grammar.specs.declared.Until.TheVariants as until
use Rattle.g_listing_grammar.specs.declared.PanelWord.{PanelWord}
use Rattle.g_listing_grammar.specs.declared.PanelWord.TheVariants as panel_word
use Rattle.g_listing_grammar.specs.declared.ControlMark.{ControlMark}
use Rattle.g_listing_grammar.specs.declared.ControlMark.TheVariants as control
use Rattle.g_listing_grammar.specs.declared.ClonesWord.TheVariants as clones_word
use Rattle.g_listing_grammar.specs.declared.HeaderWord.{HeaderWord}
use Rattle.g_listing_grammar.specs.declared.HeaderWord.TheVariants as header
use Rattle.g_listing_grammar.specs.Words.{word_in}
use Rattle.g_listing_grammar.specs.Nodes.{node_first}
use Rattle.g_listing_grammar.specs.Listing.{Kind, system_end, after_clones, kind_rest, default_rest, control_rest, panel_words, panel_rest, end, Begin, body_first, body_item, nodes_after, vi_rest, vi_word, at_end, vi_or_end, vis, listing, IsListing}
use Rattle.g_listing_laws.specs.Spelled.{IsPoolSize}
use Rattle.g_listing_laws.proofs.Gives.{Either, Ended}
use Rattle.g_listing_laws.proofs.TypesGiven.{type_given}
use Rattle.g_listing_laws.proofs.BordersGiven.{pool_known}
use Rattle.g_print_laws.specs.Bytes.{IsBytes}
use Rattle.g_print_laws.proofs.GoodTokens.{tokens_good}
use Rattle.g_listing_listable.specs.Listable.{IsName, IsItem, IsNode, IsVi, CanBeListed}
use Rattle.g_listing_listable.proofs.ReadPhrases.{Reads, Any, reads_give, reads_take, reads_bind, reads_after, reads_any, reads_loop}
use Rattle.g_listing_listable.proofs.ReadTokens.{either_known, any_known, name_read, last_wire_read, to_wire_read}
use Rattle.g_listing_listable.proofs.ReadLiterals.{literal_read}
use Rattle.g_listing_listable.proofs.ReadNodes.{Apart, first_known, node_read, nodes_read}

-- ---- the panel

module _ (n : List ℕ) (named : IsName n) (t : Ty) (is : IsSpelled t) where
  default_read : (required further : Bool) → Reads IsItem (default_rest n t required further)
  default_read required true = reads_bind literal_read λ l so. reads_bind to_wire_read λ o also. reads_give (panel.Control n t required (Some l) o) (named, is, so, also)
  default_read required false = reads_bind last_wire_read λ o also. reads_give (panel.Control n t required None o) (named, is, tt, also)

  control_read : (m : ControlMark) → Reads IsItem (control_rest n t m)
  control_read control.Required = reads_after (default_read true)
  control_read control.Equals = default_read false true
  control_read control.Arrow = default_read false false

panel_read : (w : PanelWord) → Reads IsItem (panel_rest w)
panel_read panel_word.Control = reads_bind name_read λ n named. reads_bind (reads_any type_given) λ t is. reads_after (control_read n named t is)
panel_read panel_word.Indicator =
    reads_bind name_read λ n named. reads_bind (reads_any type_given) λ t is. reads_after λ x. reads_bind last_wire_read λ i so. reads_give (panel.Indicator n t i) (named, is, so)

-- ---- the header

abbrev HasPoolSize : Kind → Type 0
HasPoolSize k = IsPoolSize k.0

system_read : (c : Clones) → IsPoolSize c → (s : Option System) → Reads HasPoolSize (system_end c s)
system_read c size (Some s) = reads_after λ e. reads_give (c, s) size
system_read c size None = reads_give (c, system.Same) size

clones_read : (c : Clones) → IsPoolSize c → Reads HasPoolSize (after_clones c)
clones_read c size = reads_after (system_read c size)

kind_read : (h : HeaderWord) → Reads HasPoolSize (kind_rest h)
kind_read (header.Clones clones_word.NonReentrant) = clones_read clones.NonReentrant tt
kind_read (header.Clones clones_word.Preallocated) = clones_read clones.Preallocated tt
kind_read (header.Clones clones_word.Pool) = reads_bind {Q = λ n. (1 ≤ n) × (n ≤ 64)} (reads_take (λ t n g e. pool_known t n e)) λ n size. clones_read (clones.Pool n) size
kind_read (header.System s) = system_read clones.NonReentrant tt (Some s)
kind_read header.Eol = reads_give (clones.NonReentrant, system.Same) tt

-- ---- VIs

abbrev IsFirst : Option Node → Type 0
IsFirst None = Unit {0}
IsFirst (Some n) = IsNode 32 n

abbrev IsBegun : Begin → Type 0
IsBegun = Either Any (Either Apart Any)

item_read : (v : ℕ) (c : Begin) → IsBegun c → Reads (Either IsItem IsFirst) (body_item v c)
item_read v (inl w) k = reads_bind (panel_read w) λ p is. reads_give (inl p) is
item_read v (inr (inl w)) k = reads_bind (node_read v 32 w k) λ n is. reads_give (inr (Some n)) is
item_read v (inr (inr x)) k = reads_give (inr None) tt

items_read : (v : ℕ) → Reads (Ended IsItem IsFirst) (loop (body_first v) (body_item v))
items_read v =
    reads_loop IsBegun IsItem IsFirst (body_first v) (body_item v)
    (either_known Any (Either Apart Any) (word_in panel_words) (or_else (node_first v 32) end) (any_known (word_in panel_words)) (either_known Apart Any (node_first v 32) end (first_known v 32) (any_known end)))
    (item_read v)

after_read : (v : ℕ) (n : Option Node) → IsFirst n → Reads (All (IsNode 32)) (nodes_after v n)
after_read v None is = reads_give [] (All-nil (IsNode 32))
after_read v (Some n) is = reads_bind (nodes_read v 32 until.End) λ ns e. reads_give (n ∷ ns.0) (All-cons (IsNode 32) n ns.0 is e.all)

vi_read : (v : ℕ) → Reads IsVi (vi_rest v)
vi_read v =
    reads_bind name_read λ n named.
    reads_bind (reads_after kind_read) λ k size.
    reads_bind (items_read v) λ items e.
    reads_bind (after_read v items.1 e.last) λ ns is.
    reads_after λ end.
    let vi : Vi = record { name = n; clones = k.0; system = k.1; panel = items.0; top = record { nodes = ns } } in
    reads_give vi (record { name = named; clones = size; panel = e.all; top = is })

-- ---- listings

or_end_read : (v : ℕ) (c : Unit {0} ⊎ Unit {0}) → Any c → Reads (Either IsVi (Any {A = Unit {0}})) (vi_or_end v c)
or_end_read v (inl x) k = reads_bind (vi_read v) λ i is. reads_give (inl i) is
or_end_read v (inr x) k = reads_give (inr tt) tt

abbrev AreSome : List Vi → Type 0
AreSome is = (1 ≤ length is) × All IsVi is

vis_read : (v : ℕ) → Reads AreSome (vis v)
vis_read v =
    reads_after λ x.
    reads_bind (vi_read v) λ i is.
    reads_bind (reads_loop Any IsVi Any (or_else vi_word at_end) (vi_or_end v) (any_known (or_else vi_word at_end)) (or_end_read v)) λ others e.
    reads_give (i ∷ others.0) (omega arith, All-cons IsVi i others.0 is e.all)

listing_read : Reads CanBeListed listing
listing_read = reads_after λ x. reads_after λ v. reads_after λ e. reads_bind (vis_read v) λ is so. reads_give (record { vis = is }) (record { some = so.0; vis = so.1 })

pub listed : (bytes : List ℕ) (h : Hierarchy) → IsBytes bytes → IsListing bytes h → CanBeListed h
listed bytes h good has = listing_read.each (tokens_of (placed_tokens bytes)) h [] (tokens_good bytes good) has
