-- The types of the VIs that a listing has.
use Rattle.std.proofs.Common.{ℕ, ◌≤◌, Bool, true, false, List, [], ◌∷◌, inl, inr, ◌⊎◌}
use Rattle.std.specs.Prelude.{Option, Some, None}
use Rattle.std.specs.List.{All}
use Rattle.std.proofs.lemmas.List.Elements.{All-nil, All-cons}
use Rattle.g_grammar.specs.Grammar.{or_else}
use Rattle.g_types.specs.declared.ty.Ty.{Ty}
use Rattle.g_values.specs.Spelled.{IsSpelled}
use Rattle.g_diagram.specs.declared.panel.PanelItem.TheVariants as panel
use Rattle.g_diagram.specs.declared.hierarchy.Clones.{Clones}
use Rattle.g_diagram.specs.declared.hierarchy.Clones.TheVariants as clones
use Rattle.g_diagram.specs.declared.hierarchy.System.{System}
use Rattle.g_diagram.specs.declared.hierarchy.System.TheVariants as system
use Rattle.g_diagram.specs.declared.node.Node.{Node}
use Rattle.g_diagram.specs.declared.hierarchy.Vi.{Vi}
use Rattle.g_tokens.specs.Tokens.{placed_tokens, tokens_of}
use Rattle.g_listing_grammar.specs.declared.Until.TheVariants as until
use Rattle.g_listing_grammar.specs.declared.PanelWord.{PanelWord}
use Rattle.g_listing_grammar.specs.declared.PanelWord.TheVariants as panel_word
use Rattle.g_listing_grammar.specs.declared.ControlMark.{ControlMark}
use Rattle.g_listing_grammar.specs.declared.ControlMark.TheVariants as control
use Rattle.g_listing_grammar.specs.declared.ClonesWord.TheVariants as clones_word
use Rattle.g_listing_grammar.specs.declared.HeaderWord.{HeaderWord}
use Rattle.g_listing_grammar.specs.declared.HeaderWord.TheVariants as header
use Rattle.g_listing_grammar.specs.Listing.{Kind, system_end, after_clones, kind_rest, default_rest, control_rest, panel_rest, Begin, body_first, body_item, nodes_after, vi_rest, vi_word, at_end, vi_or_end, vis, listing}
use Rattle.g_listing_laws.specs.Spelled.{IsPoolSize, IsItemSpelled, IsViSpelled, AreSpelled, ReadsSpelled}
use Rattle.g_listing_laws.proofs.Gives.{Gives, Either, gives_give, gives_take, gives_bind, gives_after, gives_loop}
use Rattle.g_listing_laws.proofs.TypesGiven.{type_given}
use Rattle.g_listing_laws.proofs.LinesSpelled.{IsNodeSpelled, constants_spelled}
use Rattle.g_listing_laws.proofs.BordersGiven.{Whatever, pool_known}
use Rattle.g_listing_laws.proofs.NodesGiven.{node_given, nodes_given}

-- ---- the panel

default_given : (n : List ℕ) (t : Ty) (required : Bool) → IsSpelled t → (literal : Bool) → Gives IsItemSpelled (default_rest n t required literal)
default_given n t required is true = gives_after λ l. gives_after λ o. gives_give (panel.Control n t required (Some l) o) is
default_given n t required is false = gives_after λ o. gives_give (panel.Control n t required None o) is

control_given : (n : List ℕ) (t : Ty) → IsSpelled t → (m : ControlMark) → Gives IsItemSpelled (control_rest n t m)
control_given n t is control.Required = gives_after (default_given n t true is)
control_given n t is control.Equals = default_given n t false is true
control_given n t is control.Arrow = default_given n t false is false

panel_given : (w : PanelWord) → Gives IsItemSpelled (panel_rest w)
panel_given panel_word.Control = gives_after λ n. gives_bind type_given λ t is. gives_after (control_given n t is)
panel_given panel_word.Indicator = gives_after λ n. gives_bind type_given λ t is. gives_after λ x. gives_after λ i. gives_give (panel.Indicator n t i) is

-- ---- the header

abbrev HasPoolSize : Kind → Type 0
HasPoolSize k = IsPoolSize k.0

system_given : (c : Clones) → IsPoolSize c → (s : Option System) → Gives HasPoolSize (system_end c s)
system_given c size (Some s) = gives_after λ e. gives_give (c, s) size
system_given c size None = gives_give (c, system.Same) size

clones_given : (c : Clones) → IsPoolSize c → Gives HasPoolSize (after_clones c)
clones_given c size = gives_after (system_given c size)

kind_given : (h : HeaderWord) → Gives HasPoolSize (kind_rest h)
kind_given (header.Clones clones_word.NonReentrant) = clones_given clones.NonReentrant tt
kind_given (header.Clones clones_word.Preallocated) = clones_given clones.Preallocated tt
kind_given (header.Clones clones_word.Pool) = gives_bind {Q = λ n. (1 ≤ n) × (n ≤ 64)} (gives_take pool_known) λ n size. clones_given (clones.Pool n) size
kind_given (header.System s) = system_given clones.NonReentrant tt (Some s)
kind_given header.Eol = gives_give (clones.NonReentrant, system.Same) tt

-- ---- VIs

abbrev IsFirstSpelled : Option Node → Type 0
IsFirstSpelled None = Unit {0}
IsFirstSpelled (Some n) = IsNodeSpelled n

item_given : (v : ℕ) (c : Begin) → Gives (Either IsItemSpelled IsFirstSpelled) (body_item v c)
item_given v (inl w) = gives_bind (panel_given w) λ p is. gives_give (inl p) is
item_given v (inr (inl w)) = gives_bind (node_given v 32 w) λ n is. gives_give (inr (Some n)) is
item_given v (inr (inr x)) = gives_give (inr None) tt

after_given : (v : ℕ) (n : Option Node) → IsFirstSpelled n → Gives (All IsNodeSpelled) (nodes_after v n)
after_given v None is = gives_give [] (All-nil IsNodeSpelled)
after_given v (Some n) is = gives_bind (nodes_given v 32 until.End) λ ns e. gives_give (n ∷ ns.0) (All-cons IsNodeSpelled n ns.0 is e.all)

vi_spelled : (vi : Vi) → IsPoolSize vi.clones → All IsItemSpelled vi.panel → All IsNodeSpelled vi.top.nodes → IsViSpelled vi
vi_spelled vi size items ns = record { clones = size; panel = items; constants = constants_spelled vi ns }

vi_given : (v : ℕ) → Gives IsViSpelled (vi_rest v)
vi_given v =
    gives_after λ n.
    gives_bind (gives_after kind_given) λ k size.
    gives_bind (gives_loop IsItemSpelled IsFirstSpelled (body_first v) (body_item v) (item_given v)) λ items e.
    gives_bind (after_given v items.1 e.last) λ ns a.
    gives_after λ end.
    let vi : Vi = record { name = n; clones = k.0; system = k.1; panel = items.0; top = record { nodes = ns } } in
    gives_give vi (vi_spelled vi size e.all a)

-- ---- listings

or_end_given : (v : ℕ) (c : Unit {0} ⊎ Unit {0}) → Gives (Either IsViSpelled (Whatever {D = Unit {0}})) (vi_or_end v c)
or_end_given v (inl x) = gives_bind (vi_given v) λ i is. gives_give (inl i) is
or_end_given v (inr x) = gives_give (inr tt) tt

vis_given : (v : ℕ) → Gives (All IsViSpelled) (vis v)
vis_given v =
    gives_after λ x.
    gives_bind (vi_given v) λ i is.
    gives_bind (gives_loop IsViSpelled Whatever (or_else vi_word at_end) (vi_or_end v) (or_end_given v)) λ others e.
    gives_give (i ∷ others.0) (All-cons IsViSpelled i others.0 is e.all)

listing_given : Gives AreSpelled listing
listing_given = gives_after λ x. gives_after λ v. gives_after λ e. gives_bind (vis_given v) λ is a. gives_give (record { vis = is }) a

pub reads_spelled : ReadsSpelled
reads_spelled bytes h l = listing_given.each (tokens_of (placed_tokens bytes)) h [] l
