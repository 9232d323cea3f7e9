-- Tokens that have the lines of a VI after its header.
use Rattle.std.proofs.Common.{◌≡◌, ℕ, Bool, true, false, List, [], ◌∷◌, get_or, Option, Some, None, refl, codes, inl, inr}
use Rattle.std.specs.List.{All}
use Rattle.std.proofs.lemmas.List.Elements.{All-head, All-tail}
use Rattle.g_grammar.specs.Grammar.{take, or_else, ◌>>=◌}
use Rattle.g_types.specs.declared.ty.Ty.{Ty}
use Rattle.g_values.specs.Spelled.{IsSpelled}
use Rattle.g_tokens.specs.declared.token.Token.TheVariants as token
use Rattle.g_tokens.specs.declared.token.Mark.TheVariants as mark
use Rattle.g_diagram.specs.declared.panel.Lit.{Lit}
use Rattle.g_diagram.specs.declared.panel.PanelItem.{PanelItem}
use Rattle.g_diagram.specs.declared.panel.PanelItem.TheVariants as panel
use Rattle.g_diagram.specs.declared.node.Node.{Node}
use Rattle.g_diagram.specs.declared.hierarchy.Vi.{Vi}
use Rattle.g_diagram.specs.Lines.{Wire}
use Rattle.g_listing_grammar.specs.declared.Until.TheVariants as until
use Rattle.g_listing_grammar.specs.declared.PanelWord.{PanelWord}
use Rattle.g_listing_grammar.specs.declared.PanelWord.TheVariants as panel_word
use Rattle.g_listing_grammar.specs.declared.ControlMark.TheVariants as control
use Rattle.g_listing_grammar.specs.Words.{word_in}
use Rattle.g_listing_grammar.specs.Nodes.{node_first}
use Rattle.g_listing_grammar.specs.Listing.{panel_words, control_mark, control_rest, panel_rest, end, body_first, body_item, nodes_after}
use Rattle.g_print_laws.proofs.PanelParts.{body}
use Rattle.g_listing_listable.specs.Listable.{IsName, IsWire, IsDefault, IsItem, IsNode}
use Rattle.g_listing_listable.proofs.MakePhrases.{Makes, Begins, makes_give, makes_bind, makes_loop, first_one, second_one}
use Rattle.g_listing_listable.proofs.MakeTokens.{word_is, makes_word, makes_mark, makes_name, makes_eol, makes_last_wire, makes_to_wire}
use Rattle.g_listing_listable.proofs.MakeTypes.{makes_type}
use Rattle.g_listing_listable.proofs.MakeLiterals.{makes_literal}
use Rattle.g_listing_listable.proofs.MakeNodes.{NodeBegun, node_begun, nodes_made, end_no_node}

-- ---- lines of the panel

-- what follows the type of a control
marked_made : (n : List ℕ) (t : Ty) (required : Bool) (default : Option Lit) (out : Wire) → IsDefault default → IsWire out → Makes (take control_mark >>= control_rest n t) (panel.Control n t required default out)
marked_made n t false None out is so = makes_bind (makes_mark mark.Arrow control.Arrow refl) (makes_bind (makes_last_wire out so) (makes_give (panel.Control n t false None out)))
marked_made n t false (Some l) out is so = makes_bind (makes_mark mark.Equals control.Equals refl) (makes_bind (makes_literal l is) (makes_bind (makes_to_wire out so) (makes_give (panel.Control n t false (Some l) out))))
marked_made n t true None out is so =
    makes_bind (makes_word (codes "required") control.Required refl refl) (makes_bind (makes_mark mark.Arrow false refl) (makes_bind (makes_last_wire out so) (makes_give (panel.Control n t true None out))))
marked_made n t true (Some l) out is so =
    makes_bind (makes_word (codes "required") control.Required refl refl)
    (makes_bind (makes_mark mark.Equals true refl) (makes_bind (makes_literal l is) (makes_bind (makes_to_wire out so) (makes_give (panel.Control n t true (Some l) out)))))

control_made : (n : List ℕ) (t : Ty) (required : Bool) (default : Option Lit) (out : Wire) → IsName n → IsSpelled t → IsDefault default → IsWire out → Makes (panel_rest panel_word.Control) (panel.Control n t required default out)
control_made n t required default out named is so also = makes_bind (makes_name n named) (makes_bind (makes_type t is) (marked_made n t required default out so also))

indicator_made : (n : List ℕ) (t : Ty) (i : Wire) → IsName n → IsSpelled t → IsWire i → Makes (panel_rest panel_word.Indicator) (panel.Indicator n t i)
indicator_made n t i named is so = makes_bind (makes_name n named) (makes_bind (makes_type t is) (makes_bind (makes_mark mark.Feeds tt refl) (makes_bind (makes_last_wire i so) (makes_give (panel.Indicator n t i)))))

line_begun : (u : List ℕ) → IsName u → (w : PanelWord) (i : PanelItem) → word_in panel_words (token.Word u) ≡ Some w → Makes (panel_rest w) i → Begins (body_first 1) (body_item 1) (inl i)
line_begun u named w i e m = record {
  token = token.Word u;
  good = word_is u named;
  first = inl w;
  is = first_one (word_in panel_words) (or_else (node_first 1 32) end) (token.Word u) w e;
  rest = makes_bind m (makes_give (inl i));
}

item_begun : (i : PanelItem) → IsItem i → Begins (body_first 1) (body_item 1) (inl i)
item_begun (panel.Control n t required default out) is =
    line_begun (codes "control") refl panel_word.Control (panel.Control n t required default out) refl (control_made n t required default out is.0 is.1 is.2 is.3)
item_begun (panel.Indicator n t i) is = line_begun (codes "indicator") refl panel_word.Indicator (panel.Indicator n t i) refl (indicator_made n t i is.0 is.1 is.2)

-- ---- the nodes, or the end where there are none

record NodesMade (ns : List Node) : Type 0 where
  begin : Option Node
  begun : Begins (body_first 1) (body_item 1) (inr begin)
  rest : Makes (nodes_after 1 begin) ns

end_begun : Begins (body_first 1) (body_item 1) (inr None)
end_begun = record {
  token = token.Word (codes "end");
  good = word_is (codes "end") refl;
  first = inr (inr tt);
  is = second_one (word_in panel_words) (or_else (node_first 1 32) end) (token.Word (codes "end")) (inr tt) refl
      (second_one (node_first 1 32) end (token.Word (codes "end")) tt (end_no_node 32 until.End false) refl);
  rest = makes_give (inr None);
}

first_begun : (n : Node) → NodeBegun 32 n → Begins (body_first 1) (body_item 1) (inr (Some n))
first_begun n m = record {
  token = token.Word m.name;
  good = word_is m.name m.named;
  first = inr (inl m.first);
  is = second_one (word_in panel_words) (or_else (node_first 1 32) end) (token.Word m.name) (inl m.first) m.apart (first_one (node_first 1 32) end (token.Word m.name) m.first m.is);
  rest = makes_bind m.rest (makes_give (inr (Some n)));
}

top_made : (ns : List Node) → All (IsNode 32) ns → NodesMade ns
top_made [] all = record { begin = None; begun = end_begun; rest = makes_give [] }
top_made (n ∷ ns) all = record {
  begin = Some n;
  begun = first_begun n (node_begun 32 n (All-head (IsNode 32) n ns all));
  rest = makes_bind ((nodes_made 32).made ns (All-tail (IsNode 32) n ns all) until.End false tt) (makes_give (n ∷ ns));
}

pub makes_body : (vi : Vi) → All IsItem vi.panel → All (IsNode 32) vi.top.nodes → Makes (body 1 vi.name (vi.clones, vi.system)) vi
makes_body vi items all =
    let m = top_made vi.top.nodes all in
    makes_bind (makes_loop vi.panel m.begin (λ k d lt. item_begun (get_or vi.panel k d) (items k d lt)) m.begun) (makes_bind m.rest (makes_bind makes_eol (makes_give vi)))
