-- VIs and listings.
use Rattle.std.specs.Prelude.{ℕ, Bool, true, false, List, [], ◌∷◌, Option, Some, None, codes, ◌⊎◌}
use Rattle.std.proofs.Common.{inl, inr}
use Rattle.g_grammar.specs.Grammar.{Grammar, give, take, loop, ◌>>=◌, Has, or_else}
use Rattle.g_types.specs.declared.ty.Ty.{Ty}
use Rattle.g_diagram.specs.declared.panel.PanelItem.{PanelItem}
use Rattle.g_diagram.specs.declared.panel.PanelItem.TheVariants as panel
use Rattle.g_diagram.specs.declared.hierarchy.Clones.{Clones}
use Rattle.g_diagram.specs.declared.hierarchy.Clones.TheVariants as clones
use Rattle.g_diagram.specs.declared.hierarchy.System.{System}
use Rattle.g_diagram.specs.declared.hierarchy.System.TheVariants as system
use Rattle.g_diagram.specs.declared.node.Node.{Node}
use Rattle.g_diagram.specs.declared.hierarchy.Vi.{Vi}
use Rattle.g_diagram.specs.declared.hierarchy.Hierarchy.{Hierarchy}
use Rattle.g_tokens.specs.declared.token.Token.{Token}
use Rattle.g_tokens.specs.declared.token.Token.TheVariants as token
use Rattle.g_tokens.specs.declared.token.Mark.TheVariants as mark
use Rattle.g_tokens.specs.Tokens.{placed_tokens, tokens_of}
use Rattle.g_listing_words.specs.Operations.{lookup}
use Rattle.g_listing_grammar.specs.declared.NodeWord.{NodeWord}
use Rattle.g_listing_grammar.specs.declared.Until.TheVariants as until
use Rattle.g_listing_grammar.specs.declared.PanelWord.{PanelWord}
use Rattle.g_listing_grammar.specs.declared.PanelWord.TheVariants as panel_word
use Rattle.g_listing_grammar.specs.declared.ControlMark.{ControlMark}
use Rattle.g_listing_grammar.specs.declared.ControlMark.TheVariants as control
use Rattle.g_listing_grammar.specs.declared.ClonesWord.TheVariants as clones_word
use Rattle.g_listing_grammar.specs.declared.HeaderWord.{HeaderWord}
use Rattle.g_listing_grammar.specs.declared.HeaderWord.TheVariants as header
use Rattle.g_listing_grammar.specs.Words.{word, word_in, name, eol, feeds, equals_or_arrow, pool_size, version}
use Rattle.g_listing_grammar.specs.Types.{types}
use Rattle.g_listing_grammar.specs.Literals.{literals}
use Rattle.g_listing_grammar.specs.Borders.{last_wire, to_wire}
use Rattle.g_listing_grammar.specs.Nodes.{node_first, node_rest, nodes}

-- ---- the header

abbrev pub header_words : List (List ℕ × HeaderWord)
header_words =
    (codes "nonreentrant", header.Clones clones_word.NonReentrant) ∷ (codes "preallocated", header.Clones clones_word.Preallocated) ∷ (codes "pool", header.Clones clones_word.Pool)
    ∷ (codes "ui", header.System system.Ui) ∷ (codes "standard", header.System system.Standard) ∷ (codes "instrument", header.System system.Instrument) ∷ (codes "daq", header.System system.Daq)
    ∷ (codes "other1", header.System system.Other1) ∷ (codes "other2", header.System system.Other2) ∷ (codes "same", header.System system.Same) ∷ []

abbrev pub header_word : Token → Option HeaderWord
header_word (token.Word w) = lookup header_words w
header_word token.Eol = Some header.Eol
header_word _ = None

abbrev pub not_clones : Option HeaderWord → Option (Option System)
not_clones None = None
not_clones (Some (header.Clones c)) = None
not_clones (Some (header.System s)) = Some (Some s)
not_clones (Some header.Eol) = Some None

-- a system, or the end of the line
abbrev pub system_or_eol : Token → Option (Option System)
system_or_eol t = not_clones (header_word t)

abbrev pub Kind : Type 0
Kind = Clones × System

-- a system that isn't written is `same`
abbrev pub system_end : Clones → Option System → Grammar Token Kind
system_end c (Some s) = do
  e ← take eol
  give (c, s)
system_end c None = give (c, system.Same)

abbrev pub after_clones : Clones → Grammar Token Kind
after_clones c = take system_or_eol >>= system_end c

-- clones that aren't written are `nonreentrant`
abbrev pub kind_rest : HeaderWord → Grammar Token Kind
kind_rest (header.Clones clones_word.NonReentrant) = after_clones clones.NonReentrant
kind_rest (header.Clones clones_word.Preallocated) = after_clones clones.Preallocated
kind_rest (header.Clones clones_word.Pool) = do
  n ← take pool_size
  after_clones (clones.Pool n)
kind_rest (header.System s) = system_end clones.NonReentrant (Some s)
kind_rest header.Eol = give (clones.NonReentrant, system.Same)

-- what stands after a VI's name, up to the end of its line
abbrev pub kind : Grammar Token Kind
kind = take header_word >>= kind_rest

-- ---- the panel

abbrev pub panel_words : List (List ℕ × PanelWord)
panel_words = (codes "control", panel_word.Control) ∷ (codes "indicator", panel_word.Indicator) ∷ []

abbrev pub control_mark : Token → Option ControlMark
control_mark (token.Word w) = lookup ((codes "required", control.Required) ∷ []) w
control_mark (token.Mark mark.Equals) = Some control.Equals
control_mark (token.Mark mark.Arrow) = Some control.Arrow
control_mark _ = None

-- after `=`, or after the arrow
abbrev pub default_rest : List ℕ → Ty → Bool → Bool → Grammar Token PanelItem
default_rest n t required true = do
  l ← literals 8 true
  o ← to_wire
  give (panel.Control n t required (Some l) o)
default_rest n t required false = do
  o ← last_wire
  give (panel.Control n t required None o)

abbrev pub control_rest : List ℕ → Ty → ControlMark → Grammar Token PanelItem
control_rest n t control.Required = take equals_or_arrow >>= default_rest n t true
control_rest n t control.Equals = default_rest n t false true
control_rest n t control.Arrow = default_rest n t false false

-- a line of the panel after its first word
abbrev pub panel_rest : PanelWord → Grammar Token PanelItem
panel_rest panel_word.Control = do
  n ← take name
  t ← types 8 true
  m ← take control_mark
  control_rest n t m
panel_rest panel_word.Indicator = do
  n ← take name
  t ← types 8 true
  x ← take feeds
  i ← last_wire
  give (panel.Indicator n t i)

-- ---- a VI of this version, after its first word

abbrev pub end : Token → Option (Unit {0})
end = word (codes "end")

-- a line of the panel; or the first node; or the end
abbrev pub Begin : Type 0
Begin = PanelWord ⊎ (NodeWord ⊎ Unit {0})

abbrev pub body_first : ℕ → Token → Option Begin
body_first v = or_else (word_in panel_words) (or_else (node_first v 32) end)

abbrev pub body_item : ℕ → Begin → Grammar Token (PanelItem ⊎ Option Node)
body_item v (inl w) = do
  p ← panel_rest w
  give (inl p)
body_item v (inr (inl w)) = do
  n ← node_rest v 32 w
  give (inr (Some n))
body_item v (inr (inr x)) = give (inr None)

abbrev pub nodes_after : ℕ → Option Node → Grammar Token (List Node)
nodes_after v None = give []
nodes_after v (Some n) = do
  ns ← nodes v 32 until.End
  give (n ∷ ns.0)

abbrev pub vi_rest : ℕ → Grammar Token Vi
vi_rest v = do
  n ← take name
  k ← kind
  panel ← loop (body_first v) (body_item v)
  ns ← nodes_after v panel.1
  e ← take eol
  give (record { name = n; clones = k.0; system = k.1; panel = panel.0; top = record { nodes = ns } })

-- ---- a listing

abbrev pub at_end : Token → Option (Unit {0})
at_end token.End = Some tt
at_end _ = None

abbrev pub vi_word : Token → Option (Unit {0})
vi_word = word (codes "vi")

abbrev pub vi_or_end : ℕ → (Unit {0} ⊎ Unit {0}) → Grammar Token (Vi ⊎ Unit {0})
vi_or_end v (inl x) = do
  i ← vi_rest v
  give (inl i)
vi_or_end v (inr x) = give (inr tt)

-- one or more VIs up to END
abbrev pub vis : ℕ → Grammar Token (List Vi)
vis v = do
  x ← take vi_word
  first ← vi_rest v
  others ← loop (or_else vi_word at_end) (vi_or_end v)
  give (first ∷ others.0)

abbrev pub listing : Grammar Token Hierarchy
listing = do
  x ← take (word (codes "glisting"))
  v ← take version
  e ← take eol
  is ← vis v
  give (record { vis = is })

-- the tokens, all of them, have this hierarchy
abbrev pub HasHierarchy : List Token → Hierarchy → Type 0
HasHierarchy ts h = Has listing ts h []

-- the bytes have this hierarchy: their tokens do
abbrev pub IsListing : List ℕ → Hierarchy → Type 0
IsListing bytes h = HasHierarchy (tokens_of (placed_tokens bytes)) h
