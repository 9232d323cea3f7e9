-- Inner: the sources of a VI one after another, each with its diagram and its name, as the code goes through the lines.
use Rattle.std.specs.Prelude.{ℕ, ◌+◌, ◌==◌, ◌&&◌, List, [], ◌∷◌, ◌++◌, map, length, Option, Some, None, if◌then◌else◌}
use denote.Ref.{Bor}
use Rattle.g_diagram.specs.declared.node.Tunnel.{Tunnel}
use Rattle.g_diagram.specs.declared.node.Tunnel.TheVariants as line
use Rattle.g_diagram.specs.declared.panel.PanelItem.{PanelItem}
use Rattle.g_diagram.specs.declared.panel.PanelItem.TheVariants.{Control, Indicator}
use Rattle.g_diagram.specs.Lines.{Wire, Part, Entry, Kind, Const, Apply, Shows, Shared, Obtain, Read, Write, Call, Loop, Case, Sequence, InPlace}
use Rattle.g_diagram.specs.Ports.{same_wire}
use Rattle.g_border.specs.declared.place.WireSource.{WireSource}
use Rattle.g_vi_tables.specs.declared.sources.Source.{Source}

pub record SourceIn : Type 0 where
  pub diagram : ℕ
  pub place : WireSource
  pub wire : Wire

abbrev pub seen_wire : Option (Bor (List ℕ)) → Wire
seen_wire None = None
seen_wire (Some name) = Some name.now

abbrev pub seen : Source → SourceIn
seen s = record { diagram = s.diagram; place = s.place; wire = seen_wire s.wire }

abbrev pub source_in : (diagram line operand : ℕ) → Wire → SourceIn
source_in d l k w = record { diagram = d; place = record { line = l; operand = k }; wire = w }

-- outputs, from an operand on
abbrev pub outputs_from : (diagram line operand : ℕ) → List Wire → List SourceIn
outputs_from d l k [] = []
outputs_from d l k (w ∷ ws) = source_in d l k w ∷ outputs_from d l (k + 1) ws

-- an operand once in each of some diagrams
abbrev pub in_each : (diagrams : List ℕ) → (line operand : ℕ) → Wire → List SourceIn
in_each [] l k w = []
in_each (d ∷ ds) l k w = source_in d l k w ∷ in_each ds l k w

-- the sources of a border line: at an operand inside, and at operands outside
abbrev pub border_sources : (outside : ℕ) → (inside : List ℕ) → (line : ℕ) → Tunnel → List SourceIn
border_sources o ds l (line.Tunnel outer inner) = in_each ds l 2 inner
border_sources o ds l (line.Register initial inner next last) = in_each ds l 2 inner ++ source_in o l 4 last ∷ []
border_sources o ds l (line.Kept t inner next last) = in_each ds l 2 inner ++ source_in o l 4 last ∷ []
border_sources o ds l (line.Last inner outer) = source_in o l 2 outer ∷ []
border_sources o ds l (line.Gather inner outer) = source_in o l 2 outer ∷ []
border_sources o ds l (line.Index array inner) = in_each ds l 2 inner
border_sources o ds l (line.Result outer default) = source_in o l 1 outer ∷ []
border_sources o ds l (line.Carry before inner) = in_each ds l 2 inner
border_sources o ds l (line.Ref reference inner next same code) = in_each ds l 2 inner ++ source_in o l 4 same ∷ source_in o l 5 code ∷ []
border_sources o ds l (line.Element array index inner next outer) = in_each ds l 3 inner ++ source_in o l 5 outer ∷ []
border_sources o ds l (line.Field field cluster inner next outer) = in_each ds l 2 inner ++ source_in o l 4 outer ∷ []

abbrev pub border_all : (outside : ℕ) → (inside : List ℕ) → (line : ℕ) → List Tunnel → List SourceIn
border_all o ds l [] = []
border_all o ds l (t ∷ ts) = border_sources o ds l t ++ border_all o ds (l + 1) ts

abbrev pub parts_sources : (outside : ℕ) → List Part → List SourceIn
parts_sources o [] = []
parts_sources o (part ∷ parts) = border_all o (part.body ∷ []) (part.body + 1) part.lines ++ parts_sources o parts

-- an operand that some forms of a loop have
abbrev pub count_wired : Option Wire → ℕ
count_wired None = 0
count_wired (Some w) = 1

abbrev pub kind_sources : Entry → Kind → List SourceIn
kind_sources e (Const t literal out) = source_in e.diagram e.line 1 out ∷ []
kind_sources e (Apply op inputs outputs) = outputs_from e.diagram e.line (length inputs + 1) outputs
kind_sources e (Shows name t w) = []
kind_sources e (Shared op inputs outputs) = outputs_from e.diagram e.line (length inputs + 1) outputs
kind_sources e (Obtain queue size item out) = source_in e.diagram e.line 1 out ∷ []
kind_sources e (Read object out) = source_in e.diagram e.line 1 out ∷ []
kind_sources e (Write object input) = []
kind_sources e (Call vi inputs outputs) = outputs_from e.diagram e.line (length inputs + 1) outputs
kind_sources e (Loop count stop iteration lines body) =
    source_in body e.line (count_wired count + count_wired stop + 1) iteration ∷ border_all e.diagram (body ∷ []) (e.line + 1) lines
kind_sources e (Case selector lines arms) = border_all e.diagram (map (λ a. a.body) arms) (e.line + 1) lines
kind_sources e (Sequence parts) = parts_sources e.diagram parts
kind_sources e (InPlace lines body finish) = border_all e.diagram (body ∷ []) (e.line + 1) lines

abbrev pub nodes_sources : List Entry → List SourceIn
nodes_sources [] = []
nodes_sources (e ∷ es) = kind_sources e e.kind ++ nodes_sources es

abbrev pub panel_sources : (line : ℕ) → List PanelItem → List SourceIn
panel_sources l [] = []
panel_sources l (Control name t required default out ∷ items) = source_in 0 l 1 out ∷ panel_sources (l + 1) items
panel_sources l (Indicator name t w ∷ items) = panel_sources (l + 1) items

abbrev pub sources_of : List PanelItem → List Entry → List SourceIn
sources_of panel es = panel_sources 1 panel ++ nodes_sources es

-- those of a diagram
abbrev pub places_in : (diagram : ℕ) → List SourceIn → List WireSource
places_in d [] = []
places_in d (s ∷ ss) = if s.diagram == d then s.place ∷ places_in d ss else places_in d ss

-- the first of a name in a diagram
abbrev pub first_named : (diagram : ℕ) → (name : List ℕ) → List SourceIn → Option WireSource
first_named d name [] = None
first_named d name (s ∷ ss) = if (s.diagram == d) && same_wire (Some name) s.wire then Some s.place else first_named d name ss
