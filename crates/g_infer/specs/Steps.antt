-- Inner: the steps in which types are decided, each by its form.
use Rattle.std.specs.Prelude.{ℕ, List, [], ◌∷◌, ◌++◌, map, Option, Some, None}
use Rattle.g_diagram.specs.declared.node.Tunnel.{Tunnel}
use Rattle.g_diagram.specs.declared.panel.PanelItem.{PanelItem}
use Rattle.g_diagram.specs.Lines.{Wire, Arm, Part, Kind, Entry, Const, Apply, Shows, Shared, Obtain, Read, Write, Call, Loop, Case, Sequence, InPlace}
use Rattle.g_diagram_table.specs.Seen.{seen, seen_arm}
use Rattle.g_typing.specs.Typing.{next_result}
use Rattle.g_infer.specs.declared.steps.Step.{Step}
use Rattle.g_infer.specs.declared.steps.Step.TheVariants as code

pub data Form : Type 0 where
  Controls : List PanelItem → Form
  -- a node without diagrams inside
  Plain : Entry → Form
  -- the number of a loop's iteration
  Iteration : (body : ℕ) → Wire → Form
  -- the tunnels of a case, inside all its branches
  Branches : (outer : ℕ) → List Tunnel → List Arm → Form
  Opening : (outer inner : ℕ) → (before : Option ℕ) → List Tunnel → Form
  Closing : Entry → (inner : ℕ) → List Tunnel → Form
  FrameClosing : (outer inner : ℕ) → List Tunnel → Form
  Result : (outer number : ℕ) → List Arm → Tunnel → Form

abbrev pub results_forms : (d k : ℕ) → List Arm → List Tunnel → List Form
results_forms d k arms [] = []
results_forms d k arms (t ∷ ts) = Result d k arms t ∷ results_forms d (next_result t k) arms ts

abbrev pub parts_forms : (d : ℕ) → (before : Option ℕ) → List Part → List Form
parts_forms d before [] = []
parts_forms d before (p ∷ ps) = Opening d p.body before p.lines ∷ FrameClosing d p.body p.lines ∷ parts_forms d (Some p.body) ps

abbrev pub border_forms : Entry → (body : ℕ) → List Tunnel → List Form
border_forms e b ts = Opening e.diagram b None ts ∷ Closing e b ts ∷ []

abbrev pub node_forms : Entry → Kind → List Form
node_forms e (Shows name t input) = []
node_forms e (Write object input) = []
node_forms e (Loop count stop iteration ts body) = Iteration body iteration ∷ border_forms e body ts
node_forms e (Case selector ts arms) = Branches e.diagram ts arms ∷ results_forms e.diagram 0 arms ts
node_forms e (Sequence parts) = parts_forms e.diagram None parts
node_forms e (InPlace ts body finish) = border_forms e body ts
node_forms e (Const t literal out) = Plain e ∷ []
node_forms e (Apply p inputs outputs) = Plain e ∷ []
node_forms e (Shared op inputs outputs) = Plain e ∷ []
node_forms e (Obtain queue size item out) = Plain e ∷ []
node_forms e (Read object out) = Plain e ∷ []
node_forms e (Call name inputs outputs) = Plain e ∷ []

abbrev pub entries_forms : List Entry → List Form
entries_forms [] = []
entries_forms (e ∷ es) = node_forms e e.kind ++ entries_forms es

-- the steps of a VI with this panel and these nodes
abbrev pub vi_forms : List PanelItem → List Entry → List Form
vi_forms panel es = Controls panel ∷ entries_forms es

abbrev pub seen_step : Step → Form
seen_step (code.Controls items) = Controls items.now
seen_step (code.Plain e) = Plain (seen e.now)
seen_step (code.Iteration body wire) = Iteration body wire.now
seen_step (code.Branches outer ts arms) = Branches outer ts.now (map seen_arm arms.now)
seen_step (code.Opening outer inner before ts) = Opening outer inner before ts.now
seen_step (code.Closing e inner ts) = Closing (seen e.now) inner ts.now
seen_step (code.FrameClosing outer inner ts) = FrameClosing outer inner ts.now
seen_step (code.Result outer number arms tunnel) = Result outer number (map seen_arm arms.now) tunnel.now
