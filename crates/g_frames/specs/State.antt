-- The state of the firing machine: where a run begins, what a frame has, and what is done.
use Rattle.std.specs.Prelude.{ℕ, suc, ◌==◌, Bool, true, false, ◌&&◌, List, [], ◌∷◌, ◌++◌, map, length, Option, Some, None, if◌then◌else◌}
use Rattle.std.specs.List.{list_all, list_any}
use Rattle.std.specs.Option.{option_map, option_and_then, option_or, option_map_or, option_to_list}
use Rattle.g_values.specs.declared.value.Value.{Value}
use Rattle.g_values.specs.Default.{default}
use Rattle.g_diagram.specs.declared.hierarchy.Clones.{Clones}
use Rattle.g_diagram.specs.declared.hierarchy.Clones.TheVariants.{NonReentrant, Preallocated, Pool}
use Rattle.g_diagram.specs.declared.panel.PanelItem.{PanelItem}
use Rattle.g_diagram.specs.Lines.{Entry, Kind, Loop, Case, Sequence, nodes_of}
use Rattle.g_diagram.specs.Ports.{Port}
use Rattle.g_hier.specs.declared.linked.Space.{Space}
use Rattle.g_border.specs.declared.place.WireSource.{WireSource}
use Rattle.g_border.specs.Readers.{Reader, Given, same_source, source_of}
use Rattle.g_frames.specs.declared.firing.FrameNode.{FrameNode}
use Rattle.g_frames.specs.declared.program.QueueName.{QueueName}
use Rattle.g_frames.specs.declared.program.CellPlace.{CellPlace}
use Rattle.g_frames.specs.declared.program.KeptPlace.{KeptPlace}
use Rattle.g_frames.specs.declared.state.Progress.{Progress}
use Rattle.g_frames.specs.declared.state.Progress.TheVariants as progress
use Rattle.g_frames.specs.declared.state.Stage.{Stage}
use Rattle.g_frames.specs.declared.state.Stage.TheVariants.{Entered, Opened, Returned, Left}
use Rattle.g_frames.specs.declared.state.Frame.{Frame}
use Rattle.g_frames.specs.declared.state.DiagramSources.{DiagramSources}
use Rattle.g_shared.specs.Queues.{new_queue}
use Rattle.g_shared.specs.Cells.{new_cell}
use Rattle.g_shared.specs.Pools.{new_pool}
use Rattle.g_frames.specs.Contents as content
use Rattle.g_frames.specs.Contents.{Content}
use Rattle.g_frames.specs.Program.{FlatVi, Program, vi_at, all_on}
use Rattle.g_frames.specs.Panels.{control_defaults, indicator_defaults, controls_given}

-- A state of a run. Frames are only added; the sources of each diagram that opens frames are kept beside them, and no firing changes these
pub record FireState : Type 0 where
  -- the number of the VI that runs
  pub main : ℕ
  -- how many iterations all loops together may begin
  pub limit : ℕ
  pub frames : List Frame
  -- the shared objects, by number
  pub objects : List Content
  -- the kept registers, by data space and line
  pub kept : List Value
  -- how many iterations were begun
  pub begun : ℕ
  pub sources : List DiagramSources

-- ---- a node's progress

abbrev pub has_left : Stage → Bool
has_left Entered = false
has_left (Opened k) = false
has_left (Returned k) = false
has_left (Left k) = true

-- whether a node has no firing left
abbrev pub is_done : Progress → Bool
is_done progress.Idle = false
is_done progress.Done = true
is_done (progress.Loop kept frames ended) = ended
is_done (progress.Case frame ended) = ended
is_done (progress.Sequence frames ended) = ended
is_done (progress.Call clone stage) = has_left stage

-- a frame is complete when all its nodes are done
abbrev pub is_complete : Frame → Bool
is_complete f = list_all is_done f.nodes

-- ---- the nodes and sources of a diagram

-- the sources of a diagram, in the order of their places
abbrev pub sources_in : (diagram : ℕ) → List Port → List WireSource
sources_in d [] = []
sources_in d (p ∷ ps) = if p.is_source && (p.diagram == d) then record { line = p.line; operand = p.operand } ∷ sources_in d ps else sources_in d ps

-- the nodes of a frame's diagram, in the order of their lines
abbrev pub nodes_in : FlatVi → (diagram : ℕ) → List Entry
nodes_in vi d = nodes_of d vi.entries

-- ---- the values of a frame

abbrev pub value_at : List WireSource → List (Option Value) → WireSource → Option Value
value_at [] vs p = None
value_at (q ∷ qs) [] p = None
value_at (q ∷ qs) (v ∷ vs) p = if same_source q p then v else value_at qs vs p

-- the values on the wires of a frame, by name
abbrev pub reader_in : FlatVi → Frame → Reader
reader_in vi f name = option_and_then (value_at (sources_in f.diagram vi.ports) f.values) (source_of vi.ports f.diagram name)

-- a value comes to its source; one that stands stays
abbrev pub with_value : List WireSource → List (Option Value) → WireSource → Value → List (Option Value)
with_value [] vs p v = vs
with_value (q ∷ qs) [] p v = []
with_value (q ∷ qs) (w ∷ vs) p v = if same_source q p then option_or w (Some v) ∷ vs else w ∷ with_value qs vs p v

-- the values of sources, where more are given
abbrev pub with_given : List WireSource → List (Option Value) → Given → List (Option Value)
with_given qs vs [] = vs
with_given qs vs (g ∷ gs) = with_given qs (with_value qs vs g.0 g.1) gs

-- no value
abbrev pub no_values : List WireSource → List (Option Value)
no_values qs = map (λ q. None) qs

-- what opens as a frame: a diagram of a VI in a data space, with a number among the frames of its opener and values at sources of the diagram
pub record Opening : Type 0 where
  pub vi : ℕ
  pub space : ℕ
  pub diagram : ℕ
  pub iteration : ℕ
  pub gives : Given

-- the frame that opens: nothing was fired in it
abbrev pub opened : (opener : Option FrameNode) → Opening → FlatVi → Frame
opened opener o vi = record {
  vi = o.vi;
  space = o.space;
  diagram = o.diagram;
  opener = opener;
  iteration = o.iteration;
  values = with_given (sources_in o.diagram vi.ports) (no_values (sources_in o.diagram vi.ports)) o.gives;
  nodes = map (λ e. progress.Idle) (nodes_in vi o.diagram);
}

-- ---- the start

abbrev pub first_queues : (number : ℕ) → List QueueName → List Content
first_queues k [] = []
first_queues k (q ∷ qs) = content.Queue (new_queue k q.item q.size) ∷ first_queues (suc k) qs

abbrev pub first_cells : (number : ℕ) → List CellPlace → List Content
first_cells k [] = []
first_cells k (c ∷ cs) = content.Cell (new_cell k c.content) ∷ first_cells (suc k) cs

-- the panel of a VI
abbrev pub panel_items : Program → (vi : ℕ) → List PanelItem
panel_items p v = option_map_or (λ vi. vi.panel) (vi_at p v) []

abbrev pub first_panel : (controls : List Value) → List PanelItem → Content
first_panel controls items = content.Panel (record { controls = controls; indicators = indicator_defaults items })

-- the panel of the VI that runs has its controls set
abbrev pub first_panels : Program → (controls : List Value) → (space : ℕ) → List Space → List Content
first_panels p controls k [] = []
first_panels p controls k (s ∷ ss) =
    (let items = panel_items p s.vi in first_panel (if k == 0 then controls else control_defaults items) items) ∷ first_panels p controls (suc k) ss

-- how many clones a VI has
abbrev pub clone_count : Clones → ℕ
clone_count NonReentrant = 1
clone_count Preallocated = 1
clone_count (Pool n) = n

abbrev pub first_pools : Program → List ℕ → List Content
first_pools p vs = map (λ v. content.Pool (new_pool (option_map_or (λ vi. clone_count vi.clones) (vi_at p v) 0))) vs

abbrev pub first_objects : Program → (controls : List Value) → List Content
first_objects p controls =
    first_queues 0 p.queues ++ (first_cells (length p.queues) p.cells ++ (first_panels p controls 0 p.spaces ++ first_pools p p.pools))

-- a kept register has its type's default
abbrev pub first_kept : List KeptPlace → List Value
first_kept ks = map (λ k. default k.content) ks

-- the diagrams that a node opens frames of; a body in place has none
abbrev pub opened_by : Kind → List ℕ
opened_by (Loop count stop iteration lines body) = body ∷ []
opened_by (Case selector lines arms) = map (λ a. a.body) arms
opened_by (Sequence parts) = map (λ p. p.body) parts
opened_by _ = []

-- the diagrams of a VI of which frames may open, in the order of the nodes that open them
abbrev pub diagrams_with_frames : FlatVi → List ℕ
diagrams_with_frames vi = 0 ∷ all_on (λ e. opened_by e.kind) vi.entries

abbrev pub vi_sources : (vi : ℕ) → FlatVi → List DiagramSources
vi_sources v vi = map (λ d. record { vi = v; diagram = d; sources = sources_in d vi.ports }) (diagrams_with_frames vi)

-- of the VIs that have data spaces, in listing order
abbrev pub all_sources : Program → (vi : ℕ) → List FlatVi → List DiagramSources
all_sources p v [] = []
all_sources p v (vi ∷ vis) = (if list_any (λ s. s.vi == v) p.spaces then vi_sources v vi else []) ++ all_sources p (suc v) vis

abbrev pub first_opening : Program → (controls : List Value) → Opening
first_opening p controls =
    record { vi = p.main; space = 0; diagram = 0; iteration = 0; gives = controls_given 1 (panel_items p p.main) controls }

-- frame 0 is open, the controls are set, and nothing was fired
abbrev pub start : Program → (controls : List Value) → (limit : ℕ) → FireState
start p controls limit = record {
  main = p.main;
  limit = limit;
  frames = option_to_list (option_map (opened None (first_opening p controls)) (vi_at p p.main));
  objects = first_objects p controls;
  kept = first_kept p.kept;
  begun = 0;
  sources = all_sources p 0 p.vis;
}
