-- A hierarchy as the firing machine sees it: its VIs with their nodes, ports and types, the data spaces that its main VI reaches, and the
-- queues, references, kept registers and pools that these have.
use Rattle.std.specs.Prelude.{◌≡◌, ℕ, suc, ◌+◌, ◌==◌, Bool, true, false, ◌&&◌, not, List, [], ◌∷◌, ◌++◌, map, length, Option, Some, slice_get, if◌then◌else◌}
use Rattle.std.specs.List.{list_any}
use Rattle.std.specs.Option.{option_map, option_map_or, option_to_list}
use Rattle.std.specs.Str.{bytes_eq}
use Rattle.g_types.specs.declared.ty.Ty.{Ty}
use Rattle.g_diagram.specs.declared.hierarchy.Clones.{Clones}
use Rattle.g_diagram.specs.declared.hierarchy.Clones.TheVariants.{NonReentrant, Preallocated, Pool}
use Rattle.g_diagram.specs.declared.hierarchy.Hierarchy.{Hierarchy}
use Rattle.g_diagram.specs.declared.hierarchy.Vi.{Vi}
use Rattle.g_diagram.specs.declared.panel.PanelItem.{PanelItem}
use Rattle.g_operations.specs.declared.shared.SharedOp.TheVariants.{NewRef}
use Rattle.g_diagram.specs.Lines.{Entry, Kind, Shared, Obtain, Loop, entries_of}
use Rattle.g_diagram.specs.Ports.{Port, ports_of}
use Rattle.g_hier.specs.declared.linked.Linked.{Linked}
use Rattle.g_hier.specs.declared.linked.Space.{Space}
use Rattle.g_hier.specs.LinkOrder.{IsLinked, enterable, same_space, has_vi}
use Rattle.g_hier.specs.Outlines.{outlines_of}
use Rattle.g_typing.specs.Types.{Types, wire_type, wire_at}
use Rattle.g_typing.specs.Typing.{IsTyping}
use Rattle.g_border.specs.Loops.{kept_registers}
use Rattle.g_frames.specs.declared.program.QueueName.{QueueName}
use Rattle.g_frames.specs.declared.program.CellPlace.{CellPlace}
use Rattle.g_frames.specs.declared.program.KeptPlace.{KeptPlace}

pub record FlatVi : Type 0 where
  pub name : List ℕ
  pub clones : Clones
  pub panel : List PanelItem
  pub entries : List Entry
  pub ports : List Port
  pub types : Types

pub record Program : Type 0 where
  pub vis : List FlatVi
  -- the number of the VI that runs
  pub main : ℕ
  -- the data spaces, in link order
  pub spaces : List Space
  pub queues : List QueueName
  pub cells : List CellPlace
  pub kept : List KeptPlace
  -- the VIs whose calls take a clone, in listing order
  pub pools : List ℕ

-- ---- look-ups

abbrev pub vi_at : Program → (vi : ℕ) → Option FlatVi
vi_at p vi = slice_get p.vis vi

-- the number of the first VI of a name, or how many there are
abbrev pub numbered : List FlatVi → (name : List ℕ) → ℕ
numbered [] name = 0
numbered (vi ∷ vis) name = if bytes_eq vi.name name then 0 else suc (numbered vis name)

abbrev pub place_where : {A : Type 0} → (A → Bool) → List A → ℕ
place_where test [] = 0
place_where test (x ∷ xs) = if test x then 0 else suc (place_where test xs)

-- the number of a data space
abbrev pub space_number : Program → Space → ℕ
space_number p s = place_where (same_space s) p.spaces

-- the number of the data space of a clone that a call line of a data space enters, if there is that clone
abbrev pub called_space : Program → Clones → (vi space line clone : ℕ) → Option ℕ
called_space p clones vi space line clone = option_map (space_number p) (slice_get (enterable clones vi (record { space = space; line = line })) clone)

-- The numbers of the shared objects: the queues, the values of references, the panels by data space, the pools

abbrev pub queue_object : Program → (name : List ℕ) → ℕ
queue_object p name = place_where (λ q. bytes_eq q.name name) p.queues

abbrev pub cell_object : Program → (space line : ℕ) → ℕ
cell_object p space line = length p.queues + place_where (λ c. (c.space == space) && (c.line == line)) p.cells

abbrev pub panel_object : Program → (space : ℕ) → ℕ
panel_object p space = length p.queues + length p.cells + space

abbrev pub pool_object : Program → (vi : ℕ) → ℕ
pool_object p vi = length p.queues + length p.cells + length p.spaces + place_where (λ v. v == vi) p.pools

abbrev pub kept_number : Program → (space line : ℕ) → ℕ
kept_number p space line = place_where (λ k. (k.space == space) && (k.line == line)) p.kept

-- ---- the program of a hierarchy

abbrev pub flat_vi : List Vi → Types → Vi → FlatVi
flat_vi vis types vi =
    record { name = vi.name; clones = vi.clones; panel = vi.panel; entries = entries_of vi; ports = ports_of vis vi; types = types }

abbrev pub flat_vis : (all : List Vi) → (types : ℕ → Types) → (vi : ℕ) → List Vi → List FlatVi
flat_vis all types v [] = []
flat_vis all types v (vi ∷ vis) = flat_vi all (types v) vi ∷ flat_vis all types (suc v) vis

-- what each node has
abbrev pub all_on : {A : Type 0} → (Entry → List A) → List Entry → List A
all_on on [] = []
all_on on (e ∷ es) = on e ++ all_on on es

-- the queue that an `obtain` line names
abbrev pub queue_on : Kind → List QueueName
queue_on (Obtain queue size item out) = record { name = queue; size = size; item = item } ∷ []
queue_on _ = []

-- in listing order, of the VIs that the main one reaches
abbrev pub queues_in : (order : List ℕ) → (vi : ℕ) → List FlatVi → List QueueName
queues_in order v [] = []
queues_in order v (vi ∷ vis) = (if has_vi order v then all_on (λ e. queue_on e.kind) vi.entries else []) ++ queues_in order (suc v) vis

abbrev pub has_queue : List QueueName → (name : List ℕ) → Bool
has_queue qs name = list_any (λ q. bytes_eq q.name name) qs

-- the first of each name
abbrev pub first_of_each : List QueueName → (met : List QueueName) → List QueueName
first_of_each [] met = []
first_of_each (q ∷ qs) met = if has_queue met q.name then first_of_each qs met else q ∷ first_of_each qs (q ∷ met)

abbrev pub cell_of : (space line : ℕ) → Ty → CellPlace
cell_of space l t = record { space = space; line = l; content = t }

-- the reference that a `newref` line makes, by the type of its input
abbrev pub cell_on : Types → (space : ℕ) → Entry → Kind → List CellPlace
cell_on types space e (Shared NewRef inputs outputs) = option_to_list (option_map (cell_of space e.line) (wire_type types e.diagram (wire_at inputs 0)))
cell_on types space e _ = []

-- the kept registers of a loop
abbrev pub kept_on : (space : ℕ) → Entry → Kind → List KeptPlace
kept_on space e (Loop count stop iteration lines body) = map (λ k. record { space = space; line = k.0; content = k.1 }) (kept_registers (e.line + 1) lines)
kept_on space e _ = []

-- what each node of each data space has, by data space and line
abbrev pub in_spaces : {A : Type 0} → ((space : ℕ) → FlatVi → Entry → List A) → List FlatVi → (space : ℕ) → List Space → List A
in_spaces on vis k [] = []
in_spaces on vis k (s ∷ ss) = option_map_or (λ vi. all_on (on k vi) vi.entries) (slice_get vis s.vi) [] ++ in_spaces on vis (suc k) ss

-- calls of a preallocated VI take no clone, and nothing calls the VI that runs
abbrev pub takes_clone : Clones → Bool
takes_clone NonReentrant = true
takes_clone Preallocated = false
takes_clone (Pool n) = true

abbrev pub pools_in : (order : List ℕ) → (main vi : ℕ) → List FlatVi → List ℕ
pools_in order main v [] = []
pools_in order main v (vi ∷ vis) =
    (if has_vi order v && (not (v == main) && takes_clone vi.clones) then v ∷ [] else []) ++ pools_in order main (suc v) vis

-- the program of a hierarchy that is linked and has these types
abbrev pub program : Hierarchy → (types : ℕ → Types) → Linked → Program
program h types linked =
    let vis = flat_vis h.vis types 0 h.vis in
    record {
      vis = vis;
      main = linked.main;
      spaces = linked.spaces;
      queues = first_of_each (queues_in linked.order 0 vis) [];
      cells = in_spaces (λ space vi e. cell_on vi.types space e e.kind) vis 0 linked.spaces;
      kept = in_spaces (λ space vi e. kept_on space e e.kind) vis 0 linked.spaces;
      pools = pools_in linked.order linked.main 0 vis;
    }

-- the program of a hierarchy whose wires have types and whose calls are linked from a VI on
pub record IsProgram (h : Hierarchy) (main : ℕ) (p : Program) : Type 0 where
  pub types : (vi : ℕ) → Types
  pub typing : (v : ℕ) (vi : Vi) → slice_get h.vis v ≡ Some vi → IsTyping h.vis vi (types v)
  pub linked : Linked
  pub links : IsLinked (outlines_of h) main linked
  pub program_is : p ≡ program h types linked
