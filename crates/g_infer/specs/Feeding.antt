-- Inner: the graph of the steps of a VI.
use Rattle.std.specs.Prelude.{ℕ, ◌≡◌, ◌==◌, Bool, true, false, ◌&&◌, List, [], Option, Some, None, slice_get, Vec}
use Rattle.std.specs.List.{list_any}
use Rattle.std.specs.Str.{bytes_eq}
use Rattle.std.specs.Ordering.{ordering_then, nat_cmp}
use Rattle.std.specs.Cmp.Lexicographic.{slice_cmp}
use Rattle.std.specs.BTreeMap.{BTreeMap, get_by}
use Rattle.std.specs.declared.alloc.Global.{Global}
use denote.Ref.{Bor}
use Rattle.g_diagram.specs.Lines.{Arm}
use Rattle.g_graph.specs.Graph.{Graph, has, row_of, has_edge}
use Rattle.g_typing.proofs.Ready.{Feeds}
use Rattle.g_typing.proofs.Roles.{nothing}
use Rattle.g_typing.specs.Typing.{Given, Callees, Objects}
use Rattle.g_infer.specs.declared.feeds.Reader.{Reader}
use Rattle.g_infer.specs.declared.feeds.Readers.{Readers}
use Rattle.g_infer.specs.Gives.{form_gives, step_of}
use Rattle.g_infer.specs.Reads.{all_named, form_reads}
use Rattle.g_infer.specs.Steps.{Form}

-- an edge leads from a step exactly to those that read a name that it gives, whatever calls and local variables mean
pub record IsFeeding (forms : List Form) (g : Graph) : Type 0 where
  pub leads : (called : Callees) (objects : Objects) (a b : ℕ) (s t : Form) → slice_get forms a ≡ Some s → slice_get forms b ≡ Some t
      → Feeds (step_of called objects s) (step_of called objects t) → has_edge g a b ≡ true
  pub only : (called : Callees) (objects : Objects) (a b : ℕ) (s t : Form) → slice_get forms a ≡ Some s → slice_get forms b ≡ Some t
      → has_edge g a b ≡ true → Feeds (step_of called objects s) (step_of called objects t)

-- the steps that read each name of a diagram, by their numbers
abbrev pub ByName : Type 0
ByName = BTreeMap (ℕ × Bor (List ℕ)) (Vec ℕ Global)

abbrev pub is_reader : ByName → (diagram : ℕ) → (name : List ℕ) → (step : ℕ) → Bool
is_reader m d name b = has (row_of (get_by (λ k. ordering_then (nat_cmp d k.0) (slice_cmp nat_cmp name k.1.now)) m)) b

-- the steps that read names of each diagram
abbrev pub ByDiagram : Type 0
ByDiagram = BTreeMap ℕ (Vec Reader Global)

abbrev pub readers_of : Option (Vec Reader Global) → List Reader
readers_of None = []
readers_of (Some readers) = readers.items

abbrev pub readers_in : ByDiagram → (diagram : ℕ) → List Reader
readers_in m d = readers_of (get_by (nat_cmp d) m)

-- whether step b reads a name of a kind
abbrev pub reads_some : (List ℕ → Bool) → List Reader → (step : ℕ) → Bool
reads_some p readers b = list_any (λ r. p r.name.now && (r.step == b)) readers

abbrev pub is_reader_in : ByDiagram → (diagram : ℕ) → (name : List ℕ) → (step : ℕ) → Bool
is_reader_in m d name b = reads_some (λ n. bytes_eq n name) (readers_in m d) b

-- the test of a name of a diagram
abbrev pub is_at : (diagram : ℕ) → (name : List ℕ) → ℕ × List ℕ → Bool
is_at d name q = (q.0 == d) && bytes_eq q.1 name

abbrev pub does_read : Option Form → (diagram : ℕ) → (name : List ℕ) → Bool
does_read None d name = false
does_read (Some f) d name = list_any (is_at d name) (all_named (form_reads f))

pub record IsReadersOf (forms : List Form) (m : Readers) : Type 0 where
  pub by_name : (d : ℕ) (name : List ℕ) (b : ℕ) → is_reader m.by_name d name b ≡ does_read (slice_get forms b) d name
  pub by_diagram : (d : ℕ) (name : List ℕ) (b : ℕ) → is_reader_in m.by_diagram d name b ≡ does_read (slice_get forms b) d name

-- both tell of the same steps
abbrev pub AreSame : Readers → Type 0
AreSame m = (d : ℕ) (name : List ℕ) (b : ℕ) → is_reader_in m.by_diagram d name b ≡ is_reader m.by_name d name b

-- whether something given is read by step b
abbrev pub leads_to : ByName → List Given → (step : ℕ) → Bool
leads_to m gs b = list_any (λ g. is_reader m g.diagram g.name b) gs

-- whether step b reads a name of a kind in a branch
abbrev pub branch_leads : (List ℕ → Bool) → ByDiagram → List Arm → (step : ℕ) → Bool
branch_leads p m arms b = list_any (λ arm. reads_some p (readers_in m arm.body) b) arms

-- whether something of this name is given
abbrev pub gives_name : List Given → (name : List ℕ) → Bool
gives_name gs name = list_any (λ g. bytes_eq g.name name) gs

-- the readers of what a step gives, whatever calls and local variables mean
abbrev pub IsRowOf : Readers → Form → List ℕ → Type 0
IsRowOf m f row = (called : Callees) (objects : Objects) (b : ℕ) → has row b ≡ leads_to m.by_name (form_gives called objects nothing f) b
