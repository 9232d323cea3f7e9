-- Typed states: each value in one is of the type of what holds it, and the references in it name what they are references to.
use Rattle.std.specs.Prelude.{ℕ, suc, ◌+◌, ◌≡◌, ◌⊎◌, Bool, true, false, List, [], ◌∷◌, ◌++◌, map, length, Option, Some, None, is_some, slice_get}
use Rattle.std.specs.Option.{option_and_then}
use Rattle.g_types.specs.declared.ty.Ty.{Ty}
use Rattle.g_types.specs.declared.ty.Ty.TheVariants as ty
use Rattle.g_values.specs.declared.value.Value.{Value}
use Rattle.g_values.specs.Typed.{IsOfType}
use Rattle.g_diagram.specs.declared.node.Tunnel.{Tunnel}
use Rattle.g_diagram.specs.Lines.{Arm, Entry, Kind, Loop, Case, Sequence}
use Rattle.g_typing.specs.Typing.{control_types, indicator_types}
use Rattle.g_reference_laws.specs.References.{Reference, HoldsOnly}
use Rattle.g_hier.specs.declared.linked.Space.{Space}
use Rattle.g_shared.specs.Panels.{PanelState}
use Rattle.g_shared.specs.Queues.{QueueState}
use Rattle.g_shared.specs.Cells.{CellState}
use Rattle.g_border.specs.declared.place.WireSource.{WireSource}
use Rattle.g_border.specs.Readers.{Reader, source_of}
use Rattle.g_border.specs.Loops.{kept_registers}
use Rattle.g_frames.specs.declared.state.Progress.{Progress}
use Rattle.g_frames.specs.declared.state.Progress.TheVariants as progress
use Rattle.g_frames.specs.declared.state.Stage.{Stage}
use Rattle.g_frames.specs.declared.state.Stage.TheVariants.{Entered, Opened, Returned, Left}
use Rattle.g_frames.specs.declared.state.Frame.{Frame}
use Rattle.g_frames.specs.Contents as content
use Rattle.g_frames.specs.Contents.{Content}
use Rattle.g_frames.specs.Program.{FlatVi, Program, vi_at}
use Rattle.g_frames.specs.State.{FireState, panel_items, sources_in, nodes_in, reader_in}
use Rattle.g_typed_states.specs.Places.{Among, node_places, IsNodePlace}
use Rattle.g_typed_states.specs.Accepted.{HasSpace}

-- ---- the shared objects of a program

-- what an object is, with the types of what it holds
pub data Shape : Type 0 where
  QueueOf : (item : Ty) → Shape
  CellOf : (content : Ty) → Shape
  PanelOf : (controls indicators : List Ty) → Shape
  PoolOf : Shape

abbrev pub panel_shape : Program → Space → Shape
panel_shape p s = PanelOf (control_types (panel_items p s.vi)) (indicator_types (panel_items p s.vi))

-- all objects, by number
abbrev pub shapes : Program → List Shape
shapes p = map (λ q. QueueOf q.item) p.queues ++ (map (λ c. CellOf c.content) p.cells ++ (map (panel_shape p) p.spaces ++ map (λ v. PoolOf) p.pools))

-- the type of references to an object
abbrev pub reference_to : Shape → Option Ty
reference_to (QueueOf t) = Some (ty.QueueRef t)
reference_to (CellOf t) = Some (ty.ValueRef t)
reference_to (PanelOf cs is) = None
reference_to PoolOf = None

-- a live reference names an object to which there are references of its type
abbrev pub IsNamed : Program → Reference → Type 0
IsNamed p r = option_and_then reference_to (slice_get (shapes p) r.at.object) ≡ Some r.kind

-- ---- values

-- a proper value of a type, whose live references, at any depth, name objects of their types
pub record IsTypedValue (p : Program) (t : Ty) (v : Value) : Type 0 where
  pub typed : IsOfType t v
  pub named : HoldsOnly (IsNamed p) v

-- values of types, one each
abbrev pub AreTyped : Program → List Ty → List Value → Type 0
AreTyped p [] [] = Unit {0}
AreTyped p [] (v ∷ vs) = ⊥
AreTyped p (t ∷ ts) [] = ⊥
AreTyped p (t ∷ ts) (v ∷ vs) = IsTypedValue p t v × AreTyped p ts vs

-- values of one type
abbrev pub AllTyped : Program → Ty → List Value → Type 0
AllTyped p t [] = Unit {0}
AllTyped p t (v ∷ vs) = IsTypedValue p t v × AllTyped p t vs

abbrev pub IfTyped : Program → Ty → Option Value → Type 0
IfTyped p t None = Unit {0}
IfTyped p t (Some v) = IsTypedValue p t v

abbrev pub IfAllTyped : Program → Ty → Option (List Value) → Type 0
IfAllTyped p t None = Unit {0}
IfAllTyped p t (Some vs) = AllTyped p t vs

-- a value on a wire is of the wire's type, where that is known
abbrev pub IsTypedReader : Program → (types : List ℕ → Option Ty) → Reader → Type 0
IsTypedReader p types r = (name : List ℕ) (v : Value) (t : Ty) → r name ≡ Some v → types name ≡ Some t → IsTypedValue p t v

-- each wire with a type has a value
abbrev pub IsFilled : (types : List ℕ → Option Ty) → Reader → Type 0
IsFilled types r = (name : List ℕ) (t : Ty) → types name ≡ Some t → is_some (r name) ≡ true

-- ---- objects

pub record IsTypedQueue (p : Program) (number : ℕ) (item : Ty) (q : QueueState) : Type 0 where
  pub number_is : q.object ≡ number
  pub item_is : q.item ≡ item
  pub items : IfAllTyped p item q.items

pub record IsTypedCell (p : Program) (number : ℕ) (content : Ty) (c : CellState) : Type 0 where
  pub number_is : c.object ≡ number
  pub content_is : c.content ≡ content
  pub kept : IfTyped p content c.kept

pub record IsTypedPanel (p : Program) (controls indicators : List Ty) (s : PanelState) : Type 0 where
  pub controls_typed : AreTyped p controls s.controls
  pub indicators_typed : AreTyped p indicators s.indicators

abbrev pub IsTypedContent : Program → (number : ℕ) → Shape → Content → Type 0
IsTypedContent p k (QueueOf t) (content.Queue q) = IsTypedQueue p k t q
IsTypedContent p k (CellOf t) (content.Cell c) = IsTypedCell p k t c
IsTypedContent p k (PanelOf cs is) (content.Panel s) = IsTypedPanel p cs is s
IsTypedContent p k PoolOf (content.Pool free) = Unit {0}
IsTypedContent p k _ _ = ⊥

-- each object from number k on is what the program has there
abbrev pub AreTypedObjects : Program → (number : ℕ) → List Shape → List Content → Type 0
AreTypedObjects p k [] [] = Unit {0}
AreTypedObjects p k [] (c ∷ cs) = ⊥
AreTypedObjects p k (sh ∷ shs) [] = ⊥
AreTypedObjects p k (sh ∷ shs) (c ∷ cs) = IsTypedContent p k sh c × AreTypedObjects p (suc k) shs cs

-- ---- what nodes have done

-- a frame of a VI and a diagram stands among the frames
pub record IsInner (frames : List Frame) (vi diagram number : ℕ) : Type 0 where
  pub frame : Frame
  pub is : slice_get frames number ≡ Some frame
  pub vi_is : frame.vi ≡ vi
  pub diagram_is : frame.diagram ≡ diagram

-- and each of its wires has a value
pub record IsEnded (frames : List Frame) (vi : FlatVi) (number : ℕ) : Type 0 where
  pub frame : Frame
  pub is : slice_get frames number ≡ Some frame
  pub filled : IsFilled (vi.types frame.diagram) (reader_in vi frame)

-- the frames that a node opened, of these diagrams in order, all but the latest with a value on each wire
abbrev pub AreInner : List Frame → (number : ℕ) → FlatVi → (diagrams : List ℕ) → List ℕ → Type 0
AreInner frames v vi ds [] = Unit {0}
AreInner frames v vi [] (k ∷ ks) = ⊥
AreInner frames v vi (d ∷ ds) (k ∷ []) = IsInner frames v d k
AreInner frames v vi (d ∷ ds) (k ∷ m ∷ ks) = IsInner frames v d k × (IsEnded frames vi k × AreInner frames v vi ds (m ∷ ks))

pub record IsTypedLoop (p : Program) (frames : List Frame) (v : ℕ) (vi : FlatVi) (e : Entry) (lines : List Tunnel) (body : ℕ) (vs : List Value) (ks : List ℕ) : Type 0 where
  pub kept : AreTyped p (map (λ r. r.1) (kept_registers (e.line + 1) lines)) vs
  pub inner : AreInner frames v vi (map (λ k. body) ks) ks

-- the frame that a case opened is of one of its branches
pub record IsTypedBranch (frames : List Frame) (v : ℕ) (arms : List Arm) (k : ℕ) : Type 0 where
  pub arm : Arm
  pub stands : Among arm arms
  pub inner : IsInner frames v arm.body k

-- of frames in a VI of a number
abbrev pub IsTypedProgress : Program → List Frame → (number : ℕ) → FlatVi → Entry → Kind → Progress → Type 0
IsTypedProgress p fs v vi e (Loop count stop i lines body) (progress.Loop vs ks ended) = IsTypedLoop p fs v vi e lines body vs ks
IsTypedProgress p fs v vi e (Case selector lines arms) (progress.Case k ended) = IsTypedBranch fs v arms k
IsTypedProgress p fs v vi e (Sequence parts) (progress.Sequence ks ended) = AreInner fs v vi (map (λ part. part.body) parts) ks
IsTypedProgress p fs v vi e _ _ = Unit {0}

-- whether a node has given its outputs
abbrev pub stage_given : Stage → Bool
stage_given Entered = false
stage_given (Opened k) = false
stage_given (Returned k) = true
stage_given (Left k) = true

abbrev pub has_given : Progress → Bool
has_given progress.Idle = false
has_given progress.Done = true
has_given (progress.Loop kept frames ended) = ended
has_given (progress.Case frame ended) = ended
has_given (progress.Sequence frames ended) = ended
has_given (progress.Call clone stage) = stage_given stage

-- a node in a frame: once it has given its outputs, each name that has its source there has a value
pub record IsTypedNode (p : Program) (frames : List Frame) (vi : FlatVi) (f : Frame) (e : Entry) (q : Progress) : Type 0 where
  pub progress_typed : IsTypedProgress p frames f.vi vi e e.kind q
  pub given : has_given q ≡ true → (name : List ℕ) (w : WireSource) → Among w (node_places e) → source_of vi.ports f.diagram name ≡ Some w
      → is_some (reader_in vi f name) ≡ true

abbrev pub AreTypedNodes : Program → List Frame → FlatVi → Frame → List Entry → List Progress → Type 0
AreTypedNodes p fs vi f [] [] = Unit {0}
AreTypedNodes p fs vi f [] (q ∷ qs) = ⊥
AreTypedNodes p fs vi f (e ∷ es) [] = ⊥
AreTypedNodes p fs vi f (e ∷ es) (q ∷ qs) = IsTypedNode p fs vi f e q × AreTypedNodes p fs vi f es qs

-- ---- frames and states

pub record IsTypedFrame (p : Program) (frames : List Frame) (f : Frame) : Type 0 where
  pub vi : FlatVi
  pub is : vi_at p f.vi ≡ Some vi
  pub space : HasSpace p f.vi f.space
  -- a value for each source
  pub long : length f.values ≡ length (sources_in f.diagram vi.ports)
  pub typed : IsTypedReader p (vi.types f.diagram) (reader_in vi f)
  -- each name has a value, or has its source at a node
  pub supplied : (name : List ℕ) (w : WireSource) → source_of vi.ports f.diagram name ≡ Some w
      → (is_some (reader_in vi f name) ≡ true) ⊎ IsNodePlace vi f.diagram w
  pub nodes : AreTypedNodes p frames vi f (nodes_in vi f.diagram) f.nodes

pub record IsTypedState (p : Program) (s : FireState) : Type 0 where
  pub frames : (k : ℕ) (f : Frame) → slice_get s.frames k ≡ Some f → IsTypedFrame p s.frames f
  pub objects : AreTypedObjects p 0 (shapes p) s.objects
  pub kept : AreTyped p (map (λ k. k.content) p.kept) s.kept
