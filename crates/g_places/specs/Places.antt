-- Inner: structures in place by the line of their first border line.
use Rattle.std.specs.Prelude.{◌≡◌, ℕ, List, [], ◌∷◌, Some, slice_get}
use Rattle.std.specs.List.{All}
use Rattle.g_values.specs.declared.value.Live.{Live}
use Rattle.g_values.specs.declared.value.Value.{Value}
use Rattle.g_values.specs.declared.value.Value.TheOpen.{Value-F}
use Rattle.g_values.specs.Proper.{IsProper}
use Rattle.g_diagram.specs.declared.node.Tunnel.{Tunnel}
use Rattle.g_shared.specs.Cells.{CellState}
use Rattle.g_border.specs.Readers.{Reader}
use Rattle.g_border.specs.Lines.{entering, leaving, lines_inside, other_values, Leaving}
use Rattle.g_border.specs.Bodies.{body_reader}
use Rattle.g_frames.specs.Contents as content
use Rattle.g_frames.specs.Effects.{Here}
use Rattle.g_refs.specs.Cell.{value_for}
use Rattle.g_needs.specs.Bodies.{BodyNeeds, IsReferredAt}
use Rattle.g_here.specs.declared.here.Here as code
use Rattle.g_here.specs.Here.{IsHere}
use Rattle.g_places.specs.declared.body.Place.{Place}

-- the wires of the body where the structure's reference refers to a value
abbrev pub reader_of : Here → (first : ℕ) → List Tunnel → (body finish : ℕ) → (referred : Value) → Reader
reader_of h first lines body finish v =
    body_reader h.vi.ports h.vi.types h.vi.entries body finish (lines_inside (record (entering h.outer) { referred = v }) first lines)

-- the one frame that a body is
abbrev pub leaving_of : Here → (body : ℕ) → Reader → Leaving
leaving_of h body r = leaving h.outer (r ∷ []) (h.vi.types body)

-- ---- what a body needs

abbrev pub BodyFits : Here → Place → (referred : Value) → Type 0
BodyFits h p v = BodyNeeds h.vi p.body p.finish (lines_inside (record (entering h.outer) { referred = v }) p.first p.lines.now)

abbrev pub GivesProper : Here → Place → Reader → Type 0
GivesProper h p r = All IsProper (other_values (leaving_of h p.body r) p.first p.lines.now)

abbrev pub OutputsFit : Here → Place → (referred : Value) → Type 0
OutputsFit h p v = GivesProper h p (reader_of h p.first p.lines.now p.body p.finish v)

-- by what the structure's reference is
abbrev pub OutputsFitBy : Here → Place → Value-F Value → Type 0
OutputsFitBy h p (Value-F.Cell r) =
    (l : Live) (c : CellState) → r.at ≡ Some l → slice_get h.objects l.object ≡ Some (content.Cell c) → OutputsFit h p (value_for c l.serial)
OutputsFitBy h p _ = Unit {0}

pub record PlaceFits (h : Here) (p : Place) (x : Value-F Value) : Type 0 where
  pub body : (v : Value) → IsReferredAt h.objects x v → BodyFits h p v
  pub outputs : OutputsFitBy h p x

abbrev pub IsReady : code.Here → Place → (referred : Value) → Type 0
IsReady c p v = (h : Here) × (IsHere c h × BodyFits h p v)

pub record LiveFits (h : Here) (p : Place) (l : Live) : Type 0 where
  pub body : (c : CellState) → slice_get h.objects l.object ≡ Some (content.Cell c) → BodyFits h p (value_for c l.serial)
  pub outputs : (c : CellState) → slice_get h.objects l.object ≡ Some (content.Cell c) → OutputsFit h p (value_for c l.serial)
