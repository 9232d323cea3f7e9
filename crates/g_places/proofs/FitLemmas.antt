-- What a structure in place needs, by what its reference is.
use Rattle.std.proofs.Common.{◌≡◌, ℕ, ◌+◌, refl, sym, subst, slice_get}
use Rattle.std.specs.Prelude.{Option, Some, None}
use Rattle.std.specs.List.{All}
use Rattle.std.specs.Option.{option_and_then}
use Rattle.g_values.specs.declared.value.Live.{Live}
use Rattle.g_values.specs.declared.value.RefValue.{RefValue}
use Rattle.g_values.specs.declared.value.Value.{Value, out-Value}
use Rattle.g_values.specs.declared.value.Value.TheOpen.{Value-F}
use Rattle.g_values.specs.Default.{default}
use Rattle.g_values.specs.Proper.{IsProper}
use Rattle.g_prims_definitions.specs.Arithmetic.{nothing}
use Rattle.g_diagram.specs.Lines.{Entry}
use Rattle.g_shared.specs.Cells.{CellState}
use Rattle.g_border.specs.Readers.{value_on}
use Rattle.g_border.specs.Lines.{entering, lines_inside, other_values, Reference, reference_in}
use Rattle.g_frames.specs.Contents as content
use Rattle.g_frames.specs.Contents.{Content}
use Rattle.g_frames.specs.Effects.{Here}
use Rattle.g_refs.specs.Cell.{value_for}
use Rattle.g_objects.specs.Operations.{given_to}
use Rattle.g_effects.specs.Needs.{FitsPlace, FitsPlaceBy}
use Rattle.g_needs.specs.Bodies.{BodyNeeds, IsReferred, IsReferredBy, PlaceNeeds}
use Rattle.g_here.specs.declared.here.Here as code
use Rattle.g_here.specs.Here.{IsHere}
use Rattle.g_places.specs.declared.body.Place.{Place}
use Rattle.g_places.specs.Places.{reader_of, leaving_of, BodyFits, OutputsFit, OutputsFitBy, PlaceFits, LiveFits}

-- ---- what a live reference refers to

named_in : (o : Option Content) (n : ℕ) (v : Value) → Some v ≡ option_and_then (λ c. given_to c n) o →
    (c : CellState) × ((o ≡ Some (content.Cell c)) × (value_for c n ≡ v))
named_in None n v is = absurd (cc is)
named_in (Some (content.Panel c)) n v is = absurd (cc is)
named_in (Some (content.Queue c)) n v is = absurd (cc is)
named_in (Some (content.Pool c)) n v is = absurd (cc is)
named_in (Some (content.Cell c)) n v is = (c, (refl, cc is))

pub live_ready : (c : code.Here) (p : Place) (l : Live) (v : Value) → (h : Here) × (IsHere c h × LiveFits h p l) →
    ((h : Here) → IsHere c h → Some v ≡ option_and_then (λ c. given_to c l.serial) (slice_get h.objects l.object)) →
    (h : Here) × (IsHere c h × (BodyFits h p v × OutputsFit h p v))
live_ready c p l v fits is =
    let h = fits.0 in
    let named = named_in (slice_get h.objects l.object) l.serial v (is h fits.1.0) in (
      h,
      (
        fits.1.0,
        (
          subst (λ (x : Value). BodyFits h p x) named.1.1 (fits.1.1.body named.0 named.1.0),
          subst (λ (x : Value). OutputsFit h p x) named.1.1 (fits.1.1.outputs named.0 named.1.0),
        ),
      ),
    )

-- ---- by what a reference is

pub live_fits : (h : Here) (p : Place) (r : RefValue) (l : Live) → r.at ≡ Some l → PlaceFits h p (Value-F.Cell r) → LiveFits h p l
live_fits h p r l at fits = record {
  body = λ c named.
      fits.body (value_for c l.serial) (subst (λ (o : Option Live). IsReferredBy h.objects r.elem o (value_for c l.serial)) (sym at) (content.Cell c, (named, refl)));
  outputs = λ c named. fits.outputs l c at named;
}

pub null_fits : (h : Here) (p : Place) (r : RefValue) → r.at ≡ None → PlaceFits h p (Value-F.Cell r) → BodyFits h p (default r.elem)
null_fits h p r at fits =
    fits.body (default r.elem) (subst (λ (o : Option Live). IsReferredBy h.objects r.elem o (default r.elem)) (sym at) refl)

-- ---- from what a firing needs

outputs_by : (h : Here) (e : Entry) (p : Place) (r : Reference) → p.first ≡ e.line + 1 → (x : Value-F Value) →
    FitsPlaceBy h e p.lines.now p.body p.finish r x → OutputsFitBy h p x
outputs_by h e p r at (Value-F.Cell c) fits =
    λ l s live named.
    subst (λ (first : ℕ). All IsProper (other_values (leaving_of h p.body (reader_of h first p.lines.now p.body p.finish (value_for s l.serial))) first p.lines.now))
    (sym at) ((fits l live).outputs s named)
outputs_by h e p r at (Value-F.Num c) fits = tt
outputs_by h e p r at (Value-F.Bool c) fits = tt
outputs_by h e p r at (Value-F.Str c) fits = tt
outputs_by h e p r at (Value-F.Nums c) fits = tt
outputs_by h e p r at (Value-F.Arr c) fits = tt
outputs_by h e p r at (Value-F.Cluster c) fits = tt
outputs_by h e p r at (Value-F.Queue c) fits = tt

body_at : (h : Here) (e : Entry) (p : Place) (o : Option Reference) (v : Value) → p.first ≡ e.line + 1 → o ≡ reference_in (e.line + 1) p.lines.now →
    PlaceNeeds h e p.lines.now p.body p.finish → IsReferred h o v → BodyFits h p v
body_at h e p o v at is needs referred =
    subst (λ (l : ℕ). BodyNeeds h.vi p.body p.finish (lines_inside (record (entering h.outer) { referred = v }) l p.lines.now)) (sym at)
    (needs v (subst (λ (o : Option Reference). IsReferred h o v) is referred))

pub plain_fits : (h : Here) (e : Entry) (p : Place) → p.first ≡ e.line + 1 → None ≡ reference_in (e.line + 1) p.lines.now →
    PlaceNeeds h e p.lines.now p.body p.finish → BodyFits h p nothing
plain_fits h e p at is needs = body_at h e p None nothing at is needs refl

pub reference_fits : (h : Here) (e : Entry) (p : Place) (r : Reference) → p.first ≡ e.line + 1 → Some r ≡ reference_in (e.line + 1) p.lines.now →
    FitsPlace h e p.lines.now p.body p.finish (reference_in (e.line + 1) p.lines.now) → PlaceNeeds h e p.lines.now p.body p.finish →
    PlaceFits h p (out-Value (value_on h.outer r.from))
reference_fits h e p r at is fits needs = record {
  body = λ v referred. body_at h e p (Some r) v at is needs referred;
  outputs =
      outputs_by h e p r at (out-Value (value_on h.outer r.from)) (subst (λ (o : Option Reference). FitsPlace h e p.lines.now p.body p.finish o) (sym is) fits);
}
