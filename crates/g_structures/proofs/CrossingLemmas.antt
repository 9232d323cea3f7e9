-- What crosses the borders of structures, as the definitions have it.
use Rattle.std.proofs.Common.{◌≡◌, ◌+◌, ℕ, List, [], ◌∷◌, ◌++◌, map, refl, ap, ◌∙◌, sym}
use Rattle.std.specs.Prelude.{Option, None}
use Rattle.std.specs.Option.{option_map, option_map_or}
use Rattle.g_types.specs.declared.ty.Ty.{Ty}
use Rattle.g_values.specs.declared.value.Value.{Value}
use Rattle.g_prims_definitions.specs.Arithmetic.{nothing}
use Rattle.g_diagram.specs.declared.node.Tunnel.{Tunnel}
use Rattle.g_border.specs.Lines as border
use Rattle.g_border.specs.Loops.{kept_lines, kept_registers}
use Rattle.g_border.specs.Readers.{Reader}
use Rattle.g_frames.specs.Effects as effects
use Rattle.g_frames.specs.Operations.{input_at}
use Rattle.g_frames.specs.Program.{FlatVi, kept_number}
use Rattle.g_frames.specs.Structures.{kept_at, kept_after}
use Rattle.g_wire_values.specs.Wires.{reader}
use Rattle.g_crossing.specs.Crossing.{IsEntering, IsLeaving, kept_on, kept_given}
use Rattle.g_crossing.specs.declared.inside.Entering.{Entering}
use Rattle.g_crossing.specs.declared.outside.Leaving.{Leaving}

no_kept : (rs : List (ℕ × Ty)) (l : ℕ) → nothing ≡ kept_at rs [] l
no_kept [] l = refl
no_kept (r ∷ rs) l = refl

-- a frame of a structure with no kept registers and no reference
pub enters : (first : ℕ) (lines : List Tunnel) (c : Entering) (outer : Reader) (before : Option Reader) (n : ℕ) →
    outer ≡ reader c.outer → before ≡ option_map reader c.before → n ≡ c.iteration → c.kept.now ≡ [] → c.referred ≡ None →
    IsEntering first lines c (record (border.entering outer) { before = before; iteration = n })
enters first lines c outer before n o b i k r = record {
  outer_is = o;
  before_is = b;
  iteration_is = i;
  kept_is = λ l. no_kept (kept_registers first lines) l ∙ ap (λ vs. kept_at (kept_registers first lines) vs l) (sym k);
  referred_is = ap (λ r. option_map_or (λ v. v.now) r nothing) (sym r);
}

-- what a loop's end writes to its kept registers
abbrev numbered : effects.Here → ℕ × Value → ℕ × Value
numbered h r = (kept_number h.program h.frame.space r.0, r.1)

map_append : {A B : Type 0} (f : A → B) (xs ys : List A) → map f (xs ++ ys) ≡ map f xs ++ map f ys
map_append f [] ys = refl
map_append f (x ∷ xs) ys = ap (λ zs. f x ∷ zs) (map_append f xs ys)

keeps_on : (h : effects.Here) (e : border.Leaving) (l : ℕ) (t : Tunnel) (rs : List (ℕ × Ty)) →
    map (numbered h) (map (λ r. (r.0, input_at (border.values_outside e l t) 0)) rs) ≡ map (λ r. (kept_number h.program h.frame.space r.0, input_at (border.values_outside e l t) 0)) rs
keeps_on h e l t [] = refl
keeps_on h e l t (r ∷ rs) = ap (λ ks. (kept_number h.program h.frame.space r.0, input_at (border.values_outside e l t) 0) ∷ ks) (keeps_on h e l t rs)

pub keeps_are : (h : effects.Here) (e : border.Leaving) (l : ℕ) (lines : List Tunnel) →
    map (λ r. (kept_number h.program h.frame.space r.0, r.1)) (kept_given e l lines) ≡ kept_after h e l lines
keeps_are h e l [] = refl
keeps_are h e l (t ∷ ts) =
    map_append (numbered h) (kept_on e l t) (kept_given e (l + 1) ts)
    ∙ (ap (λ ks. ks ++ map (numbered h) (kept_given e (l + 1) ts)) (keeps_on h e l t (kept_lines l t))
    ∙ ap (λ ks. map (λ r. (kept_number h.program h.frame.space r.0, input_at (border.values_outside e l t) 0)) (kept_lines l t) ++ ks) (keeps_are h e (l + 1) ts))

-- the frames of a loop, which are complete
pub leaves : (first : ℕ) (lines : List Tunnel) (c : Leaving) (vi : FlatVi) (outer : Reader) (inner : List Reader) (vs : List Value) →
    outer ≡ reader c.outer → inner ≡ map reader c.inner.now → vs ≡ c.kept.now →
    IsLeaving first lines c vi (record (border.leaving outer inner (vi.types c.body)) { kept = kept_at (kept_registers first lines) vs })
leaves first lines c vi outer inner vs o i k = record {
  outer_is = o;
  inner_is = i;
  kept_is = λ l. ap (λ vs. kept_at (kept_registers first lines) vs l) k;
  types_are = λ name. refl;
}
