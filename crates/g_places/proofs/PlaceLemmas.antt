-- What a body's frame is to what crosses the border.
use Rattle.std.proofs.Common.{◌≡◌, ℕ, List, [], ◌∷◌, map, refl, sym, ap, ◌∙◌}
use Rattle.std.specs.Prelude.{None}
use Rattle.std.specs.Option.{option_map, option_map_or}
use Rattle.g_values.specs.declared.value.Value.{Value}
use Rattle.g_prims_definitions.specs.Arithmetic.{nothing}
use Rattle.g_diagram.specs.declared.node.Tunnel.{Tunnel}
use Rattle.g_border.specs.Readers.{Reader}
use Rattle.g_border.specs.Loops.{kept_registers}
use Rattle.g_border.specs.Lines.{entering}
use Rattle.g_frames.specs.Effects.{Here}
use Rattle.g_frames.specs.Structures.{kept_at}
use Rattle.g_wire_values.specs.declared.wires.Wires.{Wires}
use Rattle.g_wire_values.specs.Wires.{reader}
use Rattle.g_crossing.specs.declared.inside.Entering as code
use Rattle.g_crossing.specs.declared.outside.Leaving as outside
use Rattle.g_crossing.specs.Crossing.{IsEntering, IsLeaving}
use Rattle.g_crossing.proofs.KeptLemmas.{none_kept}
use Rattle.g_places.specs.Places.{leaving_of}

pub leaves : (h : Here) (first : ℕ) (lines : List Tunnel) (c : outside.Leaving) (w : Wires) (r : Reader) →
    reader c.outer ≡ h.outer → c.inner.now ≡ w ∷ [] → reader w ≡ r → c.kept.now ≡ [] → IsLeaving first lines c h.vi (leaving_of h c.body r)
leaves h first lines c w r outer inner is kept = record {
  outer_is = sym outer;
  inner_is = ap (λ x. x ∷ []) (sym is) ∙ ap (map reader) (sym inner);
  kept_is = λ l. none_kept (kept_registers first lines) l ∙ ap (λ vs. kept_at (kept_registers first lines) vs l) (sym kept);
  types_are = λ name. refl;
}

pub enters : (r : Reader) (first : ℕ) (lines : List Tunnel) (c : code.Entering) (v : Value) →
    reader c.outer ≡ r → c.before ≡ None → c.iteration ≡ 0 → c.kept.now ≡ [] → option_map_or (λ v. v.now) c.referred nothing ≡ v →
    IsEntering first lines c (record (entering r) { referred = v })
enters r first lines c v outer before iteration kept referred = record {
  outer_is = sym outer;
  before_is = ap (option_map reader) (sym before);
  iteration_is = sym iteration;
  kept_is = λ l. none_kept (kept_registers first lines) l ∙ ap (λ vs. kept_at (kept_registers first lines) vs l) (sym kept);
  referred_is = sym referred;
}
