-- Local variables: a value is written to an indicator and read from it.
use Rattle.std.proofs.Common.{◌≡◌, refl, ap}
use Rattle.std.specs.Prelude.{[], ◌∷◌, Some, None, pos, codes}
use Rattle.g_types.specs.declared.rep.Rep.TheVariants.{I32}
use Rattle.g_values.specs.Coerce.{coerced}
use Rattle.g_values.proofs.Defaults.{default-Num}
use Rattle.g_diagram.specs.declared.panel.PanelItem.TheVariants.{Indicator}
use Rattle.g_diagram.proofs.Trees.{Read, Write}
use Rattle.g_frames.specs.declared.state.End.TheVariants.{Complete}
use Rattle.g_frames.specs.Program.{Program}
use Rattle.g_frames.proofs.Compute.{everything}
use Rattle.g_frames.proofs.Words.{i32, w, control, indicator, only, number, firings, shown}

-- lines: 1 the control, 2 an indicator without a wire, 3 the other, 4 `write`, 5 `read`
abbrev pub remembering : Program
remembering =
    only (control (codes "a") i32 ∷ Indicator (codes "r") i32 None ∷ indicator (codes "v") i32 (codes "v") ∷ [])
    (Write (codes "r") (w (codes "a")) ∷ Read (codes "r") (w (codes "v")) ∷ []) []

pub written_first : shown remembering (number (pos 8) ∷ []) 100 (firings ((0, 4) ∷ (0, 5) ∷ (0, 3) ∷ [])) ≡ Some (number (pos 8) ∷ number (pos 8) ∷ [], (Complete, []))
unfolding everything
written_first = refl

pub read_first : shown remembering (number (pos 8) ∷ []) 100 (firings ((0, 5) ∷ (0, 4) ∷ (0, 3) ∷ [])) ≡ Some (number (pos 8) ∷ number (pos 0) ∷ [], (Complete, []))
unfolding everything
read_first = ap (λ v. Some (number (pos 8) ∷ coerced v i32 ∷ [], (Complete, []))) (default-Num I32)
