-- Sums of controls and constants, and what is printed of them.
use Rattle.std.proofs.Common.{◌≡◌, refl, ap}
use Rattle.std.specs.Prelude.{[], ◌∷◌, Some, None, pos, codes}
use Rattle.g_values.specs.Coerce.{coerced}
use Rattle.g_values.specs.declared.primitive.Primitive.TheVariants as op
use Rattle.g_prims_definitions.specs.Arithmetic.{arithmetic, plus}
use Rattle.g_literals.proofs.ValueLemmas.{of-Number}
use Rattle.g_frames.specs.declared.state.End.TheVariants.{Complete}
use Rattle.g_frames.specs.Program.{Program}
use Rattle.g_frames.proofs.Compute.{everything}
use Rattle.g_frames.proofs.Words.{i32, control, indicator, constant, operation, only, number, firings, shown, printed, line-number, default_line}

-- lines: 1 and 2 the controls, 3 the indicator, 4 the sum
abbrev pub sums : Program
sums = only (control (codes "a") i32 ∷ control (codes "b") i32 ∷ indicator (codes "r") i32 (codes "s") ∷ []) (operation op.Add (codes "a" ∷ codes "b" ∷ []) (codes "s") ∷ []) []

pub sum : shown sums (number (pos 2) ∷ number (pos 3) ∷ []) 100 (firings ((0, 4) ∷ (0, 3) ∷ [])) ≡ Some (number (pos 5) ∷ [], (Complete, []))
unfolding everything
sum = refl

-- the indicator has its wire's value only after the sum, and no node fires twice
pub too_early : shown sums (number (pos 2) ∷ number (pos 3) ∷ []) 100 (firings ((0, 3) ∷ [])) ≡ None
unfolding everything
too_early = refl

pub twice : shown sums (number (pos 2) ∷ number (pos 3) ∷ []) 100 (firings ((0, 4) ∷ (0, 4) ∷ [])) ≡ None
unfolding everything
twice = refl

pub written : printed sums (number (pos 2) ∷ number (pos 3) ∷ []) 100 (firings ((0, 4) ∷ (0, 3) ∷ [])) ≡ Some (codes "r = 5\n")
unfolding everything
written = ap Some (line-number (codes "r") (pos 5) [])

pub written_unfinished : printed sums (number (pos 2) ∷ number (pos 3) ∷ []) 100 (firings ((0, 4) ∷ [])) ≡ Some (codes "r = 0\nunfinished\n")
unfolding everything
written_unfinished = ap Some (default_line (codes "r") (codes "unfinished\n"))

-- lines: 3 the constant, 4 the sum
abbrev pub raised : Program
raised = only (control (codes "a") i32 ∷ indicator (codes "r") i32 (codes "s") ∷ []) (constant (pos 7) (codes "c") ∷ operation op.Add (codes "a" ∷ codes "c" ∷ []) (codes "s") ∷ []) []

pub by_seven : shown raised (number (pos 3) ∷ []) 100 (firings ((0, 3) ∷ (0, 4) ∷ (0, 2) ∷ [])) ≡ Some (number (pos 10) ∷ [], (Complete, []))
unfolding everything
by_seven = ap (λ v. Some (coerced (arithmetic plus (number (pos 3)) v) i32 ∷ [], (Complete, []))) (of-Number (pos 7) i32)
