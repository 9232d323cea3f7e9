-- Elements of arrays of numbers, by their words.
use Rattle.std.proofs.Common.{◌≡◌, ◌<◌, ◌≤◌, ℕ, zero, suc, List, [], ◌∷◌, map, length, slice_index_or, nat_lt, true, false, pos, refl, ap, sym, ◌∙◌, arith}
use Rattle.std.specs.List.{slice_get}
use Rattle.std.proofs.lemmas.Bool.Decides.{nat_tests}
use Rattle.g_types.specs.declared.rep.Rep.{Rep}
use Rattle.g_values.specs.Number.{num_of}
use Rattle.g_values.specs.Numbers.{number}
use Rattle.g_values.proofs.Words.{wrap-wrap}
use Rattle.g_values.specs.declared.value.Value.TheVariants as value
use Rattle.g_prims_definitions.specs.Arrays.{or_default_number}
use Rattle.g_prims_edits.proofs.NumLemmas.{same_wrapped}

pub is_below : (a b : ℕ) → true ≡ nat_lt a b → a < b
is_below a b e = grind (arith, nat_tests)

pub is_past : (a b : ℕ) → false ≡ nat_lt a b → b ≤ a
is_past a b e = grind (arith, nat_tests)

pub there : (r : Rep) (ws : List ℕ) (at w d : ℕ) → at < length ws → w ≡ slice_index_or ws at d → value.Num (num_of r (pos w)) ≡ or_default_number r (slice_get (map (number r) ws) at)
there r [] at w d lt e = absurd (omega arith)
there r (v ∷ ws) zero w d lt e = ap (λ k. value.Num (num_of r (pos k))) e ∙ ap value.Num (same_wrapped r (pos v) (number r v) (sym (wrap-wrap r (pos v))))
there r (v ∷ ws) (suc at) w d lt e = there r ws at w d (omega arith) e

pub past : (r : Rep) (ws : List ℕ) (at : ℕ) → length ws ≤ at → value.Num (num_of r (pos 0)) ≡ or_default_number r (slice_get (map (number r) ws) at)
past r [] zero h = refl
past r [] (suc at) h = refl
past r (v ∷ ws) zero h = absurd (omega arith)
past r (v ∷ ws) (suc at) h = past r ws at (omega arith)
