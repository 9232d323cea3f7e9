-- A wrapped number is in range.
use Rattle.std.proofs.Common.{◌≡◌, ◌<◌, ℕ, ◌-◌, ◌%◌, ℤ, pos, negsuc, ◌+ℤ◌, ◌-ℤ◌, refl, arith}
use Rattle.std.specs.Prelude.{neg_ℤ, ◌≤ℤ◌, ◌<ℤ◌}
use Rattle.std.specs.Int.{int_rem_euclid}
use Rattle.std.proofs.lemmas.Int.{ints}
use Rattle.g_types.specs.declared.rep.Rep.{Rep}
use Rattle.g_types.specs.declared.rep.Rep.TheVariants.{I8, I16, I32, I64, U8, U16, U32, U64}
use Rattle.g_types.specs.Rep.{wrap, size, half, InRange}

rem_bound : (z : ℤ) (s : ℕ) → 0 < s → (m : ℕ) × (int_rem_euclid z (pos s) ≡ pos m) × (m < s)
rem_bound (pos a) s h = (a % s, refl, omega arith)
rem_bound (negsuc a) s h = (s - 1 - a % s, refl, omega arith)

shifted-in_range : (z low high : ℤ) (s h : ℕ) → 0 < s → low ≡ neg_ℤ (pos h) → high ≡ pos s -ℤ pos h → (low ≤ℤ (int_rem_euclid z (pos s) -ℤ pos h)) × ((int_rem_euclid z (pos s) -ℤ pos h) <ℤ high)
shifted-in_range z low high s h some a b =
    let m = rem_bound z s some in
    (omega (arith, ints, m.1, m.2), omega (arith, ints, m.1, m.2))

pub wrap-in_range : (r : Rep) (n : ℤ) → InRange r (wrap r n)
wrap-in_range I8 n = let p = shifted-in_range (n +ℤ pos (half I8)) _ _ (size I8) (half I8) (omega arith) refl refl in record { low = p.0; high = p.1 }
wrap-in_range I16 n = let p = shifted-in_range (n +ℤ pos (half I16)) _ _ (size I16) (half I16) (omega arith) refl refl in record { low = p.0; high = p.1 }
wrap-in_range I32 n = let p = shifted-in_range (n +ℤ pos (half I32)) _ _ (size I32) (half I32) (omega arith) refl refl in record { low = p.0; high = p.1 }
wrap-in_range I64 n = let p = shifted-in_range (n +ℤ pos (half I64)) _ _ (size I64) (half I64) (omega arith) refl refl in record { low = p.0; high = p.1 }
wrap-in_range U8 n = let p = shifted-in_range (n +ℤ pos (half U8)) _ _ (size U8) (half U8) (omega arith) refl refl in record { low = p.0; high = p.1 }
wrap-in_range U16 n = let p = shifted-in_range (n +ℤ pos (half U16)) _ _ (size U16) (half U16) (omega arith) refl refl in record { low = p.0; high = p.1 }
wrap-in_range U32 n = let p = shifted-in_range (n +ℤ pos (half U32)) _ _ (size U32) (half U32) (omega arith) refl refl in record { low = p.0; high = p.1 }
wrap-in_range U64 n = let p = shifted-in_range (n +ℤ pos (half U64)) _ _ (size U64) (half U64) (omega arith) refl refl in record { low = p.0; high = p.1 }
