-- Loops: a sum, arrays of different sizes, no iterations, a stop at once, and the limit.
use Rattle.std.proofs.Common.{◌≡◌, refl, ap}
use Rattle.std.specs.Prelude.{ℤ, List, [], ◌∷◌, Some, None, pos, codes, true, false}
use Rattle.g_types.specs.declared.rep.Rep.TheVariants.{I32}
use Rattle.g_types.specs.declared.ty.Ty.TheVariants as ty
use Rattle.g_values.specs.declared.value.Value.{Value}
use Rattle.g_values.specs.declared.value.Value.TheVariants as value
use Rattle.g_values.specs.declared.primitive.Primitive.TheVariants as op
use Rattle.g_diagram.specs.declared.node.Tunnel.TheVariants as line
use Rattle.g_diagram.proofs.Trees.{For, While}
use Rattle.g_values.specs.Coerce.{coerced}
use Rattle.g_values.specs.Number.{num_of}
use Rattle.g_values.proofs.Defaults.{default-Num}
use Rattle.g_values.proofs.TypesOf.{type-Num}
use Rattle.g_prims_definitions.specs.Arithmetic.{arithmetic, plus}
use Rattle.g_frames.specs.declared.state.End.TheVariants.{Complete, Spent}
use Rattle.g_frames.specs.Program.{Program}
use Rattle.g_frames.proofs.Compute.{everything}
use Rattle.g_frames.proofs.Words.{i32, w, control, indicator, operation, trees, only, number, firings, shown, printed, default_line}

abbrev pub numbers : List ℤ → Value
numbers ns = value.Nums (record { rep = I32; all = ns })

-- the sum of the numbers of the iterations, from a first value on; lines: 4 the loop, 5 its border, 6 its `do`, 7 the sum
abbrev pub summing : Program
summing =
    only (control (codes "n") i32 ∷ control (codes "z") i32 ∷ indicator (codes "s") i32 (codes "s") ∷ [])
    (For (w (codes "n")) (w (codes "i")) (line.Register (w (codes "z")) (w (codes "c")) (w (codes "e")) (w (codes "s")) ∷ [])
    (trees (operation op.Add (codes "c" ∷ codes "i" ∷ []) (codes "e") ∷ [])) ∷ []) []

pub summed :
    shown summing (number (pos 2) ∷ number (pos 10) ∷ []) 100 (firings ((0, 4) ∷ (0, 4) ∷ (1, 7) ∷ (0, 4) ∷ (2, 7) ∷ (0, 4) ∷ (0, 3) ∷ []))
    ≡ Some (number (pos 11) ∷ [], (Complete, []))
unfolding everything
summed =
    ap (λ t. Some (coerced (coerced (arithmetic plus (coerced (number (pos 10)) t) (number (pos 1))) t) i32 ∷ [], (Complete, [])))
    (type-Num (num_of I32 (pos 10)))

-- two arrays, the shorter of which decides
abbrev pub arrays : Program
arrays =
    only (control (codes "a") (ty.Arr i32) ∷ control (codes "b") (ty.Arr i32) ∷ control (codes "k") i32 ∷ indicator (codes "n") i32 (codes "n") ∷ indicator (codes "r") i32 (codes "e") ∷ [])
    (For None None (line.Index (w (codes "a")) (w (codes "x")) ∷ line.Index (w (codes "b")) (w (codes "y")) ∷ line.Gather (w (codes "z")) (w (codes "r")) ∷ [])
    (trees (operation op.Add (codes "x" ∷ codes "y" ∷ []) (codes "z") ∷ []))
    ∷ operation op.ArraySize (codes "r" ∷ []) (codes "n") ∷ operation op.IndexArray (codes "r" ∷ codes "k" ∷ []) (codes "e") ∷ [])
    (((10, codes "z"), i32) ∷ [])

-- lines: 6 the loop, 7 to 9 its border, 10 its `do`, 11 the sum, 12 its `end`, 13 the size, 14 the element
pub shorter :
    shown arrays (numbers (pos 1 ∷ pos 2 ∷ []) ∷ numbers (pos 10 ∷ pos 20 ∷ pos 30 ∷ []) ∷ number (pos 1) ∷ []) 100
    (firings ((0, 6) ∷ (0, 6) ∷ (1, 11) ∷ (0, 6) ∷ (2, 11) ∷ (0, 6) ∷ (0, 13) ∷ (0, 14) ∷ (0, 4) ∷ (0, 5) ∷ [])) ≡ Some (number (pos 2) ∷ number (pos 22) ∷ [], (Complete, []))
unfolding everything
shorter = refl

-- no iteration: a gathered array is empty, a last value is its type's default, and a register has its first value
abbrev pub none_at_all : Program
none_at_all =
    only (control (codes "n") i32 ∷ control (codes "v") i32 ∷ indicator (codes "g") i32 (codes "n0") ∷ indicator (codes "l") i32 (codes "l") ∷ indicator (codes "s") i32 (codes "s") ∷ indicator (codes "k") i32 (codes "k") ∷ [])
    (For (w (codes "n")) (w (codes "i"))
    (line.Register (w (codes "v")) (w (codes "c")) (w (codes "c2")) (w (codes "s")) ∷ line.Kept i32 (w (codes "p")) (w (codes "p2")) (w (codes "k"))
    ∷ line.Gather (w (codes "i")) (w (codes "g")) ∷ line.Last (w (codes "i")) (w (codes "l")) ∷ [])
    (trees (operation op.Inc (codes "c" ∷ []) (codes "c2") ∷ operation op.Inc (codes "p" ∷ []) (codes "p2") ∷ []))
    ∷ operation op.ArraySize (codes "g" ∷ []) (codes "n0") ∷ [])
    (((12, codes "i"), i32) ∷ [])

-- lines: 7 the loop, 8 to 11 its border, 12 its `do`, 13 and 14 its nodes, 15 its `end`, 16 the size

pub no_iterations :
    shown none_at_all (number (pos 0) ∷ number (pos 7) ∷ []) 100 (firings ((0, 7) ∷ (0, 7) ∷ (0, 16) ∷ (0, 3) ∷ (0, 4) ∷ (0, 5) ∷ (0, 6) ∷ []))
    ≡ Some (number (pos 0) ∷ number (pos 0) ∷ number (pos 7) ∷ number (pos 0) ∷ [], (Complete, []))
unfolding everything
no_iterations = ap (λ v. Some (number (pos 0) ∷ coerced v i32 ∷ number (pos 7) ∷ coerced v i32 ∷ [], (Complete, []))) (default-Num I32)

-- a loop that stops at once runs once
abbrev pub stopping : Program
stopping =
    only (control (codes "t") ty.Bool ∷ indicator (codes "k") i32 (codes "k") ∷ [])
    (While (w (codes "u")) (w (codes "i")) (line.Tunnel (w (codes "t")) (w (codes "t")) ∷ line.Last (w (codes "i")) (w (codes "k")) ∷ [])
    (trees (operation op.And (codes "t" ∷ codes "t" ∷ []) (codes "u") ∷ [])) ∷ [])
    (((6, codes "i"), i32) ∷ [])

-- lines: 3 the loop, 4 and 5 its border, 6 its `do`, 7 the node
pub once : shown stopping (value.Bool true ∷ []) 1 (firings ((0, 3) ∷ (0, 3) ∷ (1, 7) ∷ (0, 3) ∷ (0, 2) ∷ [])) ≡ Some (number (pos 0) ∷ [], (Complete, []))
unfolding everything
once = refl

-- one that never stops ends with the limit
pub endless : shown stopping (value.Bool false ∷ []) 2 (firings ((0, 3) ∷ (0, 3) ∷ (1, 7) ∷ (0, 3) ∷ (2, 7) ∷ [])) ≡ Some (number (pos 0) ∷ [], (Spent, []))
unfolding everything
endless = ap (λ v. Some (v ∷ [], (Spent, []))) (default-Num I32)

pub written_spent : printed stopping (value.Bool false ∷ []) 1 (firings ((0, 3) ∷ (0, 3) ∷ (1, 7) ∷ [])) ≡ Some (codes "k = 0\nspent 1\n")
unfolding everything
written_spent = ap Some (default_line (codes "k") (codes "spent 1\n"))
