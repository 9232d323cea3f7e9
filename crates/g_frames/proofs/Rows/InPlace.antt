-- Structures in place without a reference: an element of an array and of a cluster, with a case in the body.
use Rattle.std.proofs.Common.{◌≡◌, refl, ap}
use Rattle.std.specs.Prelude.{[], ◌∷◌, Some, pos, codes, true}
use Rattle.g_types.specs.declared.ty.Ty.TheVariants as ty
use Rattle.g_types.specs.declared.rep.Rep.TheVariants.{I32}
use Rattle.g_values.specs.Coerce.{coerced}
use Rattle.g_values.specs.Number.{num_of}
use Rattle.g_values.proofs.TypesOf.{type-Num}
use Rattle.g_values.specs.declared.primitive.Primitive.TheVariants as op
use Rattle.g_diagram.specs.declared.node.Selector.TheVariants as selector
use Rattle.g_diagram.specs.declared.node.Tunnel.TheVariants as line
use Rattle.g_diagram.proofs.Trees.{InPlace, Case, when, end}
use Rattle.g_frames.specs.declared.state.End.TheVariants.{Complete}
use Rattle.g_frames.specs.Program.{Program}
use Rattle.g_frames.proofs.Compute.{everything}
use Rattle.g_frames.proofs.Words.{i32, w, control, indicator, operation, trees, only, number, firings, shown}
use Rattle.g_frames.proofs.Rows.Loops.{numbers}

-- the body doubles the element where it is 2, else leaves it
abbrev pub placing : Program
placing =
    only (control (codes "a") (ty.Arr i32) ∷ control (codes "k") i32 ∷ indicator (codes "e") i32 (codes "e") ∷ [])
    (InPlace (line.Element (w (codes "a")) (w (codes "k")) (w (codes "v")) (w (codes "n")) (w (codes "r")) ∷ [])
    (trees (Case (w (codes "v")) (line.Tunnel (w (codes "v")) (w (codes "x")) ∷ line.Result (w (codes "n")) true ∷ [])
    (when (selector.Number (pos 2) ∷ []) (w (codes "y") ∷ []) (trees (operation op.Add (codes "x" ∷ codes "x" ∷ []) (codes "y") ∷ []))
    (when (selector.Default ∷ []) (w (codes "x") ∷ []) (trees []) end)) ∷ []))
    ∷ operation op.IndexArray (codes "r" ∷ codes "k" ∷ []) (codes "e") ∷ [])
    (((10, codes "y"), i32) ∷ [])

-- lines: 4 `inplace`, 5 its border, 6 `do`, 7 the case, 8 and 9 its border, 10 `when`, 11 `give`, 12 the node, 13 `when`, 14 `give`, 15 and 16 `end`, 17 the element
pub doubled : shown placing (numbers (pos 1 ∷ pos 2 ∷ []) ∷ number (pos 1) ∷ []) 100 (firings ((0, 4) ∷ (0, 17) ∷ (0, 3) ∷ [])) ≡ Some (number (pos 4) ∷ [], (Complete, []))
unfolding everything
doubled = refl

pub left : shown placing (numbers (pos 1 ∷ pos 2 ∷ []) ∷ number (pos 0) ∷ []) 100 (firings ((0, 4) ∷ (0, 17) ∷ (0, 3) ∷ [])) ≡ Some (number (pos 1) ∷ [], (Complete, []))
unfolding everything
left = refl

-- past the end there is no element: the array stays
pub past : shown placing (numbers (pos 1 ∷ pos 2 ∷ []) ∷ number (pos 5) ∷ []) 100 (firings ((0, 4) ∷ (0, 17) ∷ (0, 3) ∷ [])) ≡ Some (number (pos 0) ∷ [], (Complete, []))
unfolding everything
past = refl

-- element 1 of a cluster is raised; lines: 3 the cluster, 4 `inplace`, 5 its border, 6 `do`, 7 the node, 8 `end`, 9 the element
abbrev pub fielded : Program
fielded =
    only (control (codes "a") i32 ∷ indicator (codes "e") i32 (codes "e") ∷ [])
    (operation op.Bundle (codes "a" ∷ codes "a" ∷ []) (codes "c")
    ∷ InPlace (line.Field 1 (w (codes "c")) (w (codes "x")) (w (codes "y")) (w (codes "d")) ∷ []) (trees (operation op.Inc (codes "x" ∷ []) (codes "y") ∷ []))
    ∷ operation (op.Get 1) (codes "d" ∷ []) (codes "e") ∷ []) []

pub field_raised : shown fielded (number (pos 4) ∷ []) 100 (firings ((0, 3) ∷ (0, 4) ∷ (0, 9) ∷ (0, 2) ∷ [])) ≡ Some (number (pos 5) ∷ [], (Complete, []))
unfolding everything
field_raised = ap (λ t. Some (coerced (coerced (number (pos 5)) t) i32 ∷ [], (Complete, []))) (type-Num (num_of I32 (pos 4)))
