-- References to values: a change in place, a deletion, and references that aren't live.
use Rattle.std.proofs.Common.{◌≡◌, ap}
use Rattle.std.specs.Prelude.{[], ◌∷◌, Some, None, pos, codes}
use Rattle.g_types.specs.declared.rep.Rep.TheVariants.{I32}
use Rattle.g_types.specs.declared.ty.Ty.TheVariants as ty
use Rattle.g_values.specs.declared.primitive.Primitive.TheVariants as op
use Rattle.g_values.specs.declared.value.Value.TheVariants as value
use Rattle.g_values.proofs.Defaults.{default-Num}
use Rattle.g_operations.specs.declared.shared.SharedOp.TheVariants as shared
use Rattle.g_prims_definitions.specs.Arithmetic.{each, increased}
use Rattle.g_diagram.specs.declared.node.Tunnel.TheVariants as line
use Rattle.g_diagram.proofs.Trees.{Shared, InPlace}
use Rattle.g_frames.specs.Program.{Program}
use Rattle.g_frames.proofs.Compute.{everything}
use Rattle.g_frames.proofs.Words.{i32, w, control, operation, trees, only, number, firings, wires}

-- a reference is made, its value is raised in place, and then it is deleted, twice; lines: 2 newref, 3 `inplace`, 4 its border, 5 `do`,
-- 6 the node, 7 `end`, 8 and 9 delref
abbrev pub changing : Program
changing =
    only (control (codes "a") i32 ∷ [])
    (Shared shared.NewRef (w (codes "a") ∷ []) (w (codes "r") ∷ [])
    ∷ InPlace (line.Ref (w (codes "r")) (w (codes "x")) (w (codes "y")) (w (codes "s")) (w (codes "k")) ∷ [])
    (trees (operation op.Inc (codes "x" ∷ []) (codes "y") ∷ []))
    ∷ Shared shared.DelRef (w (codes "s") ∷ []) (w (codes "v") ∷ w (codes "c") ∷ [])
    ∷ Shared shared.DelRef (w (codes "s") ∷ []) (w (codes "u") ∷ w (codes "d") ∷ []) ∷ [])
    (((0, codes "a"), i32) ∷ [])

pub in_place :
    wires changing (number (pos 41) ∷ []) (firings ((0, 2) ∷ (0, 3) ∷ (0, 8) ∷ (0, 9) ∷ [])) (codes "k" ∷ codes "v" ∷ codes "c" ∷ codes "u" ∷ codes "d" ∷ [])
    ≡ Some (Some (number (pos 0)) ∷ Some (number (pos 42)) ∷ Some (number (pos 0)) ∷ Some (number (pos 0)) ∷ Some (number (pos 1)) ∷ [])
unfolding everything
in_place =
    ap (λ v. Some (Some (number (pos 0)) ∷ Some (number (pos 42)) ∷ Some (number (pos 0)) ∷ Some v ∷ Some (number (pos 1)) ∷ [])) (default-Num I32)

-- where the reference isn't live the body has the default, and its other outputs are given; lines: 2 `inplace`, 3 and 4 its border,
-- 5 `do`, 6 the node
abbrev pub missing : Program
missing =
    only (control (codes "r") (ty.ValueRef i32) ∷ [])
    (InPlace (line.Ref (w (codes "r")) (w (codes "x")) (w (codes "y")) (w (codes "s")) (w (codes "k")) ∷ line.Last (w (codes "y")) (w (codes "l")) ∷ [])
    (trees (operation op.Inc (codes "x" ∷ []) (codes "y") ∷ [])) ∷ []) []

pub null_in_place :
    wires missing (value.Cell (record { elem = i32; at = None }) ∷ []) (firings ((0, 2) ∷ [])) (codes "l" ∷ codes "k" ∷ codes "s" ∷ [])
    ≡ Some (Some (number (pos 1)) ∷ Some (number (pos 1)) ∷ Some (value.Cell (record { elem = i32; at = None })) ∷ [])
unfolding everything
null_in_place =
    ap (λ v. Some (Some (each increased v) ∷ Some (number (pos 1)) ∷ Some (value.Cell (record { elem = i32; at = None })) ∷ [])) (default-Num I32)
