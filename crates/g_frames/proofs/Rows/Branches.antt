-- Cases and sequences.
use Rattle.std.proofs.Common.{◌≡◌, refl, ap}
use Rattle.std.specs.Prelude.{[], ◌∷◌, Some, None, pos, codes, true}
use Rattle.g_types.specs.declared.rep.Rep.TheVariants.{I32}
use Rattle.g_values.specs.declared.primitive.Primitive.TheVariants as op
use Rattle.g_diagram.specs.declared.node.Selector.TheVariants as selector
use Rattle.g_diagram.specs.declared.node.Tunnel.TheVariants as line
use Rattle.g_diagram.proofs.Trees.{Case, Sequence, when, end, frame, last}
use Rattle.g_values.specs.Coerce.{coerced}
use Rattle.g_values.proofs.Defaults.{default-Num}
use Rattle.g_frames.specs.declared.state.End.TheVariants.{Complete}
use Rattle.g_frames.specs.Program.{Program}
use Rattle.g_frames.proofs.Compute.{everything}
use Rattle.g_frames.proofs.Words.{i32, w, control, indicator, operation, trees, only, number, firings, shown}

-- a branch that gives its result, and the default branch, which leaves it unwired
abbrev pub choosing : Program
choosing =
    only (control (codes "s") i32 ∷ indicator (codes "r") i32 (codes "r") ∷ [])
    (Case (w (codes "s")) (line.Tunnel (w (codes "s")) (w (codes "x")) ∷ line.Result (w (codes "r")) true ∷ [])
    (when (selector.Range (pos 1) (pos 3) ∷ []) (w (codes "y") ∷ []) (trees (operation op.Inc (codes "x" ∷ []) (codes "y") ∷ []))
    (when (selector.Default ∷ []) (None ∷ []) (trees []) end)) ∷ [])
    (((6, codes "y"), i32) ∷ [])

-- lines: 3 the case, 4 and 5 its border, 6 `when`, 7 `give`, 8 the node, 9 `when`, 10 `give`
pub chosen : shown choosing (number (pos 2) ∷ []) 100 (firings ((0, 3) ∷ (1, 8) ∷ (0, 3) ∷ (0, 2) ∷ [])) ≡ Some (number (pos 3) ∷ [], (Complete, []))
unfolding everything
chosen = refl

pub default_branch : shown choosing (number (pos 9) ∷ []) 100 (firings ((0, 3) ∷ (0, 3) ∷ (0, 2) ∷ [])) ≡ Some (number (pos 0) ∷ [], (Complete, []))
unfolding everything
default_branch = ap (λ v. Some (coerced v i32 ∷ [], (Complete, []))) (default-Num I32)

-- the second frame takes up a value of the first
abbrev pub carrying : Program
carrying =
    only (control (codes "a") i32 ∷ indicator (codes "r") i32 (codes "r") ∷ [])
    (Sequence
    (frame (line.Tunnel (w (codes "a")) (w (codes "x")) ∷ []) (trees (operation op.Inc (codes "x" ∷ []) (codes "y") ∷ []))
    (frame (line.Carry (w (codes "y")) (w (codes "z")) ∷ line.Last (w (codes "u")) (w (codes "r")) ∷ []) (trees (operation op.Inc (codes "z" ∷ []) (codes "u") ∷ [])) last)) ∷ [])
    []

-- lines: 3 the sequence, 4 `frame`, 5 its border, 6 `do`, 7 the node, 8 `frame`, 9 and 10 its border, 11 `do`, 12 the node
pub carried : shown carrying (number (pos 5) ∷ []) 100 (firings ((0, 3) ∷ (1, 7) ∷ (0, 3) ∷ (2, 12) ∷ (0, 3) ∷ (0, 2) ∷ [])) ≡ Some (number (pos 7) ∷ [], (Complete, []))
unfolding everything
carried = refl
