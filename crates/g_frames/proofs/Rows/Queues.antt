-- Queues: first in first out, a producer that waits for its consumer, a dequeue that waits for ever, and references that aren't live.
use Rattle.std.proofs.Common.{◌≡◌, refl, ap}
use Rattle.std.specs.Prelude.{[], ◌∷◌, Some, None, pos, codes}
use Rattle.g_types.specs.declared.rep.Rep.TheVariants.{I32}
use Rattle.g_types.specs.declared.ty.Ty.TheVariants as ty
use Rattle.g_values.specs.declared.value.Value.TheVariants as value
use Rattle.g_values.proofs.Defaults.{default-Num}
use Rattle.g_operations.specs.declared.shared.SharedOp.TheVariants as shared
use Rattle.g_diagram.specs.declared.node.Tunnel.TheVariants as line
use Rattle.g_diagram.proofs.Trees.{Obtain, Shared, For}
use Rattle.g_frames.specs.declared.state.End.TheVariants.{Stalled}
use Rattle.g_frames.specs.Program.{Program}
use Rattle.g_frames.proofs.Compute.{everything}
use Rattle.g_frames.proofs.Words.{i32, w, control, indicator, trees, only, number, firings, shown, wires, printed, default_line}

-- two values are put in, and one is taken; lines: 3 the queue, 4 and 5 the enqueues, 6 the dequeue
abbrev pub ordered : Program
ordered =
    only (control (codes "a") i32 ∷ control (codes "b") i32 ∷ [])
    (Obtain (codes "q") (pos 2) i32 (w (codes "q"))
    ∷ Shared shared.Enqueue (w (codes "q") ∷ w (codes "a") ∷ []) (w (codes "c") ∷ [])
    ∷ Shared shared.Enqueue (w (codes "q") ∷ w (codes "b") ∷ []) (w (codes "d") ∷ [])
    ∷ Shared shared.Dequeue (w (codes "q") ∷ []) (w (codes "v") ∷ w (codes "e") ∷ []) ∷ []) []

-- the second is put in first
pub first_in_first_out :
    wires ordered (number (pos 1) ∷ number (pos 2) ∷ []) (firings ((0, 3) ∷ (0, 5) ∷ (0, 4) ∷ (0, 6) ∷ [])) (codes "c" ∷ codes "d" ∷ codes "v" ∷ codes "e" ∷ [])
    ≡ Some (Some (number (pos 0)) ∷ Some (number (pos 0)) ∷ Some (number (pos 2)) ∷ Some (number (pos 0)) ∷ [])
unfolding everything
first_in_first_out = refl

-- each iteration puts its number into a queue of one item; lines: 2 the queue, 3 the loop, 4 its border, 5 its `do`, 6 the enqueue,
-- 7 its `end`, 8 the dequeue
abbrev pub producing : Program
producing =
    only (control (codes "n") i32 ∷ [])
    (Obtain (codes "q") (pos 1) i32 (w (codes "q"))
    ∷ For (w (codes "n")) (w (codes "i")) (line.Tunnel (w (codes "q")) (w (codes "p")) ∷ [])
    (trees (Shared shared.Enqueue (w (codes "p") ∷ w (codes "i") ∷ []) (None ∷ []) ∷ []))
    ∷ Shared shared.Dequeue (w (codes "q") ∷ []) (w (codes "v") ∷ None ∷ []) ∷ []) []

pub consumed :
    wires producing (number (pos 2) ∷ []) (firings ((0, 2) ∷ (0, 3) ∷ (0, 3) ∷ (1, 6) ∷ (0, 3) ∷ (0, 8) ∷ (2, 6) ∷ (0, 3) ∷ [])) (codes "v" ∷ [])
    ≡ Some (Some (number (pos 0)) ∷ [])
unfolding everything
consumed = refl

-- the queue is full until the first item is taken
pub full : wires producing (number (pos 2) ∷ []) (firings ((0, 2) ∷ (0, 3) ∷ (0, 3) ∷ (1, 6) ∷ (0, 3) ∷ (2, 6) ∷ [])) [] ≡ None
unfolding everything
full = refl

-- a dequeue of an empty queue waits for ever; lines: 2 the queue, 3 the dequeue
abbrev pub empty : Program
empty =
    only (indicator (codes "r") i32 (codes "v") ∷ [])
    (Obtain (codes "q") (pos 1) i32 (w (codes "q")) ∷ Shared shared.Dequeue (w (codes "q") ∷ []) (w (codes "v") ∷ None ∷ []) ∷ []) []

pub stalls : shown empty [] 100 (firings ((0, 2) ∷ [])) ≡ Some (number (pos 0) ∷ [], (Stalled, (0, 3) ∷ []))
unfolding everything
stalls = ap (λ v. Some (v ∷ [], (Stalled, (0, 3) ∷ []))) (default-Num I32)

pub written_stalled : printed empty [] 100 (firings ((0, 2) ∷ [])) ≡ Some (codes "r = 0\nstalled\nwaiting 0 3\n")
unfolding everything
written_stalled = ap Some (default_line (codes "r") (codes "stalled\nwaiting 0 3\n"))

-- no operation on the null reference waits; lines: 3 the enqueue, 4 the dequeue
abbrev pub unnamed : Program
unnamed =
    only (control (codes "q") (ty.QueueRef i32) ∷ control (codes "a") i32 ∷ [])
    (Shared shared.Enqueue (w (codes "q") ∷ w (codes "a") ∷ []) (w (codes "c") ∷ [])
    ∷ Shared shared.Dequeue (w (codes "q") ∷ []) (w (codes "v") ∷ w (codes "d") ∷ []) ∷ []) []

pub null :
    wires unnamed (value.Queue (record { elem = i32; at = None }) ∷ number (pos 1) ∷ []) (firings ((0, 3) ∷ (0, 4) ∷ [])) (codes "c" ∷ codes "v" ∷ codes "d" ∷ [])
    ≡ Some (Some (number (pos 1)) ∷ Some (number (pos 0)) ∷ Some (number (pos 1)) ∷ [])
unfolding everything
null = ap (λ v. Some (Some (number (pos 1)) ∷ Some v ∷ Some (number (pos 1)) ∷ [])) (default-Num I32)

-- after a release the reference isn't live: each operation on it gives 1, and the default or 0
abbrev pub released : Program
released =
    only (control (codes "a") i32 ∷ [])
    (Obtain (codes "q") (pos 1) i32 (w (codes "q"))
    ∷ Shared shared.Release (w (codes "q") ∷ []) (w (codes "c") ∷ [])
    ∷ Shared shared.Enqueue (w (codes "q") ∷ w (codes "a") ∷ []) (w (codes "d") ∷ [])
    ∷ Shared shared.Dequeue (w (codes "q") ∷ []) (w (codes "v") ∷ w (codes "e") ∷ [])
    ∷ Shared shared.Release (w (codes "q") ∷ []) (w (codes "f") ∷ [])
    ∷ Shared shared.Size (w (codes "q") ∷ []) (w (codes "n") ∷ w (codes "g") ∷ []) ∷ []) []

pub not_live :
    wires released (number (pos 9) ∷ []) (firings ((0, 2) ∷ (0, 3) ∷ (0, 4) ∷ (0, 5) ∷ (0, 6) ∷ (0, 7) ∷ []))
    (codes "c" ∷ codes "d" ∷ codes "v" ∷ codes "e" ∷ codes "f" ∷ codes "n" ∷ codes "g" ∷ [])
    ≡ Some (Some (number (pos 0)) ∷ Some (number (pos 1)) ∷ Some (number (pos 0)) ∷ Some (number (pos 1)) ∷ Some (number (pos 1)) ∷ Some (number (pos 0))
    ∷ Some (number (pos 1)) ∷ [])
unfolding everything
not_live =
    ap (λ v. Some (Some (number (pos 0)) ∷ Some (number (pos 1)) ∷ Some v ∷ Some (number (pos 1)) ∷ Some (number (pos 1)) ∷ Some (number (pos 0))
    ∷ Some (number (pos 1)) ∷ [])) (default-Num I32)

-- a queue that is made live again has a reference of its own; lines: 2 and 4 the queue, 3 the release, 5 and 6 the enqueues
abbrev pub renewed : Program
renewed =
    only (control (codes "a") i32 ∷ [])
    (Obtain (codes "q") (pos 1) i32 (w (codes "q"))
    ∷ Shared shared.Release (w (codes "q") ∷ []) (None ∷ [])
    ∷ Obtain (codes "q") (pos 1) i32 (w (codes "r"))
    ∷ Shared shared.Enqueue (w (codes "q") ∷ w (codes "a") ∷ []) (w (codes "c") ∷ [])
    ∷ Shared shared.Enqueue (w (codes "r") ∷ w (codes "a") ∷ []) (w (codes "d") ∷ []) ∷ []) []

pub older :
    wires renewed (number (pos 9) ∷ []) (firings ((0, 2) ∷ (0, 3) ∷ (0, 4) ∷ (0, 5) ∷ (0, 6) ∷ [])) (codes "c" ∷ codes "d" ∷ [])
    ≡ Some (Some (number (pos 1)) ∷ Some (number (pos 0)) ∷ [])
unfolding everything
older = refl

-- one that is live is obtained once more as it is
pub shared_queue :
    wires renewed (number (pos 9) ∷ []) (firings ((0, 2) ∷ (0, 4) ∷ (0, 5) ∷ [])) (codes "c" ∷ codes "q" ∷ codes "r" ∷ [])
    ≡ Some (Some (number (pos 0)) ∷ Some (value.Queue (record { elem = i32; at = Some (record { object = 0; serial = 1 }) }))
    ∷ Some (value.Queue (record { elem = i32; at = Some (record { object = 0; serial = 1 }) })) ∷ [])
unfolding everything
shared_queue = refl
