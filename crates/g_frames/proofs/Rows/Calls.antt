-- Calls: a VI with a kept register that is called twice, with one data space and with one for each call, and a pool of two clones.
use Rattle.std.proofs.Common.{◌≡◌, refl, ap, ◌∙◌}
use Rattle.std.specs.Prelude.{[], ◌∷◌, ◌++◌, false, List, Option, Some, None, pos, codes}
use Rattle.std.specs.Option.{option_and_then}
use Rattle.g_types.specs.declared.rep.Rep.TheVariants.{I32}
use Rattle.g_values.specs.Coerce.{coerced}
use Rattle.g_values.specs.Default.{default}
use Rattle.g_values.specs.declared.primitive.Primitive.TheVariants as op
use Rattle.g_values.specs.declared.value.Value.{Value}
use Rattle.g_values.proofs.Defaults.{default-Num}
use Rattle.g_literals.proofs.ValueLemmas.{of-Number}
use Rattle.g_diagram.specs.declared.hierarchy.Clones.{Clones}
use Rattle.g_diagram.specs.declared.hierarchy.Clones.TheVariants.{NonReentrant, Preallocated, Pool}
use Rattle.g_diagram.specs.declared.node.Tunnel.TheVariants as line
use Rattle.g_diagram.specs.declared.panel.Lit.TheVariants as lit
use Rattle.g_diagram.specs.declared.panel.PanelItem.TheVariants.{Control}
use Rattle.g_diagram.proofs.Trees.{Call, For}
use Rattle.g_hier.specs.declared.linked.Space.{Space}
use Rattle.g_frames.specs.declared.state.End.TheVariants.{Complete, Unfinished}
use Rattle.g_frames.specs.Program.{Program}
use Rattle.g_frames.specs.declared.firing.Firing.{Firing}
use Rattle.g_frames.specs.State.{FireState, start}
use Rattle.g_frames.specs.Run.{firing, after_from}
use Rattle.g_frames.proofs.Compute.{everything}
use Rattle.g_frames.proofs.Words.{i32, w, control, indicator, operation, trees, sketch, typed, program_of, space, number, firings, shown, wires_in}

-- A VI counts how often it was called, in a kept register. Lines of the first VI: 4 and 5 the calls; of the other: 3 the loop, 4 its border,
-- 5 its `do`, 6 the node
abbrev pub counting : Clones → List Space → Program
counting clones spaces = program_of
    ((
      sketch (codes "Main") NonReentrant (control (codes "z") i32 ∷ indicator (codes "p") i32 (codes "p") ∷ indicator (codes "q") i32 (codes "q") ∷ [])
          (Call (codes "Count") (w (codes "z") ∷ []) (w (codes "p") ∷ []) ∷ Call (codes "Count") (w (codes "z") ∷ []) (w (codes "q") ∷ []) ∷ []),
      typed [],
    )
    ∷ (
      sketch (codes "Count") clones (control (codes "a") i32 ∷ indicator (codes "n") i32 (codes "n") ∷ [])
          (For (w (codes "a")) None (line.Kept i32 (w (codes "c")) (w (codes "d")) (w (codes "n")) ∷ []) (trees (operation op.Inc (codes "c" ∷ []) (codes "d") ∷ [])) ∷ []),
      typed [],
    ) ∷ [])
    (0 ∷ 1 ∷ []) spaces

abbrev pub one_space : Program
one_space = counting NonReentrant (space 0 0 ∷ space 1 0 ∷ [])

abbrev pub two_spaces : Program
two_spaces =
    counting Preallocated (space 0 0 ∷ record { vi = 1; clone = 0; caller = Some (record { space = 0; line = 4 }) }
    ∷ record { vi = 1; clone = 0; caller = Some (record { space = 0; line = 5 }) } ∷ [])

-- the start, where the kept registers have these values
abbrev pub starting : Program → List Value → FireState
starting p values = record (start p (number (pos 1) ∷ []) 100) { kept = values }

-- what both calls give from there on
abbrev pub counted : Program → List Value → List Firing → Option (List (Option Value))
counted p values trace = option_and_then (wires_in p (codes "p" ∷ codes "q" ∷ [])) (after_from p trace (starting p values))

-- at first they have 0, the default of their type
pub begins : start one_space (number (pos 1) ∷ []) 100 ≡ starting one_space (number (pos 0) ∷ [])
unfolding everything
begins = ap (λ v. starting one_space (v ∷ [])) (default-Num I32)

pub both_begin : start two_spaces (number (pos 1) ∷ []) 100 ≡ starting two_spaces (number (pos 0) ∷ number (pos 0) ∷ [])
unfolding everything
both_begin = ap (λ v. starting two_spaces (v ∷ v ∷ [])) (default-Num I32)

-- one data space: the second call goes on counting
pub kept :
    counted one_space (number (pos 0) ∷ [])
    (firings ((0, 4) ∷ (0, 4) ∷ (1, 3) ∷ (1, 3) ∷ (2, 6) ∷ (1, 3) ∷ (1, 2) ∷ (0, 4) ∷ (0, 4) ∷ (0, 5) ∷ (0, 5) ∷ (3, 3) ∷ (3, 3) ∷ (4, 6) ∷ (3, 3) ∷ (3, 2) ∷ (0, 5) ∷ (0, 5) ∷ []))
    ≡ Some (Some (number (pos 1)) ∷ Some (number (pos 2)) ∷ [])
unfolding everything
kept = refl

-- while one call has the data space the other waits
pub one_at_a_time :
    shown one_space (number (pos 1) ∷ []) 100 (firings ((0, 5) ∷ []))
    ≡ Some (number (pos 0) ∷ number (pos 0) ∷ [], (Unfinished, (0, 4) ∷ []))
unfolding everything
one_at_a_time = ap (λ v. Some (v ∷ v ∷ [], (Unfinished, (0, 4) ∷ []))) (default-Num I32)

-- a data space for each call: both count from the start, and no call takes a clone
pub apart :
    counted two_spaces (number (pos 0) ∷ number (pos 0) ∷ [])
    (firings ((0, 4) ∷ (0, 5) ∷ (1, 3) ∷ (1, 3) ∷ (3, 6) ∷ (1, 3) ∷ (1, 2) ∷ (0, 4) ∷ (2, 3) ∷ (2, 3) ∷ (4, 6) ∷ (2, 3) ∷ (2, 2) ∷ (0, 5) ∷ []))
    ≡ Some (Some (number (pos 1)) ∷ Some (number (pos 1)) ∷ [])
unfolding everything
apart = refl

-- an input without a wire has the value that is written for its control, else the default of its type. Lines of the first VI: 3 the call; of
-- the other: 3 and 4 the indicators
abbrev pub leaving_out : Program
leaving_out = program_of
    ((
      sketch (codes "Main") NonReentrant (indicator (codes "p") i32 (codes "p") ∷ indicator (codes "q") i32 (codes "q") ∷ [])
          (Call (codes "Both") (None ∷ None ∷ []) (w (codes "p") ∷ w (codes "q") ∷ []) ∷ []),
      typed [],
    )
    ∷ (
      sketch (codes "Both") Preallocated
          (Control (codes "a") i32 false (Some (lit.Number (pos 5))) (w (codes "a")) ∷ control (codes "b") i32 ∷ indicator (codes "x") i32 (codes "a") ∷ indicator (codes "y") i32 (codes "b") ∷ [])
          [],
      typed [],
    ) ∷ [])
    (0 ∷ 1 ∷ []) (space 0 0 ∷ record { vi = 1; clone = 0; caller = Some (record { space = 0; line = 3 }) } ∷ [])

pub left_out :
    shown leaving_out [] 100 (firings ((0, 3) ∷ (1, 3) ∷ (1, 4) ∷ (0, 3) ∷ (0, 1) ∷ (0, 2) ∷ [])) ≡ Some (number (pos 5) ∷ number (pos 0) ∷ [], (Complete, []))
unfolding everything
left_out =
    ap (λ v. Some (coerced (coerced v i32) i32 ∷ coerced (coerced (default i32) i32) i32 ∷ [], (Complete, []))) (of-Number (pos 5) i32)
    ∙ ap (λ v. Some (number (pos 5) ∷ coerced (coerced v i32) i32 ∷ [], (Complete, []))) (default-Num I32)

-- three calls of a pool of two clones. Lines of the first VI: 3 to 5 the calls; of the other: 3 the node
abbrev pub pooled : Program
pooled = program_of
    ((
      sketch (codes "Main") NonReentrant (control (codes "a") i32 ∷ indicator (codes "x") i32 (codes "x") ∷ [])
          (Call (codes "Work") (w (codes "a") ∷ []) (w (codes "x") ∷ []) ∷ Call (codes "Work") (w (codes "a") ∷ []) (None ∷ []) ∷ Call (codes "Work") (w (codes "a") ∷ []) (None ∷ []) ∷ []),
      typed [],
    )
    ∷ (sketch (codes "Work") (Pool 2) (control (codes "a") i32 ∷ indicator (codes "r") i32 (codes "s") ∷ []) (operation op.Inc (codes "a" ∷ []) (codes "s") ∷ []), typed []) ∷ [])
    (0 ∷ 1 ∷ []) (space 0 0 ∷ space 1 0 ∷ space 1 1 ∷ [])

-- the third takes the clone that the second left
pub clones :
    shown pooled (number (pos 1) ∷ []) 100
    (firing 0 3 (Some 1) ∷ firing 0 4 (Some 0) ∷ firings ((0, 3) ∷ (0, 4) ∷ (2, 3) ∷ (2, 2) ∷ (0, 4) ∷ (0, 4) ∷ []) ++ firing 0 5 (Some 0)
    ∷ firings ((0, 5) ∷ (1, 3) ∷ (1, 2) ∷ (0, 3) ∷ (0, 3) ∷ (3, 3) ∷ (3, 2) ∷ (0, 5) ∷ (0, 5) ∷ (0, 2) ∷ []))
    ≡ Some (number (pos 2) ∷ [], (Complete, []))
unfolding everything
clones = refl

-- no firing without a choice enters a pool, none takes a clone that is taken, and the third call waits for one
pub no_choice : shown pooled (number (pos 1) ∷ []) 100 (firings ((0, 3) ∷ [])) ≡ None
unfolding everything
no_choice = refl

pub taken : shown pooled (number (pos 1) ∷ []) 100 (firing 0 3 (Some 1) ∷ firing 0 4 (Some 1) ∷ []) ≡ None
unfolding everything
taken = refl

pub none_free :
    shown pooled (number (pos 1) ∷ []) 100 (firing 0 3 (Some 1) ∷ firing 0 4 (Some 0) ∷ []) ≡ Some (number (pos 0) ∷ [], (Unfinished, (0, 5) ∷ []))
unfolding everything
none_free = ap (λ v. Some (v ∷ [], (Unfinished, (0, 5) ∷ []))) (default-Num I32)
