-- Operations in place on objects.
use Rattle.std.proofs.Common.{◌≡◌, ℕ, true, false, List, refl, ap, ◌∙◌, sym}
use Rattle.std.specs.Prelude.{Option, Some, None, is_some}
use Rattle.g_values.specs.declared.value.Value.{Value}
use Rattle.g_shared.specs.declared.reply.Reply.{Reply}
use Rattle.g_shared.specs.Panels.{PanelState}
use Rattle.g_shared.specs.Queues.{QueueState}
use Rattle.g_shared.specs.Cells.{CellState, Body, in_place, in_place_step, live_value}
use Rattle.g_shared.specs.Pools.{PoolState}
use Rattle.g_frames.specs.Contents.{Content, Panel, Queue, Cell, Pool, InPlace, object_step}
use Rattle.g_refs.specs.Cell as cells
use Rattle.g_objects.specs.Operations.{Places}
use Rattle.g_objects.proofs.Steps.{done_as, some_as}

places_as : (s t : CellState) (n : ℕ) (v : Value) (outputs : List Value) (reply : Reply) → cells.Places s n v outputs reply t → Places (Cell s) n v outputs reply (Cell t)
places_as s t n v outputs reply so =
    λ given inputs body is makes.
    let same : cells.value_for s n ≡ given = cc in
    done_as Cell (in_place_step s n inputs body) reply t (so inputs body (ap (λ w. body w inputs) same ∙ makes))

pub places_cell : (old new : Content) (s t : CellState) (n : ℕ) (v : Value) (outputs : List Value) (reply : Reply) →
    old ≡ Cell s → new ≡ Cell t → cells.Places s n v outputs reply t → Places old n v outputs reply new
places_cell old new s t n v outputs reply was is so = rw (was, is) (places_as s t n v outputs reply so)

some_place : (s : CellState) (inputs : List Value) (body : Body) (m : Option Value) → is_some (in_place s inputs body m) ≡ true
some_place s inputs body None = refl
some_place s inputs body (Some v) = refl

pub can_cell : (old : Content) (s : CellState) (n : ℕ) (inputs : List Value) (body : Body) → old ≡ Cell s → true ≡ is_some (object_step old (InPlace n inputs) 0 body)
can_cell old s n inputs body was = rw was (sym (some_as Cell (in_place_step s n inputs body) ∙ some_place s inputs body (live_value s n)))

pub not_panel : (old : Content) (s : PanelState) (n : ℕ) (inputs : List Value) (body : Body) → old ≡ Panel s → false ≡ is_some (object_step old (InPlace n inputs) 0 body)
not_panel old s n inputs body was = rw was refl

pub not_queue : (old : Content) (s : QueueState) (n : ℕ) (inputs : List Value) (body : Body) → old ≡ Queue s → false ≡ is_some (object_step old (InPlace n inputs) 0 body)
not_queue old s n inputs body was = rw was refl

pub not_pool : (old : Content) (s : PoolState) (n : ℕ) (inputs : List Value) (body : Body) → old ≡ Pool s → false ≡ is_some (object_step old (InPlace n inputs) 0 body)
not_pool old s n inputs body was = rw was refl

pub ruleset placed = (places_cell, can_cell, not_panel, not_queue, not_pool)
