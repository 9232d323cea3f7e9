-- References to numbers have types that a listing can write; the type of a queue's items and of a cell's value stays,
-- whatever an operation answers.
use Rattle.std.proofs.Common.{◌≡◌, Bool, true, false, List, [], ◌∷◌, refl, sym, ap, ◌∙◌, length, arith}
use Rattle.std.specs.Prelude.{Option, Some, None}
use Rattle.g_types.specs.declared.rep.Rep.TheVariants.{I32}
use Rattle.g_types.specs.declared.ty.Ty.{Ty}
use Rattle.g_types.specs.declared.ty.Ty.TheVariants as ty
use Rattle.g_types.proofs.Depths.{depth-Num}
use Rattle.g_values.specs.Spelled.{IsSpelled}
use Rattle.g_values.proofs.SpelledTypes.{spelled_num, spelled_queue, spelled_cell}
use Rattle.g_values.specs.declared.value.Value.{Value}
use Rattle.g_shared.specs.declared.operations.QueueOp.{QueueOp}
use Rattle.g_shared.specs.declared.operations.QueueOp.TheVariants.{Obtain, Enqueue, Dequeue, Release, Size}
use Rattle.g_shared.specs.declared.operations.RefOp.{RefOp}
use Rattle.g_shared.specs.declared.operations.RefOp.TheVariants.{Make, Delete}
use Rattle.g_shared.specs.Cells.{CellState, cell_step, delete, live_value}
use Rattle.g_shared.specs.declared.reply.Reply.{Reply}
use Rattle.g_shared.specs.Outcome.{Outcome}
use Rattle.g_shared.specs.Queues.{QueueState, queue_step, obtain, add, enqueue, dequeue, release, queue_size, live_items, is_full}

pub queue_spelled : IsSpelled (ty.QueueRef (ty.Num I32))
queue_spelled = let one = depth-Num I32 in spelled_queue (ty.Num I32) (omega arith) (spelled_num I32)

pub cell_spelled : IsSpelled (ty.ValueRef (ty.Num I32))
cell_spelled = let one = depth-Num I32 in spelled_cell (ty.Num I32) (omega arith) (spelled_num I32)

pub ruleset spelled = (queue_spelled, cell_spelled)

-- the items' type after a step, and the old one where there is none
abbrev item_after : QueueState → Outcome QueueState → Ty
item_after q None = q.item
item_after q (Some x) = x.1.item

obtain_item : (q : QueueState) (m : Option (List Value)) → item_after q (obtain q m) ≡ q.item
obtain_item q None = refl
obtain_item q (Some items) = refl

add_item : (q : QueueState) (v : Value) (items : List Value) (full : Bool) → item_after q (add q v items full) ≡ q.item
add_item q v items true = refl
add_item q v items false = refl

enqueue_item : (q : QueueState) (v : Value) (m : Option (List Value)) → item_after q (enqueue q v m) ≡ q.item
enqueue_item q v None = refl
enqueue_item q v (Some items) = add_item q v items (is_full q.size (length items))

dequeue_item : (q : QueueState) (m : Option (List Value)) → item_after q (dequeue q m) ≡ q.item
dequeue_item q None = refl
dequeue_item q (Some []) = refl
dequeue_item q (Some (v ∷ vs)) = refl

release_item : (q : QueueState) (m : Option (List Value)) → item_after q (release q m) ≡ q.item
release_item q None = refl
release_item q (Some items) = refl

size_item : (q : QueueState) (m : Option (List Value)) → item_after q (queue_size q m) ≡ q.item
size_item q None = refl
size_item q (Some items) = refl

step_item : (q : QueueState) (op : QueueOp) → item_after q (queue_step q op) ≡ q.item
step_item q Obtain = obtain_item q q.items
step_item q (Enqueue n v) = enqueue_item q v (live_items q n)
step_item q (Dequeue n) = dequeue_item q (live_items q n)
step_item q (Release n) = release_item q (live_items q n)
step_item q (Size n) = size_item q (live_items q n)

pub item_stays : (q new : QueueState) (op : QueueOp) (reply : Reply) → queue_step q op ≡ Some (reply, new) → new.item ≡ q.item
item_stays q new op reply e = ap (item_after q) (sym e) ∙ step_item q op

-- the type of a cell's value after a step
abbrev content_after : CellState → Outcome CellState → Ty
content_after c None = c.content
content_after c (Some x) = x.1.content

delete_content : (c : CellState) (m : Option Value) → content_after c (delete c m) ≡ c.content
delete_content c None = refl
delete_content c (Some v) = refl

step_content : (c : CellState) (op : RefOp) → content_after c (cell_step c op) ≡ c.content
step_content c (Make v) = refl
step_content c (Delete n) = delete_content c (live_value c n)

pub content_stays : (c new : CellState) (op : RefOp) (reply : Reply) → cell_step c op ≡ Some (reply, new) → new.content ≡ c.content
content_stays c new op reply e = ap (content_after c) (sym e) ∙ step_content c op

pub ruleset stays = (item_stays, content_stays)
