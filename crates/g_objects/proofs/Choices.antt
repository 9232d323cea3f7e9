-- What the choice counts for: nothing but an operation on a pool.
use Rattle.std.proofs.Common.{◌≡◌, ℕ, true, refl, ap, ◌∙◌}
use Rattle.std.specs.Prelude.{Option, Some, None, is_some}
use Rattle.g_shared.specs.declared.operations.PanelOp.{PanelOp}
use Rattle.g_shared.specs.declared.operations.QueueOp.{QueueOp}
use Rattle.g_shared.specs.declared.operations.RefOp.{RefOp}
use Rattle.g_shared.specs.declared.reply.Reply.{Reply}
use Rattle.g_frames.specs.Contents.{Content, Panel, Queue, Cell, Pool}
use Rattle.g_objects.specs.declared.operation.Operation.TheVariants.{OnPanel, OnQueue, OnCell}
use Rattle.g_objects.specs.Operations.{step, Gives, Waits, CanGive}

-- an operation of another kind than a pool's has no use for a choice

panel_any : (c : Content) (o : PanelOp) (k : ℕ) → step c (OnPanel o) k ≡ step c (OnPanel o) 0
panel_any (Panel s) o k = refl
panel_any (Queue s) o k = refl
panel_any (Cell s) o k = refl
panel_any (Pool s) o k = refl

queue_any : (c : Content) (o : QueueOp) (k : ℕ) → step c (OnQueue o) k ≡ step c (OnQueue o) 0
queue_any (Panel s) o k = refl
queue_any (Queue s) o k = refl
queue_any (Cell s) o k = refl
queue_any (Pool s) o k = refl

cell_any : (c : Content) (o : RefOp) (k : ℕ) → step c (OnCell o) k ≡ step c (OnCell o) 0
cell_any (Panel s) o k = refl
cell_any (Queue s) o k = refl
cell_any (Cell s) o k = refl
cell_any (Pool s) o k = refl

pub panel_gives : (choice : Option ℕ) (c : Content) (o : PanelOp) (reply : Reply) (new : Content) → step c (OnPanel o) 0 ≡ Some (reply, new) → Gives choice c (OnPanel o) reply new
panel_gives None c o reply new e = panel_any c o reply.choice ∙ e
panel_gives (Some k) c o reply new e = panel_any c o k ∙ e

pub panel_waits : (choice : Option ℕ) (c : Content) (o : PanelOp) → step c (OnPanel o) 0 ≡ None → Waits choice c (OnPanel o)
panel_waits None c o e = λ k. panel_any c o k ∙ e
panel_waits (Some k) c o e = panel_any c o k ∙ e

pub panel_can : (choice : Option ℕ) (c : Content) (o : PanelOp) → is_some (step c (OnPanel o) 0) ≡ true → CanGive choice c (OnPanel o)
panel_can None c o e = (0, e)
panel_can (Some k) c o e = ap is_some (panel_any c o k) ∙ e

pub queue_gives : (choice : Option ℕ) (c : Content) (o : QueueOp) (reply : Reply) (new : Content) → step c (OnQueue o) 0 ≡ Some (reply, new) → Gives choice c (OnQueue o) reply new
queue_gives None c o reply new e = queue_any c o reply.choice ∙ e
queue_gives (Some k) c o reply new e = queue_any c o k ∙ e

pub queue_waits : (choice : Option ℕ) (c : Content) (o : QueueOp) → step c (OnQueue o) 0 ≡ None → Waits choice c (OnQueue o)
queue_waits None c o e = λ k. queue_any c o k ∙ e
queue_waits (Some k) c o e = queue_any c o k ∙ e

pub queue_can : (choice : Option ℕ) (c : Content) (o : QueueOp) → is_some (step c (OnQueue o) 0) ≡ true → CanGive choice c (OnQueue o)
queue_can None c o e = (0, e)
queue_can (Some k) c o e = ap is_some (queue_any c o k) ∙ e

pub cell_gives : (choice : Option ℕ) (c : Content) (o : RefOp) (reply : Reply) (new : Content) → step c (OnCell o) 0 ≡ Some (reply, new) → Gives choice c (OnCell o) reply new
cell_gives None c o reply new e = cell_any c o reply.choice ∙ e
cell_gives (Some k) c o reply new e = cell_any c o k ∙ e

pub cell_waits : (choice : Option ℕ) (c : Content) (o : RefOp) → step c (OnCell o) 0 ≡ None → Waits choice c (OnCell o)
cell_waits None c o e = λ k. cell_any c o k ∙ e
cell_waits (Some k) c o e = cell_any c o k ∙ e

pub cell_can : (choice : Option ℕ) (c : Content) (o : RefOp) → is_some (step c (OnCell o) 0) ≡ true → CanGive choice c (OnCell o)
cell_can None c o e = (0, e)
cell_can (Some k) c o e = ap is_some (cell_any c o k) ∙ e

pub ruleset tries = (panel_gives, panel_waits, panel_can, queue_gives, queue_waits, queue_can, cell_gives, cell_waits, cell_can)
