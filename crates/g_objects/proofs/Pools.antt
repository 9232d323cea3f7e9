-- The steps of an object by the operations of a pool, with a choice or without one.
use Rattle.std.proofs.Common.{◌≡◌, ℕ, true, false, refl, ap, ◌∙◌, subst, sym}
use Rattle.std.specs.Prelude.{Option, Some, None, is_some}
use Rattle.g_shared.specs.declared.operations.PoolOp.{PoolOp}
use Rattle.g_shared.specs.declared.reply.Reply.{Reply}
use Rattle.g_shared.specs.Panels.{PanelState}
use Rattle.g_shared.specs.Queues.{QueueState}
use Rattle.g_shared.specs.Cells.{CellState}
use Rattle.g_shared.specs.Pools as pools
use Rattle.g_shared.specs.Pools.{PoolState, pool_step}
use Rattle.g_frames.specs.Contents.{Content, Panel, Queue, Cell, Pool}
use Rattle.g_objects.specs.declared.operation.Operation.TheVariants.{OnPool}
use Rattle.g_objects.specs.Operations.{step, Gives, Waits, CanGive}
use Rattle.g_objects.proofs.Steps.{done_as, none_as, some_as, can_as}

gives_as : (choice : Option ℕ) (s t : PoolState) (o : PoolOp) (reply : Reply) → pools.Gives choice s o reply t → Gives choice (Pool s) (OnPool o) reply (Pool t)
gives_as None s t o reply e = done_as Pool (pool_step s o reply.choice) reply t e
gives_as (Some k) s t o reply e = done_as Pool (pool_step s o k) reply t e

waits_as : (choice : Option ℕ) (s : PoolState) (o : PoolOp) → pools.Waits choice s o → Waits choice (Pool s) (OnPool o)
waits_as None s o e = λ k. none_as Pool (pool_step s o k) (e k)
waits_as (Some k) s o e = none_as Pool (pool_step s o k) e

goes_as : (choice : Option ℕ) (s : PoolState) (o : PoolOp) → pools.CanGive choice s o → CanGive choice (Pool s) (OnPool o)
goes_as None s o e = (e.0, can_as Pool (pool_step s o e.0) e.1)
goes_as (Some k) s o e = can_as Pool (pool_step s o k) e

pub done : (choice : Option ℕ) (old new : Content) (s t : PoolState) (o : PoolOp) (reply : Reply) → old ≡ Pool s → new ≡ Pool t → pools.Gives choice s o reply t → Gives choice old (OnPool o) reply new
done choice old new s t o reply was is e = rw (was, is) (gives_as choice s t o reply e)

pub waits : (choice : Option ℕ) (old : Content) (s : PoolState) (o : PoolOp) → old ≡ Pool s → pools.Waits choice s o → Waits choice old (OnPool o)
waits choice old s o was e = rw was (waits_as choice s o e)

pub goes : (choice : Option ℕ) (old : Content) (s : PoolState) (o : PoolOp) → old ≡ Pool s → pools.CanGive choice s o → CanGive choice old (OnPool o)
goes choice old s o was e = rw was (goes_as choice s o e)

pub can_pool : (old : Content) (s : PoolState) (o : PoolOp) (k : ℕ) → old ≡ Pool s → is_some (step old (OnPool o) k) ≡ is_some (pool_step s o k)
can_pool old s o k was = rw was (some_as Pool (pool_step s o k))

never : (choice : Option ℕ) (c : Content) (o : PoolOp) → ((k : ℕ) → step c (OnPool o) k ≡ None) → Waits choice c (OnPool o)
never None c o e = e
never (Some k) c o e = e k

pub waits_panel : (choice : Option ℕ) (old : Content) (s : PanelState) (o : PoolOp) → old ≡ Panel s → Waits choice old (OnPool o)
waits_panel choice old s o was = never choice old o (λ k. ap (λ c. step c (OnPool o) k) was)

pub not_panel : (old : Content) (s : PanelState) (o : PoolOp) (k : ℕ) → old ≡ Panel s → is_some (step old (OnPool o) k) ≡ false
not_panel old s o k was = ap (λ c. is_some (step c (OnPool o) k)) was

pub waits_queue : (choice : Option ℕ) (old : Content) (s : QueueState) (o : PoolOp) → old ≡ Queue s → Waits choice old (OnPool o)
waits_queue choice old s o was = never choice old o (λ k. ap (λ c. step c (OnPool o) k) was)

pub not_queue : (old : Content) (s : QueueState) (o : PoolOp) (k : ℕ) → old ≡ Queue s → is_some (step old (OnPool o) k) ≡ false
not_queue old s o k was = ap (λ c. is_some (step c (OnPool o) k)) was

pub waits_cell : (choice : Option ℕ) (old : Content) (s : CellState) (o : PoolOp) → old ≡ Cell s → Waits choice old (OnPool o)
waits_cell choice old s o was = never choice old o (λ k. ap (λ c. step c (OnPool o) k) was)

pub not_cell : (old : Content) (s : CellState) (o : PoolOp) (k : ℕ) → old ≡ Cell s → is_some (step old (OnPool o) k) ≡ false
not_cell old s o k was = ap (λ c. is_some (step c (OnPool o) k)) was

pub ruleset steps = (done, waits, goes, waits_panel, waits_queue, waits_cell)

pub ruleset can = (can_pool, not_panel, not_queue, not_cell)
