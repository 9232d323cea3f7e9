-- The clones of a VI, and what an operation on them gives and leaves.
use Rattle.std.specs.Prelude.{ℕ, ◌≡◌, Bool, true, false, List, [], ◌∷◌, slice_get, slice_set, replicate, Option, Some, None, is_some, pos}
use Rattle.g_types.specs.declared.rep.Rep.TheVariants.{U32}
use Rattle.g_values.specs.declared.value.Value.{Value}
use Rattle.g_values.specs.declared.value.Value.TheVariants as value
use Rattle.g_values.specs.Number.{num_of}
use Rattle.g_shared.specs.declared.reply.Reply.{Reply}
use Rattle.g_shared.specs.declared.operations.PoolOp.{PoolOp}
use Rattle.g_shared.specs.declared.operations.PoolOp.TheVariants.{Enter, Leave}
use Rattle.g_shared.specs.Outcome.{Outcome, gives}

-- of each clone whether it is free
abbrev pub PoolState : Type 0
PoolState = List Bool

-- at first all are
abbrev pub new_pool : (clones : ℕ) → PoolState
new_pool clones = replicate clones true

abbrev pub clone_number : ℕ → Value
clone_number k = value.Num (num_of U32 (pos k))

-- a clone, by whether it is free, is taken
abbrev pub enter : PoolState → (clone : ℕ) → Option Bool → Outcome PoolState
enter free k (Some true) = Some (record { values = clone_number k ∷ []; choice = k }, slice_set free k false)
enter free k (Some false) = None
enter free k None = None

-- the choice is the clone that an enter takes; a leave has none
abbrev pub pool_step : PoolState → PoolOp → (choice : ℕ) → Outcome PoolState
pool_step free Enter choice = enter free choice (slice_get free choice)
pool_step free (Leave k) choice = gives [] (slice_set free k true)

-- an operation of the pool: the clone that is left is one of the pool that is taken
abbrev pub IsPoolOp : PoolState → PoolOp → Type 0
IsPoolOp free Enter = Unit {0}
IsPoolOp free (Leave k) = slice_get free k ≡ Some false

-- ---- with a choice or without one

-- what is done: with a choice that clone is given, without one some free clone
abbrev pub Gives : (choice : Option ℕ) → (old : PoolState) → PoolOp → Reply → (new : PoolState) → Type 0
Gives (Some k) old o reply new = pool_step old o k ≡ Some (reply, new)
Gives None old o reply new = pool_step old o reply.choice ≡ Some (reply, new)

-- what has to wait: with a choice for that clone, without one for each
abbrev pub Waits : (choice : Option ℕ) → PoolState → PoolOp → Type 0
Waits (Some k) free o = pool_step free o k ≡ None
Waits None free o = (k : ℕ) → pool_step free o k ≡ None

-- what needn't wait
abbrev pub CanGive : (choice : Option ℕ) → PoolState → PoolOp → Type 0
CanGive (Some k) free o = is_some (pool_step free o k) ≡ true
CanGive None free o = (k : ℕ) × (is_some (pool_step free o k) ≡ true)
