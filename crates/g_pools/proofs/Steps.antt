-- The steps of a pool, by whether the clone is free.
use Rattle.std.proofs.Common.{◌≡◌, ◌<◌, ◌≤◌, ℕ, zero, suc, Bool, true, false, List, [], ◌∷◌, length, take, set, refl, sym, ap, ◌∙◌, subst, arith}
use Rattle.std.specs.Prelude.{Option, Some, None, is_some, slice_get, slice_set}
use Rattle.std.proofs.lemmas.List.{set_past}
use Rattle.std.proofs.lemmas.Option.{slice_get_within, slice_get_past}
use Rattle.g_values.specs.declared.value.Value.{Value}
use Rattle.g_shared.specs.Outcome.{Outcome, reply_of}
use Rattle.g_shared.specs.declared.operations.PoolOp.TheVariants.{Leave}
use Rattle.g_shared.specs.declared.reply.Reply.{Reply}
use Rattle.g_shared.specs.Pools.{PoolState, pool_step, enter, clone_number, Gives}

entered_can : (free : List Bool) (k : ℕ) (b : Bool) → is_some (enter free k (Some b)) ≡ b
entered_can free k true = refl
entered_can free k false = refl

-- a clone can be entered where it is free
pub enter_can : (free : List Bool) (k : ℕ) (b : Bool) → slice_get free k ≡ Some b → is_some (enter free k (slice_get free k)) ≡ b
enter_can free k b e = ap (λ m. is_some (enter free k m)) e ∙ entered_can free k b

pub enter_past : (free : List Bool) (k : ℕ) → length free ≤ k → is_some (enter free k (slice_get free k)) ≡ false
enter_past free k far = ap (λ m. is_some (enter free k m)) (slice_get_past free k far)

is_free : (free : List Bool) (k : ℕ) (m : Option Bool) → is_some (enter free k m) ≡ true → m ≡ Some true
is_free free k (Some true) e = refl
is_free free k (Some false) e = absurd cc
is_free free k None e = absurd cc

pub enter_within : (free : List Bool) (k : ℕ) → is_some (enter free k (slice_get free k)) ≡ true → k < length free
enter_within free k e = slice_get_within free k true (is_free free k (slice_get free k) e)

-- what an enter gives
enter_free : (free : List Bool) (k : ℕ) → is_some (enter free k (slice_get free k)) ≡ true →
    enter free k (slice_get free k) ≡ Some (record { values = clone_number k ∷ []; choice = k }, slice_set free k false)
enter_free free k e = ap (enter free k) (is_free free k (slice_get free k) e)

pub entered : (old new : List Bool) (k : ℕ) (values : List Value) → is_some (enter old k (slice_get old k)) ≡ true → values ≡ clone_number k ∷ [] → new ≡ slice_set old k false →
    enter old k (slice_get old k) ≡ Some (record { values = values; choice = k }, new)
entered old new k values e given taken = rw (given, taken) (enter_free old k e)

pub no_step : {S : Type 0} (m : Outcome S) → is_some m ≡ false → m ≡ None
no_step None e = refl
no_step (Some done) e = absurd cc

or_false : (b : Bool) → (b ≡ true → b ≡ false) → b ≡ false
or_false true f = f refl
or_false false f = refl

-- where none of the first clones is free, and there are no others, none is
pub none_free : (free : List Bool) (n : ℕ) → length free ≤ n → ((k : ℕ) → k < n → is_some (enter free k (slice_get free k)) ≡ false) →
    (k : ℕ) → is_some (enter free k (slice_get free k)) ≡ false
none_free free n long below k =
    or_false (is_some (enter free k (slice_get free k))) (λ yes. let less = enter_within free k yes in below k (omega arith))

pub left : (old new : List Bool) (k : ℕ) (reply : Reply) → reply ≡ reply_of [] → new ≡ slice_set old k true → pool_step old (Leave k) 0 ≡ Some (reply, new)
left old new k reply given freed = rw (given, freed) refl

-- nothing changes where there is no such clone
pub left_none : (old : List Bool) (k : ℕ) (reply : Reply) → reply ≡ reply_of [] → length old ≤ k → pool_step old (Leave k) 0 ≡ Some (reply, old)
left_none old k reply given past = left old old k reply given (sym (set_past old k true past))

-- a leave has no choice
pub leave_gives : (choice : Option ℕ) (old : PoolState) (k : ℕ) (reply : Reply) (new : PoolState) → pool_step old (Leave k) 0 ≡ Some (reply, new) → Gives choice old (Leave k) reply new
leave_gives None old k reply new e = e
leave_gives (Some j) old k reply new e = e

-- ---- the first clones of an array

pub get_first : (xs : List Bool) (n k : ℕ) → k < n → slice_get (take n xs) k ≡ slice_get xs k
get_first [] zero k less = refl
get_first [] (suc n) k less = refl
get_first (x ∷ xs) zero k less = absurd (omega arith)
get_first (x ∷ xs) (suc n) zero less = refl
get_first (x ∷ xs) (suc n) (suc k) less = get_first xs n k (omega arith)

set_first : (xs : List Bool) (n k : ℕ) (b : Bool) → k < n → take n (set xs k b) ≡ set (take n xs) k b
set_first [] zero k b less = refl
set_first [] (suc n) k b less = refl
set_first (x ∷ xs) zero k b less = absurd (omega arith)
set_first (x ∷ xs) (suc n) zero b less = refl
set_first (x ∷ xs) (suc n) (suc k) b less = ap (λ ys. x ∷ ys) (set_first xs n k b (omega arith))

-- the same of the pool that they are
pub set_pool : (xs old : List Bool) (n k : ℕ) (b : Bool) → take n xs ≡ old → k < n → take n (set xs k b) ≡ slice_set old k b
set_pool xs old n k b are less = set_first xs n k b less ∙ ap (λ ys. set ys k b) are

at_most : (xs : List Bool) (n : ℕ) → length (take n xs) ≤ n
at_most [] zero = omega arith
at_most [] (suc n) = omega arith
at_most (x ∷ xs) zero = omega arith
at_most (x ∷ xs) (suc n) = let fewer = at_most xs n in omega arith

pub within_pool : (xs old : List Bool) (n k : ℕ) → take n xs ≡ old → k < length old → k < n
within_pool xs old n k are less = let few = subst (λ ys. length ys ≤ n) are (at_most xs n) in omega arith

pub past_pool : (xs old : List Bool) (n k : ℕ) → take n xs ≡ old → n ≤ k → length old ≤ k
past_pool xs old n k are past = let few = subst (λ ys. length ys ≤ n) are (at_most xs n) in omega arith

-- an array has all the clones
pub count : (xs : List Bool) (n : ℕ) → n ≤ length xs → n ≡ length (take n xs)
count [] zero less = refl
count [] (suc n) less = absurd (omega arith)
count (x ∷ xs) zero less = refl
count (x ∷ xs) (suc n) less = ap (λ k. suc k) (count xs n (omega arith))

pub ruleset steps = (enter_can, enter_past, enter_within, no_step, none_free, leave_gives, get_first)
