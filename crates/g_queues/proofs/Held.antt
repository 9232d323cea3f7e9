-- The items of a queue, by whether it is live.
use Rattle.std.proofs.Common.{◌≡◌, ◌<◌, Bool, true, false, List, [], ◌∷◌, ◌++◌, length, refl, ap, arith}
use Rattle.std.specs.Prelude.{Some, is_some}
use Rattle.g_values.specs.declared.value.Value.{Value}
use Rattle.g_queues.specs.Queue.{held, items_in}

pub live : (here : Bool) (xs : List Value) → is_some (held here xs) ≡ here
live true xs = refl
live false xs = refl

pub counted : (here : Bool) (xs : List Value) → here ≡ true → length (items_in (held here xs)) ≡ length xs
counted true xs e = refl
counted false xs e = absurd cc

pub not_counted : (here : Bool) (xs : List Value) → here ≡ false → length (items_in (held here xs)) ≡ 0
not_counted true xs e = absurd cc
not_counted false xs e = refl

pub pushed : (here : Bool) (xs ys : List Value) (v : Value) → is_some (held here xs) ≡ true → ys ≡ xs ++ v ∷ [] → held here ys ≡ Some (items_in (held here xs) ++ v ∷ [])
pushed true xs ys v e is = ap Some is
pushed false xs ys v e is = absurd cc

-- there is an item, so that the queue is live
pub some_live : (here : Bool) (xs : List Value) → 0 < length (items_in (held here xs)) → here ≡ true
some_live true xs some = refl
some_live false xs some = absurd (omega arith)

pub popped : (here : Bool) (xs ys : List Value) (v : Value) → here ≡ true → xs ≡ v ∷ ys → held here xs ≡ Some (v ∷ items_in (held here ys))
popped true xs ys v e is = ap Some is
popped false xs ys v e is = absurd cc

pub rest : (here : Bool) (ys : List Value) → here ≡ true → held here ys ≡ Some (items_in (held here ys))
rest true ys e = refl
rest false ys e = absurd cc

pub ruleset items_held = (live, counted, not_counted, pushed, some_live, popped, rest)
