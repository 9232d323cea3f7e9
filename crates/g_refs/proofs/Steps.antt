-- The steps of a cell, by whether the reference is live.
use Rattle.std.proofs.Common.{◌≡◌, ℕ, Bool, true, false, List, [], ◌∷◌, ◌++◌, refl, ap, ◌∙◌}
use Rattle.std.specs.Prelude.{Option, Some, None, is_some, ◌==◌, if◌then◌else◌}
use Rattle.std.specs.Option.{unwrap_or}
use Rattle.g_values.specs.declared.value.Value.{Value}
use Rattle.g_values.specs.Default.{default}
use Rattle.g_shared.specs.declared.reply.Reply.{Reply}
use Rattle.g_shared.specs.Outcome.{reply_of, gives, done, not_live}
use Rattle.g_shared.specs.Cells.{CellState, Body, delete, keeping, live_value, in_place}
use Rattle.g_refs.specs.Cell.{Places}

live_at : (here : Bool) (m : Option Value) → is_some (if here then m else None) ≡ true → (if here then m else None) ≡ m
live_at true m e = refl
live_at false m e = absurd cc

-- the value of a live reference is the cell's
pub live_is : (c : CellState) (n : ℕ) → is_some (live_value c n) ≡ true → live_value c n ≡ c.kept
live_is c n e = live_at (n == c.serial) c.kept e

pub delete_live : (c : CellState) (n : ℕ) (v : Value) → is_some (live_value c n) ≡ true → c.kept ≡ Some v → delete c (live_value c n) ≡ gives (v ∷ done ∷ []) (keeping c None)
delete_live c n v e is = ap (delete c) (live_is c n e ∙ is)

pub delete_old : (c : CellState) (m : Option Value) → is_some m ≡ false → delete c m ≡ gives (default c.content ∷ not_live ∷ []) c
delete_old c None e = refl
delete_old c (Some v) e = absurd cc

pub delete_can : (c : CellState) (m : Option Value) → is_some (delete c m) ≡ true
delete_can c None = refl
delete_can c (Some v) = refl

-- ---- operations in place

placed : (c : CellState) (m : Option Value) (v : Value) (outputs : List Value) → is_some m ≡ true → (inputs : List Value) (body : Body) →
    body (unwrap_or m (default c.content)) inputs ≡ (v, outputs) → in_place c inputs body m ≡ gives (outputs ++ done ∷ []) (keeping c (Some v))
placed c None v outputs e inputs body makes = absurd cc
placed c (Some w) v outputs e inputs body makes = ap (λ (r : Value × List Value). gives (r.1 ++ done ∷ []) (keeping c (Some r.0))) makes

dropped : (c : CellState) (m : Option Value) (v : Value) (outputs : List Value) → is_some m ≡ false → (inputs : List Value) (body : Body) →
    body (unwrap_or m (default c.content)) inputs ≡ (v, outputs) → in_place c inputs body m ≡ gives (outputs ++ not_live ∷ []) c
dropped c None v outputs e inputs body makes = ap (λ (r : Value × List Value). gives (r.1 ++ not_live ∷ []) c) makes
dropped c (Some w) v outputs e inputs body makes = absurd cc

pub place_live : (c new : CellState) (n : ℕ) (v : Value) (outputs : List Value) (reply : Reply) → is_some (live_value c n) ≡ true → reply ≡ reply_of (outputs ++ done ∷ []) → new ≡ keeping c (Some v) → Places c n v outputs reply new
place_live c new n v outputs reply e given kept = λ inputs body makes. rw (given, kept) (placed c (live_value c n) v outputs e inputs body makes)

pub place_old : (c new : CellState) (n : ℕ) (v : Value) (outputs : List Value) (reply : Reply) → is_some (live_value c n) ≡ false → reply ≡ reply_of (outputs ++ not_live ∷ []) → new ≡ c → Places c n v outputs reply new
place_old c new n v outputs reply e given same = λ inputs body makes. rw (given, same) (dropped c (live_value c n) v outputs e inputs body makes)

-- ---- when a reference isn't live

none_of : (m : Option Value) → is_some m ≡ false → m ≡ None
none_of None e = refl
none_of (Some v) e = absurd cc

pub live_none : (c : CellState) (n : ℕ) → is_some (live_value c n) ≡ false → live_value c n ≡ None
live_none c n e = none_of (live_value c n) e

pub ruleset steps = (live_is, delete_live, delete_old, delete_can, place_live, place_old, live_none)
