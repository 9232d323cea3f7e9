-- The steps of a queue, by whether the reference is live and by how many items there are.
use Rattle.std.proofs.Common.{◌≡◌, ◌<◌, ℕ, pos, Bool, true, false, List, [], ◌∷◌, ◌++◌, length, refl, sym, ap, ◌∙◌, subst, arith}
use Rattle.std.specs.Prelude.{ℤ, negsuc, ◌<ℤ◌, ◌≤ℤ◌, Option, Some, None, is_some, not, ◌||◌, ◌==◌, nat_lt, int_le, if◌then◌else◌}
use Rattle.std.proofs.lemmas.Bool.{lt-ltb, eq-eqb, ne_eqb}
use Rattle.std.proofs.lemmas.Int.{ints}
use Rattle.g_values.specs.declared.value.Value.{Value}
use Rattle.g_values.specs.Default.{default}
use Rattle.g_shared.specs.Outcome.{Outcome, gives, count, done, not_live}
use Rattle.g_shared.specs.Queues.{QueueState, obtain, add, enqueue, dequeue, release, queue_size, made_live, queue_ref, with_items, live_items, is_full}
use Rattle.g_queues.specs.Queue.{items_in}

-- ---- what can be done

pub obtain_can : (q : QueueState) (m : Option (List Value)) → is_some (obtain q m) ≡ true
obtain_can q None = refl
obtain_can q (Some items) = refl

pub release_can : (q : QueueState) (m : Option (List Value)) → is_some (release q m) ≡ true
release_can q None = refl
release_can q (Some items) = refl

pub size_can : (q : QueueState) (m : Option (List Value)) → is_some (queue_size q m) ≡ true
size_can q None = refl
size_can q (Some items) = refl

add_can : (q : QueueState) (v : Value) (items : List Value) (full : Bool) → is_some (add q v items full) ≡ not full
add_can q v items true = refl
add_can q v items false = refl

enqueue_can_at : (q : QueueState) (v : Value) (here : Bool) (m : Option (List Value)) →
    is_some (enqueue q v (if here then m else None)) ≡ not (is_some (if here then m else None)) || not (is_full q.size (length (items_in m)))
enqueue_can_at q v false m = refl
enqueue_can_at q v true None = refl
enqueue_can_at q v true (Some items) = add_can q v items (is_full q.size (length items))

pub enqueue_can : (q : QueueState) (n : ℕ) (v : Value) →
    is_some (enqueue q v (live_items q n)) ≡ not (is_some (live_items q n)) || not (is_full q.size (length (items_in q.items)))
enqueue_can q n v = enqueue_can_at q v (n == q.serial) q.items

dequeue_can_at : (q : QueueState) (here : Bool) (m : Option (List Value)) →
    is_some (dequeue q (if here then m else None)) ≡ not (is_some (if here then m else None)) || nat_lt 0 (length (items_in m))
dequeue_can_at q false m = refl
dequeue_can_at q true None = refl
dequeue_can_at q true (Some []) = refl
dequeue_can_at q true (Some (v ∷ vs)) = sym (lt-ltb 0 (length (v ∷ vs)) (omega arith))

pub dequeue_can : (q : QueueState) (n : ℕ) →
    is_some (dequeue q (live_items q n)) ≡ not (is_some (live_items q n)) || nat_lt 0 (length (items_in q.items))
dequeue_can q n = dequeue_can_at q (n == q.serial) q.items

-- ---- by a reference that is live

live_at : (here : Bool) (m : Option (List Value)) → is_some (if here then m else None) ≡ true → (if here then m else None) ≡ m
live_at true m e = refl
live_at false m e = absurd cc

-- the items of a live reference are the queue's
pub live_is : (q : QueueState) (n : ℕ) → is_some (live_items q n) ≡ true → live_items q n ≡ q.items
live_is q n e = live_at (n == q.serial) q.items e

pub obtain_live : (q : QueueState) (m : Option (List Value)) → is_some m ≡ true → obtain q m ≡ gives (queue_ref q ∷ []) q
obtain_live q None e = absurd cc
obtain_live q (Some items) e = refl

add_done : (q : QueueState) (v : Value) (items : List Value) (full : Bool) → is_some (add q v items full) ≡ true → add q v items full ≡ gives (done ∷ []) (with_items q (Some (items ++ v ∷ [])))
add_done q v items true e = absurd cc
add_done q v items false e = refl

enqueued : (q : QueueState) (v : Value) (m : Option (List Value)) → is_some m ≡ true → is_some (enqueue q v m) ≡ true →
    enqueue q v m ≡ gives (done ∷ []) (with_items q (Some (items_in m ++ v ∷ [])))
enqueued q v None e can = absurd cc
enqueued q v (Some items) e can = add_done q v items (is_full q.size (length items)) can

pub enqueue_live : (q : QueueState) (n : ℕ) (v : Value) → is_some (live_items q n) ≡ true → is_some (enqueue q v (live_items q n)) ≡ true →
    enqueue q v (live_items q n) ≡ gives (done ∷ []) (with_items q (Some (items_in q.items ++ v ∷ [])))
enqueue_live q n v e can =
    enqueued q v (live_items q n) e can ∙ ap (λ m. gives (done ∷ []) (with_items q (Some (items_in m ++ v ∷ [])))) (live_is q n e)

pub dequeue_live : (q : QueueState) (n : ℕ) (v : Value) (vs : List Value) → is_some (live_items q n) ≡ true → q.items ≡ Some (v ∷ vs) →
    dequeue q (live_items q n) ≡ gives (v ∷ done ∷ []) (with_items q (Some vs))
dequeue_live q n v vs e is = ap (dequeue q) (live_is q n e ∙ is)

holds_some : (q : QueueState) (m : Option (List Value)) → is_some m ≡ true → is_some (dequeue q m) ≡ true → 0 < length (items_in m)
holds_some q None e can = absurd cc
holds_some q (Some []) e can = absurd cc
holds_some q (Some (v ∷ vs)) e can = omega arith

pub dequeue_finds : (q : QueueState) (n : ℕ) → is_some (live_items q n) ≡ true → is_some (dequeue q (live_items q n)) ≡ true → 0 < length (items_in q.items)
dequeue_finds q n e can = subst (λ m. 0 < length (items_in m)) (live_is q n e) (holds_some q (live_items q n) e can)

released : (q : QueueState) (m : Option (List Value)) → is_some m ≡ true → release q m ≡ gives (done ∷ []) (with_items q None)
released q None e = absurd cc
released q (Some items) e = refl

pub release_live : (q : QueueState) (n : ℕ) → is_some (live_items q n) ≡ true → release q (live_items q n) ≡ gives (done ∷ []) (with_items q None)
release_live q n e = released q (live_items q n) e

sized : (q : QueueState) (m : Option (List Value)) → is_some m ≡ true → queue_size q m ≡ gives (count (length (items_in m)) ∷ done ∷ []) q
sized q None e = absurd cc
sized q (Some items) e = refl

pub size_live : (q : QueueState) (n : ℕ) → is_some (live_items q n) ≡ true → queue_size q (live_items q n) ≡ gives (count (length (items_in q.items)) ∷ done ∷ []) q
size_live q n e = sized q (live_items q n) e ∙ ap (λ m. gives (count (length (items_in m)) ∷ done ∷ []) q) (live_is q n e)

-- the queue is live where some reference is
pub live_queue : (q : QueueState) (n : ℕ) → is_some (live_items q n) ≡ true → is_some q.items ≡ true
live_queue q n e = subst (λ m. is_some m ≡ true) (live_is q n e) e

-- ---- by one that isn't live

pub obtain_new : (q : QueueState) (m : Option (List Value)) → is_some m ≡ false → obtain q m ≡ gives (queue_ref (made_live q) ∷ []) (made_live q)
obtain_new q None e = refl
obtain_new q (Some items) e = absurd cc

pub enqueue_old : (q : QueueState) (v : Value) (m : Option (List Value)) → is_some m ≡ false → enqueue q v m ≡ gives (not_live ∷ []) q
enqueue_old q v None e = refl
enqueue_old q v (Some items) e = absurd cc

pub dequeue_old : (q : QueueState) (m : Option (List Value)) → is_some m ≡ false → dequeue q m ≡ gives (default q.item ∷ not_live ∷ []) q
dequeue_old q None e = refl
dequeue_old q (Some items) e = absurd cc

pub release_old : (q : QueueState) (m : Option (List Value)) → is_some m ≡ false → release q m ≡ gives (not_live ∷ []) q
release_old q None e = refl
release_old q (Some items) e = absurd cc

pub size_old : (q : QueueState) (m : Option (List Value)) → is_some m ≡ false → queue_size q m ≡ gives (count 0 ∷ not_live ∷ []) q
size_old q None e = refl
size_old q (Some items) e = absurd cc

-- ---- what waits, and when a queue is full

pub no_step : {S : Type 0} (m : Outcome S) → is_some m ≡ false → m ≡ None
no_step None e = refl
no_step (Some done) e = absurd cc

pub full_none : (size : ℤ) (k : ℕ) → size <ℤ pos 0 → is_full size k ≡ false
full_none (pos n) k less = absurd (omega (arith, ints))
full_none (negsuc n) k less = refl

pub full_is : (size : ℤ) (k : ℕ) → pos 0 ≤ℤ size → is_full size k ≡ int_le size (pos k)
full_is (pos n) k more = refl
full_is (negsuc n) k more = absurd (omega (arith, ints))

-- ---- when a reference is live

pub live_here : (q : QueueState) (n : ℕ) → n ≡ q.serial → live_items q n ≡ q.items
live_here q n e = ap (λ b. if b then q.items else None) (eq-eqb n q.serial e)

pub live_not : (q : QueueState) (n : ℕ) → (n ≡ q.serial → ⊥) → live_items q n ≡ None
live_not q n ne = ap (λ b. if b then q.items else None) (ne_eqb n q.serial ne)

pub ruleset steps = (obtain_can, release_can, size_can, enqueue_can, dequeue_can, obtain_live, obtain_new, enqueue_live, enqueue_old, dequeue_live, dequeue_old, dequeue_finds, release_live, release_old, size_live, size_old, live_queue, live_is, live_here, live_not)

pub ruleset sizes = (full_none, full_is)
