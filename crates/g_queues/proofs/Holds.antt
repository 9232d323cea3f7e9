-- What holds of every queue stays, by what became of its items.
use Rattle.std.proofs.Common.{◌≡◌, List, [], ◌∷◌, ◌++◌, sym, ap, subst}
use Rattle.std.specs.Prelude.{ℤ, Option, Some, None}
use Rattle.std.specs.List.{All}
use Rattle.std.proofs.lemmas.List.Elements.{All-nil, All-head, All-tail, All-push, All-same}
use Rattle.g_types.specs.declared.ty.Ty.{Ty}
use Rattle.g_types.specs.declared.ty.Ty.TheVariants as ty
use Rattle.g_values.specs.declared.value.Value.{Value}
use Rattle.g_values.specs.Proper.{IsProper}
use Rattle.g_values.specs.Spelled.{IsSpelled}
use Rattle.g_values.specs.Typed.{IsOfType}
use Rattle.g_shared.specs.Queues.{IsSize}
use Rattle.g_shared.proofs.References.{spelled_in_queue}
use Rattle.g_queues.specs.Queue.{IsQueue, items_in}

holding : (t : Ty) (size : ℤ) (old new : Option (List Value)) → IsQueue t size old → All (IsOfType t) (items_in new) → IsQueue t size new
holding t size old new q typed = record { spelled = q.spelled; bounded = q.bounded; typed = typed }

pub of_new : (t : Ty) (size : ℤ) (new : Option (List Value)) → new ≡ None → IsSpelled (ty.QueueRef t) → IsSize size → IsQueue t size new
of_new t size new e spelled bounded =
    record { spelled = spelled; bounded = bounded; typed = All-same (IsOfType t) (items_in new) [] (ap items_in e) (All-nil (IsOfType t)) }

pub of_same : (t : Ty) (size : ℤ) (old new : Option (List Value)) → new ≡ old → IsQueue t size old → IsQueue t size new
of_same t size old new e q = subst (IsQueue t size) (sym e) q

pub of_none : (t : Ty) (size : ℤ) (old new : Option (List Value)) → items_in new ≡ [] → IsQueue t size old → IsQueue t size new
of_none t size old new e q = holding t size old new q (All-same (IsOfType t) (items_in new) [] e (All-nil (IsOfType t)))

pub of_more : (t : Ty) (size : ℤ) (old new : Option (List Value)) (v : Value) → new ≡ Some (items_in old ++ v ∷ []) → IsOfType t v → IsQueue t size old → IsQueue t size new
of_more t size old new v e typed q =
    holding t size old new q (All-same (IsOfType t) (items_in new) (items_in old ++ v ∷ []) (ap items_in e) (All-push (IsOfType t) (items_in old) v q.typed typed))

all_before : (t : Ty) (size : ℤ) (old : Option (List Value)) (v : Value) (vs : List Value) → old ≡ Some (v ∷ vs) → IsQueue t size old → All (IsOfType t) (v ∷ vs)
all_before t size old v vs e q = subst (All (IsOfType t)) (ap items_in e) q.typed

pub of_rest : (t : Ty) (size : ℤ) (old new : Option (List Value)) (v : Value) → old ≡ Some (v ∷ items_in new) → IsQueue t size old → IsQueue t size new
of_rest t size old new v e q =
    holding t size old new q (All-tail (IsOfType t) v (items_in new) (all_before t size old v (items_in new) e q))

pub front_proper : (t : Ty) (size : ℤ) (old new : Option (List Value)) (v : Value) → old ≡ Some (v ∷ items_in new) → IsQueue t size old → IsProper v
front_proper t size old new v e q = (All-head (IsOfType t) v (items_in new) (all_before t size old v (items_in new) e q)).proper

pub item_spelled : (t : Ty) (size : ℤ) (m : Option (List Value)) → IsQueue t size m → IsSpelled t
item_spelled t size m q = spelled_in_queue t q.spelled

pub ruleset holds = (of_new, of_same, of_none, of_more, of_rest, front_proper, item_spelled)
