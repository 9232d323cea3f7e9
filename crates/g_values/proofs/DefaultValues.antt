-- A default is of its type, and proper where a listing can write the type.
use Rattle.std.proofs.Common.{◌≡◌, ◌≤◌, false, List, [], ◌∷◌, map, refl, ap, sym, ◌∙◌, subst, arith, None, pos, Ok, Err}
use Rattle.std.specs.Prelude.{Result, IfOk}
use Rattle.std.specs.declared.alloc.AllocError.{AllocError}
use Rattle.std.specs.List.{All}
use Rattle.std.proofs.lemmas.List.{length-map}
use Rattle.std.proofs.lemmas.List.Elements.{All-nil, All-cons, All-head, All-tail}
use Rattle.g_types.specs.declared.ty.Ty.{Ty, out-Ty}
use Rattle.g_types.specs.declared.ty.Ty.TheVariants as ty
use Rattle.g_types.specs.declared.ty.Ty.TheViews.{roll-Ty, roll-out-Ty}
use Rattle.g_types.specs.declared.ty.Ty.TheOpen.{Ty-F}
use Rattle.g_types.specs.declared.ty.Ty.TheFolds.{ind-Ty, map-Ty, every_here-Ty}
use Rattle.g_types.specs.Ty.{is_num, is_num_at}
use Rattle.g_values.specs.declared.value.ArrOf.{ArrOf}
use Rattle.g_values.specs.declared.value.RefValue.{RefValue}
use Rattle.g_values.specs.declared.value.Value.{Value}
use Rattle.g_values.specs.declared.value.Value.TheVariants as value
use Rattle.g_values.specs.declared.value.Value.TheOpen.{Value-F}
use Rattle.g_values.specs.declared.value.Value.TheFolds.{every_made-Value, map-Value}
use Rattle.g_values.specs.declared.value.Value.TheViews.{roll-Value}
use Rattle.g_values.specs.Number.{num_of}
use Rattle.g_values.specs.Numbers.{empty}
use Rattle.g_values.specs.Value.{type_of}
use Rattle.g_values.specs.Default.{default, empty_at}
use Rattle.g_values.specs.Proper.{IsProper, IsLayer, IsWhole, IsCluster}
use Rattle.g_values.specs.Spelled.{IsSpelled, IsTypeLayer, IsWholeType, is_array}
use Rattle.g_values.proofs.SpelledTypes.{whole-parts}
use Rattle.g_values.proofs.TypesOf.{type-Num, type-Bool, type-Str, type-Nums, type-Arr, type-Cluster, type-Queue, type-Cell}
use Rattle.g_values.proofs.ProperLemmas.{whole-made_cluster}
use Rattle.g_values.proofs.Defaults.{default-Num, default-Bool, default-Str, default-Arr, default-QueueRef, default-ValueRef, default-Cluster}

-- the type of an empty array
type-empty_at : (t : Ty) (k : Ty-F Ty) → out-Ty t ≡ k → type_of (empty_at t k) ≡ ty.Arr t
type-empty_at t (Ty-F.Num r) e = type-Nums (empty r) ∙ ap ty.Arr (sym (sym (roll-out-Ty t) ∙ ap roll-Ty e ∙ ty.rolls-Num r))
type-empty_at t Ty-F.Bool e = type-Arr _
type-empty_at t Ty-F.Str e = type-Arr _
type-empty_at t (Ty-F.Arr x) e = type-Arr _
type-empty_at t (Ty-F.Cluster x) e = type-Arr _
type-empty_at t (Ty-F.QueueRef x) e = type-Arr _
type-empty_at t (Ty-F.ValueRef x) e = type-Arr _

abbrev IsItsType : Ty → Type 0
IsItsType t = type_of (default t) ≡ t

abbrev Typed : Type 0
Typed = (t : Ty) × IsItsType t

each_typed : (ps : List Typed) → map type_of (map default (map (λ p. p.0) ps)) ≡ map (λ p. p.0) ps
each_typed [] = refl
each_typed (p ∷ ps) = ap (λ t. t ∷ map type_of (map default (map (λ p. p.0) ps))) p.1 ∙ ap (λ l. p.0 ∷ l) (each_typed ps)

typed_level : (y : Ty-F Typed) → IsItsType (roll-Ty (map-Ty Typed Ty (λ p. p.0) y))
typed_level (Ty-F.Num r) = subst IsItsType (sym (ty.rolls-Num r)) (ap type_of (default-Num r) ∙ type-Num (num_of r (pos 0)))
typed_level Ty-F.Bool = subst IsItsType (sym ty.rolls-Bool) (ap type_of default-Bool ∙ type-Bool false)
typed_level Ty-F.Str = subst IsItsType (sym ty.rolls-Str) (ap type_of default-Str ∙ type-Str [])
typed_level (Ty-F.Arr p) = subst IsItsType (sym (ty.rolls-Arr p.0)) (ap type_of (default-Arr p.0) ∙ type-empty_at p.0 (out-Ty p.0) refl)
typed_level (Ty-F.Cluster ps) =
    let ts = map (λ p. p.0) ps in
    subst IsItsType (sym (ty.rolls-Cluster ts)) (ap type_of (default-Cluster ts) ∙ type-Cluster (map default ts) ∙ ap ty.Cluster (each_typed ps))
typed_level (Ty-F.QueueRef p) = subst IsItsType (sym (ty.rolls-QueueRef p.0)) (ap type_of (default-QueueRef p.0) ∙ type-Queue _)
typed_level (Ty-F.ValueRef p) = subst IsItsType (sym (ty.rolls-ValueRef p.0)) (ap type_of (default-ValueRef p.0) ∙ type-Cell _)

-- a default is of its type
pub type-default : (t : Ty) → type_of (default t) ≡ t
type-default = ind-Ty IsItsType (λ x y is. subst (λ l. IsItsType (roll-Ty l)) is (typed_level y))

-- wholeness, by the levels of a type
abbrev IsWholeDefault : Ty → Type 0
IsWholeDefault t = IsWholeType t → IsWhole (default t)

abbrev Defaulted : Type 0
Defaulted = (t : Ty) × IsWholeDefault t

-- values without parts
abbrev Wholes : Type 0
Wholes = (v : Value) × IsWhole v

leaf : (x : Value-F Value) (y : Value-F Wholes) → map-Value Wholes Value (λ p. p.0) y ≡ x → IsLayer x → {v : Value} → roll-Value x ≡ v → IsWhole v
leaf x y e layer is = subst IsWhole is (every_made-Value IsLayer x y e layer)

null_queue : (t : Ty) → IsWhole (value.Queue (record { elem = t; at = None }))
null_queue t = let r : RefValue = record { elem = t; at = None } in leaf (Value-F.Queue r) (Value-F.Queue r) refl tt (value.rolls-Queue r)

null_cell : (t : Ty) → IsWhole (value.Cell (record { elem = t; at = None }))
null_cell t = let r : RefValue = record { elem = t; at = None } in leaf (Value-F.Cell r) (Value-F.Cell r) refl tt (value.rolls-Cell r)

empty_values : (t : Ty) → is_num t ≡ false → is_array t ≡ false → IsWhole (value.Arr (record { elem = t; items = [] }))
empty_values t no_number no_array =
    let xs : ArrOf Value = record { elem = t; items = [] } in
    leaf (Value-F.Arr xs) (Value-F.Arr (record { elem = t; items = [] })) refl (record { few = omega arith; one_type = All-nil _; no_number = no_number; no_array = no_array }) (value.rolls-Arr xs)

whole_empty : (t : Ty) (k : Ty-F Ty) → out-Ty t ≡ k → is_array t ≡ false → IsWhole (empty_at t k)
whole_empty t (Ty-F.Num r) e not_array = subst IsWhole (value.rolls-Nums (empty r)) (every_made-Value IsLayer (Value-F.Nums (empty r)) (Value-F.Nums (empty r)) refl (omega arith))
whole_empty t Ty-F.Bool e not_array = empty_values t (ap is_num_at e) not_array
whole_empty t Ty-F.Str e not_array = empty_values t (ap is_num_at e) not_array
whole_empty t (Ty-F.Arr x) e not_array = empty_values t (ap is_num_at e) not_array
whole_empty t (Ty-F.Cluster x) e not_array = empty_values t (ap is_num_at e) not_array
whole_empty t (Ty-F.QueueRef x) e not_array = empty_values t (ap is_num_at e) not_array
whole_empty t (Ty-F.ValueRef x) e not_array = empty_values t (ap is_num_at e) not_array

each_whole : (ps : List Defaulted) → All IsWholeType (map (λ p. p.0) ps) → All IsWhole (map default (map (λ p. p.0) ps))
each_whole [] all = All-nil IsWhole
each_whole (p ∷ ps) all =
    let ts = map (λ p. p.0) ps in
    All-cons IsWhole (default p.0) (map default ts) (p.1 (All-head IsWholeType p.0 ts all)) (each_whole ps (All-tail IsWholeType p.0 ts all))

whole_cluster : (ps : List Defaulted) → IsWholeType (ty.Cluster (map (λ p. p.0) ps)) → IsWhole (value.Cluster (map default (map (λ p. p.0) ps)))
whole_cluster ps w =
    let ts = map (λ p. p.0) ps in
    let many = length-map ts default in
    let layer = subst IsTypeLayer (ty.outs-Cluster ts) (every_here-Ty IsTypeLayer (ty.Cluster ts) w) in
    let vs : IsCluster (map default ts) = record { some = subst (λ n. 1 ≤ n) (sym many) layer.some; few = subst (λ n. n ≤ 64) (sym many) layer.few } in
    whole-made_cluster (map default ts) vs (each_whole ps (whole-parts ts w))

whole_level : (y : Ty-F Defaulted) → IsWholeDefault (roll-Ty (map-Ty Defaulted Ty (λ p. p.0) y))
whole_level (Ty-F.Num r) = subst IsWholeDefault (sym (ty.rolls-Num r)) (λ w. subst IsWhole (sym (default-Num r)) (leaf (Value-F.Num (num_of r (pos 0))) (Value-F.Num (num_of r (pos 0))) refl tt (value.rolls-Num _)))
whole_level Ty-F.Bool = subst IsWholeDefault (sym ty.rolls-Bool) (λ w. subst IsWhole (sym default-Bool) (leaf (Value-F.Bool false) (Value-F.Bool false) refl tt (value.rolls-Bool _)))
whole_level Ty-F.Str = subst IsWholeDefault (sym ty.rolls-Str) (λ w. subst IsWhole (sym default-Str) (leaf (Value-F.Str []) (Value-F.Str []) refl (omega arith) (value.rolls-Str _)))
whole_level (Ty-F.Arr p) = subst IsWholeDefault (sym (ty.rolls-Arr p.0)) (λ w. subst IsWhole (sym (default-Arr p.0)) (whole_empty p.0 (out-Ty p.0) refl (subst IsTypeLayer (ty.outs-Arr p.0) (every_here-Ty IsTypeLayer (ty.Arr p.0) w))))
whole_level (Ty-F.Cluster ps) =
    let ts = map (λ p. p.0) ps in
    subst IsWholeDefault (sym (ty.rolls-Cluster ts)) (λ w. subst IsWhole (sym (default-Cluster ts)) (whole_cluster ps w))
whole_level (Ty-F.QueueRef p) = subst IsWholeDefault (sym (ty.rolls-QueueRef p.0)) (λ w. subst IsWhole (sym (default-QueueRef p.0)) (null_queue p.0))
whole_level (Ty-F.ValueRef p) = subst IsWholeDefault (sym (ty.rolls-ValueRef p.0)) (λ w. subst IsWhole (sym (default-ValueRef p.0)) (null_cell p.0))

whole-default : (t : Ty) → IsWholeDefault t
whole-default = ind-Ty IsWholeDefault (λ x y is. subst (λ l. IsWholeDefault (roll-Ty l)) is (whole_level y))

-- a default is proper
pub proper-default : (t : Ty) → IsSpelled t → IsProper (default t)
proper-default t s = record { whole = whole-default t s.whole; spelled = subst IsSpelled (sym (type-default t)) s }

-- of the answer of a call
pub typed_answer : (t : Ty) (r : Result Value AllocError) → IfOk r (λ v. v ≡ default t) → IfOk r (λ v. type_of v ≡ t)
typed_answer t (Ok v) e = ap type_of e ∙ type-default t
typed_answer t (Err x) e = tt

pub proper_answer : (t : Ty) (r : Result Value AllocError) → IfOk r (λ v. v ≡ default t) → IsSpelled t → IfOk r IsProper
proper_answer t (Ok v) e s = subst IsProper (sym e) (proper-default t s)
proper_answer t (Err x) e s = tt
