-- Types that a listing can write, by their variants.
use Rattle.std.proofs.Common.{◌≡◌, ◌≤◌, ◌<◌, ℕ, false, List, [], ◌∷◌, map, get_or, refl, ap, sym, ◌∙◌, subst, arith}
use Rattle.std.specs.List.{All}
use Rattle.std.proofs.lemmas.List.Elements.{All-nil, All-cons, All-head, All-tail, All-map, All-same}
use Rattle.g_types.specs.declared.rep.Rep.{Rep}
use Rattle.g_types.specs.declared.ty.Ty.{Ty}
use Rattle.g_types.specs.declared.ty.Ty.TheVariants as ty
use Rattle.g_types.specs.declared.ty.Ty.TheOpen.{Ty-F}
use Rattle.g_types.specs.declared.ty.Ty.TheFolds.{map-Ty, every_made-Ty, every_here-Ty, every_held-Ty}
use Rattle.g_types.specs.Ty.{depth, greatest}
use Rattle.g_types.proofs.Depths.{depth-Num, depth-Bool, depth-Str, depth-Arr, depth-QueueRef, depth-ValueRef, depth-Cluster}
use Rattle.g_values.specs.Spelled.{IsSpelled, IsTypeLayer, IsWholeType, IsClusterType, is_array, is_array_at}

-- ---- levels

abbrev WholeTypes : Type 0
WholeTypes = (t : Ty) × IsWholeType t

whole-Num : (r : Rep) → IsWholeType (ty.Num r)
whole-Num r = subst IsWholeType (ty.rolls-Num r) (every_made-Ty IsTypeLayer (Ty-F.Num r) (Ty-F.Num r) refl tt)

whole-Bool : IsWholeType ty.Bool
whole-Bool = subst IsWholeType ty.rolls-Bool (every_made-Ty IsTypeLayer Ty-F.Bool Ty-F.Bool refl tt)

whole-Str : IsWholeType ty.Str
whole-Str = subst IsWholeType ty.rolls-Str (every_made-Ty IsTypeLayer Ty-F.Str Ty-F.Str refl tt)

whole-Arr : (t : Ty) → is_array t ≡ false → IsWholeType t → IsWholeType (ty.Arr t)
whole-Arr t not_array w = subst IsWholeType (ty.rolls-Arr t) (every_made-Ty IsTypeLayer (Ty-F.Arr t) (Ty-F.Arr (t, w)) refl not_array)

whole-QueueRef : (t : Ty) → IsWholeType t → IsWholeType (ty.QueueRef t)
whole-QueueRef t w = subst IsWholeType (ty.rolls-QueueRef t) (every_made-Ty IsTypeLayer (Ty-F.QueueRef t) (Ty-F.QueueRef (t, w)) refl tt)

whole-ValueRef : (t : Ty) → IsWholeType t → IsWholeType (ty.ValueRef t)
whole-ValueRef t w = subst IsWholeType (ty.rolls-ValueRef t) (every_made-Ty IsTypeLayer (Ty-F.ValueRef t) (Ty-F.ValueRef (t, w)) refl tt)

with_proofs : (ts : List Ty) → All IsWholeType ts → (ps : List WholeTypes) × (map (λ p. p.0) ps ≡ ts)
with_proofs [] a = ([], refl)
with_proofs (t ∷ ts) a =
    let p = with_proofs ts (All-tail IsWholeType t ts a) in
    ((t, All-head IsWholeType t ts a) ∷ p.0, ap (λ l. t ∷ l) p.1)

whole-Cluster : (ts : List Ty) → IsClusterType ts → All IsWholeType ts → IsWholeType (ty.Cluster ts)
whole-Cluster ts layer a =
    let p = with_proofs ts a in
    subst IsWholeType (ty.rolls-Cluster ts) (every_made-Ty IsTypeLayer (Ty-F.Cluster ts) (Ty-F.Cluster p.0) (ap Ty-F.Cluster p.1) layer)

-- what a level of a type keeps
pub layer-Arr : (t : Ty) → IsWholeType (ty.Arr t) → is_array t ≡ false
layer-Arr t w = subst IsTypeLayer (ty.outs-Arr t) (every_here-Ty IsTypeLayer (ty.Arr t) w)

pub layer-Cluster : (ts : List Ty) → IsWholeType (ty.Cluster ts) → IsClusterType ts
layer-Cluster ts w = subst IsTypeLayer (ty.outs-Cluster ts) (every_here-Ty IsTypeLayer (ty.Cluster ts) w)

held_item : (y : Ty-F WholeTypes) (t : Ty) → map-Ty WholeTypes Ty (λ p. p.0) y ≡ Ty-F.Arr t → IsWholeType t
held_item (Ty-F.Arr q) t e = let m : q.0 ≡ t = cc in subst IsWholeType m q.1
held_item (Ty-F.Num r) t e = absurd cc
held_item Ty-F.Bool t e = absurd cc
held_item Ty-F.Str t e = absurd cc
held_item (Ty-F.Cluster qs) t e = absurd cc
held_item (Ty-F.QueueRef q) t e = absurd cc
held_item (Ty-F.ValueRef q) t e = absurd cc

held_parts : (y : Ty-F WholeTypes) (ts : List Ty) → map-Ty WholeTypes Ty (λ p. p.0) y ≡ Ty-F.Cluster ts → All IsWholeType ts
held_parts (Ty-F.Cluster qs) ts e =
    let m : map (λ p. p.0) qs ≡ ts = cc in
    All-same IsWholeType ts (map (λ p. p.0) qs) (sym m) (All-map IsWholeType (λ (p : WholeTypes). p.0) qs (λ k d lt. (get_or qs k d).1))
held_parts (Ty-F.Num r) ts e = absurd cc
held_parts Ty-F.Bool ts e = absurd cc
held_parts Ty-F.Str ts e = absurd cc
held_parts (Ty-F.Arr q) ts e = absurd cc
held_parts (Ty-F.QueueRef q) ts e = absurd cc
held_parts (Ty-F.ValueRef q) ts e = absurd cc

pub whole-item : (t : Ty) → IsWholeType (ty.Arr t) → IsWholeType t
whole-item t w =
    let h = every_held-Ty IsTypeLayer (ty.Arr t) w in
    held_item h.0 t (h.1 ∙ ty.outs-Arr t)

pub whole-parts : (ts : List Ty) → IsWholeType (ty.Cluster ts) → All IsWholeType ts
whole-parts ts w =
    let h = every_held-Ty IsTypeLayer (ty.Cluster ts) w in
    held_parts h.0 ts (h.1 ∙ ty.outs-Cluster ts)

-- ---- types that a listing can write

pub spelled_num : (r : Rep) → IsSpelled (ty.Num r)
spelled_num r = let d = depth-Num r in record { whole = whole-Num r; shallow = omega arith }

pub spelled_bool : IsSpelled ty.Bool
spelled_bool = let d = depth-Bool in record { whole = whole-Bool; shallow = omega arith }

pub spelled_text : IsSpelled ty.Str
spelled_text = let d = depth-Str in record { whole = whole-Str; shallow = omega arith }

pub spelled_array : (t : Ty) → is_array t ≡ false → depth t < 8 → IsSpelled t → IsSpelled (ty.Arr t)
spelled_array t not_array few s = let d = depth-Arr t in record { whole = whole-Arr t not_array s.whole; shallow = omega arith }

pub spelled_nums : (r : Rep) → IsSpelled (ty.Arr (ty.Num r))
spelled_nums r = let d = depth-Num r in spelled_array (ty.Num r) (ap is_array_at (ty.outs-Num r)) (omega arith) (spelled_num r)

pub spelled_queue : (t : Ty) → depth t < 8 → IsSpelled t → IsSpelled (ty.QueueRef t)
spelled_queue t few s = let d = depth-QueueRef t in record { whole = whole-QueueRef t s.whole; shallow = omega arith }

pub spelled_cell : (t : Ty) → depth t < 8 → IsSpelled t → IsSpelled (ty.ValueRef t)
spelled_cell t few s = let d = depth-ValueRef t in record { whole = whole-ValueRef t s.whole; shallow = omega arith }

pub spelled_cluster : (ts : List Ty) → IsClusterType ts → depth (ty.Cluster ts) ≤ 8 → All IsSpelled ts → IsSpelled (ty.Cluster ts)
spelled_cluster ts layer few all = record { whole = whole-Cluster ts layer (λ k d lt. (all k d lt).whole); shallow = few }

-- the element of such an array, and the parts of such a cluster
pub spelled_item : (t : Ty) → IsSpelled (ty.Arr t) → IsSpelled t
spelled_item t s =
    let d = depth-Arr t in
    let few = s.shallow in
    record { whole = whole-item t s.whole; shallow = omega arith }

abbrev IsShallow : ℕ → Ty → Type 0
IsShallow n t = depth t ≤ n

all_below_greatest : (n : ℕ) (ts : List Ty) → greatest (map depth ts) ≤ n → All (IsShallow n) ts
all_below_greatest n [] h = All-nil (IsShallow n)
all_below_greatest n (t ∷ ts) h = All-cons (IsShallow n) t ts (omega arith) (all_below_greatest n ts (omega arith))

pub spelled_parts : (ts : List Ty) → IsSpelled (ty.Cluster ts) → All IsSpelled ts
spelled_parts ts s =
    let e = depth-Cluster ts in
    let few = s.shallow in
    let w = whole-parts ts s.whole in
    let below = all_below_greatest 8 ts (omega arith) in
    λ k d lt. record { whole = w k d lt; shallow = below k d lt }
