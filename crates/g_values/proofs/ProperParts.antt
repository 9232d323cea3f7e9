-- Properness of strings, arrays of values and references, and of what a proper one holds.
use Rattle.std.proofs.Common.{◌≡◌, ◌≤◌, ◌<◌, ℕ, List, map, length, get_or, ap, sym, ◌∙◌, subst, refl}
use Rattle.std.specs.List.{All}
use Rattle.std.proofs.lemmas.List.Elements.{All-map, All-same}
use Rattle.g_types.specs.Ty.{depth}
use Rattle.g_values.specs.declared.value.ArrOf.{ArrOf}
use Rattle.g_values.specs.declared.value.RefValue.{RefValue}
use Rattle.g_values.specs.declared.value.Value.{Value}
use Rattle.g_values.specs.declared.value.Value.TheVariants as value
use Rattle.g_values.specs.declared.value.Value.TheOpen.{Value-F}
use Rattle.g_values.specs.declared.value.Value.TheFolds.{map-Value, every_made-Value, every_here-Value, every_held-Value}
use Rattle.g_values.specs.Proper.{IsProper, IsLayer, IsWhole, IsArr, most}
use Rattle.g_values.proofs.TypesOf.{type-Str, type-Arr, type-Queue, type-Cell}
use Rattle.g_values.specs.Spelled.{IsSpelled}
use Rattle.g_values.proofs.SpelledTypes.{spelled_text, spelled_array, spelled_queue, spelled_cell, spelled_item}
use Rattle.g_values.proofs.ProperLemmas.{with_proofs, Wholes}

pub proper_text : (s : List ℕ) → length s ≤ most → IsProper (value.Str s)
proper_text s few = record {
  whole = subst IsWhole (value.rolls-Str s) (every_made-Value IsLayer (Value-F.Str s) (Value-F.Str s) refl few);
  spelled = subst IsSpelled (sym (type-Str s)) spelled_text;
}

-- a string is short
pub few_bytes : (s : List ℕ) → IsProper (value.Str s) → length s ≤ most
few_bytes s p = subst IsLayer (value.outs-Str s) (every_here-Value IsLayer (value.Str s) p.whole)

pub proper_queue : (r : RefValue) → depth r.elem < 8 → IsSpelled r.elem → IsProper (value.Queue r)
proper_queue r few spelled = record {
  whole = subst IsWhole (value.rolls-Queue r) (every_made-Value IsLayer (Value-F.Queue r) (Value-F.Queue r) refl tt);
  spelled = subst IsSpelled (sym (type-Queue r)) (spelled_queue r.elem few spelled);
}

pub proper_cell : (r : RefValue) → depth r.elem < 8 → IsSpelled r.elem → IsProper (value.Cell r)
proper_cell r few spelled = record {
  whole = subst IsWhole (value.rolls-Cell r) (every_made-Value IsLayer (Value-F.Cell r) (Value-F.Cell r) refl tt);
  spelled = subst IsSpelled (sym (type-Cell r)) (spelled_cell r.elem few spelled);
}

-- an array of proper values of its type is proper, if its type is one of a listing
pub proper_array : (xs : ArrOf Value) → IsArr xs → depth xs.elem < 8 → IsSpelled xs.elem → All IsProper xs.items → IsProper (value.Arr xs)
proper_array xs right few spelled all =
    let p = with_proofs xs.items (λ k d lt. (all k d lt).whole) in
    let y : ArrOf Wholes = record { elem = xs.elem; items = p.0 } in
    let same : map-Value Wholes Value (λ p. p.0) (Value-F.Arr y) ≡ Value-F.Arr xs = ap (λ l. let z : ArrOf Value = record { elem = xs.elem; items = l } in Value-F.Arr z) p.1 in
    record {
      whole = subst IsWhole (value.rolls-Arr xs) (every_made-Value IsLayer (Value-F.Arr xs) (Value-F.Arr y) same right);
      spelled = subst IsSpelled (sym (type-Arr xs)) (spelled_array xs.elem right.no_array few spelled);
    }

-- what an array keeps
pub layer-of_array : (xs : ArrOf Value) → IsProper (value.Arr xs) → IsArr xs
layer-of_array xs p = subst IsLayer (value.outs-Arr xs) (every_here-Value IsLayer (value.Arr xs) p.whole)

held_items : (y : Value-F Wholes) (xs : ArrOf Value) → map-Value Wholes Value (λ p. p.0) y ≡ Value-F.Arr xs → All IsWhole xs.items
held_items (Value-F.Arr q) xs e =
    let m : map (λ p. p.0) q.items ≡ xs.items = ap items_of e in
    All-same IsWhole xs.items (map (λ p. p.0) q.items) (sym m) (All-map IsWhole (λ (p : Wholes). p.0) q.items (λ k d lt. (get_or q.items k d).1))
  where
    items_of : Value-F Value → List Value
    items_of (Value-F.Arr z) = z.items
    items_of _ = xs.items
held_items (Value-F.Num x) xs e = absurd cc
held_items (Value-F.Bool x) xs e = absurd cc
held_items (Value-F.Str x) xs e = absurd cc
held_items (Value-F.Nums x) xs e = absurd cc
held_items (Value-F.Cluster x) xs e = absurd cc
held_items (Value-F.Queue x) xs e = absurd cc
held_items (Value-F.Cell x) xs e = absurd cc

-- the type of a proper array's elements is one of a listing
pub spelled_elem : (xs : ArrOf Value) → IsProper (value.Arr xs) → IsSpelled xs.elem
spelled_elem xs p = spelled_item xs.elem (subst IsSpelled (type-Arr xs) p.spelled)

-- the elements of a proper array are proper
pub proper_items : (xs : ArrOf Value) → IsProper (value.Arr xs) → All IsProper xs.items
proper_items xs p =
    let h = every_held-Value IsLayer (value.Arr xs) p.whole in
    let wholes = held_items h.0 xs (h.1 ∙ value.outs-Arr xs) in
    λ k d lt. record { whole = wholes k d lt; spelled = subst IsSpelled (sym ((layer-of_array xs p).one_type k d lt)) (spelled_elem xs p) }
