-- Typings and breaks of nodes without diagrams, computed: for each form of line a listing that is accepted and one that is broken.
use Rattle.std.proofs.Common.{◌≡◌, refl, List, [], ◌∷◌, true, false}
use Rattle.std.specs.Prelude.{pos, negsuc, Some, None, codes}
use Rattle.g_types.specs.declared.rep.Rep.TheVariants.{I8, U8, I64}
use Rattle.g_types.specs.declared.ty.Ty.TheVariants as ty
use Rattle.g_values.specs.declared.primitive.Primitive.TheVariants as op
use Rattle.g_diagram.specs.declared.hierarchy.Clones.TheVariants.{NonReentrant}
use Rattle.g_diagram.specs.declared.hierarchy.System.TheVariants.{Same}
use Rattle.g_diagram.specs.declared.hierarchy.Vi.{Vi}
use Rattle.g_diagram.specs.declared.panel.Lit.TheVariants as lit
use Rattle.g_diagram.specs.declared.panel.PanelItem.{PanelItem}
use Rattle.g_diagram.specs.declared.panel.PanelItem.TheVariants.{Control, Indicator}
use Rattle.g_operations.specs.declared.shared.SharedOp.TheVariants as shared
use Rattle.g_diagram.specs.Lines.{Entry, entry, Const, Apply, Shows, Shared, Obtain, Read, Write, Call}
use Rattle.g_typing.specs.Typing.{Given}
use Rattle.g_typing.proofs.Listings.{i32, w, known, unknown, gives, breaks, at, everything, by_variant}

-- control a i8 -> a; indicator r i32 <- r; const i32 5 -> k; add a k -> r
abbrev sum_panel : List PanelItem
sum_panel =
    Control (codes "a") (ty.Num I8) false None (w (codes "a")) ∷
    Indicator (codes "r") i32 (w (codes "r")) ∷
    []

abbrev sum : List Entry
sum =
    entry 2 0 (Shows (codes "r") i32 (w (codes "r"))) ∷
    entry 3 0 (Const i32 (lit.Number (pos 5)) (w (codes "k"))) ∷
    entry 4 0 (Apply op.Add ((w (codes "a")) ∷ (w (codes "k")) ∷ []) ((w (codes "r")) ∷ [])) ∷
    []

abbrev sum_types : List Given
sum_types =
    known 0 (codes "a") (ty.Num I8) ∷
    known 0 (codes "k") i32 ∷
    known 0 (codes "r") i32 ∷
    []

sum_typed : gives [] sum_panel sum sum_types ≡ sum_types
unfolding everything
sum_typed = refl

sum_breaks : breaks [] sum_panel sum sum_types ≡ []
unfolding everything
sum_breaks = simp by_variant

-- control a bool -> a; control s str -> s; indicator w i32 <- w; indicator q i32 <- s; add s a -> t; add t t -> w; inc a -> _;
-- const i32 1 -> k; add k s -> _; replace s k k -> _; unbundle k -> _. Of the unknown t nothing is said
abbrev rowless_panel : List PanelItem
rowless_panel =
    Control (codes "a") ty.Bool false None (w (codes "a")) ∷
    Control (codes "s") ty.Str false None (w (codes "s")) ∷
    Indicator (codes "w") i32 (w (codes "w")) ∷
    Indicator (codes "q") i32 (w (codes "s")) ∷
    []

abbrev rowless : List Entry
rowless =
    entry 3 0 (Shows (codes "w") i32 (w (codes "w"))) ∷
    entry 4 0 (Shows (codes "q") i32 (w (codes "s"))) ∷
    entry 5 0 (Apply op.Add ((w (codes "s")) ∷ (w (codes "a")) ∷ []) ((w (codes "t")) ∷ [])) ∷
    entry 6 0 (Apply op.Add ((w (codes "t")) ∷ (w (codes "t")) ∷ []) ((w (codes "w")) ∷ [])) ∷
    entry 7 0 (Apply op.Inc ((w (codes "a")) ∷ []) (None ∷ [])) ∷
    entry 8 0 (Const i32 (lit.Number (pos 1)) (w (codes "k"))) ∷
    entry 9 0 (Apply op.Add ((w (codes "k")) ∷ (w (codes "s")) ∷ []) (None ∷ [])) ∷
    entry 10 0 (Apply op.Replace ((w (codes "s")) ∷ (w (codes "k")) ∷ (w (codes "k")) ∷ []) (None ∷ [])) ∷
    entry 11 0 (Apply op.Unbundle ((w (codes "k")) ∷ []) (None ∷ [])) ∷
    []

abbrev rowless_types : List Given
rowless_types =
    known 0 (codes "a") ty.Bool ∷
    known 0 (codes "s") ty.Str ∷
    unknown 0 (codes "t") ∷
    unknown 0 (codes "w") ∷
    known 0 (codes "k") i32 ∷
    []

rowless_typed : gives [] rowless_panel rowless rowless_types ≡ rowless_types
unfolding everything
rowless_typed = refl

rowless_breaks : breaks [] rowless_panel rowless rowless_types ≡ at 5 1 16 ∷ at 7 1 16 ∷ at 9 2 16 ∷ at 10 1 16 ∷ at 11 1 16 ∷ at 4 1 17 ∷ []
unfolding everything
rowless_breaks = simp by_variant

-- control a i8 = 127 -> a; control b u8 -> b; const [i32] [1, -2147483648] -> _; const {i8, str} {1, "x"} -> _; const queue(i32) null -> _;
-- const [bool] [] -> _
abbrev literal_panel : List PanelItem
literal_panel =
    Control (codes "a") (ty.Num I8) false (Some (lit.Number (pos 127))) (w (codes "a")) ∷
    Control (codes "b") (ty.Num U8) false None (w (codes "b")) ∷
    []

abbrev literal : List Entry
literal =
    entry 3 0 (Const (ty.Arr i32) (lit.Array ((lit.Number (pos 1)) ∷ (lit.Number (negsuc 2147483647)) ∷ [])) None) ∷
    entry 4 0 (Const (ty.Cluster ((ty.Num I8) ∷ ty.Str ∷ [])) (lit.Cluster ((lit.Number (pos 1)) ∷ (lit.Text (120 ∷ [])) ∷ [])) None) ∷
    entry 5 0 (Const (ty.QueueRef i32) lit.Null None) ∷
    entry 6 0 (Const (ty.Arr ty.Bool) (lit.Array []) None) ∷
    []

abbrev literal_types : List Given
literal_types =
    known 0 (codes "a") (ty.Num I8) ∷
    known 0 (codes "b") (ty.Num U8) ∷
    []

literal_typed : gives [] literal_panel literal literal_types ≡ literal_types
unfolding everything
literal_typed = refl

literal_breaks : breaks [] literal_panel literal literal_types ≡ []
unfolding everything
literal_breaks = simp by_variant

-- control a i8 = 128 -> a; control c bool = 1 -> c; const [i32] [1, -2147483649] -> _; const {i8, str} {1} -> _; const i32 null -> _;
-- const str TRUE -> _; const u8 -1 -> _
abbrev mistake_panel : List PanelItem
mistake_panel =
    Control (codes "a") (ty.Num I8) false (Some (lit.Number (pos 128))) (w (codes "a")) ∷
    Control (codes "c") ty.Bool false (Some (lit.Number (pos 1))) (w (codes "c")) ∷
    []

abbrev mistake : List Entry
mistake =
    entry 3 0 (Const (ty.Arr i32) (lit.Array ((lit.Number (pos 1)) ∷ (lit.Number (negsuc 2147483648)) ∷ [])) None) ∷
    entry 4 0 (Const (ty.Cluster ((ty.Num I8) ∷ ty.Str ∷ [])) (lit.Cluster ((lit.Number (pos 1)) ∷ [])) None) ∷
    entry 5 0 (Const i32 lit.Null None) ∷
    entry 6 0 (Const ty.Str (lit.Truth true) None) ∷
    entry 7 0 (Const (ty.Num U8) (lit.Number (negsuc 0)) None) ∷
    []

abbrev mistake_types : List Given
mistake_types =
    known 0 (codes "a") (ty.Num I8) ∷
    known 0 (codes "c") ty.Bool ∷
    []

mistake_typed : gives [] mistake_panel mistake mistake_types ≡ mistake_types
unfolding everything
mistake_typed = refl

mistake_breaks : breaks [] mistake_panel mistake mistake_types ≡ at 1 0 15 ∷ at 2 0 15 ∷ at 3 0 15 ∷ at 4 0 15 ∷ at 5 0 15 ∷ at 6 0 15 ∷ at 7 0 15 ∷ []
unfolding everything
mistake_breaks = simp by_variant

-- control c {i32, str} -> c; get 1 c -> t; unbundle c -> p q
abbrev cluster_panel : List PanelItem
cluster_panel = Control (codes "c") (ty.Cluster (i32 ∷ ty.Str ∷ [])) false None (w (codes "c")) ∷ []

abbrev cluster : List Entry
cluster =
    entry 2 0 (Apply (op.Get 1) (w (codes "c") ∷ []) (w (codes "t") ∷ []))
    ∷ entry 3 0 (Apply op.Unbundle (w (codes "c") ∷ []) (w (codes "p") ∷ w (codes "q") ∷ [])) ∷ []

abbrev cluster_types : List Given
cluster_types =
    known 0 (codes "c") (ty.Cluster (i32 ∷ ty.Str ∷ [])) ∷ known 0 (codes "t") ty.Str ∷ known 0 (codes "p") i32 ∷ known 0 (codes "q") ty.Str ∷ []

cluster_typed : gives [] cluster_panel cluster cluster_types ≡ cluster_types
unfolding everything
cluster_typed = refl

cluster_breaks : breaks [] cluster_panel cluster cluster_types ≡ []
unfolding everything
cluster_breaks = refl

-- control a i32 -> a; control s str -> s; bundle a s -> c
abbrev bundle_panel : List PanelItem
bundle_panel = Control (codes "a") i32 false None (w (codes "a")) ∷ Control (codes "s") ty.Str false None (w (codes "s")) ∷ []

abbrev bundle : List Entry
bundle = entry 3 0 (Apply op.Bundle (w (codes "a") ∷ w (codes "s") ∷ []) (w (codes "c") ∷ [])) ∷ []

abbrev bundle_types : List Given
bundle_types = known 0 (codes "a") i32 ∷ known 0 (codes "s") ty.Str ∷ known 0 (codes "c") (ty.Cluster (i32 ∷ ty.Str ∷ [])) ∷ []

bundle_typed : gives [] bundle_panel bundle bundle_types ≡ bundle_types
unfolding everything
bundle_typed = simp by_variant

bundle_breaks : breaks [] bundle_panel bundle bundle_types ≡ []
unfolding everything
bundle_breaks = simp by_variant

-- control c {i32, str} -> c; get 2 c -> t; set 2 c c -> d; unbundle c -> p; unbundle d -> q. Of the unknown d nothing is said
abbrev elementless_panel : List PanelItem
elementless_panel =
    Control (codes "c") (ty.Cluster (i32 ∷ ty.Str ∷ [])) false None (w (codes "c")) ∷
    []

abbrev elementless : List Entry
elementless =
    entry 2 0 (Apply (op.Get 2) ((w (codes "c")) ∷ []) ((w (codes "t")) ∷ [])) ∷
    entry 3 0 (Apply (op.Set 2) ((w (codes "c")) ∷ (w (codes "c")) ∷ []) ((w (codes "d")) ∷ [])) ∷
    entry 4 0 (Apply op.Unbundle ((w (codes "c")) ∷ []) ((w (codes "p")) ∷ [])) ∷
    entry 5 0 (Apply op.Unbundle ((w (codes "d")) ∷ []) ((w (codes "q")) ∷ [])) ∷
    []

abbrev elementless_types : List Given
elementless_types =
    known 0 (codes "c") (ty.Cluster (i32 ∷ ty.Str ∷ [])) ∷
    unknown 0 (codes "t") ∷
    unknown 0 (codes "d") ∷
    unknown 0 (codes "p") ∷
    unknown 0 (codes "q") ∷
    []

elementless_typed : gives [] elementless_panel elementless elementless_types ≡ elementless_types
unfolding everything
elementless_typed = refl

elementless_breaks : breaks [] elementless_panel elementless elementless_types ≡ at 2 1 16 ∷ at 3 1 16 ∷ at 4 1 16 ∷ []
unfolding everything
elementless_breaks = refl

-- control a i32 -> a; obtain "q" 4 i64 -> q; enqueue q a -> _; dequeue q -> v c; release q -> d; qsize q -> n e; newref v -> r; delref r -> x f
abbrev object_panel : List PanelItem
object_panel =
    Control (codes "a") i32 false None (w (codes "a")) ∷
    []

abbrev object : List Entry
object =
    entry 2 0 (Obtain (codes "q") (pos 4) (ty.Num I64) (w (codes "q"))) ∷
    entry 3 0 (Shared shared.Enqueue ((w (codes "q")) ∷ (w (codes "a")) ∷ []) (None ∷ [])) ∷
    entry 4 0 (Shared shared.Dequeue ((w (codes "q")) ∷ []) ((w (codes "v")) ∷ (w (codes "c")) ∷ [])) ∷
    entry 5 0 (Shared shared.Release ((w (codes "q")) ∷ []) ((w (codes "d")) ∷ [])) ∷
    entry 6 0 (Shared shared.Size ((w (codes "q")) ∷ []) ((w (codes "n")) ∷ (w (codes "e")) ∷ [])) ∷
    entry 7 0 (Shared shared.NewRef ((w (codes "v")) ∷ []) ((w (codes "r")) ∷ [])) ∷
    entry 8 0 (Shared shared.DelRef ((w (codes "r")) ∷ []) ((w (codes "x")) ∷ (w (codes "f")) ∷ [])) ∷
    []

abbrev object_types : List Given
object_types =
    known 0 (codes "a") i32 ∷
    known 0 (codes "q") (ty.QueueRef (ty.Num I64)) ∷
    known 0 (codes "v") (ty.Num I64) ∷
    known 0 (codes "c") i32 ∷
    known 0 (codes "d") i32 ∷
    known 0 (codes "n") i32 ∷
    known 0 (codes "e") i32 ∷
    known 0 (codes "r") (ty.ValueRef (ty.Num I64)) ∷
    known 0 (codes "x") (ty.Num I64) ∷
    known 0 (codes "f") i32 ∷
    []

object_typed : gives [] object_panel object object_types ≡ object_types
unfolding everything
object_typed = simp by_variant

object_breaks : breaks [] object_panel object object_types ≡ []
unfolding everything
object_breaks = simp by_variant

-- control q queue(str) -> q; control f ref(i32) -> f; control a i32 -> a; enqueue q a -> c; enqueue a a -> d; dequeue f -> v e; release f -> h;
-- qsize a -> m n; delref q -> o p
abbrev unshared_panel : List PanelItem
unshared_panel =
    Control (codes "q") (ty.QueueRef ty.Str) false None (w (codes "q")) ∷
    Control (codes "f") (ty.ValueRef i32) false None (w (codes "f")) ∷
    Control (codes "a") i32 false None (w (codes "a")) ∷
    []

abbrev unshared : List Entry
unshared =
    entry 4 0 (Shared shared.Enqueue ((w (codes "q")) ∷ (w (codes "a")) ∷ []) ((w (codes "c")) ∷ [])) ∷
    entry 5 0 (Shared shared.Enqueue ((w (codes "a")) ∷ (w (codes "a")) ∷ []) ((w (codes "d")) ∷ [])) ∷
    entry 6 0 (Shared shared.Dequeue ((w (codes "f")) ∷ []) ((w (codes "v")) ∷ (w (codes "e")) ∷ [])) ∷
    entry 7 0 (Shared shared.Release ((w (codes "f")) ∷ []) ((w (codes "h")) ∷ [])) ∷
    entry 8 0 (Shared shared.Size ((w (codes "a")) ∷ []) ((w (codes "m")) ∷ (w (codes "n")) ∷ [])) ∷
    entry 9 0 (Shared shared.DelRef ((w (codes "q")) ∷ []) ((w (codes "o")) ∷ (w (codes "p")) ∷ [])) ∷
    []

abbrev unshared_types : List Given
unshared_types =
    known 0 (codes "q") (ty.QueueRef ty.Str) ∷
    known 0 (codes "f") (ty.ValueRef i32) ∷
    known 0 (codes "a") i32 ∷
    known 0 (codes "c") i32 ∷
    unknown 0 (codes "d") ∷
    unknown 0 (codes "v") ∷
    unknown 0 (codes "e") ∷
    unknown 0 (codes "h") ∷
    unknown 0 (codes "m") ∷
    unknown 0 (codes "n") ∷
    unknown 0 (codes "o") ∷
    unknown 0 (codes "p") ∷
    []

unshared_typed : gives [] unshared_panel unshared unshared_types ≡ unshared_types
unfolding everything
unshared_typed = refl

unshared_breaks : breaks [] unshared_panel unshared unshared_types ≡ at 5 1 16 ∷ at 6 1 16 ∷ at 7 1 16 ∷ at 8 1 16 ∷ at 9 1 16 ∷ at 4 2 17 ∷ []
unfolding everything
unshared_breaks = simp by_variant

-- of a type 8 deep: control a TYPE -> a; obtain "q" 4 TYPE -> q; newref a -> r
abbrev too_deep_panel : List PanelItem
too_deep_panel =
    Control (codes "a") (ty.Cluster ((ty.Cluster ((ty.Cluster ((ty.Cluster ((ty.Cluster ((ty.Cluster ((ty.Cluster (i32 ∷ [])) ∷ [])) ∷ [])) ∷ [])) ∷ [])) ∷ [])) ∷ [])) false None (w (codes "a")) ∷
    []

abbrev too_deep : List Entry
too_deep =
    entry 2 0 (Obtain (codes "q") (pos 4) (ty.Cluster ((ty.Cluster ((ty.Cluster ((ty.Cluster ((ty.Cluster ((ty.Cluster ((ty.Cluster (i32 ∷ [])) ∷ [])) ∷ [])) ∷ [])) ∷ [])) ∷ [])) ∷ [])) (w (codes "q"))) ∷
    entry 3 0 (Shared shared.NewRef ((w (codes "a")) ∷ []) ((w (codes "r")) ∷ [])) ∷
    []

abbrev too_deep_types : List Given
too_deep_types =
    known 0 (codes "a") (ty.Cluster ((ty.Cluster ((ty.Cluster ((ty.Cluster ((ty.Cluster ((ty.Cluster ((ty.Cluster (i32 ∷ [])) ∷ [])) ∷ [])) ∷ [])) ∷ [])) ∷ [])) ∷ [])) ∷
    unknown 0 (codes "q") ∷
    unknown 0 (codes "r") ∷
    []

too_deep_typed : gives [] too_deep_panel too_deep too_deep_types ≡ too_deep_types
unfolding everything
too_deep_typed = simp by_variant

too_deep_breaks : breaks [] too_deep_panel too_deep too_deep_types ≡ at 2 0 16 ∷ at 3 1 16 ∷ []
unfolding everything
too_deep_breaks = simp by_variant

-- control a i8 -> a; indicator r [i64] <- _; read r -> x; write a a; write r x
abbrev local_panel : List PanelItem
local_panel =
    Control (codes "a") (ty.Num I8) false None (w (codes "a")) ∷
    Indicator (codes "r") (ty.Arr (ty.Num I64)) None ∷
    []

abbrev local : List Entry
local =
    entry 3 0 (Read (codes "r") (w (codes "x"))) ∷
    entry 4 0 (Write (codes "a") (w (codes "a"))) ∷
    entry 5 0 (Write (codes "r") (w (codes "x"))) ∷
    []

abbrev local_types : List Given
local_types =
    known 0 (codes "a") (ty.Num I8) ∷
    known 0 (codes "x") (ty.Arr (ty.Num I64)) ∷
    []

local_typed : gives [] local_panel local local_types ≡ local_types
unfolding everything
local_typed = refl

local_breaks : breaks [] local_panel local local_types ≡ []
unfolding everything
local_breaks = simp by_variant

-- control a i8 -> a; indicator r [i64] <- _; write r a
abbrev local_unlike_panel : List PanelItem
local_unlike_panel =
    Control (codes "a") (ty.Num I8) false None (w (codes "a")) ∷
    Indicator (codes "r") (ty.Arr (ty.Num I64)) None ∷
    []

abbrev local_unlike : List Entry
local_unlike =
    entry 3 0 (Write (codes "r") (w (codes "a"))) ∷
    []

abbrev local_unlike_types : List Given
local_unlike_types =
    known 0 (codes "a") (ty.Num I8) ∷
    []

local_unlike_typed : gives [] local_unlike_panel local_unlike local_unlike_types ≡ local_unlike_types
unfolding everything
local_unlike_typed = refl

local_unlike_breaks : breaks [] local_unlike_panel local_unlike local_unlike_types ≡ at 3 1 17 ∷ []
unfolding everything
local_unlike_breaks = simp by_variant

-- vi F: control n i64 -> n; control m str -> m; indicator k bool <- n; indicator l [i8] <- n
abbrev callee : List Vi
callee = record {
  name = codes "F";
  clones = NonReentrant;
  system = Same;
  panel =
      Control (codes "n") (ty.Num I64) false None (w (codes "n")) ∷
      Control (codes "m") ty.Str false None (w (codes "m")) ∷
      Indicator (codes "k") ty.Bool (w (codes "n")) ∷
      Indicator (codes "l") (ty.Arr (ty.Num I8)) (w (codes "n")) ∷ [];
  top = record { nodes = [] };
} ∷ []

-- control a i8 -> a; call F a _ -> x y
abbrev call_panel : List PanelItem
call_panel =
    Control (codes "a") (ty.Num I8) false None (w (codes "a")) ∷
    []

abbrev call : List Entry
call =
    entry 2 0 (Call (codes "F") ((w (codes "a")) ∷ None ∷ []) ((w (codes "x")) ∷ (w (codes "y")) ∷ [])) ∷
    []

abbrev call_types : List Given
call_types =
    known 0 (codes "a") (ty.Num I8) ∷
    known 0 (codes "x") ty.Bool ∷
    known 0 (codes "y") (ty.Arr (ty.Num I8)) ∷
    []

call_typed : gives callee call_panel call call_types ≡ call_types
unfolding everything
call_typed = refl

call_breaks : breaks callee call_panel call call_types ≡ []
unfolding everything
call_breaks = simp by_variant

-- control a bool -> a; call F a a -> x y. What a call gives stays known
abbrev call_unlike_panel : List PanelItem
call_unlike_panel =
    Control (codes "a") ty.Bool false None (w (codes "a")) ∷
    []

abbrev call_unlike : List Entry
call_unlike =
    entry 2 0 (Call (codes "F") ((w (codes "a")) ∷ (w (codes "a")) ∷ []) ((w (codes "x")) ∷ (w (codes "y")) ∷ [])) ∷
    []

abbrev call_unlike_types : List Given
call_unlike_types =
    known 0 (codes "a") ty.Bool ∷
    known 0 (codes "x") ty.Bool ∷
    known 0 (codes "y") (ty.Arr (ty.Num I8)) ∷
    []

call_unlike_typed : gives callee call_unlike_panel call_unlike call_unlike_types ≡ call_unlike_types
unfolding everything
call_unlike_typed = refl

call_unlike_breaks : breaks callee call_unlike_panel call_unlike call_unlike_types ≡ at 2 1 17 ∷ at 2 2 17 ∷ []
unfolding everything
call_unlike_breaks = simp by_variant
