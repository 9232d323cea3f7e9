-- Typings and breaks of structures, computed: for each form of line a listing that is accepted and one that is broken.
use Rattle.std.proofs.Common.{◌≡◌, refl, List, [], ◌∷◌, true, false}
use Rattle.std.specs.Prelude.{ℕ, pos, Some, None, codes}
use Rattle.g_types.specs.declared.rep.Rep.TheVariants.{I8, U8, I64}
use Rattle.g_types.specs.declared.ty.Ty.TheVariants as ty
use Rattle.g_values.specs.declared.primitive.Primitive.TheVariants as op
use Rattle.g_diagram.specs.declared.panel.Lit.TheVariants as lit
use Rattle.g_diagram.specs.declared.panel.PanelItem.{PanelItem}
use Rattle.g_diagram.specs.declared.panel.PanelItem.TheVariants.{Control}
use Rattle.g_diagram.specs.declared.node.Selector.TheVariants as selector
use Rattle.g_diagram.specs.declared.node.Selector.{Selector}
use Rattle.g_diagram.specs.declared.node.Tunnel.{Tunnel}
use Rattle.g_diagram.specs.declared.node.Tunnel.TheVariants as line
use Rattle.g_diagram.specs.Lines.{Wire, Arm, Part, Entry, entry, Const, Apply, Loop, Case, Sequence, InPlace}
use Rattle.g_typing.specs.Typing.{Given}
use Rattle.g_typing.proofs.Listings.{i32, w, known, unknown, gives, breaks, at, everything, by_variant}

abbrev arm : List Selector → List Wire → ℕ → Arm
arm selectors gives body = record { selectors = selectors; gives = gives; body = body }

abbrev part : List Tunnel → ℕ → Part
part lines body = record { lines = lines; body = body }

-- control a [i32] -> a; const i64 0 -> k; for _ -> i; index a -> e; register k -> c | n -> t; gather e -> g; last n -> z; register _ str -> s | s -> u; tunnel k -> h;
-- do; add c e -> n; end
abbrev loop_panel : List PanelItem
loop_panel =
    Control (codes "a") (ty.Arr i32) false None (w (codes "a")) ∷
    []

abbrev loop : List Entry
loop =
    entry 2 0 (Const (ty.Num I64) (lit.Number (pos 0)) (w (codes "k"))) ∷
    entry 3 0 (Loop (Some None) None (w (codes "i")) (line.Index (w (codes "a")) (w (codes "e")) ∷ line.Register (w (codes "k")) (w (codes "c")) (w (codes "n")) (w (codes "t")) ∷ line.Gather (w (codes "e")) (w (codes "g")) ∷ line.Last (w (codes "n")) (w (codes "z")) ∷ line.Kept (ty.Str) (w (codes "s")) (w (codes "s")) (w (codes "u")) ∷ line.Tunnel (w (codes "k")) (w (codes "h")) ∷ []) 10) ∷
    entry 11 10 (Apply op.Add ((w (codes "c")) ∷ (w (codes "e")) ∷ []) ((w (codes "n")) ∷ [])) ∷
    []

abbrev loop_types : List Given
loop_types =
    known 0 (codes "a") (ty.Arr i32) ∷
    known 0 (codes "k") (ty.Num I64) ∷
    known 10 (codes "i") i32 ∷
    known 10 (codes "e") i32 ∷
    known 10 (codes "c") (ty.Num I64) ∷
    known 10 (codes "s") ty.Str ∷
    known 10 (codes "h") (ty.Num I64) ∷
    known 0 (codes "t") (ty.Num I64) ∷
    known 0 (codes "g") (ty.Arr i32) ∷
    known 0 (codes "z") (ty.Num I64) ∷
    known 0 (codes "u") ty.Str ∷
    known 10 (codes "n") (ty.Num I64) ∷
    []

loop_typed : gives [] loop_panel loop loop_types ≡ loop_types
unfolding everything
loop_typed = simp by_variant

loop_breaks : breaks [] loop_panel loop loop_types ≡ []
unfolding everything
loop_breaks = simp by_variant

-- control a i32 -> a; control s str -> s; for s -> i; tunnel a -> x; index a -> y; gather i -> g; last x -> l; register s -> p | i -> q; do;
-- add x y -> _; str_concat p p -> _; end; inc l -> r; while k -> k; register _ i32 -> _ | s -> u; gather m -> n; tunnel s -> s; do; const [i32] [] -> m; end;
-- inc u -> _. What stands outside a structure that breaks rule 16 is unknown, what stands inside has what its own line gives
abbrev broken_loops_panel : List PanelItem
broken_loops_panel =
    Control (codes "a") i32 false None (w (codes "a")) ∷
    Control (codes "s") ty.Str false None (w (codes "s")) ∷
    []

abbrev broken_loops : List Entry
broken_loops =
    entry 3 0 (Loop (Some (w (codes "s"))) None (w (codes "i")) (line.Tunnel (w (codes "a")) (w (codes "x")) ∷ line.Index (w (codes "a")) (w (codes "y")) ∷ line.Gather (w (codes "i")) (w (codes "g")) ∷ line.Last (w (codes "x")) (w (codes "l")) ∷ line.Register (w (codes "s")) (w (codes "p")) (w (codes "i")) (w (codes "q")) ∷ []) 9) ∷
    entry 10 9 (Apply op.Add ((w (codes "x")) ∷ (w (codes "y")) ∷ []) (None ∷ [])) ∷
    entry 11 9 (Apply op.StrConcat ((w (codes "p")) ∷ (w (codes "p")) ∷ []) (None ∷ [])) ∷
    entry 13 0 (Apply op.Inc ((w (codes "l")) ∷ []) ((w (codes "r")) ∷ [])) ∷
    entry 14 0 (Loop None (Some (w (codes "k"))) (w (codes "k")) (line.Kept (i32) None (w (codes "s")) (w (codes "u")) ∷ line.Gather (w (codes "m")) (w (codes "n")) ∷ line.Tunnel (w (codes "s")) (w (codes "s")) ∷ []) 18) ∷
    entry 19 18 (Const (ty.Arr i32) (lit.Array []) (w (codes "m"))) ∷
    entry 21 0 (Apply op.Inc ((w (codes "u")) ∷ []) (None ∷ [])) ∷
    []

abbrev broken_loops_types : List Given
broken_loops_types =
    known 0 (codes "a") i32 ∷
    known 0 (codes "s") ty.Str ∷
    known 9 (codes "i") i32 ∷
    known 9 (codes "x") i32 ∷
    unknown 9 (codes "y") ∷
    known 9 (codes "p") ty.Str ∷
    unknown 0 (codes "g") ∷
    unknown 0 (codes "l") ∷
    unknown 0 (codes "q") ∷
    unknown 0 (codes "r") ∷
    known 18 (codes "k") i32 ∷
    known 18 (codes "s") ty.Str ∷
    unknown 0 (codes "u") ∷
    unknown 0 (codes "n") ∷
    known 18 (codes "m") (ty.Arr i32) ∷
    []

broken_loops_typed : gives [] broken_loops_panel broken_loops broken_loops_types ≡ broken_loops_types
unfolding everything
broken_loops_typed = refl

broken_loops_breaks : breaks [] broken_loops_panel broken_loops broken_loops_types ≡ at 3 1 16 ∷ at 5 1 16 ∷ at 14 1 16 ∷ at 16 1 16 ∷ at 8 3 17 ∷ at 15 3 17 ∷ []
unfolding everything
broken_loops_breaks = simp by_variant

-- control a u8 -> a; case a; tunnel a -> b; result r default; result s default; when 0; give _ b; when 1..255; give k b; const i64 3 -> k; end
abbrev results_panel : List PanelItem
results_panel =
    Control (codes "a") (ty.Num U8) false None (w (codes "a")) ∷
    []

abbrev results : List Entry
results =
    entry 2 0 (Case (w (codes "a")) (line.Tunnel (w (codes "a")) (w (codes "b")) ∷ line.Result (w (codes "r")) true ∷ line.Result (w (codes "s")) true ∷ []) ((arm ((selector.Number (pos 0)) ∷ []) (None ∷ (w (codes "b")) ∷ []) 6) ∷ (arm ((selector.Range (pos 1) (pos 255)) ∷ []) ((w (codes "k")) ∷ (w (codes "b")) ∷ []) 8) ∷ [])) ∷
    entry 10 8 (Const (ty.Num I64) (lit.Number (pos 3)) (w (codes "k"))) ∷
    []

abbrev results_types : List Given
results_types =
    known 0 (codes "a") (ty.Num U8) ∷
    known 6 (codes "b") (ty.Num U8) ∷
    known 8 (codes "b") (ty.Num U8) ∷
    known 0 (codes "r") (ty.Num I64) ∷
    known 0 (codes "s") (ty.Num U8) ∷
    known 8 (codes "k") (ty.Num I64) ∷
    []

results_typed : gives [] results_panel results results_types ≡ results_types
unfolding everything
results_typed = refl

results_breaks : breaks [] results_panel results results_types ≡ []
unfolding everything
results_breaks = simp by_variant

-- control a bool -> a; control s str -> s; case a; tunnel s -> b; result r; result q; when TRUE; give b x; inc b -> x; when FALSE; give k k; const i64 3 -> k; end.
-- A result whose first wire is unknown is unknown
abbrev unlike_results_panel : List PanelItem
unlike_results_panel =
    Control (codes "a") ty.Bool false None (w (codes "a")) ∷
    Control (codes "s") ty.Str false None (w (codes "s")) ∷
    []

abbrev unlike_results : List Entry
unlike_results =
    entry 3 0 (Case (w (codes "a")) (line.Tunnel (w (codes "s")) (w (codes "b")) ∷ line.Result (w (codes "r")) false ∷ line.Result (w (codes "q")) false ∷ []) ((arm ((selector.Truth true) ∷ []) ((w (codes "b")) ∷ (w (codes "x")) ∷ []) 7) ∷ (arm ((selector.Truth false) ∷ []) ((w (codes "k")) ∷ (w (codes "k")) ∷ []) 10) ∷ [])) ∷
    entry 9 7 (Apply op.Inc ((w (codes "b")) ∷ []) ((w (codes "x")) ∷ [])) ∷
    entry 12 10 (Const (ty.Num I64) (lit.Number (pos 3)) (w (codes "k"))) ∷
    []

abbrev unlike_results_types : List Given
unlike_results_types =
    known 0 (codes "a") ty.Bool ∷
    known 0 (codes "s") ty.Str ∷
    known 7 (codes "b") ty.Str ∷
    known 10 (codes "b") ty.Str ∷
    known 0 (codes "r") ty.Str ∷
    unknown 0 (codes "q") ∷
    unknown 7 (codes "x") ∷
    known 10 (codes "k") (ty.Num I64) ∷
    []

unlike_results_typed : gives [] unlike_results_panel unlike_results unlike_results_types ≡ unlike_results_types
unfolding everything
unlike_results_typed = refl

unlike_results_breaks : breaks [] unlike_results_panel unlike_results unlike_results_types ≡ at 9 1 16 ∷ at 11 1 17 ∷ []
unfolding everything
unlike_results_breaks = simp by_variant

-- control a i32 -> a; sequence; frame; tunnel a -> x; do; num_str x -> y; frame; carry y -> z; last z -> r; do; end; str_len r -> n
abbrev frames_panel : List PanelItem
frames_panel =
    Control (codes "a") i32 false None (w (codes "a")) ∷
    []

abbrev frames : List Entry
frames =
    entry 2 0 (Sequence ((part (line.Tunnel (w (codes "a")) (w (codes "x")) ∷ []) 3) ∷ (part (line.Carry (w (codes "y")) (w (codes "z")) ∷ line.Last (w (codes "z")) (w (codes "r")) ∷ []) 7) ∷ [])) ∷
    entry 6 3 (Apply op.NumStr ((w (codes "x")) ∷ []) ((w (codes "y")) ∷ [])) ∷
    entry 12 0 (Apply op.StrLen ((w (codes "r")) ∷ []) ((w (codes "n")) ∷ [])) ∷
    []

abbrev frames_types : List Given
frames_types =
    known 0 (codes "a") i32 ∷
    known 3 (codes "x") i32 ∷
    known 7 (codes "z") ty.Str ∷
    known 0 (codes "r") ty.Str ∷
    known 3 (codes "y") ty.Str ∷
    known 0 (codes "n") i32 ∷
    []

frames_typed : gives [] frames_panel frames frames_types ≡ frames_types
unfolding everything
frames_typed = refl

frames_breaks : breaks [] frames_panel frames frames_types ≡ []
unfolding everything
frames_breaks = refl

-- control a i32 -> a; sequence; frame; tunnel a -> x; do; str_len x -> y; frame; carry y -> z; last z -> r; do; end; inc r -> n
abbrev broken_frames_panel : List PanelItem
broken_frames_panel =
    Control (codes "a") i32 false None (w (codes "a")) ∷
    []

abbrev broken_frames : List Entry
broken_frames =
    entry 2 0 (Sequence ((part (line.Tunnel (w (codes "a")) (w (codes "x")) ∷ []) 3) ∷ (part (line.Carry (w (codes "y")) (w (codes "z")) ∷ line.Last (w (codes "z")) (w (codes "r")) ∷ []) 7) ∷ [])) ∷
    entry 6 3 (Apply op.StrLen ((w (codes "x")) ∷ []) ((w (codes "y")) ∷ [])) ∷
    entry 12 0 (Apply op.Inc ((w (codes "r")) ∷ []) ((w (codes "n")) ∷ [])) ∷
    []

abbrev broken_frames_types : List Given
broken_frames_types =
    known 0 (codes "a") i32 ∷
    known 3 (codes "x") i32 ∷
    unknown 7 (codes "z") ∷
    unknown 0 (codes "r") ∷
    unknown 3 (codes "y") ∷
    unknown 0 (codes "n") ∷
    []

broken_frames_typed : gives [] broken_frames_panel broken_frames broken_frames_types ≡ broken_frames_types
unfolding everything
broken_frames_typed = refl

broken_frames_breaks : breaks [] broken_frames_panel broken_frames broken_frames_types ≡ at 6 1 16 ∷ []
unfolding everything
broken_frames_breaks = refl

-- control a [i32] -> a; control c {i8, str} -> c; control f ref(i64) -> f; inplace; index a i -> e | g -> b; field 0 c -> u | g -> d; ref f -> v | g -> h k; tunnel a -> t;
-- last g -> m; do; add e u -> g; end, where i is a const i32 0
abbrev in_place_panel : List PanelItem
in_place_panel =
    Control (codes "a") (ty.Arr i32) false None (w (codes "a")) ∷
    Control (codes "c") (ty.Cluster ((ty.Num I8) ∷ ty.Str ∷ [])) false None (w (codes "c")) ∷
    Control (codes "f") (ty.ValueRef (ty.Num I64)) false None (w (codes "f")) ∷
    []

abbrev in_place : List Entry
in_place =
    entry 4 0 (Const i32 (lit.Number (pos 0)) (w (codes "i"))) ∷
    entry 5 0 (InPlace (line.Element (w (codes "a")) (w (codes "i")) (w (codes "e")) (w (codes "g")) (w (codes "b")) ∷ line.Field 0 (w (codes "c")) (w (codes "u")) (w (codes "g")) (w (codes "d")) ∷ line.Ref (w (codes "f")) (w (codes "v")) (w (codes "g")) (w (codes "h")) (w (codes "k")) ∷ line.Tunnel (w (codes "a")) (w (codes "t")) ∷ line.Last (w (codes "g")) (w (codes "m")) ∷ []) 11 13) ∷
    entry 12 11 (Apply op.Add ((w (codes "e")) ∷ (w (codes "u")) ∷ []) ((w (codes "g")) ∷ [])) ∷
    []

abbrev in_place_types : List Given
in_place_types =
    known 0 (codes "a") (ty.Arr i32) ∷
    known 0 (codes "c") (ty.Cluster ((ty.Num I8) ∷ ty.Str ∷ [])) ∷
    known 0 (codes "f") (ty.ValueRef (ty.Num I64)) ∷
    known 0 (codes "i") i32 ∷
    known 11 (codes "e") i32 ∷
    known 11 (codes "u") (ty.Num I8) ∷
    known 11 (codes "v") (ty.Num I64) ∷
    known 11 (codes "t") (ty.Arr i32) ∷
    known 0 (codes "b") (ty.Arr i32) ∷
    known 0 (codes "d") (ty.Cluster ((ty.Num I8) ∷ ty.Str ∷ [])) ∷
    known 0 (codes "h") (ty.ValueRef (ty.Num I64)) ∷
    known 0 (codes "k") i32 ∷
    known 0 (codes "m") i32 ∷
    known 11 (codes "g") i32 ∷
    []

in_place_typed : gives [] in_place_panel in_place in_place_types ≡ in_place_types
unfolding everything
in_place_typed = refl

in_place_breaks : breaks [] in_place_panel in_place in_place_types ≡ []
unfolding everything
in_place_breaks = simp by_variant

-- control a [i32] -> a; control c {i8, str} -> c; control s str -> s; inplace; index a s -> e | t -> b; field 2 c -> u | t -> d; ref a -> v | t -> h k; tunnel s -> t;
-- last t -> m; do; end. The two conditions of a line are two breaks
abbrev out_of_place_panel : List PanelItem
out_of_place_panel =
    Control (codes "a") (ty.Arr i32) false None (w (codes "a")) ∷
    Control (codes "c") (ty.Cluster ((ty.Num I8) ∷ ty.Str ∷ [])) false None (w (codes "c")) ∷
    Control (codes "s") ty.Str false None (w (codes "s")) ∷
    []

abbrev out_of_place : List Entry
out_of_place =
    entry 4 0 (InPlace (line.Element (w (codes "a")) (w (codes "s")) (w (codes "e")) (w (codes "t")) (w (codes "b")) ∷ line.Field 2 (w (codes "c")) (w (codes "u")) (w (codes "t")) (w (codes "d")) ∷ line.Ref (w (codes "a")) (w (codes "v")) (w (codes "t")) (w (codes "h")) (w (codes "k")) ∷ line.Tunnel (w (codes "s")) (w (codes "t")) ∷ line.Last (w (codes "t")) (w (codes "m")) ∷ []) 10 11) ∷
    []

abbrev out_of_place_types : List Given
out_of_place_types =
    known 0 (codes "a") (ty.Arr i32) ∷
    known 0 (codes "c") (ty.Cluster ((ty.Num I8) ∷ ty.Str ∷ [])) ∷
    known 0 (codes "s") ty.Str ∷
    known 10 (codes "e") i32 ∷
    unknown 10 (codes "u") ∷
    unknown 10 (codes "v") ∷
    known 10 (codes "t") ty.Str ∷
    unknown 0 (codes "b") ∷
    unknown 0 (codes "d") ∷
    unknown 0 (codes "h") ∷
    unknown 0 (codes "k") ∷
    unknown 0 (codes "m") ∷
    []

out_of_place_typed : gives [] out_of_place_panel out_of_place out_of_place_types ≡ out_of_place_types
unfolding everything
out_of_place_typed = refl

out_of_place_breaks : breaks [] out_of_place_panel out_of_place out_of_place_types ≡ at 5 2 16 ∷ at 6 1 16 ∷ at 7 1 16 ∷ at 5 4 17 ∷ []
unfolding everything
out_of_place_breaks = simp by_variant
