-- Rules on the lines of small listings, computed: of each rule one that it breaks and one that it doesn't.
use Rattle.std.proofs.Common.{◌≡◌, ℕ, ℤ, pos, negsuc, ◌++◌, Bool, cond, not, ◌||◌, List, [], ◌∷◌, map, refl, ap, ◌∙◌, true, false}
use Rattle.std.specs.Prelude.{Some, None, codes}
use Rattle.g_types.specs.declared.rep.Rep.TheVariants.{I32}
use Rattle.g_types.specs.declared.ty.Ty.TheVariants.{Num}
use Rattle.g_values.specs.declared.primitive.Primitive.TheVariants as op
use Rattle.g_diagram.specs.declared.hierarchy.Clones.TheVariants.{NonReentrant}
use Rattle.g_diagram.specs.declared.hierarchy.System.TheVariants.{Same}
use Rattle.g_diagram.specs.declared.node.Selector.{Selector}
use Rattle.g_diagram.specs.declared.node.Selector.TheVariants.{Number, Range, Truth, Text, Default}
use Rattle.g_operations.specs.declared.shared.SharedOp.TheVariants as shared
use Rattle.g_diagram.specs.declared.node.Tunnel.TheVariants.{Tunnel, Result, Index, Ref}
use Rattle.g_diagram.specs.declared.panel.PanelItem.TheVariants.{Control, Indicator}
use Rattle.g_diagram.specs.declared.place.Break.{Break}
use Rattle.g_diagram.specs.Lines.{Wire, Entry, entries_of}
use Rattle.g_diagram.specs.Lines as kind
use Rattle.g_diagram.proofs.Trees.{Sketch, vi_of, same_entries, Trees, Choices, none, also, Apply, Call, Case, For, While, Read, Write, Shared, Obtain, InPlace, when, end}
use Rattle.g_rules_lines.specs.Spots.{break, whole}
use Rattle.g_rules_lines.specs.Lists.{known_of, lined_by}
use Rattle.g_rules_lines.specs.RepeatedNames.{renamed_vis}
use Rattle.g_rules_lines.specs.UnknownVis.{absent_main}
use Rattle.g_rules_lines.specs.Callees.{arities}
use Rattle.g_rules_lines.specs.Queues.{first_queue, queues_in}
use Rattle.g_rules_lines.proofs.QueueLemmas.{same_type-same}

abbrev w : List ℕ → Wire
w name = Some name

-- what is broken on the lines of a VI that stands alone
abbrev broken : Sketch → List Break
broken s = lined_by (known_of (vi_of s ∷ [])) 0 s.panel (entries_of (vi_of s))

abbrev broken_by : Sketch → List Entry → List Break
broken_by s es = lined_by (record { arities = arities (vi_of s ∷ []); queues = first_queue (queues_in es ++ []) }) 0 s.panel es

abbrev at : (rule line operand : ℕ) → Break
at rule line operand = break 0 rule (record { line = line; operand = operand })

-- control a i32 -> a; indicator r i32 <- w; indicator s i32 <- t; and a node
abbrev sums : Trees → Sketch
sums top = record {
  name = codes "Main";
  clones = NonReentrant;
  system = Same;
  panel = Control (codes "a") (Num I32) false None (w (codes "a")) ∷ Indicator (codes "r") (Num I32) (w (codes "w")) ∷ Indicator (codes "s") (Num I32) (w (codes "t")) ∷ [];
  top = top;
}

abbrev add_to : (first second : Wire) → Wire → Trees → Trees
add_to x y out ts = also (Apply op.Add (x ∷ y ∷ []) (out ∷ [])) ts

abbrev inc_to : Wire → Wire → Trees → Trees
inc_to x out ts = also (Apply op.Inc (x ∷ []) (out ∷ [])) ts

abbrev choosing : Trees → Trees
choosing ts = add_to (w (codes "a")) (w (codes "a")) (w (codes "w")) (inc_to (w (codes "w")) (w (codes "t")) ts)

-- 5, 9: call Main _ -> w t; call Main _ _; call Other a _. How many inputs a call of an unknown VI has isn't looked at
abbrev calling : Sketch
calling = sums (also (Call (codes "Main") (None ∷ []) (w (codes "w") ∷ w (codes "t") ∷ [])) (also (Call (codes "Main") (None ∷ None ∷ []) []) (also (Call (codes "Other") (w (codes "a") ∷ None ∷ []) []) none)))

calling_broken : broken calling ≡ at 5 5 0 ∷ at 9 6 0 ∷ []
calling_broken = ap (broken_by calling) (same_entries calling)

-- 5: inc a a -> w; bundle -> t; unbundle a -> _ _; enqueue a
abbrev miscounts : Sketch
miscounts = sums (also (Apply op.Inc (w (codes "a") ∷ w (codes "a") ∷ []) (w (codes "w") ∷ [])) (also (Apply op.Bundle [] (w (codes "t") ∷ []))
    (also (Apply op.Unbundle (w (codes "a") ∷ []) (None ∷ None ∷ [])) (also (Shared shared.Enqueue (w (codes "a") ∷ []) []) none))))

miscounts_broken : broken miscounts ≡ at 5 4 0 ∷ at 5 5 0 ∷ at 5 7 0 ∷ []
miscounts_broken = ap (broken_by miscounts) (same_entries miscounts)

-- 7: control a i32 -> x; indicator b i32 <- x; indicator a i32 <- _; control b i32 -> _
abbrev renames : Sketch
renames = record {
  name = codes "Main";
  clones = NonReentrant;
  system = Same;
  panel = Control (codes "a") (Num I32) false None (w (codes "x")) ∷ Indicator (codes "b") (Num I32) (w (codes "x"))
      ∷ Indicator (codes "a") (Num I32) None ∷ Control (codes "b") (Num I32) false None None ∷ [];
  top = none;
}

renames_broken : broken renames ≡ at 7 3 0 ∷ at 7 4 0 ∷ []
renames_broken = ap (broken_by renames) (same_entries renames)

-- 7: three VIs of one name
renamed_twice : renamed_vis (vi_of renames ∷ vi_of miscounts ∷ vi_of calling ∷ []) ≡ break 1 7 (record { line = 0; operand = 0 }) ∷ break 2 7 (record { line = 0; operand = 0 }) ∷ []
renamed_twice = refl

-- 8: read b -> w; read r -> t; write a a; write c w
abbrev locals : Sketch
locals = sums (also (Read (codes "b") (w (codes "w"))) (also (Read (codes "r") (w (codes "t"))) (also (Write (codes "a") (w (codes "a"))) (also (Write (codes "c") (w (codes "w"))) none))))

locals_broken : broken locals ≡ at 8 4 0 ∷ at 8 7 0 ∷ []
locals_broken = ap (broken_by locals) (same_entries locals)

-- 10: case a with when 1, 4..6; when 9..7; when 8; when 5..7; when 7; when 2, 2; when default; when default. The second falls, and so has
-- no 8; the fourth has 5 again; the fifth has what a broken line has; the sixth repeats itself; and the last repeats the one before
abbrev when_only : List Selector → Choices → Choices
when_only ss arms = when ss [] none arms

abbrev reselects : Sketch
reselects = sums (choosing (also (Case (w (codes "a")) []
    (when_only (Number (pos 1) ∷ Range (pos 4) (pos 6) ∷ []) (when_only (Range (pos 9) (pos 7) ∷ []) (when_only (Number (pos 8) ∷ []) (when_only (Range (pos 5) (pos 7) ∷ [])
    (when_only (Number (pos 7) ∷ []) (when_only (Number (pos 2) ∷ Number (pos 2) ∷ []) (when_only (Default ∷ []) (when_only (Default ∷ []) end))))))))) none))

reselects_broken : broken reselects ≡ at 10 8 0 ∷ at 10 10 0 ∷ at 10 11 0 ∷ at 10 12 0 ∷ at 10 14 0 ∷ []
reselects_broken = ap (broken_by reselects) (same_entries reselects)

-- values of each kind once: when TRUE, -1..3; when FALSE, "a"; when "ab", 4; when default
abbrev selects : Sketch
selects = sums (choosing (also (Case (w (codes "a")) []
    (when_only (Truth true ∷ Range (negsuc 0) (pos 3) ∷ []) (when_only (Truth false ∷ Text (codes "a") ∷ []) (when_only (Text (codes "ab") ∷ Number (pos 4) ∷ []) (when_only (Default ∷ []) end))))) none))

selects_broken : broken selects ≡ []
selects_broken = ap (broken_by selects) (same_entries selects)

-- 11: case a; tunnel a -> x; result w; result t default; when 1; give _ _; when default; give x _; end
abbrev results : Sketch
results = sums (also (Case (w (codes "a")) (Tunnel (w (codes "a")) (w (codes "x")) ∷ Result (w (codes "w")) false ∷ Result (w (codes "t")) true ∷ [])
    (when (Number (pos 1) ∷ []) (None ∷ None ∷ []) none (when (Default ∷ []) (w (codes "x") ∷ None ∷ []) none end))) none)

results_broken : broken results ≡ at 11 9 1 ∷ at 11 7 1 ∷ []
results_broken = ap (broken_by results) (same_entries results)

-- a result that is marked `default` may be unwired in a branch
abbrev given : Sketch
given = sums (also (Case (w (codes "a")) (Tunnel (w (codes "a")) (w (codes "x")) ∷ Result (w (codes "w")) false ∷ Result (w (codes "t")) true ∷ [])
    (when (Number (pos 1) ∷ []) (w (codes "x") ∷ None ∷ []) none (when (Default ∷ []) (w (codes "x") ∷ w (codes "x") ∷ []) none end))) none)

given_broken : broken given ≡ []
given_broken = ap (broken_by given) (same_entries given)

-- 13: for _ -> _; do; end stands beside for _ -> _; index a -> x; do; inc x -> _; end, and for a -> _; do; end
abbrev unbounded : Sketch
unbounded = sums (add_to (w (codes "a")) (w (codes "a")) (w (codes "w")) (inc_to (w (codes "w")) (w (codes "t")) (also (For None None [] none)
    (also (For None None (Index (w (codes "a")) (w (codes "x")) ∷ []) (inc_to (w (codes "x")) None none)) (also (For (w (codes "a")) None [] none) none)))))

unbounded_broken : broken unbounded ≡ at 13 6 1 ∷ []
unbounded_broken = ap (broken_by unbounded) (same_entries unbounded)

-- 12: inplace; ref a -> x | y -> _ _; ref a -> u | v -> _ _; do; inc x -> y; inc u -> v; read a -> _; inplace; ref x -> k | k -> _ _; do; end; end
abbrev crowded : Sketch
crowded = sums (add_to (w (codes "a")) (w (codes "a")) (w (codes "w")) (inc_to (w (codes "w")) (w (codes "t"))
    (also (InPlace (Ref (w (codes "a")) (w (codes "x")) (w (codes "y")) None None ∷ Ref (w (codes "a")) (w (codes "u")) (w (codes "v")) None None ∷ [])
    (inc_to (w (codes "x")) (w (codes "y")) (inc_to (w (codes "u")) (w (codes "v")) (also (Read (codes "a") None)
    (also (InPlace (Ref (w (codes "x")) (w (codes "k")) (w (codes "k")) None None ∷ []) none) none))))) none)))

crowded_broken : broken crowded ≡ at 12 12 0 ∷ at 12 8 0 ∷ at 12 14 0 ∷ []
crowded_broken = ap (broken_by crowded) (same_entries crowded)

-- what stands in a loop that may not stand there isn't looked at for that body, but for a `ref`; a body in place in the loop is one of its
-- own: inplace; do; while s -> _; do; read a -> s; inplace; ref s -> x | x -> _ _; do; read a -> _; end; end; end
abbrev nested : Sketch
nested = sums (choosing (also (InPlace []
    (also (While (w (codes "s")) None []
    (also (Read (codes "a") (w (codes "s"))) (also (InPlace (Ref (w (codes "s")) (w (codes "x")) (w (codes "x")) None None ∷ []) (also (Read (codes "a") None) none)) none))) none)) none))

nested_broken : broken nested ≡ at 12 8 0 ∷ at 12 14 0 ∷ at 12 12 0 ∷ []
nested_broken = ap (broken_by nested) (same_entries nested)

-- the loop, and the enqueue in the inner body alone: inplace; do; for a -> _; do; enqueue a a -> _; inplace; do; enqueue a a -> _; end; end; end
abbrev enqueue_only : Trees → Trees
enqueue_only ts = also (Shared shared.Enqueue (w (codes "a") ∷ w (codes "a") ∷ []) (None ∷ [])) ts

abbrev enclosed : Sketch
enclosed = sums (choosing (also (InPlace []
    (also (For (w (codes "a")) None [] (enqueue_only (also (InPlace [] (enqueue_only none)) none))) none)) none))

enclosed_broken : broken enclosed ≡ at 12 8 0 ∷ at 12 13 0 ∷ []
enclosed_broken = ap (broken_by enclosed) (same_entries enclosed)

-- one ref, and a case in the body: inplace; ref a -> x | y -> _ _; do; inc x -> y; case x; tunnel x -> z; when default; inc z -> _; end; end
abbrev modest : Sketch
modest = sums (add_to (w (codes "a")) (w (codes "a")) (w (codes "w")) (inc_to (w (codes "w")) (w (codes "t"))
    (also (InPlace (Ref (w (codes "a")) (w (codes "x")) (w (codes "y")) None None ∷ [])
    (inc_to (w (codes "x")) (w (codes "y")) (also (Case (w (codes "x")) (Tunnel (w (codes "x")) (w (codes "z")) ∷ []) (when (Default ∷ []) [] (inc_to (w (codes "z")) None none) end)) none))) none)))

modest_broken : broken modest ≡ []
modest_broken = ap (broken_by modest) (same_entries modest)

-- 14: obtain "q" 1 i32 -> _; obtain "p" 2 i32 -> _; obtain "q" 2 i32 -> _; obtain "q" 1 i32 -> _: compared with the first of the name, not
-- with the one before
abbrev obtain_only : (name : List ℕ) → ℤ → Trees → Trees
obtain_only name size ts = also (Obtain name size (Num I32) None) ts

abbrev obtains : Sketch
obtains = sums (choosing (obtain_only (codes "q") (pos 1) (obtain_only (codes "p") (pos 2) (obtain_only (codes "q") (pos 2) (obtain_only (codes "q") (pos 1) none)))))

abbrev obtained : (line : ℕ) → (name : List ℕ) → ℤ → Entry
obtained line name size = record { line = line; diagram = 0; kind = kind.Obtain name size (Num I32) None }

abbrev kept : Bool → Entry → List Entry → List Entry
kept b e es = cond b (e ∷ es) es

-- what is told where the test of i32 with itself gives this
abbrev told : (same : Bool) → List Break
told b =
    let differs : Bool = not b || false in
    map (break 0 14) (map whole (kept differs (obtained 6 (codes "q") (pos 1)) (kept differs (obtained 7 (codes "p") (pos 2))
    (obtained 8 (codes "q") (pos 2) ∷ kept differs (obtained 9 (codes "q") (pos 1)) []))))

obtains_broken : broken obtains ≡ at 14 8 0 ∷ []
obtains_broken = ap (broken_by obtains) (same_entries obtains) ∙ ap told (same_type-same (Num I32))

-- 9: MAIN is the name of a VI or of none
absent_there : absent_main (arities (vi_of renames ∷ [])) 1 (codes "Main") ≡ []
absent_there = refl

absent_not_there : absent_main (arities (vi_of renames ∷ [])) 1 (codes "Other") ≡ break 1 9 (record { line = 0; operand = 0 }) ∷ []
absent_not_there = refl
