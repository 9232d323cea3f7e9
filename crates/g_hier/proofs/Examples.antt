-- Recursions, counts and link order of small hierarchies, computed.
use Rattle.std.proofs.Common.{◌≡◌, inr, ℕ, List, [], ◌∷◌, length, refl, ap, arith}
use Rattle.std.specs.Prelude.{Some, None, codes}
use Rattle.g_diagram.specs.declared.hierarchy.Clones.{Clones}
use Rattle.g_diagram.specs.declared.hierarchy.Clones.TheVariants.{NonReentrant, Preallocated, Pool}
use Rattle.g_diagram.specs.declared.hierarchy.System.{System}
use Rattle.g_diagram.specs.declared.hierarchy.System.TheVariants.{Ui, Standard, Daq, Same}
use Rattle.g_diagram.specs.declared.hierarchy.Vi.{Vi}
use Rattle.g_diagram.specs.declared.panel.PanelItem.TheVariants.{Indicator}
use Rattle.g_types.specs.declared.rep.Rep.TheVariants.{I32}
use Rattle.g_types.specs.declared.ty.Ty.TheVariants.{Num}
use Rattle.g_diagram.proofs.Trees.{Sketch, vi_of, same_entries, none, also, For, Call}
use Rattle.g_hier.specs.declared.linked.CallLine.{CallLine}
use Rattle.g_hier.specs.declared.linked.Outline.{Outline}
use Rattle.g_hier.specs.declared.linked.Placed.{Placed}
use Rattle.g_hier.specs.Outlines.{outline_of, calls_on}
use Rattle.g_hier.specs.CallGraph.{recursion_at}
use Rattle.g_hier.specs.Recursion.{IsRecursion}
use Rattle.g_hier.specs.Counts.{AreCounts, nodes_in, told}
use Rattle.g_hier.specs.LinkOrder.{finished, passed, entered, AreInLinkOrder, vis_after}

abbrev line : (line vi : ℕ) → CallLine
line l v = record { line = l; vi = v }

-- a VI with a node for each call line
abbrev vi : Clones → System → List CallLine → Outline
vi clones system cs = record { clones = clones; system = system; nodes = length cs; calls = cs }

-- vi Main nonreentrant same; indicator r i32 <- a; for a -> i; do; call B; end; call A; call X; end
abbrev sketch : Sketch
sketch = record {
  name = codes "Main";
  clones = NonReentrant;
  system = Same;
  panel = Indicator (codes "r") (Num I32) (Some (codes "a")) ∷ [];
  top = also (For (Some (codes "a")) (Some (codes "i")) [] (also (Call (codes "B") [] []) none)) (also (Call (codes "A") [] []) (also (Call (codes "X") [] []) none));
}

abbrev called : List ℕ → Vi
called name = vi_of (record { name = name; clones = NonReentrant; system = Same; panel = []; top = none })

-- two VIs are named B: the first is meant. No VI is named X
abbrev vis : List Vi
vis = vi_of sketch ∷ called (codes "A") ∷ called (codes "B") ∷ called (codes "B") ∷ []

outline_computed : outline_of vis (vi_of sketch) ≡ record { clones = NonReentrant; system = Same; nodes = 5; calls = line 4 2 ∷ line 6 1 ∷ line 7 4 ∷ [] }
outline_computed = ap (λ es. record { clones = NonReentrant; system = Same; nodes = length es; calls = calls_on vis es }) (same_entries sketch)

-- Main calls A and C, A calls B, and B calls A: the line of A in B and that of B in A are broken
abbrev turning : List Outline
turning = vi NonReentrant Same (line 1 1 ∷ line 2 3 ∷ []) ∷ vi NonReentrant Same (line 1 2 ∷ []) ∷ vi NonReentrant Same (line 5 1 ∷ []) ∷ vi NonReentrant Same [] ∷ []

in_a : IsRecursion turning (recursion_at 1 1)
in_a = record { rule = refl; whole = refl; call = line 1 2; stands = (0, omega arith, refl); line = refl; back = inr (0, refl) }

in_b : IsRecursion turning (recursion_at 2 5)
in_b = record { rule = refl; whole = refl; call = line 5 1; stands = (0, omega arith, refl); line = refl; back = inr (0, refl) }

-- MAIN, which says that it is a pool, calls A twice; A calls B twice; B calls the pool P and the non-reentrant N. MAIN doesn't reach U, which calls B
abbrev cloned : List Outline
cloned =
    vi (Pool 5) Same (line 1 1 ∷ line 2 1 ∷ []) ∷ vi Preallocated Same (line 1 2 ∷ line 2 2 ∷ []) ∷ vi Preallocated Same (line 1 3 ∷ line 2 4 ∷ [])
    ∷ vi (Pool 3) Same [] ∷ vi NonReentrant Same [] ∷ vi NonReentrant Same (line 1 2 ∷ []) ∷ []

counts_computed : AreCounts cloned 0 (1 ∷ 2 ∷ 4 ∷ 3 ∷ 1 ∷ 0 ∷ [])
counts_computed = refl

nodes_computed : nodes_in cloned (1 ∷ 2 ∷ 4 ∷ 3 ∷ 1 ∷ 0 ∷ []) ≡ 14
nodes_computed = refl

told_computed : told 9223372036854775809 ≡ 9223372036854775808
told_computed = refl

-- Main calls A and B; A calls the pool P; B calls P, and C twice. The `same` of P and of C is that of the first call: of A and of B
abbrev ordered : List Outline
ordered =
    vi NonReentrant Same [] ∷ vi (Pool 2) Same [] ∷ vi Preallocated Same (line 1 1 ∷ line 2 0 ∷ line 3 0 ∷ []) ∷ vi Preallocated Daq (line 1 1 ∷ [])
    ∷ vi (Pool 3) Same (line 1 3 ∷ line 2 2 ∷ []) ∷ vi NonReentrant Ui (line 1 3 ∷ []) ∷ []

abbrev own : (vi clone : ℕ) → System → Placed
own v k system = record { space = record { vi = v; clone = k; caller = None }; system = system }

abbrev of : (vi space line : ℕ) → System → Placed
of v s l system = record { space = record { vi = v; clone = 0; caller = Some (record { space = s; line = l }) }; system = system }

abbrev met : List Placed
met = own 4 0 Standard ∷ of 3 0 1 Daq ∷ own 1 0 Daq ∷ own 1 1 Daq ∷ of 2 0 2 Standard ∷ own 0 0 Standard ∷ []

order_computed : AreInLinkOrder ordered 4 met
order_computed =
    entered refl
    (entered refl
    (entered refl finished (entered refl finished finished))
    (entered refl (passed refl (passed refl (entered refl finished (passed refl finished)))) finished))
    finished

vis_computed : vis_after [] met ≡ 4 ∷ 3 ∷ 1 ∷ 2 ∷ 0 ∷ []
vis_computed = refl
