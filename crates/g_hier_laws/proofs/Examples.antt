-- The data spaces of a small hierarchy against its counts, computed.
use Rattle.std.proofs.Common.{◌≡◌, ◌==◌, ℕ, List, [], ◌∷◌, map, refl}
use Rattle.std.specs.Prelude.{Some, None}
use Rattle.std.specs.List.{count_by}
use Rattle.g_diagram.specs.declared.hierarchy.Clones.{Clones}
use Rattle.g_diagram.specs.declared.hierarchy.Clones.TheVariants.{NonReentrant, Preallocated, Pool}
use Rattle.g_diagram.specs.declared.hierarchy.System.TheVariants.{Standard}
use Rattle.g_hier.specs.declared.linked.CallLine.{CallLine}
use Rattle.g_hier.specs.declared.linked.Outline.{Outline}
use Rattle.g_hier.specs.declared.linked.Placed.{Placed}
use Rattle.g_hier.specs.declared.linked.Space.{Space}
use Rattle.g_hier.specs.Counts.{AreCounts, nodes_in}
use Rattle.g_hier.specs.LinkOrder.{finished, passed, entered, AreInLinkOrder}
use Rattle.g_hier_laws.specs.Counted.{nodes_over}

abbrev vi : Clones → (nodes : ℕ) → List CallLine → Outline
vi clones nodes cs = record { clones = clones; system = Standard; nodes = nodes; calls = cs }

abbrev line : (line vi : ℕ) → CallLine
line l v = record { line = l; vi = v }

-- MAIN calls A twice, and the pool P; A calls P and N. Nothing calls U
abbrev outlines : List Outline
outlines =
    vi NonReentrant 3 (line 1 1 ∷ line 2 1 ∷ line 3 2 ∷ []) ∷ vi Preallocated 2 (line 1 2 ∷ line 2 3 ∷ []) ∷ vi (Pool 2) 4 [] ∷ vi NonReentrant 5 []
    ∷ vi NonReentrant 7 (line 1 3 ∷ []) ∷ []

abbrev own : (vi clone : ℕ) → Placed
own v k = record { space = record { vi = v; clone = k; caller = None }; system = Standard }

abbrev of_main : (line : ℕ) → Placed
of_main l = record { space = record { vi = 1; clone = 0; caller = Some (record { space = 0; line = l }) }; system = Standard }

abbrev met : List Placed
met = own 0 0 ∷ of_main 1 ∷ own 2 0 ∷ own 2 1 ∷ own 3 0 ∷ of_main 2 ∷ []

abbrev spaces : List Space
spaces = map (λ p. p.space) met

met_computed : AreInLinkOrder outlines 0 met
met_computed =
    entered refl
    (entered refl (entered refl finished (entered refl finished (entered refl finished finished)))
    (entered refl (passed refl (passed refl (passed refl finished))) (passed refl (passed refl finished))))
    finished

counts_computed : AreCounts outlines 0 (1 ∷ 2 ∷ 2 ∷ 1 ∷ 0 ∷ [])
counts_computed = refl

spaces_computed : map (λ v. count_by (λ s. s.vi == v) spaces) (0 ∷ 1 ∷ 2 ∷ 3 ∷ 4 ∷ 5 ∷ []) ≡ 1 ∷ 2 ∷ 2 ∷ 1 ∷ 0 ∷ 0 ∷ []
spaces_computed = refl

nodes_computed : nodes_over outlines spaces ≡ 20
nodes_computed = refl

same_nodes_computed : nodes_in outlines (1 ∷ 2 ∷ 2 ∷ 1 ∷ 0 ∷ []) ≡ 20
same_nodes_computed = refl
