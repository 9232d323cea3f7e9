-- Inner: the graph of VIs and call lines, and the breaks that its cycles show.
use Rattle.std.specs.Prelude.{ℕ, suc, ◌<◌, ◌==◌, Bool, true, false, ◌&&◌, ◌||◌, List, [], ◌∷◌, ◌++◌, map}
use Rattle.g_diagram.specs.declared.place.Break.{Break}
use Rattle.g_hier.specs.declared.linked.CallLine.{CallLine}
use Rattle.g_hier.specs.declared.linked.Outline.{Outline}
use Rattle.g_hier.specs.declared.graph.HeldCall.{HeldCall}

abbrev pub held : (holder : ℕ) → CallLine → HeldCall
held v c = record { holder = v; line = c.line; called = c.vi }

-- the call lines of VIs, of which the first has a number
abbrev pub held_from : (vi : ℕ) → List Outline → List HeldCall
held_from vi [] = []
held_from vi (o ∷ os) = map (held vi) o.calls ++ held_from (suc vi) os

abbrev pub EndsBelow : ℕ → HeldCall → Type 0
EndsBelow n h = (h.holder < n) × (h.called < n)

-- the edges of a call line: from the VI that holds it, and to the VI that it calls
abbrev pub is_edge : (vertex : ℕ) → HeldCall → (a b : ℕ) → Bool
is_edge v h a b = ((h.holder == a) && (v == b)) || ((v == a) && (h.called == b))

-- those of call lines, from a vertex on
abbrev pub edges : (vertex : ℕ) → List HeldCall → (a b : ℕ) → Bool
edges v [] a b = false
edges v (h ∷ hs) a b = is_edge v h a b || edges (suc v) hs a b

-- the break of a call line that leads back
abbrev pub recursion_at : (vi line : ℕ) → Break
recursion_at vi line = record { place = record { vi = vi; line = line; operand = 0 }; rule = 19 }

abbrev pub break_if : Bool → HeldCall → List Break
break_if true h = recursion_at h.holder h.line ∷ []
break_if false h = []

-- the breaks of marked call lines
abbrev pub breaks_from : (is_marked : ℕ → Bool) → (vertex : ℕ) → List HeldCall → List Break
breaks_from is_marked v [] = []
breaks_from is_marked v (h ∷ hs) = break_if (is_marked v) h ++ breaks_from is_marked (suc v) hs
