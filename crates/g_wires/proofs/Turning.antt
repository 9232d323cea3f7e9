-- Which lines lead to themselves, by marks.
use Rattle.std.proofs.Common.{◌≡◌, ℕ, zero, suc, ◌+◌, ◌<◌, Bool, false, List, length, take, get_or, sym, ap, ◌∙◌, arith}
use Rattle.std.specs.Prelude.{All}
use Rattle.std.specs.List.{list_any}
use Rattle.std.proofs.lemmas.List.{length-take-le, get_or-take}
use Rattle.g_diagram.specs.Leads.{Walk, Leads}
use Rattle.g_graph.specs.Graph.{Graph, TellsCycles, has_edge}
use Rattle.g_wires.specs.declared.coded.Coded.{Coded}
use Rattle.g_wires.specs.Marks.{NodeBelow, is_edge}
use Rattle.g_wires.specs.Checked.{TellsLines}
use Rattle.g_wires.proofs.Bipartite.{wires_lead, edges_lead, lead_below}

walk_same : (f g : ℕ → ℕ → Bool) → ((a b : ℕ) → f a b ≡ g a b) → (n a b : ℕ) → Walk f n a b → Walk g n a b
walk_same f g h zero a b w = sym (h a b) ∙ w
walk_same f g h (suc n) a b w = (w.0, walk_same f g h n a w.0 w.1, sym (h w.0 b) ∙ w.2)

-- steps that agree lead alike
pub leads_same : (f g : ℕ → ℕ → Bool) → ((a b : ℕ) → f a b ≡ g a b) → (a b : ℕ) → Leads f a b → Leads g a b
leads_same f g h a b l = (l.0, walk_same f g h l.0 a b l.1)

module _ (lines count : ℕ) (cs : List Coded) (g : Graph) (all marks : List Bool) (nodes : All (NodeBelow lines) cs) (long : length g ≡ lines + count)
    (edges : (a b : ℕ) → has_edge g a b ≡ list_any (is_edge lines a b) cs) (t : TellsCycles g (length g) all) (same : marks ≡ take lines all) where
  all_long : length all ≡ length g
  all_long = t.long

  length_is : length marks ≡ lines
  length_is = ap length same ∙ length-take-le lines all (omega (arith, long, all_long))

  mark_is : (v : ℕ) → v < lines → get_or marks v false ≡ get_or all v false
  mark_is v lt = ap (λ ms. get_or ms v false) same ∙ get_or-take lines all v false lt

  pub lines_told : TellsLines cs marks
  lines_told = record {
    sound = λ v lt h.
        let below : v < lines = omega (arith, length_is) in
        wires_lead lines cs nodes v below
        (leads_same (has_edge g) (λ a b. list_any (is_edge lines a b) cs) edges v v (t.sound v (omega (arith, long, below)) (sym (mark_is v below) ∙ h)));
    below = λ v l. let lt = lead_below lines cs nodes l.0 v v l.1 in omega (arith, length_is, lt);
    complete = λ v l.
        let lt : v < lines = lead_below lines cs nodes l.0 v v l.1 in
        mark_is v lt ∙ t.complete v (omega (arith, long, lt))
        (leads_same (λ a b. list_any (is_edge lines a b) cs) (has_edge g) (λ a b. sym (edges a b)) v v (edges_lead lines cs nodes v l));
  }
