-- Answers node by node.
use Rattle.std.proofs.Common.{◌≡◌, ◌⊎◌, inl, inr, ⊎_elim, ℕ, ◌+◌, ◌<◌, Bool, true, false, List, [], ◌∷◌, ◌++◌, length, refl, sym, ◌∙◌, subst, arith, length-append}
use Rattle.std.proofs.lemmas.Grind.{common_steps}
use Rattle.g_diagram.specs.Leads.{Leads}
use Rattle.g_graph.specs.Graph.{Graph, TellsCycles, has_edge, is_marked}
use Rattle.g_graph.specs.Hints.{AreShown, is_on, rank_of, root_of, near_of, far_of}
use Rattle.g_graph.specs.declared.hint.Hint.{Hint}
use Rattle.g_graph.proofs.Shows.{shown_on, shown_off}

old_mark : (ms : List Bool) (b : Bool) (v : ℕ) → v < length ms → is_marked (ms ++ b ∷ []) v ≡ is_marked ms v
old_mark ms b v lt = grind (arith, common_steps)

new_mark : (ms : List Bool) (b : Bool) (v : ℕ) → length ms ≡ v → is_marked (ms ++ b ∷ []) v ≡ b
new_mark ms b v e = grind (arith, common_steps)

below_or_last : (v n : ℕ) → v < n + 1 → (v < n) ⊎ (n ≡ v)
below_or_last v n lt = grind arith

pub tells_more : (g : Graph) (n : ℕ) (ms ns : List Bool) (b : Bool) → ns ≡ ms ++ b ∷ [] → TellsCycles g n ms → (b ≡ true → Leads (has_edge g) n n) → (Leads (has_edge g) n n → b ≡ true) → TellsCycles g (n + 1) ns
tells_more g n ms ns b e t turns told = let P : List Bool → Type 0 = TellsCycles g (n + 1) in subst P (sym e) (record {
  long = let len = t.long in omega (arith, len, length-append ms (b ∷ []));
  sound = λ v lt h. ⊎_elim
      (λ below. t.sound v below (sym (old_mark ms b v (omega (arith, below, t.long))) ∙ h))
      (λ last. let Q : ℕ → Type 0 = λ x. Leads (has_edge g) x x in subst Q last (turns (sym (new_mark ms b v (t.long ∙ last)) ∙ h)))
      (below_or_last v n lt);
  complete = λ v lt l. ⊎_elim
      (λ below. old_mark ms b v (omega (arith, below, t.long)) ∙ t.complete v below l)
      (λ last. new_mark ms b v (t.long ∙ last) ∙ told (let Q : ℕ → Type 0 = λ x. Leads (has_edge g) x x in subst Q (sym last) l))
      (below_or_last v n lt);
})

true_or : (b : Bool) → (b ≡ true) ⊎ (b ≡ false)
true_or true = inl refl
true_or false = inr refl

pub on_tells : (g : Graph) (hs : List Hint) → AreShown g hs → (v : ℕ) → Leads (has_edge g) v v → is_on hs v ≡ true
on_tells g hs s v l = ⊎_elim (λ e. e) (λ off. absurd (shown_off (has_edge g) (is_on hs) (rank_of hs) (root_of hs) (near_of hs) (far_of hs) s v off l)) (true_or (is_on hs v))

pub on_turns : (g : Graph) (hs : List Hint) → AreShown g hs → (v : ℕ) → is_on hs v ≡ true → Leads (has_edge g) v v
on_turns g hs s v e = shown_on (has_edge g) (is_on hs) (rank_of hs) (root_of hs) (near_of hs) (far_of hs) s v e
