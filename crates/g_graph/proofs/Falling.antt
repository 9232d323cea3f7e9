-- Rows whose steps fall.
use Rattle.std.proofs.Common.{◌≡◌, ◌⊎◌, inl, inr, ⊎_elim, ℕ, ◌+◌, ◌<◌, ◌≤◌, true, false, ◌==◌, List, length, take, get_or, sym, ap, ◌∙◌, subst, arith}
use Rattle.std.specs.Prelude.{slice_get, Some}
use Rattle.std.proofs.lemmas.List.Folds.{list_any_more}
use Rattle.std.proofs.lemmas.Option.{slice_get_past}
use Rattle.g_graph.specs.declared.hint.Hint.{Hint}
use Rattle.g_graph.specs.Graph.{Graph, has, has_edge, row_of}
use Rattle.g_graph.specs.Hints.{RowFalls, StepFalls, NodeShown, AreShown, rank_of, is_on, on_in}
use Rattle.g_graph.proofs.Search.{or_cases, same_number}

has_more : (row : List ℕ) (i b : ℕ) → i < length row → has (take (i + 1) row) b ≡ true → (has (take i row) b ≡ true) ⊎ (get_or row i 0 ≡ b)
has_more row i b lt h = ⊎_elim inl (λ e. inr (same_number (get_or row i 0) b e)) (or_cases (has (take i row) b) (get_or row i 0 == b) (sym (list_any_more (λ c. c == b) row i 0 lt) ∙ h))

pub row_more : (hs : List Hint) (h : Hint) (row : List ℕ) (i : ℕ) (after : Hint) → RowFalls hs h (take i row) → i < length row → slice_get hs (get_or row i 0) ≡ Some after → StepFalls h after.rank → RowFalls hs h (take (i + 1) row)
row_more hs h row i after f lt at s = record {
  falls = λ b e. ⊎_elim (f.falls b) (λ same. let P : ℕ → Type 0 = λ x. rank_of hs x ≤ h.rank in subst P same (rw at s.0)) (has_more row i b lt e);
  drops = λ b off e. ⊎_elim (f.drops b off) (λ same. let P : ℕ → Type 0 = λ x. rank_of hs x < h.rank in subst P same (rw at (s.1 off))) (has_more row i b lt e);
}

off : {T : Type 0} → false ≡ true → T
off e = cc

pub all_shown : (g : Graph) (hs : List Hint) → length hs ≡ length g → ((v : ℕ) → v < length g → NodeShown g hs v) → AreShown g hs
all_shown g hs len f = record {
  falls = λ a b e. ⊎_elim (λ lt. (f a lt).falls b e) (λ no. off (sym (no_edge g a no b) ∙ e)) (below_or a (length g));
  drops = λ a b o e. ⊎_elim (λ lt. (f a lt).drops b o e) (λ no. off (sym (no_edge g a no b) ∙ e)) (below_or a (length g));
  enters = λ v e. ⊎_elim (λ lt. (f v lt).enters e) (λ no. off (sym (no_hint hs v (omega (arith, no, len))) ∙ e)) (below_or v (length g));
  leaves = λ v e. ⊎_elim (λ lt. (f v lt).leaves e) (λ no. off (sym (no_hint hs v (omega (arith, no, len))) ∙ e)) (below_or v (length g));
  turns = λ v e. ⊎_elim (λ lt. (f v lt).turns e) (λ no. off (sym (no_hint hs v (omega (arith, no, len))) ∙ e)) (below_or v (length g));
}
  where
    below_or : (a n : ℕ) → (a < n) ⊎ (n ≤ a)
    below_or a n = grind arith

    no_edge : (g : Graph) (a : ℕ) → length g ≤ a → (b : ℕ) → has_edge g a b ≡ false
    no_edge g a le b = ap (λ o. has (row_of o) b) (slice_get_past g a le)

    no_hint : (hs : List Hint) (v : ℕ) → length hs ≤ v → is_on hs v ≡ false
    no_hint hs v le = ap on_in (slice_get_past hs v le)
