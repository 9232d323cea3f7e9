-- What a loop over the tokens keeps: what was read before and what is still read are what the grammar's loop reads.
use Rattle.std.proofs.Common.{◌≡◌, ℕ, suc, ◌+◌, ◌-◌, ◌<◌, ◌≤◌, List, [], ◌∷◌, ◌++◌, Option, refl, sym, ap, ◌∙◌, inl, inr, ◌⊎◌, arith, append_assoc}
use Rattle.std.proofs.lemmas.List.{append-nil}
use Rattle.std.specs.Prelude.{Ok, Err}
use Rattle.g_grammar.specs.Grammar.{Grammar, take, Read, then, put, more, repeat, read, ◌>>=◌}
use Rattle.g_grammar.specs.declared.Stop.{Stop}
use Rattle.g_grammar.specs.declared.Stop.TheVariants as stop
use Rattle.g_grammar.specs.Reads.{Stops, fronts, ended}

module _ {T A C D : Type 0} (p : T → Option C) (k : C → Grammar T (A ⊎ D)) where
  abbrev turns : ℕ → List T → Read T (List A × D)
  turns n ts = repeat p (λ c. read (k c)) n ts

  one_turn : (n i : ℕ) (ts : List T) → i < n → turns (n - i) ts ≡ then (read (take p >>= k) ts) (more (turns (n - (i + 1))))
  unfolding repeat
  one_turn n i ts lt = let e : n - i ≡ suc (n - (i + 1)) = omega arith in rw e refl

  fronts_put : (front : List A) (x : A) (r : Read T (List A × D)) → fronts front (put x r) ≡ fronts (front ++ x ∷ []) r
  fronts_put front x (Ok y) = ap (λ (l : List A). Ok (l, y.1)) (sym (append_assoc front (x ∷ []) y.0.0))
  fronts_put front x (Err bad) = refl

  pub loop_more : (front : List A) (n i : ℕ) (ts mid : List T) (x : A) (total : Read T (List A)) → i < n → read (take p >>= k) ts ≡ Ok (inl x, mid)
      → fronts front (turns (n - i) ts) ≡ total → fronts (front ++ x ∷ []) (turns (n - (i + 1)) mid) ≡ total
  loop_more front n i ts mid x total lt e so_far =
      let one : turns (n - i) ts ≡ put x (turns (n - (i + 1)) mid) = one_turn n i ts lt ∙ ap (λ (r : Read T (A ⊎ D)). then r (more (turns (n - (i + 1))))) e in
      sym (fronts_put front x (turns (n - (i + 1)) mid)) ∙ ap (fronts front) (sym one) ∙ so_far

  pub loop_last : (front : List A) (n i : ℕ) (ts mid : List T) (d : D) (total : Read T (List A)) → i < n → read (take p >>= k) ts ≡ Ok (inr d, mid)
      → fronts front (turns (n - i) ts) ≡ total → total ≡ Ok (front, mid)
  loop_last front n i ts mid d total lt e so_far =
      let one : turns (n - i) ts ≡ Ok (([], d), mid) = one_turn n i ts lt ∙ ap (λ (r : Read T (A ⊎ D)). then r (more (turns (n - (i + 1))))) e in
      sym so_far ∙ ap (fronts front) one ∙ ap (λ (l : List A). Ok (l, mid)) (append-nil front)

  pub loop_stops : (front : List A) (n i : ℕ) (ts : List T) (e : Stop T) (total : Read T (List A)) → i < n → Stops e (read (take p >>= k) ts)
      → fronts front (turns (n - i) ts) ≡ total → Stops e total
  loop_stops front n i ts (stop.Memory m) total lt h so_far = tt
  loop_stops front n i ts (stop.At bad) total lt h so_far =
      let one : turns (n - i) ts ≡ Err bad.now = one_turn n i ts lt ∙ ap (λ (r : Read T (A ⊎ D)). then r (more (turns (n - (i + 1))))) h in
      sym so_far ∙ ap (fronts front) one

  pub loop_out : (front : List A) (n i : ℕ) (ts : List T) (total : Read T (List A)) → n ≤ i → fronts front (turns (n - i) ts) ≡ total → total ≡ Err ts
  unfolding repeat
  loop_out front n i ts total le so_far = let e : n - i ≡ 0 = omega arith in sym so_far ∙ rw e refl

  -- the same with what ended the loop
  put_ended : (front : List A) (x : A) (r : Read T (List A × D)) → ended front (put x r) ≡ ended (front ++ x ∷ []) r
  put_ended front x (Ok y) = ap (λ (l : List A). Ok ((l, y.0.1), y.1)) (sym (append_assoc front (x ∷ []) y.0.0))
  put_ended front x (Err bad) = refl

  pub ended_more : (front : List A) (n i : ℕ) (ts mid : List T) (x : A) (total : Read T (List A × D)) → i < n → read (take p >>= k) ts ≡ Ok (inl x, mid)
      → ended front (turns (n - i) ts) ≡ total → ended (front ++ x ∷ []) (turns (n - (i + 1)) mid) ≡ total
  ended_more front n i ts mid x total lt e so_far =
      let one : turns (n - i) ts ≡ put x (turns (n - (i + 1)) mid) = one_turn n i ts lt ∙ ap (λ (r : Read T (A ⊎ D)). then r (more (turns (n - (i + 1))))) e in
      sym (put_ended front x (turns (n - (i + 1)) mid)) ∙ ap (ended front) (sym one) ∙ so_far

  pub ended_last : (front : List A) (n i : ℕ) (ts mid : List T) (d : D) (total : Read T (List A × D)) → i < n → read (take p >>= k) ts ≡ Ok (inr d, mid)
      → ended front (turns (n - i) ts) ≡ total → total ≡ Ok ((front, d), mid)
  ended_last front n i ts mid d total lt e so_far =
      let one : turns (n - i) ts ≡ Ok (([], d), mid) = one_turn n i ts lt ∙ ap (λ (r : Read T (A ⊎ D)). then r (more (turns (n - (i + 1))))) e in
      sym so_far ∙ ap (ended front) one ∙ ap (λ (l : List A). Ok ((l, d), mid)) (append-nil front)

  pub ended_stops : (front : List A) (n i : ℕ) (ts : List T) (e : Stop T) (total : Read T (List A × D)) → i < n → Stops e (read (take p >>= k) ts)
      → ended front (turns (n - i) ts) ≡ total → Stops e total
  ended_stops front n i ts (stop.Memory m) total lt h so_far = tt
  ended_stops front n i ts (stop.At bad) total lt h so_far =
      let one : turns (n - i) ts ≡ Err bad.now = one_turn n i ts lt ∙ ap (λ (r : Read T (A ⊎ D)). then r (more (turns (n - (i + 1))))) h in
      sym so_far ∙ ap (ended front) one

  pub ended_out : (front : List A) (n i : ℕ) (ts : List T) (total : Read T (List A × D)) → n ≤ i → ended front (turns (n - i) ts) ≡ total → total ≡ Err ts
  unfolding repeat
  ended_out front n i ts total le so_far = let e : n - i ≡ 0 = omega arith in sym so_far ∙ rw e refl
