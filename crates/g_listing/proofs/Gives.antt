-- The `give` line: so many operands.
use Rattle.std.proofs.Common.{◌≡◌, ℕ, zero, suc, ◌+◌, ◌-◌, ◌<◌, ◌≤◌, List, [], ◌∷◌, ◌++◌, refl, sym, ap, ◌∙◌, arith, append_assoc}
use Rattle.std.proofs.lemmas.List.{append-nil}
use Rattle.std.specs.Prelude.{Ok, Err, codes}
use Rattle.g_grammar.specs.Grammar.{Grammar, take, exactly, Read, then, read}
use Rattle.g_grammar.specs.Reads.{Stops, with_front}
use Rattle.g_grammar.specs.declared.Stop.{Stop}
use Rattle.g_grammar.specs.declared.Stop.TheVariants as stop
use Rattle.g_tokens.specs.declared.token.Token.{Token}
use Rattle.g_listing_grammar.specs.Words.{word, wire, eol}
use Rattle.g_listing_grammar.specs.Nodes.{gives}

pub gives_none : (n : ℕ) (ts : List Token) → n ≡ 0 → read (gives n) ts ≡ Ok ([], ts)
gives_none zero ts e = refl
gives_none (suc n) ts e = absurd (omega arith)

pub gives_some : (n : ℕ) (ts : List Token) → 0 < n
    → read (gives n) ts ≡ then (read (take (word (codes "give"))) ts) (λ x mid. then (read (exactly n (take wire)) mid) (λ ws mid. then (read (take eol) mid) (λ e mid. Ok (ws, mid))))
gives_some zero ts lt = absurd (omega arith)
gives_some (suc n) ts lt = refl

-- ---- the loop over the operands

module _ {T A : Type 0} (g : Grammar T A) where
  no_front : (r : Read T (List A)) → with_front [] r ≡ r
  no_front (Ok x) = refl
  no_front (Err bad) = refl

  pub at_start : (count : ℕ) (ts : List T) → with_front [] (read (exactly (count - 0) g) ts) ≡ read (exactly count g) ts
  at_start count ts = let e : count - 0 ≡ count = omega arith in rw e (no_front (read (exactly count g) ts))

  front_put : (front : List A) (x : A) (r : Read T (List A)) → with_front front (then r (λ xs mid. Ok (x ∷ xs, mid))) ≡ with_front (front ++ x ∷ []) r
  front_put front x (Ok y) = ap (λ (l : List _). Ok (l, y.1)) (sym (append_assoc front (x ∷ []) y.0))
  front_put front x (Err bad) = refl

  pub one_more : (front : List A) (count i : ℕ) (ts mid : List T) (x : A) (total : Read T (List A)) → i < count → read g ts ≡ Ok (x, mid)
      → with_front front (read (exactly (count - i) g) ts) ≡ total → with_front (front ++ x ∷ []) (read (exactly (count - (i + 1)) g) mid) ≡ total
  one_more front count i ts mid x total lt one so_far =
      let k : count - i ≡ suc (count - (i + 1)) = omega arith in
      let e : with_front front (read (exactly (count - i) g) ts) ≡ with_front (front ++ x ∷ []) (read (exactly (count - (i + 1)) g) mid) =
      rw (k, one) (front_put front x (read (exactly (count - (i + 1)) g) mid)) in
      sym e ∙ so_far

  pub stops_here : (front : List A) (count i : ℕ) (ts : List T) (s : Stop T) (total : Read T (List A)) → i < count → Stops s (read g ts)
      → with_front front (read (exactly (count - i) g) ts) ≡ total → Stops s total
  stops_here front count i ts (stop.Memory m) total lt h so_far = tt
  stops_here front count i ts (stop.At bad) total lt h so_far =
      let k : count - i ≡ suc (count - (i + 1)) = omega arith in
      let e : with_front front (read (exactly (count - i) g) ts) ≡ Err bad.now = rw (k, h) refl in
      sym so_far ∙ e

  pub all_there : (front : List A) (count i : ℕ) (ts : List T) (total : Read T (List A)) → count ≤ i → with_front front (read (exactly (count - i) g) ts) ≡ total → total ≡ Ok (front, ts)
  all_there front count i ts total le so_far =
      let k : count - i ≡ 0 = omega arith in
      let e : with_front front (read (exactly (count - i) g) ts) ≡ Ok (front, ts) = rw k (ap (λ (l : List A). Ok (l, ts)) (append-nil front)) in
      sym so_far ∙ e
