-- A grammar over other tokens, each of which stands for one of its own.
use Rattle.std.proofs.Common.{◌≡◌, ℕ, zero, suc, List, [], ◌∷◌, ◌++◌, length, map, Option, Some, None, refl, sym, ap, ◌∙◌, subst, inl, inr, ◌⊎◌}
use Rattle.std.specs.Prelude.{Ok, Err}
use Rattle.std.proofs.lemmas.List.{map-append, length-map, append_cancel_right}
use Rattle.g_grammar.specs.Grammar.{Grammar, give, take, bind, loop, first, tail, Has, Read, then, taken, put, more, repeat, read, all_read, IsRefused, Like}
use Rattle.g_grammar.proofs.Laws.{takes, again, same, ends, none}
use Rattle.g_grammar.proofs.Live.{Live, all_err}

abbrev pub over : {U T A : Type 0} → (U → T) → Grammar T A → Grammar U A
over f (give a) = give a
over f (take p) = take (λ u. p (f u))
over f (bind g k) = bind (over f g) (λ a. over f (k a))
over f (loop p k) = loop (λ u. p (f u)) (λ c. over f (k c))

module _ {U T : Type 0} (f : U → T) where
  -- what is read, in the tokens that are stood for
  abbrev plain : {A : Type 0} → Read U A → Read T A
  plain (Ok x) = Ok (x.0, map f x.1)
  plain (Err bad) = Err (map f bad)

  first_over : {A : Type 0} (p : T → Option A) (us : List U) → first p (map f us) ≡ first (λ u. p (f u)) us
  first_over p [] = refl
  first_over p (u ∷ us) = refl

  tail_over : (us : List U) → tail (map f us) ≡ map f (tail us)
  tail_over [] = refl
  tail_over (u ∷ us) = refl

  taken_over : {A : Type 0} (o : Option A) (us : List U) → taken o (map f us) ≡ plain (taken o us)
  taken_over None us = refl
  taken_over (Some a) us = ap (λ (l : List T). Ok (a, l)) (tail_over us)

  then_over : {A B : Type 0} (r : Read U A) (k : A → List T → Read T B) (j : A → List U → Read U B) → ((a : A) (us : List U) → k a (map f us) ≡ plain (j a us)) → then (plain r) k ≡ plain (then r j)
  then_over (Ok x) k j h = h x.0 x.1
  then_over (Err bad) k j h = refl

  alike : {A B : Type 0} (r s : Read T A) (k : A → List T → Read T B) → r ≡ s → then r k ≡ then s k
  alike {A} r s k e = ap (λ (x : Read T A). then x k) e

  put_over : {A D : Type 0} (x : A) (r : Read U (List A × D)) → put x (plain r) ≡ plain (put x r)
  put_over x (Ok y) = refl
  put_over x (Err bad) = refl

  more_over : {A D : Type 0} (go : List T → Read T (List A × D)) (on : List U → Read U (List A × D)) → ((us : List U) → go (map f us) ≡ plain (on us)) → (x : A ⊎ D) (us : List U) → more go x (map f us) ≡ plain (more on x us)
  more_over go on h (inl x) us = ap (put x) (h us) ∙ put_over x (on us)
  more_over go on h (inr d) us = refl

  first_read : {A : Type 0} (p : T → Option A) (us : List U) → taken (first p (map f us)) (map f us) ≡ plain (taken (first (λ u. p (f u)) us) us)
  first_read p us = ap (λ o. taken o (map f us)) (first_over p us) ∙ taken_over (first (λ u. p (f u)) us) us

  repeat_over : {A C D : Type 0} (p : T → Option C) (r : C → List T → Read T (A ⊎ D)) (q : C → List U → Read U (A ⊎ D)) → ((c : C) (us : List U) → r c (map f us) ≡ plain (q c us))
      → (n : ℕ) (us : List U) → repeat p r n (map f us) ≡ plain (repeat (λ u. p (f u)) q n us)
  unfolding repeat
  repeat_over p r q h zero us = refl
  repeat_over {A} {C} {D} p r q h (suc n) us =
      ap (λ (x : Read T C). then (then x r) (more (repeat p r n))) (first_read p us)
      ∙ ap (λ (x : Read T (A ⊎ D)). then x (more (repeat p r n))) (then_over (taken (first (λ u. p (f u)) us) us) r q h)
      ∙ then_over (then (taken (first (λ u. p (f u)) us) us) q) (more (repeat p r n)) (more (repeat (λ u. p (f u)) q n)) (more_over (repeat p r n) (repeat (λ u. p (f u)) q n) (repeat_over p r q h n))

  pub read_over : {A : Type 0} (g : Grammar T A) (us : List U) → read g (map f us) ≡ plain (read (over f g) us)
  read_over (give a) us = refl
  read_over (take p) us = first_read p us
  read_over (bind g k) us =
      alike (read g (map f us)) (plain (read (over f g) us)) (λ a mid. read (k a) mid) (read_over g us)
      ∙ then_over (read (over f g) us) (λ a mid. read (k a) mid) (λ a mid. read (over f (k a)) mid) (λ a mid. read_over (k a) mid)
  read_over (loop p k) us =
      ap (λ (n : ℕ). repeat p (λ c. read (k c)) n (map f us)) (length-map us f)
      ∙ repeat_over p (λ c. read (k c)) (λ c. read (over f (k c))) (λ c mid. read_over (k c) mid) (length us) us

  pub has_over : {A : Type 0} (g : Grammar T A) (us : List U) (a : A) (rest : List U) → Has (over f g) us a rest → Has g (map f us) a (map f rest)
  has_over g us a rest h = takes g (map f us) a (map f rest) (read_over g us ∙ ap plain (again (over f g) us a rest h))

  -- ---- the refused token

  -- the tokens before a refused one begin no phrase with it
  none_all : {A : Type 0} (g : Grammar T A) (ts bad : List T) (r : Read T A) → read g ts ≡ r → all_read r ≡ Err bad
      → (pre : List T) × (ts ≡ pre ++ bad) × ((s : List T) (a : A) → Like bad s → Has g (pre ++ s) a [] → ⊥)
  none_all g ts bad (Ok (b, [])) e h = absurd cc
  none_all g ts bad (Ok (b, t ∷ rest)) e h =
      let l = ends g ts b (t ∷ rest) (takes g ts b (t ∷ rest) e) in
      let q : t ∷ rest ≡ bad = cc in (
        l.0,
        l.1 ∙ ap (λ (u : List T). l.0 ++ u) q,
        λ s a like has. go s (subst (λ (u : List T). Like u s) (sym q) like) (same g (l.0 ++ s) b a s [] (l.2 s) has).1,
      )
    where
      go : (s : List T) → Like (t ∷ rest) s → s ≡ [] → ⊥
      go [] like h = like
      go (u ∷ us) like h = cc
  none_all g ts bad (Err b) e h =
      let q : b ≡ bad = cc in
      let n = none g ts bad (e ∙ ap Err q) in
      (n.0, n.1, λ s a like has. n.2 s a [] like has)

  abbrev Refused : {A : Type 0} → Grammar T A → List U → List T → Type 0
  Refused g us bad = (s : IsRefused g (map f us) bad) × (completion : List U) × (s.completion ≡ map f completion)

  refused_by : {A : Type 0} (g : Grammar T A) (us us_bad : List U) → IsRefused (over f g) us us_bad → all_read (read g (map f us)) ≡ Err (map f us_bad) → Refused g us (map f us_bad)
  refused_by g us us_bad s e =
      let n = none_all g (map f us) (map f us_bad) (read g (map f us)) refl e in
      let place : map f us ≡ map f s.before ++ map f us_bad = ap (map f) s.place ∙ map-append f s.before us_bad in
      let before : n.0 ≡ map f s.before = append_cancel_right n.0 (map f s.before) (map f us_bad) (sym n.1 ∙ place) in (
        record {
          before = n.0;
          place = n.1;
          refused = n.2;
          completion = map f s.completion;
          value = s.value;
          completed =
              subst (λ (l : List T). Has g l s.value []) (map-append f s.before s.completion ∙ ap (λ (l : List T). l ++ map f s.completion) (sym before))
              (has_over g (s.before ++ s.completion) s.value [] s.completed);
        },
        s.completion,
        refl,
      )

  all_plain : {A : Type 0} (r : Read U A) (bad : List T) → all_read (plain r) ≡ Err bad → (us_bad : List U) × (all_read r ≡ Err us_bad) × (map f us_bad ≡ bad)
  all_plain (Ok (a, [])) bad e = absurd cc
  all_plain (Ok (a, u ∷ rest)) bad e = (u ∷ rest, refl, cc)
  all_plain (Err us_bad) bad e = (us_bad, refl, cc)

  -- the completion is of such tokens too
  pub refused_over : {A : Type 0} (g : Grammar T A) → Live (over f g) → (us : List U) (bad : List T) → all_read (read g (map f us)) ≡ Err bad → Refused g us bad
  refused_over g live us bad e =
      let q = all_plain (read (over f g) us) bad (ap all_read (sym (read_over g us)) ∙ e) in
      subst (λ (l : List T). Refused g us l) q.2
      (refused_by g us q.0 (all_err (over f g) live us q.0 (read (over f g) us) refl q.1) (e ∙ ap Err (sym q.2)))
