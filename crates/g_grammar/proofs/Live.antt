-- Each front of tokens that reading has passed can be completed to a phrase.
use Rattle.std.proofs.Common.{◌≡◌, ℕ, zero, suc, ◌≤◌, List, [], ◌∷◌, ◌++◌, length, Option, Some, None, refl, sym, ap, subst, ◌∙◌, arith, append_assoc, inl, inr, ◌⊎◌}
use Rattle.std.proofs.lemmas.List.{append-nil, append_cancel_right}
use Rattle.std.specs.Prelude.{Ok, Err}
use Rattle.g_grammar.specs.Grammar.{Grammar, give, take, bind, loop, first, tail, Has, Read, then, taken, more, repeat, read, IsSpot, IsRefused, all_read, exactly, either, Like}
use Rattle.g_grammar.proofs.Laws.{same, then_ok, then_err, taken_ok, taken_err, first_is, ends, takes, no_longer, put_err, none}

-- a front of the tokens up to the refused one, and what completes it
abbrev pub Opens : {T A : Type 0} → (List T → A → List T → Type 0) → List T → List T → Type 0
Opens {T} {A} R ts bad = (pre more : List T) × (a : A) × (ts ≡ pre ++ bad) × R (pre ++ more) a []

pub record Live {T A : Type 0} (g : Grammar T A) : Type 0 where
  -- some phrase
  pub phrase : List T
  pub value : A
  pub sample : Has g phrase value []
  -- where a token is refused, the tokens before it can be completed
  pub opens : (ts bad : List T) → read g ts ≡ Err bad → Opens (Has g) ts bad

nil_is : {T : Type 0} (pre : List T) (ts : List T) → ts ≡ pre ++ [] → pre ≡ ts
nil_is pre ts e = sym (append-nil pre) ∙ sym e

-- what may follow a phrase
pub extends : {T A : Type 0} (g : Grammar T A) (ts : List T) (a : A) → Has g ts a [] → (s : List T) → Has g (ts ++ s) a s
extends g ts a h s =
    let e = ends g ts a [] h in
    subst (λ (u : List _). Has g (u ++ s) a s) (nil_is e.0 ts e.1) (e.2 s)

pub live_give : {T A : Type 0} (a : A) → Live {T = T} (give a)
live_give a = record { phrase = []; value = a; sample = (refl, refl); opens = λ ts bad e. absurd cc }

pub live_take : {T A : Type 0} {p : T → Option A} (t : T) (a : A) → p t ≡ Some a → Live (take p)
live_take {T} {A} {p} t a h = record {
  phrase = t ∷ [];
  value = a;
  sample = (h, refl);
  opens = λ ts bad e. let q = taken_err (first p ts) ts bad e in ([], t ∷ [], a, q.1, (h, refl));
}

pub live_bind : {T A B : Type 0} {g : Grammar T A} {f : A → Grammar T B} → Live g → ((a : A) → Live (f a)) → Live (bind g f)
live_bind {T} {A} {B} {g} {f} lg lf = record {
  phrase = lg.phrase ++ (lf lg.value).phrase;
  value = (lf lg.value).value;
  sample = (lg.value, (lf lg.value).phrase, extends g lg.phrase lg.value lg.sample (lf lg.value).phrase, (lf lg.value).sample);
  opens = λ ts bad e. elim (then_err (read g ts) (λ a mid. read (f a) mid) bad e) [
    | inl e1 ↦
        let q = lg.opens ts bad e1 in
        let l = lf q.2 in (
          q.0,
          q.1 ++ l.phrase,
          l.value,
          q.3,
          (q.2, l.phrase, subst (λ (u : List T). Has g u q.2 l.phrase) (append_assoc q.0 q.1 l.phrase) (extends g (q.0 ++ q.1) q.2 q.4 l.phrase), l.sample),
        )
    | inr x ↦
        let l = ends g ts x.0 x.1 (takes g ts x.0 x.1 x.2) in
        let q = (lf x.0).opens x.1 bad x.3 in (
          l.0 ++ q.0,
          q.1,
          q.2,
          l.1 ∙ ap (λ (u : List T). l.0 ++ u) q.3 ∙ sym (append_assoc l.0 q.0 bad),
          (x.0, q.0 ++ q.1, subst (λ (u : List T). Has g u x.0 (q.0 ++ q.1)) (sym (append_assoc l.0 q.0 q.1)) (l.2 (q.0 ++ q.1)), q.4),
        )
  ];
}

-- one of several forms, by the first token: each form that some token begins can be completed
pub live_choice : {T A C : Type 0} (p : T → Option C) (k : C → Grammar T A) (t : T) (c : C) → p t ≡ Some c → ((t : T) (c : C) → p t ≡ Some c → Live (k c)) → Live (bind (take p) k)
live_choice {T} {A} {C} p k t c h live =
    let l = live t c h in
    record {
      phrase = t ∷ l.phrase;
      value = l.value;
      sample = (c, l.phrase, (h, refl), l.sample);
      opens = λ ts bad e. elim (then_err (taken (first p ts) ts) (λ a mid. read (k a) mid) bad e) [
        | inl none ↦ ([], t ∷ l.phrase, l.value, (taken_err (first p ts) ts bad none).1, (c, l.phrase, (h, refl), l.sample))
        | inr x ↦
            let q = taken_ok (first p ts) ts x.0 x.1 x.2 in
            let u = first_is p ts x.0 q.0 in
            let o = (live u.0 x.0 u.2).opens x.1 bad x.3 in
            (u.0 ∷ o.0, o.1, o.2, u.1 ∙ ap (λ (v : List T). u.0 ∷ v) (q.1 ∙ o.3), (x.0, o.0 ++ o.1, (u.2, refl), o.4))
      ];
    }

module _ {T A C D : Type 0} (p : T → Option C) (k : C → Grammar T (A ⊎ D)) (live : (t : T) (c : C) → p t ≡ Some c → Live (k c))
    (t : T) (c : C) (end : List T) (d : D) (starts : p t ≡ Some c) (ended : Has (k c) end (inr d) []) where
  abbrev Is : List T → List A × D → List T → Type 0
  Is ts x rest = Has (loop p k) ts x rest

  completed : (u : T) (b : C) (pre more : List T) (x : A ⊎ D) → p u ≡ Some b → Has (k b) (pre ++ more) x [] → (m : List T) × (y : List A × D) × Is (u ∷ (pre ++ m)) y []
  completed u b pre more (inl x) h has = (
    more ++ (t ∷ end),
    (x ∷ [], d),
    (b, t ∷ end, h, subst (λ (v : List T). Has (k b) v (inl x) (t ∷ end)) (append_assoc pre more (t ∷ end)) (extends (k b) (pre ++ more) (inl x) has (t ∷ end)), (c, starts, ended)),
  )
  completed u b pre more (inr e) h has = (more, ([], e), (b, h, has))

  first_of : (ts : List T) (b : C) → first p ts ≡ Some b → (u : T) × (ts ≡ u ∷ tail ts) × (p u ≡ Some b)
  first_of [] b e = absurd cc
  first_of (u ∷ ts) b e = (u, refl, e)

  first_opens : (ts bad : List T) → then (taken (first p ts) ts) (λ b. read (k b)) ≡ Err bad → Opens Is ts bad
  first_opens ts bad e = elim (then_err (taken (first p ts) ts) (λ b. read (k b)) bad e) [
    | inl none ↦ ([], t ∷ end, ([], d), (taken_err (first p ts) ts bad none).1, (c, starts, ended))
    | inr x ↦
        let q = taken_ok (first p ts) ts x.0 x.1 x.2 in
        let u = first_of ts x.0 q.0 in
        let b = (live u.0 x.0 u.2).opens x.1 bad x.3 in
        let m = completed u.0 x.0 b.0 b.1 b.2 u.2 b.4 in
        (u.0 ∷ b.0, m.0, m.1, u.1 ∙ ap (λ (v : List T). u.0 ∷ v) (q.1 ∙ b.3), m.2)
  ]

  more_opens : (go : List T → Read T (List A × D)) (ts : List T) (b : C) (x : A ⊎ D) (mid bad : List T)
      → ((bad : List T) → go mid ≡ Err bad → Opens Is mid bad)
      → first p ts ≡ Some b → read (k b) (tail ts) ≡ Ok (x, mid) → more go x mid ≡ Err bad → Opens Is ts bad
  more_opens go ts b (inr e) mid bad ih f h err = absurd cc
  more_opens go ts b (inl x) mid bad ih f h err =
      let u = first_of ts b f in
      let l = ends (k b) (tail ts) (inl x) mid (takes (k b) (tail ts) (inl x) mid h) in
      let q = ih bad (put_err x (go mid) bad err) in (
        u.0 ∷ (l.0 ++ q.0),
        q.1,
        (x ∷ q.2.0, q.2.1),
        u.1 ∙ ap (λ (v : List T). u.0 ∷ v) (l.1 ∙ ap (λ (v : List T). l.0 ++ v) q.3 ∙ sym (append_assoc l.0 q.0 bad)),
        (b, q.0 ++ q.1, u.2, subst (λ (v : List T). Has (k b) v (inl x) (q.0 ++ q.1)) (sym (append_assoc l.0 q.0 q.1)) (l.2 (q.0 ++ q.1)), q.4),
      )

  repeat_opens : (n : ℕ) (ts bad : List T) → length ts ≤ n → repeat p (λ b. read (k b)) n ts ≡ Err bad → Opens Is ts bad
  unfolding repeat
  repeat_opens zero [] bad le e = let q : [] ≡ bad = cc in first_opens [] bad (ap Err q)
  repeat_opens zero (u ∷ ts) bad le e = absurd (omega arith)
  repeat_opens (suc n) ts bad le e = elim (then_err (then (taken (first p ts) ts) (λ b. read (k b))) (more (repeat p (λ b. read (k b)) n)) bad e) [
    | inl e1 ↦ first_opens ts bad e1
    | inr y ↦
        let b = then_ok (taken (first p ts) ts) (λ b. read (k b)) (y.0, y.1) y.2 in
        let q = taken_ok (first p ts) ts b.0 b.1 b.2 in
        let u = first_of ts b.0 q.0 in
        let h : read (k b.0) (tail ts) ≡ Ok (y.0, y.1) = ap (read (k b.0)) q.1 ∙ b.3 in
        let short : length y.1 ≤ length (tail ts) = no_longer (k b.0) (tail ts) y.0 y.1 (takes (k b.0) (tail ts) y.0 y.1 h) in
        let len : length ts ≡ suc (length (tail ts)) = ap length u.1 in
        let le2 : length y.1 ≤ n = omega arith in
        more_opens (repeat p (λ b. read (k b)) n) ts b.0 y.0 y.1 bad (λ bad e. repeat_opens n y.1 bad le2 e) q.0 h y.3
  ]

  pub live_loop : Live (loop p k)
  live_loop = record {
    phrase = t ∷ end;
    value = ([], d);
    sample = (c, starts, ended);
    opens = λ ts bad e. repeat_opens (length ts) ts bad (omega arith) e;
  }

-- ---- the refused token

pub spot : {T A : Type 0} (g : Grammar T A) → Live g → (ts bad : List T) → read g ts ≡ Err bad → IsSpot g ts bad
spot {T} {A} g live ts bad e =
    let n = none g ts bad e in
    let o = live.opens ts bad e in
    let same : n.0 ≡ o.0 = append_cancel_right n.0 o.0 bad (sym n.1 ∙ o.3) in
    record {
      before = n.0;
      place = n.1;
      refused = n.2;
      completion = o.1;
      value = o.2;
      completed = subst (λ (u : List T). Has g (u ++ o.1) o.2 []) (sym same) o.4;
    }

pub either_left : {A B : Type 0} (o : Option A) (q : Option B) (c : A) → either o q ≡ Some (inl c) → o ≡ Some c
either_left {A} {B} (Some d) q c e = let f : ◌≡◌ {A = A ⊎ B} (inl d) (inl c) = cc in let g : d ≡ c = cc in ap Some g
either_left {A} {B} None (Some u) c e = absurd (let f : ◌≡◌ {A = A ⊎ B} (inr u) (inl c) = cc in cc)
either_left None None c e = absurd cc

pub either_right : {A B : Type 0} (o : Option A) (q : Option B) (c : B) → either o q ≡ Some (inr c) → q ≡ Some c
either_right {A} {B} (Some d) q c e = absurd (let f : ◌≡◌ {A = A ⊎ B} (inl d) (inr c) = cc in cc)
either_right {A} {B} None (Some u) c e = let f : ◌≡◌ {A = A ⊎ B} (inr u) (inr c) = cc in let g : u ≡ c = cc in ap Some g
either_right None None c e = absurd cc

pub live_exactly : {T A : Type 0} (n : ℕ) (g : Grammar T A) → Live g → Live (exactly n g)
live_exactly zero g live = live_give []
live_exactly (suc n) g live = live_bind live λ x. live_bind (live_exactly n g live) λ xs. live_give (x ∷ xs)

-- ---- all of the tokens

pub all_ok : {T A : Type 0} (g : Grammar T A) (ts : List T) (a : A) (r : Read T A) → read g ts ≡ r → all_read r ≡ Ok a → Has g ts a []
all_ok g ts a (Ok (b, [])) e f = let q : b ≡ a = cc in subst (λ x. Has g ts x []) q (takes g ts b [] e)
all_ok g ts a (Ok (b, t ∷ rest)) e f = absurd cc
all_ok g ts a (Err bad) e f = absurd cc

pub all_err : {T A : Type 0} (g : Grammar T A) → Live g → (ts bad : List T) (r : Read T A) → read g ts ≡ r → all_read r ≡ Err bad → IsRefused g ts bad
all_err g live ts bad (Ok (b, [])) e f = absurd cc
all_err {T} {A} g live ts bad (Ok (b, t ∷ rest)) e f =
    let l = ends g ts b (t ∷ rest) (takes g ts b (t ∷ rest) e) in
    let q : t ∷ rest ≡ bad = cc in
    record {
      before = l.0;
      place = l.1 ∙ ap (λ (u : List T). l.0 ++ u) q;
      refused = λ s a like h. go s (subst (λ (u : List T). Like u s) (sym q) like) (same g (l.0 ++ s) b a s [] (l.2 s) h).1;
      completion = [];
      value = b;
      completed = l.2 [];
    }
  where
    go : (s : List T) → Like (t ∷ rest) s → s ≡ [] → ⊥
    go [] like h = like
    go (u ∷ us) like h = cc
all_err {T} {A} g live ts bad (Err b) e f =
    let q : b ≡ bad = cc in
    let s = spot g live ts b e in
    subst (λ (u : List T). IsRefused g ts u) q (record {
      before = s.before;
      place = s.place;
      refused = λ u a like h. s.refused u a [] like h;
      completion = s.completion;
      value = s.value;
      completed = s.completed;
    })
